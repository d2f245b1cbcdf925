use Rattle.std.proofs.Common.{◌≡◌, [], ◌∷◌, refl}
use Rattle.agent_ask.{specs.Events.{Shut, Called}, proofs.Making.{called_once, made_then, made_beside}}
use Rattle.agent_ask.proofs.prompt.consent.prompt_consent.Goals as goal

pub returns-clause-asked : goal.returns-clause-asked
returns-clause-asked g c =
    made_then _ (λ events more asks one. rw one (record { before = events; whole = refl; asks = asks })) c.ask_before_shut-consent.ensures.asked
    (made_beside c.ask_before_shut-consent.new.caller (called_once Shut (λ more. more ≡ Called Shut ∷ []) c.shut.ensures refl))
