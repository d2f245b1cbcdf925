use Rattle.std.proofs.Common.{◌≡◌, [], ◌∷◌, refl}
use Rattle.agent_ask.{specs.Events.{Shut, Called}, proofs.Making.{called_once, made_then, made_beside}}
use Rattle.agent_ask.proofs.prompt.ask.prompt_pin.Goals as goal

pub returns-clause-asked : goal.returns-clause-asked
returns-clause-asked g c =
    made_then _ (λ events more asks one. rw one (record {
      asks = record { before = events; whole = refl; tests = asks.tests; asks = asks.done };
      tested_so = asks.tested_so;
    })) c.ask_before_shut-asked.ensures.asked
    (made_beside c.ask_before_shut-asked.new.caller (called_once Shut (λ more. more ≡ Called Shut ∷ []) c.shut.ensures refl))
