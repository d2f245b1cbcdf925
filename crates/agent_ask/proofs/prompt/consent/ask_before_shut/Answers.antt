use Rattle.std.proofs.{Common.{◌≡◌, [], ◌∷◌, refl}, lemmas.Result.err_from_is_err_and}
use Rattle.agent_ask.{specs.{Consents.{unopened, client_error, asked}, Events.{Confirm, Called}}, proofs.{Clients.not_fine, Making.{called_once, made_as, made_then, made_beside}}}
use Rattle.agent_ask.proofs.prompt.consent.ask_before_shut.Goals as goal

pub returns-in_err-open_prompt-clause-asked : goal.returns-in_err-open_prompt-clause-asked
returns-in_err-open_prompt-clause-asked g c =
    let p = err_from_is_err_and c.from_residual.result c.from_residual.ensures.1 in
    rw (p.1, p.2)
    (made_as _ (λ events opens. client_error (not_fine c.in_err-open_prompt.field-0.0) opens) c.in_err-open_prompt.ensures.opened)

pub returns-then-not-branch-clause-asked : goal.returns-then-not-branch-clause-asked
returns-then-not-branch-clause-asked g c = made_as _ (λ events opens. unopened opens) (rw c.if-not-branch.true at c.in_ok-open_prompt.ensures.opened)

pub returns-clause-asked : goal.returns-clause-asked
returns-clause-asked g c =
    made_then _ (λ events more opens one. rw one (asked c.confirm.result opens)) (rw c.if-not-branch.false at c.in_ok-open_prompt.ensures.opened)
    (made_beside c.open_prompt.new.caller (called_once (Confirm c.confirm.result) (λ more. more ≡ Called (Confirm c.confirm.result) ∷ []) c.confirm.ensures refl))
