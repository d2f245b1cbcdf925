use Rattle.std.proofs.{Common.refl, lemmas.Result.err_from_is_err_and}
use Rattle.agent_ask.specs.Session.Actions.{returns as returns_so, refuses}
use Rattle.key_commands.proofs.Doing.{no_calls, calls_then, calls_stop}
use Rattle.key_commands.proofs.receiving.check_free.Goals as goal

pub returns-then-force : goal.returns-then-force
returns-then-force g c = rw c.if-force.true (no_calls _ (λ held. returns_so) refl)

pub returns-in_err-has_file : goal.returns-in_err-has_file
returns-in_err-has_file g c =
    let p = err_from_is_err_and c.from_residual.result c.from_residual.ensures.1 in
    rw (c.if-force.false, p.1, p.2) (calls_stop c.in_err-has_file.ensures)

pub returns-then-branch : goal.returns-then-branch
returns-then-branch g c = rw c.if-force.false (calls_then (rw c.if-branch.true at c.in_ok-has_file.ensures) (no_calls _ (λ held. refuses) refl))

pub returns : goal.returns
returns g c = rw c.if-force.false (calls_then (rw c.if-branch.false at c.in_ok-has_file.ensures) (no_calls _ (λ held. returns_so) refl))
