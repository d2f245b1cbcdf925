use Rattle.std.proofs.Common.{◌≡◌, ◌∙◌, sym, ap, true, Option}
use Rattle.passphrase_client.specs.{Verdicts.{empties, emptied_verdict, failure}, Steps.place_of, declared.{ending.Ending.Ending, steps.Step.TheVariants.Forget}}
use Rattle.passphrase_client.proofs.course.take_step.Goals as goal

pub returns-then-empties-clause-does : goal.returns-then-empties-clause-does
returns-then-empties-clause-does g c =
    let told = c.visit-told.result in
    let step = c.args.step in
    let act = c.args.task.now.act in
    let empty : empties act step told ≡ true = sym c.empties.ensures ∙ c.if-empties.true in
    let cleared = rw (c.place-then-empties.ensures, c.visit-told.ensures.terminal) at c.forget-cleared.ensures.visits in
    let what : c.emptied_verdict.result ≡ emptied_verdict step (failure act (Forget (place_of step)) c.forget-cleared.result) =
    c.emptied_verdict.ensures ∙ ap (λ (x : Option Ending). emptied_verdict step x) (rw c.place-then-empties-2.ensures at c.failure.ensures)
    in (
      told,
      record {
        between = g.C.Connector.contacts c.visit-told.new.connector;
        visits = rw (c.place.ensures, c.waits.ensures, c.line-line.ensures, c.request.ensures) at c.visit-told.ensures.visits;
        settles = rw empty (c.forget-cleared.result, cleared, what);
      },
    )
