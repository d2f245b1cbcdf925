-- A turn that finds no memory leaves its desk.
use Rattle.std.proofs.Common.{◌≡◌, ℕ, List, [], ◌++◌, Option, Some, None, refl, ap, ◌∙◌, append-nil}
use Rattle.cache_policy.specs.{Desks.{AtDesk, GoesOnWhereKnown, MakesMarks, IsTurn}, Histories.History, Runs.joined, Turns.{Refused, FitsStep, closes}, declared.mark.{Mark.Mark, MarkStep.{MarkStep, TheVariants.Close}}}
use Rattle.agent_session.specs.Refusals.{LeavesRun, LeavesDesk}
use Rattle.cache_policy.specs.Desks as desks

pub no_close : (asked : MarkStep) → FitsStep asked Refused → closes asked ≡ None
no_close (Close number keep) fits = absurd fits
no_close _ fits = refl

makes_none : {limits : _} {session : _} {called : ℕ} {asked : MarkStep} {run : List History} {own : List Mark} → MakesMarks limits session called asked run Refused own → own ≡ []
makes_none (desks.marked own is) = absurd is.shows
makes_none desks.refused = refl

run_left : (desk : AtDesk) (asked : MarkStep) (before after : Option (List History)) → GoesOnWhereKnown desk.limits desk.session before asked Refused after → LeavesRun desk before after
run_left desk asked None None goes = tt
run_left desk asked None (Some after) goes = goes
run_left desk asked (Some before) None goes = goes
run_left desk asked (Some before) (Some after) goes =
    (goes.others, goes.foreign, goes.marks ∙ ap (λ own. joined before ++ (goes.others ++ own)) (makes_none goes.makes) ∙ ap (λ marks. joined before ++ marks) (append-nil goes.others))

pub desk_left : (before after : AtDesk) (asked : MarkStep) → IsTurn before asked Refused after → LeavesDesk before asked after
desk_left before after asked turn = record {
  no_close = no_close asked turn.fits;
  run = run_left before asked before.run after.run turn.run;
  limits = turn.limits;
  session = turn.session;
  out = turn.out;
}
