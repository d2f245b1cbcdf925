use Rattle.std.{proofs.Common.{◌≡◌, ℕ, ◌<◌, Some}, specs.Prelude.slice_get}
use Rattle.gnupg_home.specs.{Ownership.{Passes, part_at}, declared.rule.Step.Step}
use Rattle.gnupg_home.proofs.rule.judge.Given as goal

abbrev pub invariant-loop-place : goal.invariant-loop-place
invariant-loop-place l = (l.part ≡ part_at l.fn.first l.place)
    × ((place : ℕ) (step : Step) → place < l.place → slice_get l.steps place ≡ Some step → Passes l.users (part_at l.fn.first place) step)
