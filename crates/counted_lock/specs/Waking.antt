-- Private: which steps end another's stand. This is the project's own.
use Rattle.std.specs.Prelude.{◌≡◌, ◌≢◌, ◌≤◌, ℕ}
use Rattle.cache_policy.specs.{declared.{life.Limits.Limits, mark.{Mark.Mark, MarkStep.MarkStep}}, Histories.{History, with_mark}, Policy.{Reply, Stand, policy}}

-- A step that stood before this mark, and would stand still without it, is replied something else behind it.
pub record EndsStand (limits : Limits) (history : History) (mark : Mark) : Type 0 where
  pub ruled : policy limits history mark.step mark.moment ≡ Reply mark.reply
  pub standing : MarkStep
  pub first : ℕ
  pub again : ℕ
  pub before : first ≤ mark.moment
  pub stood : policy limits history standing first ≡ Stand
  pub stands : policy limits history standing again ≡ Stand
  pub ends : policy limits (with_mark history mark) standing again ≢ Stand
