-- Legal histories and runs: each reply is the policy's. All of this is the project's own.
use Rattle.std.specs.{Prelude.{◌≡◌, ℕ, ◌%◌, ◌<◌, ◌≤◌, ◌⊎◌, List, [], ◌∷◌, length, IfSome}, List.AllByRecursion}
use Rattle.cache_policy.specs.{declared.{life.Limits.Limits, mark.Mark.Mark, bounds.TheConstants.{MAX_MARKS, MAX_MOMENT}}, Histories.{History, start_of, with_mark}, Policy.{Reply, policy}, Runs.{last_base, IsRun, joined}}

-- each of the marks has the policy's reply after the marks before it, at its moment; none of them is Stand
abbrev pub FollowsPolicy : Limits → History → List Mark → Type 0
FollowsPolicy limits before [] = Unit {0}
FollowsPolicy limits before (mark ∷ later) =
    (policy limits before mark.step mark.moment ≡ Reply mark.reply) × FollowsPolicy limits (with_mark before mark) later

-- from this moment on the moments of the marks never fall, and none is past the greatest
abbrev pub NeverFall : ℕ → List Mark → Type 0
NeverFall since [] = Unit {0}
NeverFall since (mark ∷ later) =
    (since ≤ mark.moment) × (mark.moment ≤ MAX_MOMENT) × NeverFall mark.moment later

-- a legal history: each reply is the policy's, moments never fall, the base is some number of full histories and below the
-- last base unless there is no mark, the marks have room, and a ticket that was out at the start is older than the base
pub record IsLegal (limits : Limits) (history : History) : Type 0 where
  pub replies : FollowsPolicy limits (start_of history) history.marks
  pub moments : NeverFall 0 history.marks
  pub base : history.base % MAX_MARKS ≡ 0
  pub not_spent : (history.base < last_base) ⊎ (history.marks ≡ [])
  pub few : length history.marks ≤ MAX_MARKS
  pub held : IfSome history.held (λ held. held.ticket < history.base)

-- a run of legal histories, over which the moments never fall
pub record IsLegalRun (limits : Limits) (run : List History) : Type 0 where
  pub turns_over : IsRun run
  pub each : AllByRecursion (IsLegal limits) run
  pub moments : NeverFall 0 (joined run)
