-- Private: how a core keeps its run, and the room for the marks to come.
use Rattle.std.specs.{Prelude.{◌≡◌, ◌<◌, ◌≤◌, List, [], ◌∷◌, Option, Some, None, IsSome, unwrap_or, vec_len, vec_capacity, ⊤}, Global.Vec}
use Rattle.cache_policy.specs.{declared.{bounds.TheConstants.MAX_MARKS, mark.{Mark.Mark, MarkReply.{MarkReply, TheVariants.Done}}, history.History.History as HistoryInMemory}, Histories.{History, run_of}, Legal.IsLegalRun}
use Rattle.cache_policy.specs.{Runs.{last_base, last_history, joined, moment_before}, Traces.reply_of as shown_of, Turns.Turn}
use Rattle.agent_core.specs.Cores.{AtCore, StandsFor}

-- the core stands for the last history of a legal run, which isn't spent yet
pub record KeepsRun (core : AtCore) (run : List History) : Type 0 where
  pub legal : IsLegalRun core.limits run
  pub last : History
  pub last_is : last_history run ≡ Some last
  pub stands : StandsFor core last
  pub moment : core.moment ≡ moment_before (joined run)
  pub below : last.base < last_base

-- the room for the next history, where it is there: room for all its marks, and a place behind the histories
abbrev pub IsRoom : Vec HistoryInMemory → Option (Vec Mark) → Type 0
IsRoom histories None = ⊤
IsRoom histories (Some marks) = (marks.items ≡ []) × (MAX_MARKS ≤ vec_capacity marks) × (vec_len histories < vec_capacity histories)

-- the last history has room for all its marks
abbrev pub LastHasRoom : List HistoryInMemory → Type 0
LastHasRoom [] = ⊤
LastHasRoom (history ∷ []) = MAX_MARKS ≤ vec_capacity history.marks.0
LastHasRoom (history ∷ next ∷ later) = LastHasRoom (next ∷ later)

-- A core keeps its run, whose last history has room for all its marks. Where that is full and a ticket is out, the room for the next one
-- is there: so a Close takes no memory.
pub record Records (core : AtCore) (histories : Vec HistoryInMemory) (next : Option (Vec Mark)) : Type 0 where
  pub keeps : KeepsRun core (run_of histories.items)
  pub present : LastHasRoom histories.items
  pub room : IsRoom histories next
  pub ready : core.count ≡ MAX_MARKS → IsSome core.held → IsSome next

-- the reply of a mark that shows a turn; a turn that makes none counts as done
abbrev pub reply_of : Turn → MarkReply
reply_of turn = unwrap_or (shown_of turn) Done
