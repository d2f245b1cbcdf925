-- What a turn does to the counts of the pass that took it: `calls` counts the marks, and the others the turns that were answered so.
use Rattle.std.specs.Prelude.{◌+◌, ◌^◌, ◌≤◌, Bool, true, false}
use Rattle.cache_policy.specs.{Turns.{Turn, Given, Empty, Open, Stand, Done, Held, Stopping, Late, Refused}, declared.tally.Tally.Tally}
use Rattle.agent_lock.specs.declared.pass.Counts.{Counts}

abbrev pub no_counts : Counts
no_counts = record { calls = 0; given = 0; empty = 0; opened = 0 }

abbrev pub one_call : Counts → Counts
one_call counts = record counts { calls = counts.calls + 1 }

-- after a turn; a spent core replies Stopping without a mark
abbrev pub counted : Bool → Counts → Turn → Counts
counted spent counts (Given grant) = record counts { calls = counts.calls + 1; given = counts.given + 1 }
counted spent counts Empty = record counts { calls = counts.calls + 1; empty = counts.empty + 1 }
counted spent counts (Open number) = record counts { calls = counts.calls + 1; opened = counts.opened + 1 }
counted spent counts Done = one_call counts
counted spent counts (Held held) = one_call counts
counted false counts Stopping = one_call counts
counted true counts Stopping = counts
counted spent counts Late = one_call counts
counted spent counts (Stand wait) = counts
counted spent counts Refused = counts

-- the counts of a tally
abbrev pub totals : Tally → Counts
totals tally = record { calls = tally.marks; given = tally.given; empty = tally.empty; opened = tally.opened }

-- there is room for one more
pub record AreSmall (counts : Counts) : Type 0 where
  pub calls : counts.calls ≤ 2 ^ 63
  pub given : counts.given ≤ 2 ^ 63
  pub empty : counts.empty ≤ 2 ^ 63
  pub opened : counts.opened ≤ 2 ^ 63
