-- The policy: what a step at a moment is answered, after a history. The table is this project's own.
use Rattle.std.specs.{Prelude.{ℕ, Bool, true, false, Option, Some, None}, Option.is_some}
use Rattle.cache_policy.specs.declared.{life.Limits.Limits, mark.{Way.{Way, TheVariants.{Quiet, Prompt}}, MarkStep.{MarkStep, TheVariants.{Ask, Seat, Peek, Close, Put, Clear, Flush, Stop}}, MarkReply.MarkReply}}
use Rattle.cache_policy.specs.{declared.{mark.MarkReply.TheVariants.{Given, Empty, Open, Done, Held as WhetherHeld, Stopping, Late}, entry.Entry.Entry, history.Held.Held}, Histories.History, Live.live, Seat.{seat, stopped}, Waits.is_late}

-- a reply, which makes a mark, or Stand: the step waits for the seat, and makes none
pub data Ruling : Type 0 where
  Reply : MarkReply → Ruling
  Stand : Ruling

-- a step that wants the prompt: whether the agent has stopped, the ticket that is out, and whether the step has stood too long
abbrev pub prompt_ruling : Bool → Option Held → Bool → Ruling
prompt_ruling true held late = Reply Stopping
prompt_ruling false (Some held) true = Reply Late
prompt_ruling false (Some held) false = Stand
prompt_ruling false None late = Reply Open

-- an Ask, by the entry that is live for it
abbrev pub ask_ruling : Option Entry → Way → Bool → Option Held → Bool → Ruling
ask_ruling (Some entry) way stops held late = Reply (Given entry.number)
ask_ruling None Quiet stops held late = Reply Empty
ask_ruling None Prompt stops held late = prompt_ruling stops held late

abbrev pub policy : Limits → History → MarkStep → ℕ → Ruling
policy limits history (Ask id mode way since) moment =
    ask_ruling (live limits history id mode moment) way (stopped history) (seat history) (is_late since moment)
policy limits history (Seat under since) moment = prompt_ruling (stopped history) (seat history) (is_late since moment)
policy limits history (Peek id mode) moment = Reply (WhetherHeld (is_some (live limits history id mode moment)))
policy limits history (Close ticket keep) moment = Reply Done
policy limits history (Put id mode life secret) moment = Reply Done
policy limits history (Clear id mode) moment = Reply Done
policy limits history Flush moment = Reply Done
policy limits history Stop moment = Reply Done
