-- Traces: marks without the bytes of their secrets, as an agent can keep them. This is the project's own.
use Rattle.std.specs.Prelude.{[], Option, Some, None, if◌then◌else◌}
use Rattle.cache_policy.specs.declared.{mark.{Mark.Mark, MarkStep.{MarkStep, TheVariants.{Ask, Seat, Close, Put, Clear, Flush, Peek, Stop}}, MarkReply.MarkReply}, trace.{Trace.Trace, TraceStep.TraceStep}}
use Rattle.cache_policy.specs.Turns.{Turn, Given, Empty, Open, Stand, Done, Held, Stopping, Late, Refused}
use Rattle.cache_policy.specs.declared.mark.MarkReply.TheVariants as mark
use Rattle.cache_policy.specs.declared.trace.TraceStep.TheVariants as trace

-- the step that a trace shows, where each secret has no bytes
abbrev pub trace_step : TraceStep → MarkStep
trace_step (trace.Ask id mode way since) = Ask id mode way since
trace_step (trace.Seat under since) = Seat under since
trace_step (trace.Close ticket keep) = Close ticket (if keep then Some [] else None)
trace_step (trace.Put id mode life) = Put id mode life []
trace_step (trace.Clear id mode) = Clear id mode
trace_step trace.Flush = Flush
trace_step (trace.Peek id mode) = Peek id mode
trace_step trace.Stop = Stop

-- the mark that a trace shows
abbrev pub trace_mark : Trace → Mark
trace_mark shown = record { session = shown.session; step = trace_step shown.step; reply = shown.reply; moment = shown.moment }

-- what a mark says of a turn; a Stand and a refused step make none
abbrev pub reply_of : Turn → Option MarkReply
reply_of (Given grant) = Some (mark.Given grant.entry.number)
reply_of Empty = Some mark.Empty
reply_of (Open ticket) = Some mark.Open
reply_of (Stand wait) = None
reply_of Done = Some mark.Done
reply_of (Held held) = Some (mark.Held held)
reply_of Stopping = Some mark.Stopping
reply_of Late = Some mark.Late
reply_of Refused = None
