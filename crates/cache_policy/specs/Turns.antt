-- One turn of a session at a desk: what it asks, how it comes out, and what it does to the ticket that the session has. This is the
-- project's own.
use Rattle.std.specs.{Prelude.{◌≡◌, ℕ, Bool, true, false, Option, Some, None, IsSome, Result, Ok, Err, ⊤}, Option.option_map_or}
use Rattle.agent_ports.specs.declared.session.SessionId.{SessionId}
use Rattle.cache_policy.specs.declared.{mark.{Way.TheVariants.{Quiet, Prompt}, MarkStep.{MarkStep, TheVariants.{Ask, Seat, Close, Put, Clear, Flush, Peek, Stop}}}, grant.Grant.Grant, step.{Step.Step, Reply.Reply}}
use Rattle.cache_policy.specs.{declared.{step.Refused.Refused as HandedBack, wait.Wait.Wait}, Waits.since_by}
use Rattle.cache_policy.specs.declared.step.Step.TheVariants as asked
use Rattle.cache_policy.specs.declared.step.Reply.TheVariants as reply

-- the step as it is asked, without a since, and with the number of its ticket in place of a ticket
abbrev pub asked_step : Step → MarkStep
asked_step (asked.Ask id mode way wait) = Ask id mode way None
asked_step (asked.Seat under wait) = Seat under None
asked_step (asked.Close ticket keep) = Close ticket keep
asked_step (asked.Put id mode life secret) = Put id mode life secret
asked_step (asked.Clear id mode) = Clear id mode
asked_step asked.Flush = Flush
asked_step (asked.Peek id mode) = Peek id mode
asked_step asked.Stop = Stop

-- the wait that a step hands in
abbrev pub wait_of : Step → Option Wait
wait_of (asked.Ask id mode way wait) = wait
wait_of (asked.Seat under wait) = wait
wait_of _ = None

-- the step with this since; only an Ask and a Seat have one
abbrev pub with_since : Option ℕ → MarkStep → MarkStep
with_since since (Ask id mode way first) = Ask id mode way since
with_since since (Seat under first) = Seat under since
with_since since (Close ticket keep) = Close ticket keep
with_since since (Put id mode life secret) = Put id mode life secret
with_since since (Clear id mode) = Clear id mode
with_since since Flush = Flush
with_since since (Peek id mode) = Peek id mode
with_since since Stop = Stop

-- the step as its mark has it: in place of a wait of this session its since, and of another's none
abbrev pub mark_step : SessionId → Step → MarkStep
mark_step session step = with_since (since_by session (wait_of step)) (asked_step step)

-- the moment of a step's first try, where it stood before
abbrev pub since_of : MarkStep → Option ℕ
since_of (Ask id mode way since) = since
since_of (Seat under since) = since
since_of _ = None

-- since when a step stands that is tried at this moment
abbrev pub since_when : MarkStep → ℕ → ℕ
since_when asked moment = option_map_or (λ since. since) (since_of asked) moment

-- what a session's step that stands is to be tried again with
abbrev pub wait_after : SessionId → MarkStep → ℕ → Wait
wait_after session asked moment = record { session = session; since = since_when asked moment }

-- how a turn comes out
pub data Turn : Type 0 where
  Given : Grant → Turn
  Empty : Turn
  -- the ticket's number
  Open : ℕ → Turn
  Stand : Wait → Turn
  Done : Turn
  Held : Bool → Turn
  Stopping : Turn
  Late : Turn
  -- there was no memory for it
  Refused : Turn

abbrev pub turn_of : Result Reply HandedBack → Turn
turn_of (Ok (reply.Given grant)) = Given grant
turn_of (Ok reply.Empty) = Empty
turn_of (Ok (reply.Open ticket)) = Open ticket
turn_of (Ok (reply.Stand wait)) = Stand wait
turn_of (Ok reply.Done) = Done
turn_of (Ok (reply.Held held)) = Held held
turn_of (Ok reply.Stopping) = Stopping
turn_of (Ok reply.Late) = Late
turn_of (Err back) = Refused

-- the step wants the prompt
abbrev pub opens : MarkStep → Bool
opens (Ask id mode Prompt since) = true
opens (Seat under since) = true
opens _ = false

-- the number of the ticket that the step gives back
abbrev pub closes : MarkStep → Option ℕ
closes (Close ticket keep) = Some ticket
closes _ = None

-- Which turns a step can come to. A Close is never refused.
abbrev pub FitsReply : MarkStep → Turn → Type 0
FitsReply asked Stopping = ⊤
FitsReply (Close ticket keep) Refused = ⊥
FitsReply asked Refused = ⊤
FitsReply asked (Stand wait) = opens asked ≡ true
FitsReply asked Late = opens asked ≡ true
FitsReply (Ask id mode way since) (Given grant) = (grant.id ≡ id) × (grant.mode ≡ mode)
FitsReply (Ask id mode Quiet since) Empty = ⊤
FitsReply (Ask id mode Prompt since) (Open number) = ⊤
FitsReply (Seat under since) (Open number) = ⊤
FitsReply (Peek id mode) (Held held) = ⊤
FitsReply (Close ticket keep) Done = ⊤
FitsReply (Put id mode life secret) Done = ⊤
FitsReply (Clear id mode) Done = ⊤
FitsReply Flush Done = ⊤
FitsReply Stop Done = ⊤
FitsReply _ _ = ⊥

-- which turns a step can come to at a desk, which waits in place of a Stand
abbrev pub FitsStep : MarkStep → Turn → Type 0
FitsStep asked (Stand wait) = ⊥
FitsStep asked turn = FitsReply asked turn

-- Which steps can want memory for themselves, told by the step alone: a Put, and one that may open a prompt whose passphrase may be kept. Where
-- histories are kept whole, one that begins a history can want some too.
abbrev pub MayWantMemory : MarkStep → Type 0
MayWantMemory (Put id mode life secret) = ⊤
MayWantMemory (Ask id mode Prompt since) = ⊤
MayWantMemory (Seat under since) = IsSome under
MayWantMemory _ = ⊥

-- the ticket that the session has after a turn: an Open gives it one, and a Close takes it
abbrev pub out_after : Option ℕ → MarkStep → Turn → Option ℕ
out_after out asked Refused = out
out_after out asked (Open number) = Some number
out_after out (Close ticket keep) turn = None
out_after out asked turn = out
