-- A session's talk over any kind of events, any relation of exchanges, and any state between them: the Assuan manual's ("client
-- requests", "server responses"). How it ends is this project's own.
use Rattle.std.specs.Prelude.{ℕ, List, [], ◌∷◌, ◌++◌}
use Rattle.{assuan_server.specs.Written.{greeting, failed}, session_client.specs.declared.code.Code.TheVariants.LineTooLong, assuan_text.specs.LineEnds.line_of, agent_ask.specs.Session.Answering.WholeOrCut}
use Rattle.agent_ask.specs.Session.SessionEvents.{Received, Sent, CutAtLast}
use Rattle.agent_commands.specs.{Endings.went_after, Events.EventWith, declared.went.{SessionEnd.{SessionEnd, TheVariants.{Ended, TooLong, Spent, ReadFault, WriteFault}}, Went.{Went, TheVariants.{On, End}}}}
use Rattle.assuan_line.specs.declared.reader.Took.TheVariants as took

module _ {S F : Type 0} (exchange : S → List ℕ → List (EventWith F) → S → Went → Type 0) where
  -- from some request on: what was kept before it, what the session does, and how it ends
  pub data Talk : S → List (EventWith F) → SessionEnd → Type 0 where
    -- the request is answered, and the session goes on
    goes_on : {before after : S} {events more : List (EventWith F)} {end : SessionEnd} (line : List ℕ)
        → WholeOrCut went_after (exchange before line) events after On → Talk after more end
        → Talk before (Received (took.Line line) ∷ (events ++ more)) end
    -- the request is the last one
    over : {before after : S} {events : List (EventWith F)} {end : SessionEnd} (line : List ℕ)
        → WholeOrCut went_after (exchange before line) events after (End end) → Talk before (Received (took.Line line) ∷ events) end
    -- no request comes
    ended : {before : S} → Talk before (Received took.End ∷ []) Ended
    spent : {before : S} → Talk before (Received took.Spent ∷ []) Spent
    read_fault : {before : S} → Talk before (Received took.ReadFault ∷ []) ReadFault
    too_long : {before : S} → Talk before (Received took.TooLong ∷ Sent (failed LineTooLong) ∷ []) TooLong
    cut_too_long : {before : S} {done : List (EventWith F)} → CutAtLast (Sent (failed LineTooLong) ∷ []) done
        → Talk before (Received took.TooLong ∷ done) WriteFault

  -- a whole session: the greeting, and what follows
  pub data Session (start : S) : List (EventWith F) → SessionEnd → Type 0 where
    greeted : {events : List (EventWith F)} {end : SessionEnd} → Talk start events end → Session start (Sent (line_of greeting) ∷ events) end
    cut_greeting : {done : List (EventWith F)} → CutAtLast (Sent (line_of greeting) ∷ []) done → Session start done WriteFault
