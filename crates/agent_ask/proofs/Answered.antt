-- Requests that were answered, by an exchange that is one of another relation too, and with other ends beside.
use Rattle.std.proofs.Common.{◌≡◌, List, Option, Some, refl, sym, subst}
use Rattle.{cache_policy.specs.{declared.mark.MarkStep.MarkStep, Turns.Turn}, session_client.specs.{Lines.{Lines, Views}, declared.client_error.Gone.{Gone, TheVariants.WriteFault}}}
use Rattle.agent_ask.{specs.Session.{Answering.{WholeOrCut, whole, cut, AnswersBy}, PortCalls.{PortCall, EventOf, world_with}, SessionEvents.AnyEvent, States.AnyState, Worlds.AnyWorld}, proofs.Beside.{state_beside, done_beside}}

-- Each exchange of a relation is one of another, behind which a session goes on as it does behind its own.
exchange_as : {T O F S R W V : Type 0} {went_after : Option Gone → W} {other_after : Option Gone → V} {exchange : List (AnyEvent T O F) → S → W → Type 0} {other : List (AnyEvent T O F) → R → V → Type 0} {kept : S}
    {to : R} (onward : W → V) → onward (went_after (Some WriteFault)) ≡ other_after (Some WriteFault)
    → ((events : List (AnyEvent T O F)) (went : W) → exchange events kept went → other events to (onward went))
    → {events : List (AnyEvent T O F)} {went : W} → WholeOrCut went_after exchange events kept went → WholeOrCut other_after other events to (onward went)
exchange_as onward cut_so same (whole exchanged) = whole (same _ _ exchanged)
exchange_as {other_after} {other} {to} onward cut_so same {events} (cut exchanged last) =
    subst (λ went. WholeOrCut other_after other events to went) (sym cut_so) (cut (same _ _ exchanged) last)

module _ {lines : Lines} {w : AnyWorld lines} {C : Type 0} {views : Views lines C} {S R W : Type 0} {went_after : Option Gone → W} {gone_of : W → Option Gone}
    {exchange : List (AnyEvent lines.Took lines.Outcome w.Port) → S → W → Type 0} {kept : S} {to : R} {start now : AnyState w C} {went : W} (answered : AnswersBy {w = w} views went_after gone_of exchange start went kept now) where
  pub answered_onward : {V : Type 0} {other_after : Option Gone → V} {other_gone : V → Option Gone} {other : List (AnyEvent lines.Took lines.Outcome w.Port) → R → V → Type 0} (onward : W → V)
      → onward (went_after (Some WriteFault)) ≡ other_after (Some WriteFault) → other_gone (onward went) ≡ gone_of went
      → ((events : List (AnyEvent lines.Took lines.Outcome w.Port)) (went : W) → exchange events kept went → other events to (onward went))
      → AnswersBy {w = w} views other_after other_gone other start (onward went) to now
  answered_onward onward cut_so gone_so same = record {
    events = answered.events;
    exchanges = exchange_as onward cut_so same answered.exchanges;
    done = answered.done;
    fits = rw gone_so answered.fits;
    faults = rw gone_so answered.faults;
  }

  -- where the session goes on alike
  pub answered_as : {other : List (AnyEvent lines.Took lines.Outcome w.Port) → R → W → Type 0}
      → ((events : List (AnyEvent lines.Took lines.Outcome w.Port)) (went : W) → exchange events kept went → other events to went)
      → AnswersBy {w = w} views went_after gone_of other start went to now
  answered_as same = answered_onward (λ went. went) refl refl same

-- at the same desk, with other ends beside
module _ {lines : Lines} {D E Whole : Type 0} (turned : D → MarkStep → Turn → D → Type 0) (does : E → PortCall → E → Type 0) (whole_does : Whole → PortCall → Whole → Type 0)
    (put : E → Whole) (each : (before after : E) (what : PortCall) → does before what after → whole_does (put before) what (put after)) where
  pub answers_beside : {C : Type 0} {views : Views lines C} {S W : Type 0} {went_after : Option Gone → W} {gone_of : W → Option Gone} {exchange : List (EventOf lines) → S → W → Type 0} {kept : S}
      {start now : AnyState (world_with {lines = lines} turned does) C} {went : W} → AnswersBy {w = world_with {lines = lines} turned does} views went_after gone_of exchange start went kept now
      → AnswersBy {w = world_with {lines = lines} turned whole_does} views went_after gone_of exchange (state_beside turned does whole_does put each start) went kept
      (state_beside turned does whole_does put each now)
  answers_beside answered = record {
    events = answered.events;
    exchanges = answered.exchanges;
    done = done_beside turned does whole_does put each answered.done;
    fits = answered.fits;
    faults = answered.faults;
  }
