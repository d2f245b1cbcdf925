-- How a request is answered, whole or in part, and how its session stands then. Its connection is of any type of which this is seen, and how a session goes on is
-- of any type that says whether its client is gone. This is the project's own.
use Rattle.std.specs.Prelude.{◌≡◌, ◌≤◌, List, Option, Some, None, Result, Ok, Err}
use Rattle.{agent_ports.specs.{Counts.Rose, declared.link.WriteFault.WriteFault as Fault}, session_client.specs.{Asking.HasEnded, Lines.{Lines, Views}, declared.client_error.Gone.{Gone, TheVariants.{ReadFault, WriteFault}}}}
use Rattle.agent_ask.specs.Session.{SessionEvents.{AnyEvent, CutAtLast}, States.{AnyState, AnyLead}, Worlds.AnyWorld}

-- how a session goes on whose last write came to this: where it was whole, as it would go on
abbrev pub unless_cut : {W : Type 0} (whole cut : W) → Result (Unit {0}) Fault → W
unless_cut whole cut (Ok written) = whole
unless_cut whole cut (Err fault) = cut

-- an exchange whose reply was written, or was cut by a write that failed
pub data WholeOrCut {T O F S W : Type 0} (went_after : Option Gone → W) (exchange : List (AnyEvent T O F) → S → W → Type 0) : List (AnyEvent T O F) → S → W → Type 0 where
  whole : {events : List (AnyEvent T O F)} {kept : S} {went : W} → exchange events kept went → WholeOrCut went_after exchange events kept went
  cut : {events done : List (AnyEvent T O F)} {kept : S} {went : W} → exchange events kept went → CutAtLast events done
      → WholeOrCut went_after exchange done kept (went_after (Some WriteFault))

module _ {lines : Lines} {C : Type 0} (views : Views lines C) where
  -- how the reader stands behind a request, by how its client is gone
  abbrev pub ReaderLeft : Option Gone → C → C → Type 0
  ReaderLeft None start now = (views.ended now ≡ None) × (views.held now ≤ views.held start)
  ReaderLeft (Some how) start now = HasEnded lines.ended_by how (views.ended now)

  -- a fault of the link is told only where its count rose
  pub record FaultsCounted (how : Option Gone) (start now : C) : Type 0 where
    pub read : how ≡ Some ReadFault → Rose (views.input start).faults (views.input now).faults
    pub write : how ≡ Some WriteFault → Rose (views.output start).faults (views.output now).faults

module _ {lines : Lines} {w : AnyWorld lines} {C : Type 0} (views : Views lines C) where
  -- a request was answered: by these events, which led there
  pub record AnswersBy {S W : Type 0} (went_after : Option Gone → W) (gone_of : W → Option Gone)
      (exchange : List (AnyEvent lines.Took lines.Outcome w.Port) → S → W → Type 0) (start : AnyState w C) (went : W) (kept : S) (now : AnyState w C) : Type 0 where
    pub events : List (AnyEvent lines.Took lines.Outcome w.Port)
    pub exchanges : WholeOrCut went_after exchange events kept went
    pub done : AnyLead views events start now
    pub fits : ReaderLeft views (gone_of went) start.conn now.conn
    pub faults : FaultsCounted views (gone_of went) start.conn now.conn
