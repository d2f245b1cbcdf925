-- The ends of a session to the outside, and what each event does to them: it leaves the other ends as they are. This is the project's
-- own.
use Rattle.std.specs.Prelude.{◌≡◌, ℕ, List, ◌++◌, Option}
use Rattle.{agent_ports.specs.Sides.{with_bytes, WhereKnown}, cache_policy.specs.{declared.mark.MarkStep.MarkStep, Extending.Taken, Turns.Turn}, session_client.specs.{Asking.{Asked, NotAsked}, Lines.{Lines, TakesNeeded}}}
use Rattle.agent_ask.specs.Session.SessionEvents.{AnyEvent, Received, Sent, Cut, Inquiry, CacheTurn, Port}

-- what a session stands on beside its link: a desk that shows its turns so, and the ports, with what their events do to them
pub record AnyWorld (lines : Lines) : Type 1 where
  pub Desk : Type 0
  pub turned : Desk → MarkStep → Turn → Desk → Type 0
  pub Ends : Type 0
  pub Port : Type 0
  pub does : Ends → Port → Ends → Type 0

-- the ends at some point of a session
pub record Outside {lines : Lines} (w : AnyWorld lines) : Type 0 where
  -- the bytes that come next, where they are known, and those of them that the link still holds
  pub input : Option (List ℕ)
  pub source : Option (List ℕ)
  -- the bytes that were written, where they are known
  pub output : Option (List ℕ)
  pub desk : w.Desk
  pub ends : w.Ends

-- what an event does, in a session that began with this supply of bytes, where they are known
pub data Does {lines : Lines} (w : AnyWorld lines) (supply : lines.Supply) : Outside w → AnyEvent lines.Took lines.Outcome w.Port → Outside w → Type 0 where
  received : {before : Outside w} {took : lines.Took} {input source : Option (List ℕ)}
      → WhereKnown before.input input (λ bytes rest. lines.reads_request supply bytes took rest)
      → TakesNeeded lines.needs_request before.input before.source source
      → Does w supply before (Received took) (record before { input = input; source = source })
  sent : {before : Outside w} {text : List ℕ}
      → Does w supply before (Sent text) (record before { output = with_bytes before.output text })
  cut : {before : Outside w} {text : List ℕ}
      → Does w supply before (Cut text) (record before { output = with_bytes before.output text })
  asked : {before : Outside w} {word params : List ℕ} {limit : ℕ} {outcome : lines.Outcome} {input source : Option (List ℕ)}
      → WhereKnown before.input input (λ bytes rest. lines.reads_answer supply limit bytes outcome rest)
      → TakesNeeded lines.needs_answer before.input before.source source
      → Does w supply before (Inquiry word params limit (Asked outcome))
      (record before { input = input; source = source; output = with_bytes before.output (lines.inquiry_line word params) })
  not_asked : {before : Outside w} {word params text : List ℕ} {limit : ℕ} (unsent : List ℕ)
      → lines.inquiry_line word params ≡ text ++ unsent
      → Does w supply before (Inquiry word params limit (NotAsked text)) (record before { output = with_bytes before.output text })
  turned : {before : Outside w} {taken : Taken} {desk : w.Desk} → w.turned before.desk taken.asked taken.turn desk
      → Does w supply before (CacheTurn taken) (record before { desk = desk })
  ported : {before : Outside w} {what : w.Port} {ends : w.Ends} → w.does before.ends what ends
      → Does w supply before (Port what) (record before { ends = ends })
