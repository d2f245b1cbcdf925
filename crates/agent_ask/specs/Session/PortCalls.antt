-- What a session does beside its link and its desk: one sum of all kinds of calls of ports, and what each does to the end that it is of. This is
-- the project's own.
use Rattle.std.specs.Prelude.{ℕ, List, true, false, replicate}
use Rattle.agent_ports.specs.{Draws.IsDrawn, KeyFiles.{KeyFiles, ReadsKey, ListsKeys, ReplacesKey, RemovesKey}, Sides.Side, TrustFiles.TrustState, declared.{grip.Grip.Grip, keys.{KeyRead.KeyRead, KeyNames.KeyNames, KeyDone.KeyDone}}}
use Rattle.{cache_policy.specs.{declared.mark.MarkStep.MarkStep, Turns.Turn}, session_client.specs.Lines.Lines}
use Rattle.agent_ask.specs.{Doing.DoesCall, Events.{Call, PromptEvent}, Session.{SessionEvents.AnyEvent, TrustCalls.{TrustCall, DoesTrust}, Worlds.AnyWorld}}

-- a call of the keys, with its answer
pub data KeyCall : Type 0 where
  Read : Grip → KeyRead → KeyCall
  Listed : KeyNames → KeyCall
  -- by a file of these bytes
  Replaced : Grip → List ℕ → KeyDone → KeyCall
  Removed : Grip → KeyDone → KeyCall

-- random bytes were drawn, or a draw of so many failed
pub data Draw : Type 0 where
  Drew : List ℕ → Draw
  NotDrawn : ℕ → Draw

pub data PortCall : Type 0 where
  Prompt : PromptEvent → PortCall
  Keys : KeyCall → PortCall
  Dice : Draw → PortCall
  Trust : TrustCall → PortCall
  -- the command found no memory for work of its own
  NoMemory : PortCall

-- what a call does to the keys, as it says of their files
abbrev pub DoesKeys : KeyFiles → KeyCall → KeyFiles → Type 0
DoesKeys before (Read grip answer) after = ReadsKey before grip answer after
DoesKeys before (Listed answer) after = ListsKeys before answer after
DoesKeys before (Replaced grip file answer) after = ReplacesKey before grip file answer after
DoesKeys before (Removed grip answer) after = RemovesKey before grip answer after

-- what a draw does to the dice, as it says of their bytes
abbrev pub DoesDraw : Side → Draw → Side → Type 0
DoesDraw before (Drew bytes) after = IsDrawn before true bytes after
DoesDraw before (NotDrawn count) after = IsDrawn before false (replicate count 0) after

-- the ports: a prompter, the keys, the dice and the trust file
pub record PortEnds (P : Type 0) : Type 0 where
  pub prompter : P
  pub keys : KeyFiles
  pub dice : Side
  pub trust : TrustState

-- what an event does: it leaves the other ends as they are
pub data DoesPort {P : Type 0} (prompted : P → Call → P → Type 0) : PortEnds P → PortCall → PortEnds P → Type 0 where
  prompt : {before : PortEnds P} {event : PromptEvent} {prompter : P} → DoesCall prompted before.prompter event prompter
      → DoesPort prompted before (Prompt event) (record before { prompter = prompter })
  keys : {before : PortEnds P} {call : KeyCall} {files : KeyFiles} → DoesKeys before.keys call files
      → DoesPort prompted before (Keys call) (record before { keys = files })
  dice : {before : PortEnds P} {draw : Draw} {side : Side} → DoesDraw before.dice draw side
      → DoesPort prompted before (Dice draw) (record before { dice = side })
  trust : {before : PortEnds P} {call : TrustCall} {file : TrustState} → DoesTrust before.trust call file
      → DoesPort prompted before (Trust call) (record before { trust = file })
  no_memory : {now : PortEnds P} → DoesPort prompted now NoMemory now

-- an event of a session with these lines
abbrev pub EventOf : Lines → Type 0
EventOf lines = AnyEvent lines.Took lines.Outcome PortCall

module _ {lines : Lines} {D : Type 0} (turned : D → MarkStep → Turn → D → Type 0) where
  -- a desk, and ports, to which their events do this
  abbrev pub world_with : {E : Type 0} → (E → PortCall → E → Type 0) → AnyWorld lines
  world_with {E} does = record { Desk = D; turned = turned; Ends = E; Port = PortCall; does = does }

  -- a desk, and a prompter that shows its calls so, the keys, the dice and the trust file
  abbrev pub port_world : {P : Type 0} → (P → Call → P → Type 0) → AnyWorld lines
  port_world prompted = world_with (DoesPort prompted)
