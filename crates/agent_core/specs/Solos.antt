-- A desk in memory, whose run is known, and at which other sessions take the steps of a script. This is the project's own.
use Rattle.std.specs.{Prelude.{◌≡◌, ◌≤◌, ℕ, ◌+◌, List, [], ◌∷◌, ◌++◌, Bool, true, false, min, Option, Some, None, IfSome, ⊤}, List.AllByRecursion, Borrow.GName}
use Rattle.{agent_ports.specs.{Leads.Leads, Readings.{Readings, IsRead}, declared.session.SessionId.SessionId}, cache_policy.specs.declared.{bounds.TheConstants.MAX_MOMENT, life.Limits.Limits, mark.{Mark.Mark, MarkStep.MarkStep}}}
use Rattle.cache_policy.specs.{declared.wait.Wait.Wait, Desks.{AtDesk, IsTurn}, Histories.{History, with_mark}, Legal.IsLegalRun, Return.IsGivenRightly, Runs.{last_history, joined}}
use Rattle.cache_policy.specs.Turns.{Turn, Given, Stand, FitsReply, out_after, since_of, with_since}
use Rattle.agent_core.specs.{declared.{foreign.{Foreign.Foreign, ForeignStep.TheVariants.CloseHeld}, holder.Holder.Holder}, Foreigners.{IsForeign, foreign_step, holder_after}, Known.{next_moment, TakesStep}}

-- the desk as contracts see it: the lists of the script that are still to come among the rest, its clock, and which clock that is
pub record SoloState (C : Type 0) : Type 0 where
  pub limits : Limits
  pub session : SessionId
  pub run : List History
  -- the number of the ticket that the session has
  pub out : Option ℕ
  -- the other session that has a ticket
  pub holder : Option Holder
  pub script : List (List Foreign)
  pub clock : C
  pub lent : GName

-- the same by the readings of its clock
pub record AtSolo : Type 0 where
  pub limits : Limits
  pub session : SessionId
  pub run : List History
  pub out : Option ℕ
  pub holder : Option Holder
  pub script : List (List Foreign)
  pub clock : Readings

abbrev pub seen : {C : Type 0} → (C → Readings) → SoloState C → AtSolo
seen readings solo = record {
  limits = solo.limits;
  session = solo.session;
  run = solo.run;
  out = solo.out;
  holder = solo.holder;
  script = solo.script;
  clock = readings solo.clock;
}

-- what it shows as a desk
abbrev pub at_desk : AtSolo → AtDesk
at_desk solo = record { limits = solo.limits; session = solo.session; run = Some solo.run; out = solo.out }

-- A step of a session takes one reading of the clock, also where it stands or is refused, and the run goes on by it.
pub record TakesReading (before : AtSolo) (session : SessionId) (asked : MarkStep) (turn : Turn) (after : AtSolo) : Type 0 where
  pub reading : ℕ
  pub read : IsRead before.clock reading after.clock
  pub takes : TakesStep before.limits before.run session (next_moment before.run reading) asked turn after.run
  pub fits : FitsReply asked turn
  pub was_legal : IsLegalRun before.limits before.run
  pub legal : IsLegalRun before.limits after.run

-- a step of the desk's own session
pub record OwnStep (before : AtSolo) (asked : MarkStep) (turn : Turn) (after : AtSolo) : Type 0 where
  pub takes : TakesReading before before.session asked turn after
  pub same : after ≡ record before { run = after.run; clock = after.clock; out = out_after before.out asked turn }

-- A step of another session. One that stands or is refused is dropped, and a Close of a session without a ticket is passed over.
pub data PlaysStep (before : AtSolo) (foreign : Foreign) (after : AtSolo) : Type 0 where
  played : (asked : MarkStep) (turn : Turn) → IsForeign before.session foreign → foreign_step before.holder foreign ≡ Some asked
      → TakesReading before foreign.session asked turn after
      → after ≡ record before { run = after.run; clock = after.clock; holder = holder_after before.holder foreign.session asked turn }
      → PlaysStep before foreign after
  passed_over : foreign_step before.holder foreign ≡ None → after ≡ before → PlaysStep before foreign after

-- the next list of the script, if there is one
pub data PlaysNext (before : AtSolo) : Bool → AtSolo → Type 0 where
  next_list : {after : AtSolo} (list : List Foreign) (later : List (List Foreign)) → before.script ≡ list ∷ later
      → Leads PlaysStep (record before { script = later }) list after → PlaysNext before true after
  at_end : {after : AtSolo} → before.script ≡ [] → after ≡ before → PlaysNext before false after

-- the step that ends a session's prompt, and keeps nothing
abbrev pub close_held : SessionId → Foreign
close_held session = record { session = session; step = CloseHeld None }

-- the other session that has a ticket gives it back, and keeps nothing
pub record ClosesHolder (before after : AtSolo) : Type 0 where
  pub holder : Holder
  pub holder_is : before.holder ≡ Some holder
  pub plays : PlaysStep before (close_held holder.session) after

-- A step that stood is taken again behind the next list of the script, as long as it stands; and behind the last one when the ticket that
-- is out was given back. It is taken with the moment of its first try then.
pub data Waits (asked : MarkStep) : AtSolo → Turn → AtSolo → Type 0 where
  again : {before there mid after : AtSolo} {turn : Turn} {wait : Wait} → PlaysNext before true there → OwnStep there asked (Stand wait) mid
      → Waits asked mid turn after → Waits asked before turn after
  goes : {before there after : AtSolo} {turn : Turn} → PlaysNext before true there → OwnStep there asked turn after → Waits asked before turn after
  gives_back : {before there after : AtSolo} {turn : Turn} → before.script ≡ [] → ClosesHolder before there → OwnStep there asked turn after
      → Waits asked before turn after

-- the own step, and what it waits for
pub data TakesOwn (asked : MarkStep) : AtSolo → Turn → AtSolo → Type 0 where
  at_once : {before after : AtSolo} {turn : Turn} → OwnStep before asked turn after → TakesOwn asked before turn after
  waiting : {before mid after : AtSolo} {turn : Turn} {wait : Wait} → OwnStep before asked (Stand wait) mid
      → Waits (with_since (Some wait.since) asked) mid turn after → TakesOwn asked before turn after

-- the first reading is known, and each later one is known and isn't below the one before it
abbrev pub IsNotBelow : Option ℕ → Option ℕ → Type 0
IsNotBelow (Some reading) (Some next) = reading ≤ next
IsNotBelow _ _ = ⊥

abbrev pub ReadingsNeverFall : Readings → Type 0
ReadingsNeverFall clock = (k : ℕ) → IsNotBelow (clock.later k) (clock.later (k + 1))

-- no mark says that its step was tried before this reading
abbrev pub NoneTriedBefore : ℕ → List Mark → Type 0
NoneTriedBefore reading marks = AllByRecursion (λ mark. IfSome (since_of mark.step) (λ since. min reading MAX_MOMENT ≤ since)) marks

-- The run goes on; and where the clock tells readings that never fall, none of the further marks says that its step was tried before the
-- first of them.
pub record IsTriedSince (before after : AtSolo) : Type 0 where
  pub more : List Mark
  pub marks : joined after.run ≡ joined before.run ++ more
  pub since : (first : ℕ) → ReadingsNeverFall before.clock → before.clock.later 0 ≡ Some first → NoneTriedBefore first more

-- Nothing comes back: the mark that was replied Given is the last one of the run, and names the newest entry for its request, which was
-- neither taken away nor is past a lifetime.
pub record EndsGiven (limits : Limits) (run : List History) (number : ℕ) : Type 0 where
  pub before : History
  pub mark : Mark
  pub last_is : last_history run ≡ Some (with_mark before mark)
  pub rightly : IsGivenRightly limits before mark number

abbrev pub IsRightly : Limits → List History → Turn → Type 0
IsRightly limits run (Given grant) = EndsGiven limits run grant.entry.number
IsRightly limits run turn = ⊤

-- A turn: the next list of the script, and then the own step, whose mark is the last one. It is asked without a moment of a first try, and
-- its own first try says which. What each step's reading is, and which mark it makes, is said by `TakesReading`.
pub record TurnsSolo (before : AtSolo) (asked : MarkStep) (turn : Turn) (after : AtSolo) : Type 0 where
  pub there : AtSolo
  pub listed : Bool
  pub plays : PlaysNext before listed there
  pub own : TakesOwn asked there turn after
  pub first : since_of asked ≡ None
  pub tried : IsTriedSince before after
  pub rightly : IsRightly before.limits after.run turn
  pub is : IsTurn (at_desk before) asked turn (at_desk after)

-- the same at the desk, which keeps its clock
pub record SoloTurn {C : Type 0} (readings : C → Readings) (before : SoloState C) (asked : MarkStep) (turn : Turn) (after : SoloState C) : Type 0 where
  pub turns : TurnsSolo (seen readings before) asked turn (seen readings after)
  pub lent : after.lent ≡ before.lent
