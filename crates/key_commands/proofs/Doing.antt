-- Actions of a request in which the keys are called, dice are thrown or memory is wanted, and such calls one after another.
use Rattle.std.proofs.Common.{◌≡◌, ℕ, List, [], ◌∷◌, ◌++◌, Option, Some, None, Result, Ok, Err, refl, subst}
use Rattle.agent_ask.specs.{Events.Call, Session.{PortCalls.{PortCall, KeyCall, DoesKeys, Keys, Dice, NoMemory, world_with}, Actions.{◌>>=◌, goes_on, stops}, ActionStates.{gone_in, DoesAction, action_state}, SessionEvents.Port, States.AnyLead}}
use Rattle.{agent_ask.proofs.{Doing.{done_none, done_then, done_port}, ActionsDone.{action_still, still_open, no_fault}}, agent_ports.specs.{KeyFiles.KeyFiles, Sides.Side, declared.keys.KeyDone.{KeyDone, TheVariants.Done}}}
use Rattle.{assuan_server.specs.{Clients.{connection_views, session_lines}, Connections.{Connection, IsOpen}}, cache_policy.specs.{declared.mark.MarkStep.MarkStep, Turns.Turn}, session_client.specs.declared.code.Code.Code}
use Rattle.session_client.specs.declared.refusal.Refusal.{Refusal, TheVariants.Agent}
use Rattle.key_commands.specs.{Events.{Event, called, out_of_memory}, KeyEnds.{KeyEnds, DoesAtKeys, keys as does_keys, dice as does_dice, no_memory}, KeyActions.change_fault}
use Rattle.key_commands.specs.{Partial.{DoesKeyAction, DoesBesideKeys, no_memory as no_memory_beside, LeavesKeys}, Actions.Action, States.{KeyWorld, key_state}}
use Rattle.key_commands.specs.Steps.{DoesAlone, nothing, memory, KeysLead, none, calls, wants_memory, DoesKeyCalls, DoesDrawing, DoesDrawings, no_draw, one_draw, IsChanged}

-- ---- calls of the keys, one after another

keys_then : {first second : List Event} {start mid now : KeyFiles} → KeysLead start first mid → KeysLead mid second now → KeysLead start (first ++ second) now
keys_then none later = later
keys_then (calls does more) later = calls does (keys_then more later)
keys_then (wants_memory more) later = wants_memory (keys_then more later)

-- calls of the keys that came to a value, and then the next ones
pub calls_then : {A B : Type 0} {action : Action A} {next : A → Action B} {start mid now : KeyFiles} {value : A} {result : Result B Refusal}
    → DoesKeyCalls action start (Ok value) mid → DoesKeyCalls (next value) mid result now → DoesKeyCalls (action >>= next) start result now
calls_then first second = record {
  events = first.events ++ second.events;
  lead = keys_then first.lead second.lead;
  does = λ held. goes_on (first.does held) (second.does held);
  on = second.on;
}

-- calls that were refused
pub calls_stop : {A B : Type 0} {action : Action A} {next : A → Action B} {start now : KeyFiles} {why : Refusal}
    → DoesKeyCalls action start (Err why) now → DoesKeyCalls (action >>= next) start (Err why) now
calls_stop first = record { events = first.events; lead = first.lead; does = λ held. stops (first.does held); on = first.on }

module _ {A : Type 0} {action : Action A} {result : Result A Refusal} where
  -- one call
  pub one_call : {start now : KeyFiles} (call : KeyCall) → DoesKeys start call now → ((held : Option ℕ) → action held (called call ∷ []) result held) → gone_in result ≡ None
      → DoesKeyCalls action start result now
  one_call call does is on = record { events = called call ∷ []; lead = calls does none; does = is; on = on }

  -- one call, by which memory was wanted then
  pub one_call_of_memory : {start now : KeyFiles} (call : KeyCall) → DoesKeys start call now → ((held : Option ℕ) → action held (called call ∷ out_of_memory ∷ []) result held) → gone_in result ≡ None
      → DoesKeyCalls action start result now
  one_call_of_memory call does is on = record { events = called call ∷ out_of_memory ∷ []; lead = calls does (wants_memory none); does = is; on = on }

  -- none
  pub no_calls : (keys : KeyFiles) → ((held : Option ℕ) → action held [] result held) → gone_in result ≡ None → DoesKeyCalls action keys result keys
  no_calls keys does on = record { events = []; lead = none; does = does; on = on }

-- a change of a key's file, which is done or refused
pub change_made : {action : Action (Unit {0})} {start now : KeyFiles} (call : KeyDone → KeyCall) (answer : KeyDone) (result : Result (Unit {0}) Refusal) → DoesKeys start (call answer) now
    → IsChanged answer result → ((held : Option ℕ) → action held (called (call Done) ∷ []) (Ok tt) held)
    → ((code : Code) → change_fault answer ≡ Some code → (held : Option ℕ) → action held (called (call answer) ∷ []) (Err (Agent code)) held) → DoesKeyCalls action start result now
change_made {start} {now} call answer (Ok changed) does is done refused = one_call (call Done) (subst (λ (a : KeyDone). DoesKeys start (call a) now) is does) done refl
change_made call answer (Err why) does is done refused = rw is.2 (one_call (call answer) does (refused is.0 is.1) refl)

-- ---- as actions of a request, while the connection is open

-- nothing, or being out of memory
module _ {D E A : Type 0} {turned : D → MarkStep → Turn → D → Type 0} {ported : E → PortCall → E → Type 0} {action : Action A} {result : Result A Refusal} {conn : Connection} {desk : D} {ends : E} {held : Option ℕ}
    (forgets : ported ends NoMemory ends) (going : IsOpen conn) where
  alone_at : DoesAlone action result
      → DoesAction connection_views turned ported action held (action_state connection_views turned ported conn desk ends) result held (action_state connection_views turned ported conn desk ends)
  alone_at (nothing does on) = action_still going on (does held)
  alone_at (memory does on) = record {
    events = out_of_memory ∷ [];
    does = does held;
    done = done_port {w = world_with {lines = session_lines} turned ported} NoMemory conn desk ends ends forgets;
    fits = still_open connection_views (gone_in result) on conn going;
    faults = no_fault connection_views (gone_in result) on conn conn;
  }

-- the ports, with these keys and dice
abbrev ends : {P : Type 0} → P → KeyFiles → Side → KeyEnds P
ends prompter keys dice = record { prompter = prompter; keys = keys; dice = dice }

module _ {D P : Type 0} (turned : D → MarkStep → Turn → D → Type 0) (prompted : P → Call → P → Type 0) (conn : Connection) (desk : D) (prompter : P) (dice : Side) where
  keys_lead : {events : List Event} {start now : KeyFiles} → KeysLead start events now
      → AnyLead {w = KeyWorld turned prompted} connection_views events (key_state turned prompted conn desk prompter start dice) (key_state turned prompted conn desk prompter now dice)
  keys_lead {start} none = done_none (key_state turned prompted conn desk prompter start dice)
  keys_lead {start} (calls {mid} {call} does more) =
      done_then (done_port {w = KeyWorld turned prompted} (Keys call) conn desk (ends prompter start dice) (ends prompter mid dice) (does_keys does)) (keys_lead more)
  keys_lead {start} (wants_memory more) =
      done_then (done_port {w = KeyWorld turned prompted} NoMemory conn desk (ends prompter start dice) (ends prompter start dice) no_memory) (keys_lead more)

module _ {D P A : Type 0} {turned : D → MarkStep → Turn → D → Type 0} {prompted : P → Call → P → Type 0} {action : Action A} {result : Result A Refusal} {conn : Connection} (going : IsOpen conn)
    {desk : D} {prompter : P} {held : Option ℕ} where
  pub leaves_alone : DoesAlone action result → LeavesKeys turned prompted action held conn desk prompter result held conn desk prompter
  leaves_alone alone = alone_at {ported = DoesBesideKeys prompted} no_memory_beside going alone

  pub action_alone : {keys : KeyFiles} {dice : Side} → DoesAlone action result
      → DoesKeyAction turned prompted action held (key_state turned prompted conn desk prompter keys dice) result held (key_state turned prompted conn desk prompter keys dice)
  action_alone alone = alone_at {ported = DoesAtKeys prompted} no_memory going alone

  pub action_called : {keys now : KeyFiles} {dice : Side} → DoesKeyCalls action keys result now
      → DoesKeyAction turned prompted action held (key_state turned prompted conn desk prompter keys dice) result held (key_state turned prompted conn desk prompter now dice)
  action_called {dice} done = record {
    events = done.events;
    does = done.does held;
    done = keys_lead turned prompted conn desk prompter dice done.lead;
    fits = still_open connection_views (gone_in result) done.on conn going;
    faults = no_fault connection_views (gone_in result) done.on conn conn;
  }

  pub action_drawn : {keys : KeyFiles} {dice now : Side} → DoesDrawing action dice result now
      → DoesKeyAction turned prompted action held (key_state turned prompted conn desk prompter keys dice) result held (key_state turned prompted conn desk prompter keys now)
  action_drawn {keys} {dice} {now} done = record {
    events = Port (Dice done.draw) ∷ [];
    does = done.does held;
    done = done_port {w = KeyWorld turned prompted} (Dice done.draw) conn desk (ends prompter keys dice) (ends prompter keys now) (does_dice done.draws);
    fits = still_open connection_views (gone_in result) done.on conn going;
    faults = no_fault connection_views (gone_in result) done.on conn conn;
  }

  pub action_draws : {keys : KeyFiles} {dice now : Side} → DoesDrawings action dice result now
      → DoesKeyAction turned prompted action held (key_state turned prompted conn desk prompter keys dice) result held (key_state turned prompted conn desk prompter keys now)
  action_draws (no_draw does on) = action_still going on (does held)
  action_draws (one_draw done) = action_drawn done
