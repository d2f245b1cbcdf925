-- Actions of a request on the trust list that were done, each beside the ends of its session that it leaves alone.
use Rattle.std.proofs.Common.{◌≡◌, ℕ, Bool, List, [], ◌∷◌, Option, Some, None, Result, Ok, Err, arith}
use Rattle.agent_ask.specs.{Clients.{Hears, LeftByAction}, ConsentActions.{AgreesTo, AsksQuestion}, Doing.{PromptEnds, DoesPrompt, HasEvents}, Events.Call, Session.{PortCalls.{PortCall, DoesPort, world_with}, Actions.◌>>=◌}}
use Rattle.agent_ask.{specs.Session.{ActionStates.{gone_in, DoesAction, NoTurn}, SessionEvents.Port, ActionReplies.stops_at}, proofs.{ConsentActions.agrees, Doing.done_port, ActionsAtClient.action_prompted}}
use Rattle.{agent_ask.proofs.ActionsDone.{action_then, action_stops, action_still, action_in}, agent_ports.specs.{KeyFiles.KeyFiles, Sides.Side, TrustFiles.TrustState, declared.grip.Grip.Grip}}
use Rattle.{assuan_server.specs.{Clients.{session_lines, connection_views, Wishes}, Connections.{Connection, IsOpen}}, cache_policy.specs.{declared.mark.MarkStep.MarkStep, Turns.Turn}, key_commands.specs.Actions.Action}
use Rattle.{session_client.specs.declared.refusal.Refusal.Refusal, session_options.specs.{OptionValues.OptionValues, declared.rules.Rules.Rules}, trust_list.specs.Trust.trust, agent_commands.specs.Steps.{CarriesOut, ok_by}}
use Rattle.agent_commands.proofs.Carrying.{replies_ok}
use Rattle.agent_origin.specs.{PortStates.{port_ends, PortState}, TrustExchanges.{unless_said, Carried, TrustReplies}, TrustActions.ReadsFile, TrustStates.{DoesTrustFile, called, no_memory, DoesAtFile, LeavesKeys}}
use Rattle.agent_origin.specs.declared.trust.request.TrustRequest.{TrustRequest}
use Rattle.agent_ask.specs.Session.PortCalls as ported

-- ---- the trust file

module _ {A : Type 0} {action : Action A} {result : Result A Refusal} (on : gone_in result ≡ None) where
  -- one call, or being out of memory
  pub file_event_done : {start now : TrustState} (what : PortCall) → DoesTrustFile start what now → ((held : Option ℕ) → action held (Port what ∷ []) result held) → DoesAtFile action start result now
  file_event_done what done does conn going held = record {
    events = Port what ∷ [];
    does = does held;
    done = done_port {w = world_with {lines = session_lines} NoTurn DoesTrustFile} what conn tt _ _ done;
    fits = rw on (going, omega arith);
    faults = rw on (record { read = λ e. absurd (cc e); write = λ e. absurd (cc e) });
  }

  -- nothing
  pub file_left : (file : TrustState) → ((held : Option ℕ) → action held [] result held) → DoesAtFile action file result file
  file_left file does conn going held = action_still going on (does held)

-- the file was read, and what it says of a certificate decided the request, or something else was done
pub said_done : (fingerprint : Grip) (otherwise : List ℕ → Action (Unit {0})) {file : List ℕ} {start mid now : TrustState} {result : Result (Unit {0}) Refusal} → DoesAtFile ReadsFile start (Ok file) mid
    → (said : Option Bool) → trust file fingerprint.0 ≡ said → DoesAtFile (unless_said said (otherwise file)) mid result now
    → DoesAtFile (ReadsFile >>= λ file. unless_said (trust file fingerprint.0) (otherwise file)) start result now
said_done fingerprint otherwise read said is done conn going held = action_then (read conn going held) (rw is (done conn going held))

-- ---- beside the other ends

module _ {D P : Type 0} (turned : D → MarkStep → Turn → D → Type 0) (prompted : P → Call → P → Type 0) where
  file_beside : (prompter : P) (keys : KeyFiles) (dice : Side) (before after : TrustState) (what : PortCall) → DoesTrustFile before what after
      → DoesPort prompted (port_ends prompter keys dice before) what (port_ends prompter keys dice after)
  file_beside prompter keys dice before after what (called does) = ported.trust does
  file_beside prompter keys dice before after what no_memory = ported.no_memory

  -- what was done with the trust file alone
  pub beside_all : {A : Type 0} {action : Action A} {result : Result A Refusal} {file now : TrustState} (conn : Connection) (desk : D) (prompter : P) (held : Option ℕ) → IsOpen conn
      → DoesAtFile action file result now → LeavesKeys turned prompted action held conn desk prompter file result held conn desk prompter now
  beside_all conn desk prompter held going done keys dice =
      action_in connection_views NoTurn DoesTrustFile turned (DoesPort prompted) (λ none. desk) (λ file. port_ends prompter keys dice file)
      (λ before after step turn never. absurd never) (file_beside prompter keys dice) (done conn going held)

  -- what was done without a turn
  pub beside_desk : {A : Type 0} {action : Action A} {result : Result A Refusal} {held after : Option ℕ} {conn conn_now : Connection} {prompter prompter_now : P} {file file_now : TrustState} (desk : D)
      → LeavesKeys NoTurn prompted action held conn tt prompter file result after conn_now tt prompter_now file_now
      → LeavesKeys turned prompted action held conn desk prompter file result after conn_now desk prompter_now file_now
  beside_desk desk done keys dice =
      action_in connection_views NoTurn (DoesPort prompted) turned (DoesPort prompted) (λ none. desk) (λ same. same) (λ before after step turn never. absurd never)
      (λ before after what does. does) (done keys dice)

-- the user was asked a question by one prompt
pub agreed_done : {P : Type 0} {prompted : P → Call → P → Type 0} {rules : Rules} {options : OptionValues} {question : List ℕ} {result : Result (Unit {0}) Refusal} {start now : PromptEnds P Connection} (ticket : ℕ)
    (file : TrustState) → HasEvents (DoesPrompt prompted (Hears connection_views Wishes)) (λ events. AsksQuestion rules options question events result) start now
    → LeftByAction connection_views result start.caller now.caller
    → LeavesKeys NoTurn prompted (AgreesTo session_lines rules options question) (Some ticket) start.caller tt start.prompter file result (Some ticket) now.caller tt now.prompter file
agreed_done {prompted} {result} ticket file asked left keys dice =
    action_prompted connection_views NoTurn tt (DoesPort prompted) (λ prompter. port_ends prompter keys dice file) (λ before after event does. ported.prompt does) asked.lead
    (λ events in_session. agrees ticket result asked.are in_session) left

-- ---- requests

-- all was done for a request but its reply
pub carried_out : {D P : Type 0} (turned : D → MarkStep → Turn → D → Type 0) (prompted : P → Call → P → Type 0) (rules : Rules) (options : OptionValues) (request : TrustRequest)
    {start now : PortState turned prompted} {held : Option ℕ} (result : Result (Unit {0}) Refusal)
    → DoesAction connection_views turned (DoesPort prompted) (Carried rules options request) None start result held now
    → CarriesOut turned (DoesPort prompted) (TrustReplies rules options request) options start (ok_by result) options held now
carried_out turned prompted rules options request {now} (Ok tt) done = replies_ok turned (DoesPort prompted) now.conn now.desk now.ends done
carried_out turned prompted rules options request (Err why) done = stops_at (action_stops done)
