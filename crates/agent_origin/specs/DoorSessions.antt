-- Sessions by the door that they came in: what each has to do with, and what it does for each of its lines. At either door the commands on the trust
-- list are served beside those of every session. A known command that isn't allowed there is answered by an error of its own, and nothing else is
-- done. The terminal of another machine has no effect at the outer door. This is the project's own.
use Rattle.std.specs.Prelude.{◌≡◌, ℕ, true, false, List, [], ◌∷◌, Option, Some, None, if◌then◌else◌}
use Rattle.{agent_ask.specs.{Events.Call, Session.SessionEvents.Sent}, agent_commands.specs.{Answers.help_with, declared.went.{SessionEnd.SessionEnd, Went.{Went, TheVariants.On}}, Requests.request_of}, assuan_server.specs.Written.{failed, ok}}
use Rattle.{session_client.specs.declared.code.Code.TheVariants.Forbidden, command_table.specs.{Commands.command_in, declared.commands.Command.Command}, cache_policy.specs.{declared.mark.MarkStep.MarkStep, Turns.Turn}}
use Rattle.{key_commands.specs.Events.Event, session_options.specs.declared.rules.Rules.Rules}
use Rattle.agent_origin.specs.{Doors.{sets_terminal, allowed}, TrustExchanges.TrustExchange, PortStates.PortWorld, TrustRequests.trust_request_of, SessionExchanges.{SessionExchange, kept_at_start}}
use Rattle.agent_origin.specs.{Sessions.{Surroundings, ServesSession}, declared.{door.Door.{Door, TheVariants.{Home, Outer}}, session_state.SessionState.SessionState, door_session.DoorCommand.{DoorCommand, TheVariants.{Help, Trust, Terminal}}}}
use Rattle.command_table.specs.declared.commands.Command.TheVariants as on
use Rattle.command_table.specs.declared.commands.CommandName.TheVariants as name

-- what a door does for itself with a command: it answers HELP in a way of its own, and those on the trust list
abbrev pub own_to_door : Option Command → Option DoorCommand
own_to_door (Some (on.Cache name.Help)) = Some Help
own_to_door (Some (on.Trust name)) = Some Trust
own_to_door _ = None

-- and with a line: at the outer door also with an option of the terminal
abbrev pub door_command : Door → List ℕ → Option DoorCommand
door_command Home line = own_to_door (command_in line)
door_command Outer line = if sets_terminal (request_of line) then Some Terminal else own_to_door (command_in line)

-- HELP tells the commands on the trust list too
abbrev pub door_help : List ℕ
door_help = help_with true

-- what is done for a line that is allowed, by the command that the door has a way of its own for, if it is one
pub data AllowedExchange (rules : Rules) (before : SessionState) (line : List ℕ) : Option DoorCommand → List Event → SessionState → Went → Type 0 where
  helped : AllowedExchange rules before line (Some Help) (Sent door_help ∷ []) before On
  -- an option of the terminal is answered as NOP is
  unset : AllowedExchange rules before line (Some Terminal) (Sent ok ∷ []) before On
  trusts : {events : List Event} {went : Went} → TrustExchange rules before.options (trust_request_of line) events went
      → AllowedExchange rules before line (Some Trust) events before went
  any : {events : List Event} {after : SessionState} {went : Went} → SessionExchange rules before line events after went
      → AllowedExchange rules before line None events after went

-- the exchange of a line
pub data DoorExchange (door : Door) (rules : Rules) (before : SessionState) (line : List ℕ) : List Event → SessionState → Went → Type 0 where
  forbidden : allowed door line ≡ false → DoorExchange door rules before line (Sent (failed Forbidden) ∷ []) before On
  is_allowed : {events : List Event} {after : SessionState} {went : Went} → allowed door line ≡ true
      → AllowedExchange rules before line (door_command door line) events after went → DoorExchange door rules before line events after went

-- the exchange of a line of a session that came in by this door, or by none
abbrev pub exchange_at : Option Door → Rules → SessionState → List ℕ → List Event → SessionState → Went → Type 0
exchange_at None = SessionExchange
exchange_at (Some door) = DoorExchange door

module _ {D P : Type 0} (turned : D → MarkStep → Turn → D → Type 0) (prompted : P → Call → P → Type 0) where
  -- a session that came in by this door, before whose first line nothing was kept
  abbrev pub ServesDoor : Door → Rules → Surroundings (PortWorld turned prompted) → SessionEnd → Surroundings (PortWorld turned prompted) → Type 0
  ServesDoor door rules before end after = ServesSession {w = PortWorld turned prompted} (DoorExchange door rules) (kept_at_start rules) before end after
