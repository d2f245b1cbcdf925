-- Private: what the steps of a request know.
use Rattle.std.specs.{Prelude.{◌≡◌, ℕ, ◌==◌, ◌&&◌, nat_lt, Bool, List, [], ◌∷◌, length, Option, Some, None, Result, Ok, Err}, List.list_all}
use Rattle.{agent_ask.specs.Session.{PortCalls.{KeyCall, Draw, Dice, DoesKeys, DoesDraw}, ActionStates.{gone_in, DoesTurn, DoesTurns}, SessionEvents.Port}, agent_ports.specs.{KeyFiles.KeyFiles, Sides.Side, declared.keys.KeyDone.KeyDone}}
use Rattle.{agent_ports.specs.declared.keys.KeyDone.TheVariants.Done, session_client.specs.declared.{code.Code.Code, refusal.Refusal.{Refusal, TheVariants.{Agent, Client}}}, assuan_server.specs.declared.inquiry.Inquired.Inquired}
use Rattle.{cache_policy.specs.{declared.mark.MarkStep.MarkStep, Turns.Turn}, sexp_keys.specs.{Key.Key, declared.fault.KeyFault.KeyFault}}
use Rattle.key_commands.specs.{Events.{Event, called, out_of_memory}, KeyActions.change_fault, Actions.Action}
use Rattle.session_client.specs.declared.code.Code.TheVariants as code
use Rattle.assuan_server.specs.declared.inquiry.Inquired.TheVariants as inquired
use Rattle.session_client.specs.declared.client_error.Gone.TheVariants as gone
use Rattle.session_client.specs.declared.client_error.ClientError.TheVariants as client_error
use Rattle.sexp_keys.specs.declared.fault.KeyFault.TheVariants as fault

-- these are zero bytes, and fewer than a block of the wrapping
abbrev pub are_padding : List ℕ → Bool
are_padding bytes = nat_lt (length bytes) 8 && list_all (λ byte. byte == 0) bytes

-- an action of a request on keys that is one turn at the desk, and one that is one turn at most
abbrev pub TakesTurn : {D : Type 0} (turned : D → MarkStep → Turn → D → Type 0) {A : Type 0} → Action A → Option ℕ → D → Result A Refusal → Option ℕ → D → Type 0
TakesTurn turned action = DoesTurn turned action

abbrev pub TakesTurns : {D : Type 0} (turned : D → MarkStep → Turn → D → Type 0) {A : Type 0} → Action A → Option ℕ → D → Result A Refusal → Option ℕ → D → Type 0
TakesTurns turned action = DoesTurns turned action

-- an action in which nothing is done, but that there may be no memory, whatever ticket is held
pub data DoesAlone {A : Type 0} (action : Action A) (result : Result A Refusal) : Type 0 where
  nothing : ((held : Option ℕ) → action held [] result held) → gone_in result ≡ None → DoesAlone action result
  memory : ((held : Option ℕ) → action held (out_of_memory ∷ []) result held) → gone_in result ≡ None → DoesAlone action result

-- calls of the keys, one after another, by which memory may be wanted
pub data KeysLead : KeyFiles → List Event → KeyFiles → Type 0 where
  none : {keys : KeyFiles} → KeysLead keys [] keys
  calls : {before mid after : KeyFiles} {call : KeyCall} {events : List Event} → DoesKeys before call mid → KeysLead mid events after → KeysLead before (called call ∷ events) after
  wants_memory : {before after : KeyFiles} {events : List Event} → KeysLead before events after → KeysLead before (out_of_memory ∷ events) after

-- an action in which the keys alone are called, whatever ticket is held
pub record DoesKeyCalls {A : Type 0} (action : Action A) (before : KeyFiles) (result : Result A Refusal) (after : KeyFiles) : Type 0 where
  pub events : List Event
  pub lead : KeysLead before events after
  pub does : (held : Option ℕ) → action held events result held
  pub on : gone_in result ≡ None

-- an action that is one draw of random bytes, whatever ticket is held
pub record DoesDrawing {A : Type 0} (action : Action A) (before : Side) (result : Result A Refusal) (after : Side) : Type 0 where
  pub draw : Draw
  pub draws : DoesDraw before draw after
  pub does : (held : Option ℕ) → action held (Port (Dice draw) ∷ []) result held
  pub on : gone_in result ≡ None

-- one draw at most
pub data DoesDrawings {A : Type 0} (action : Action A) (before : Side) (result : Result A Refusal) : Side → Type 0 where
  no_draw : ((held : Option ℕ) → action held [] result held) → gone_in result ≡ None → DoesDrawings action before result before
  one_draw : {after : Side} → DoesDrawing action before result after → DoesDrawings action before result after

-- a change of a key's file was done, or is refused by this answer
abbrev pub IsChanged : KeyDone → Result (Unit {0}) Refusal → Type 0
IsChanged done (Ok changed) = done ≡ Done
IsChanged done (Err why) = (code : Code) × (change_fault done ≡ Some code) × (why ≡ Agent code)

-- a listed key whose file has this fault: it is passed over, unless memory was wanted
abbrev pub unlisted : KeyFault → Result (Option Key) Refusal
unlisted fault.NoMemory = Err (Agent code.NoMemory)
unlisted _ = Ok None

-- the bytes of a key that the client gave, or how its request is refused
abbrev pub key_data_of : Inquired → Result (List ℕ) Refusal
key_data_of (inquired.Data bytes) = Ok bytes.items
key_data_of inquired.NoMemory = Err (Agent code.NoMemory)
key_data_of inquired.Cancelled = Err (Client client_error.Cancelled)
key_data_of inquired.TooMuch = Err (Client client_error.TooMuch)
key_data_of inquired.Unexpected = Err (Client client_error.Unexpected)
key_data_of inquired.Ended = Err (Client (client_error.Gone gone.Ended))
key_data_of inquired.TooLong = Err (Client (client_error.Gone gone.TooLong))
key_data_of inquired.Spent = Err (Client (client_error.Gone gone.Spent))
key_data_of inquired.ReadFault = Err (Client (client_error.Gone gone.ReadFault))
key_data_of inquired.WriteFault = Err (Client (client_error.Gone gone.WriteFault))
