-- The codes that a request is answered by exactly where their cause stands. The codes and their causes are this project's own.
use Rattle.std.specs.Prelude.{◌≡◌, ◌<◌, ◌⊎◌, ℕ, true, false, List, length, Option, Some, None, Ok}
use Rattle.{agent_ask.specs.{Events.{Called, GetPin}, Session.{PortCalls.Prompt, SessionEvents.{Received, Port, cache_turn}}, declared.prompt.prompter.Outcome.TheVariants.Pin}, agent_commands.specs.{Requests.request_of, declared.request.Request.Request}}
use Rattle.{agent_commands.specs.declared.went.SessionEnd.{SessionEnd, TheVariants.{TooLong, WriteFault}}, agent_ports.specs.declared.grip.Grip.Grip, session_client.specs.declared.code.Code.Code}
use Rattle.{assuan_server.specs.declared.errors.Origin.TheVariants.Agent, cache_policy.specs.{Turns.{Given, Done}, declared.{grant.Grant.Grant, mark.Way.Way}}, key_commands.specs.{Events.Event, Files.IsWithList}}
use Rattle.{key_commands.specs.{Passphrases.{OpensBy, ask_nonce, ask_key, put_key}, declared.wrapping.TheConstants.MAX_LIST_LEN}, key_lines.specs.Canon.is_canonical, secret_file.specs.Opens.LockedKey}
use Rattle.{sexp_canonical.specs.Spelling.most_bytes, sexp_keys.specs.{Key.Key, Lists.key_list_of}, session_options.specs.declared.rules.Rules.Rules, agent_origin.specs.{Doors.allowed, DoorSessions.door_command}}
use Rattle.agent_origin.specs.{TrustRequests.{trust_request_of, trust_command}, declared.{door.Door.Door, session_state.SessionState.SessionState, trust.request.TrustRequest.{TrustRequest, TheVariants.Bad}}}
use Rattle.command_table.specs.{Commands.command_in, declared.commands.TrustCommandName.TrustCommandName}
use Rattle.agent_session.specs.{Causes.{Has, IsCaused, IsFaulty, IsSaid, IsRead, IsReadOf, IsReadLocked, IsDrawn, IsListOf, OpensRead, on_keys}, Completeness.HasError, DoorCauses.{IsNotTrusted, IsTooMuch}}
use Rattle.session_client.specs.declared.code.Code.TheVariants as code
use Rattle.assuan_line.specs.declared.reader.Took.TheVariants as took
use Rattle.key_commands.specs.declared.request.KeyRequest.TheVariants as on
use Rattle.session_client.specs.declared.client_error.Gone.TheVariants as gone
use Rattle.session_client.specs.declared.client_error.ClientError.TheVariants as client_error

-- ---- a request of any session

-- a key's file, and what it says once it is opened, whatever that is
module _ (events : List Event) (grip : Grip) where
  -- this passphrase opens the key, as its file was read
  abbrev pub OpensIt : List ℕ → Type 0
  OpensIt pass = (locked : LockedKey) → IsReadLocked events grip locked → OpensBy locked pass

  -- The key was opened, for a PASSWD with this nonce: it is clear; or a passphrase that opens it was cached, or was typed, or the client gave it, and it was kept.
  pub data IsOpened (nonce : Option (List ℕ)) : Type 0 where
    clear : {key : Key} → IsRead events grip (Ok key) → ((other : Key) → IsRead events grip (Ok other) → other.is_clear ≡ true) → IsOpened nonce
    by_nonce : {id : List ℕ} {grant : Grant} → nonce ≡ Some id → OpensIt grant.entry.secret → Has (cache_turn (ask_nonce id) (Given grant)) events → IsOpened nonce
    cached : {grant : Grant} (way : Way) → OpensIt grant.entry.secret → Has (cache_turn (ask_key grip way) (Given grant)) events → IsOpened nonce
    typed : {error pin : List ℕ} → OpensIt pin → Has (Port (Prompt (Called (GetPin error (Pin pin))))) events → IsOpened nonce
    given : {pass : List ℕ} → OpensIt pass → Has (cache_turn (put_key grip pass) Done) events → IsOpened nonce

module _ (events : List Event) (rules : Rules) (kept : SessionState) (request : Request) where
  -- the list of the key that the request opened is too long
  abbrev pub HasLongList : Grip → Type 0
  HasLongList grip = (key : Key) → OpensRead events rules kept.options request grip key → MAX_LIST_LEN < length (key_list_of key)

  -- the file is in the extended format, and too long with the list of that key in it
  abbrev pub HasLongFile : Grip → Type 0
  HasLongFile grip = (file : List ℕ) (key : Key) (pass list : List ℕ) → IsReadOf events grip file → OpensRead events rules kept.options request grip key → IsListOf events key pass kept.options.s2k_count list
      → (is_canonical file ≡ false) × ((changed : List ℕ) → IsWithList file list changed → most_bytes < length changed)

  -- PASSWD, whose key was opened and has too long a list; or whose new file is too long, once the bytes for it were drawn
  pub data IsLong : Type 0 where
    long : {grip : Grip} {old new : Option (List ℕ)} → on_keys request ≡ Some (on.Passwd grip old new false) → IsOpened events grip old → HasLongList grip → IsLong
    long_file : {grip : Grip} {old new : Option (List ℕ)} {drawn : List ℕ} → on_keys request ≡ Some (on.Passwd grip old new false) → IsDrawn events 20 drawn
        → HasLongFile grip → IsLong

  -- what an error line with this code is caused by
  abbrev CausedBy : Code → Type 0
  CausedBy why = IsCaused events rules kept request why Agent

  -- The cause of each of these codes: it is what causes the error line, and wherever it stands in the exchange the answer is that line. Of a bad key it is a
  -- fault of the key; or a length, which each key has to which the request opened its file, where the cause of the error line names one.
  abbrev pub ExactCause : Code → Type 0
  ExactCause code.NoData = CausedBy code.NoData
  ExactCause code.NoSecKey = CausedBy code.NoSecKey
  ExactCause code.FileExists = CausedBy code.FileExists
  ExactCause code.Checksum = CausedBy code.Checksum
  ExactCause code.InvSexp = CausedBy code.InvSexp
  ExactCause code.BadSecKey = IsFaulty events rules kept request code.BadSecKey ⊎ IsLong
  ExactCause code.UnknownCommand = CausedBy code.UnknownCommand
  ExactCause code.UnknownOption = CausedBy code.UnknownOption
  ExactCause code.Parameter = CausedBy code.Parameter
  ExactCause code.TooMuch = CausedBy code.TooMuch
  ExactCause code.Unexpected = CausedBy code.Unexpected
  ExactCause code.LineTooLong = CausedBy code.LineTooLong
  ExactCause _ = ⊥

-- ---- a request at a door

module _ (events : List Event) (request : TrustRequest) where
  -- the same causes of a request on the trust list
  abbrev pub ExactTrustCause : Code → Type 0
  ExactTrustCause code.NotTrusted = IsNotTrusted events request
  ExactTrustCause code.Parameter = request ≡ Bad code.Parameter
  ExactTrustCause code.TooMuch = IsTooMuch events request
  ExactTrustCause code.Unexpected = IsSaid events client_error.Unexpected
  ExactTrustCause code.LineTooLong = IsSaid events (client_error.Gone gone.TooLong)
  ExactTrustCause _ = ⊥

-- the same causes of a line: it isn't allowed, it is a request on the trust list, or one of any session. HELP, and an option of the terminal at the outer
-- door, are answered by the door itself.
pub data ExactCauseAtDoor (door : Door) (rules : Rules) (before : SessionState) (line : List ℕ) (events : List Event) : Code → Type 0 where
  forbidden : allowed door line ≡ false → ExactCauseAtDoor door rules before line events code.Forbidden
  on_trust : {name : TrustCommandName} {why : Code} → allowed door line ≡ true → trust_command (command_in line) ≡ Some name → ExactTrustCause events (trust_request_of line) why
      → ExactCauseAtDoor door rules before line events why
  any : {why : Code} → allowed door line ≡ true → door_command door line ≡ None → ExactCause events rules before (request_of line) why
      → ExactCauseAtDoor door rules before line events why

-- ---- a line that is too long

-- a line of the client's was too long: the session's next read came to it, or an inquiry did
pub data WasTooLong (events : List Event) : Type 0 where
  at_read : Has (Received took.TooLong) events → WasTooLong events
  at_inquiry : IsSaid events (client_error.Gone gone.TooLong) → WasTooLong events

-- A session in which a line was too long ends by that, unless a write failed. Its client is told so exactly where it ends by that.
pub record EndsTooLong (events : List Event) (end : SessionEnd) : Type 0 where
  pub ends : WasTooLong events → (end ≡ TooLong) ⊎ (end ≡ WriteFault)
  pub was : end ≡ TooLong → WasTooLong events
  pub told : end ≡ TooLong → HasError code.LineTooLong Agent events
  pub told_alone : HasError code.LineTooLong Agent events → end ≡ TooLong
