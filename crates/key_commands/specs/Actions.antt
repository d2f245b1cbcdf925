-- The actions of a request on keys that are done with the keys and with the dice alone, and how a session goes on behind one. This is the project's own.
use Rattle.std.specs.Prelude.{◌≡◌, ℕ, List, [], ◌∷◌, Option, Some, None, Result, Ok, Err, Bool, true, false, length}
use Rattle.{agent_ask.specs.Session.{Actions.ActionOf, SessionEvents.said_last}, agent_ports.specs.declared.{grip.Grip.Grip, keys.KeyRead.KeyRead}, assuan_server.specs.Written.refusal_line, session_client.specs.declared.code.Code.Code}
use Rattle.session_client.specs.declared.{refusal.Refusal.{Refusal, TheVariants.Agent}, client_error.Gone.Gone}
use Rattle.key_commands.specs.{Events.{Event, drew, not_drawn, read}, declared.went.KeyWent.{KeyWent, TheVariants.{On, Gone as AtGone}}}
use Rattle.agent_ports.specs.declared.keys.KeyRead.TheVariants as key_read
use Rattle.session_client.specs.declared.code.Code.TheVariants as code

-- with a session's events, over the lines that this project's server reads
abbrev pub Action : Type 0 → Type 1
Action A = ActionOf Event A

-- ---- the keys and the dice

-- how a request is refused that needs a file, by a read that gave none
abbrev pub read_fault : KeyRead → Option Code
read_fault (key_read.Found file) = None
read_fault key_read.Absent = Some code.NoSecKey
read_fault key_read.Failed = Some code.General
read_fault key_read.NoMemory = Some code.NoMemory

-- whether a key's file is there
pub data Finds (grip : Grip) (held : Option ℕ) : List Event → Result Bool Refusal → Option ℕ → Type 0 where
  found : {file : _} → Finds grip held (read grip (key_read.Found file) ∷ []) (Ok true) held
  absent : Finds grip held (read grip key_read.Absent ∷ []) (Ok false) held
  faulted : Finds grip held (read grip key_read.Failed ∷ []) (Err (Agent code.General)) held
  no_memory : Finds grip held (read grip key_read.NoMemory ∷ []) (Err (Agent code.NoMemory)) held

-- so many random bytes are drawn
pub data Draws (count : ℕ) (held : Option ℕ) : List Event → Result (List ℕ) Refusal → Option ℕ → Type 0 where
  drawn : {bytes : List ℕ} → length bytes ≡ count → Draws count held (drew bytes ∷ []) (Ok bytes) held
  faulted : Draws count held (not_drawn count ∷ []) (Err (Agent code.General)) held

-- ---- refusals

-- how the session goes on whose client is gone, or isn't
abbrev pub key_went_after : Option Gone → KeyWent
key_went_after None = On
key_went_after (Some how) = AtGone how

abbrev pub key_gone : KeyWent → Option Gone
key_gone On = None
key_gone (AtGone how) = Some how

-- what is written for a refusal
abbrev pub refusal_events : Refusal → List Event
refusal_events why = said_last (refusal_line why)
