-- The actions of a request on the trust list that others don't have: what is done with the trust file. This is the project's own.
use Rattle.std.specs.Prelude.{◌≡◌, ◌≤◌, ◌<◌, ℕ, List, [], ◌∷◌, length, Option, Some, None, Result, Ok, Err}
use Rattle.{agent_ask.specs.Session.{PortCalls.Trust, SessionEvents.Port, TrustCalls.{TrustCall, Read, Replaced}}, agent_ports.specs.declared.{grip.Grip.Grip, trust.TrustRead.TrustRead}, key_commands.specs.Events.{Event, out_of_memory}}
use Rattle.{session_client.specs.declared.refusal.Refusal.{Refusal, TheVariants.Agent}, trust_list.specs.{Trust.with_entry, declared.TheConstants.MAX_TRUST_FILE_LEN}}
use Rattle.agent_ports.specs.declared.trust.TrustDone.TheVariants as done
use Rattle.agent_ports.specs.declared.trust.TrustRead.TheVariants as read
use Rattle.session_client.specs.declared.code.Code.TheVariants as code

-- it was called, and answered so
abbrev pub trust_called : TrustCall → Event
trust_called call = Port (Trust call)

-- the bytes that a read gave: one that is absent is empty
abbrev pub file_in : TrustRead → Option (List ℕ)
file_in (read.Found file) = Some file.items
file_in read.Absent = Some []
file_in _ = None

-- the file is read
pub data ReadsFile (held : Option ℕ) : List Event → Result (List ℕ) Refusal → Option ℕ → Type 0 where
  has_read : {answer : TrustRead} {file : List ℕ} → file_in answer ≡ Some file → ReadsFile held (trust_called (Read answer) ∷ []) (Ok file) held
  faulted : ReadsFile held (trust_called (Read read.Failed) ∷ []) (Err (Agent code.General)) held
  no_memory : ReadsFile held (trust_called (Read read.NoMemory) ∷ []) (Err (Agent code.NoMemory)) held

-- the file with one entry more at its end, where it isn't too long
pub data AddsEntry (file : List ℕ) (fingerprint : Grip) (flag : ℕ) (held : Option ℕ) : List Event → Result (List ℕ) Refusal → Option ℕ → Type 0 where
  added : length (with_entry file fingerprint.0 flag) ≤ MAX_TRUST_FILE_LEN → AddsEntry file fingerprint flag held [] (Ok (with_entry file fingerprint.0 flag)) held
  too_long : MAX_TRUST_FILE_LEN < length (with_entry file fingerprint.0 flag) → AddsEntry file fingerprint flag held [] (Err (Agent code.TooMuch)) held
  no_memory : AddsEntry file fingerprint flag held (out_of_memory ∷ []) (Err (Agent code.NoMemory)) held

-- these bytes become the file
pub data Replaces (file : List ℕ) (held : Option ℕ) : List Event → Result (Unit {0}) Refusal → Option ℕ → Type 0 where
  replaced : Replaces file held (trust_called (Replaced file done.Done) ∷ []) (Ok tt) held
  faulted : Replaces file held (trust_called (Replaced file done.Failed) ∷ []) (Err (Agent code.General)) held
  no_memory : Replaces file held (trust_called (Replaced file done.NoMemory) ∷ []) (Err (Agent code.NoMemory)) held
