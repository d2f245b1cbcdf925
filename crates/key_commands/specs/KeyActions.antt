-- The actions of requests on keys that are no passphrase's: what is done with key files and with wrapped keys, and how consent is asked for (GnuPG
-- manual, "Agent's Assuan protocol"). The codes, the texts and the order of what is done are this project's own.
use Rattle.std.specs.{Prelude.{◌≡◌, ◌≢◌, ◌≤◌, ◌<◌, length, ℕ, Bool, true, false, List, [], ◌∷◌, codes, not, Option, Some, None, Result, Ok, Err}, List.flat_map}
use Rattle.agent_ask.specs.{Session.{ClientActions.{Writes, Inquires}, PortCalls.{Listed, Replaced, Removed}, SessionEvents.{Inquiry, cache_turn}, Actions.{◌>>=◌, Returns, Refuses, wanted, unless}}, ConsentActions.AgreesTo}
use Rattle.{agent_ask.specs.Session.TurnActions.{Changes, Peeks, Closes, in_mode}, agent_ports.specs.declared.{grip.Grip.Grip, keys.{KeyDone.KeyDone, KeyRead.KeyRead, KeyNames.KeyNames}}, assuan_server.specs.Clients.session_lines}
use Rattle.{assuan_server.specs.{Inquiries.{Outcome, IsAtEnd}, Written.{IsDataAnswer, limit_line}}, session_client.specs.{declared.{code.Code.Code, refusal.Refusal.{Refusal, TheVariants.Agent}}, Asking.Asked}}
use Rattle.{cache_policy.specs.{declared.{grant.Grant.Grant, mode.Mode.TheVariants.Normal}, Turns.{Given, Empty, Stopping, Refused, FitsStep}}, secret_file.specs.Protects.{ocb_protection, protected_file}}
use Rattle.{session_options.specs.{OptionValues.OptionValues, declared.rules.Rules.Rules}, sexp_keys.specs.{Key.Key, Lists.{grip_of, key_list_of}, declared.fault.KeyFault.KeyFault}}
use Rattle.key_commands.specs.{Events.{Event, called, read, out_of_memory}, Files.FileSays, Lines.{grip_text, info_line, max_key_data, described, delete_description}, Actions.{Action, Finds, read_fault}, Passphrases.{ask_nonce, put_key}}
use Rattle.key_commands.specs.{Faults.fault_code, Wrapping.{wrapped_key, WrappedSays}, declared.{key_calls.KeyFile.KeyFile, wrapping.TheConstants.MAX_LIST_LEN}}
use Rattle.agent_ports.specs.declared.keys.KeyDone.TheVariants as key_done
use Rattle.agent_ports.specs.declared.keys.KeyNames.TheVariants as key_names
use Rattle.agent_ports.specs.declared.keys.KeyRead.TheVariants as key_read
use Rattle.session_client.specs.declared.code.Code.TheVariants as code

-- bytes are answered by data lines
pub data Tells (bytes : List ℕ) (held : Option ℕ) : List Event → Result (List ℕ) Refusal → Option ℕ → Type 0 where
  tells : {text : List ℕ} → IsDataAnswer bytes text → Tells bytes held [] (Ok text) held

-- ---- key files

-- the bytes of the file that a read gave, and the keys that were listed
abbrev pub file_in : KeyRead → Option (List ℕ)
file_in (key_read.Found file) = Some file.items
file_in _ = None

abbrev pub grips_in : KeyNames → Option (List Grip)
grips_in (key_names.Names grips) = Some grips.items
grips_in _ = None

-- a key's file is read
pub data ReadsFile (grip : Grip) (held : Option ℕ) : List Event → Result KeyFile Refusal → Option ℕ → Type 0 where
  is_key : {answer : KeyRead} {file : List ℕ} {key : Key} → file_in answer ≡ Some file → FileSays file (Ok key)
      → ReadsFile grip held (read grip answer ∷ []) (Ok (record { bytes = file; key = key })) held
  faulty : {answer : KeyRead} {file : List ℕ} {fault : KeyFault} → file_in answer ≡ Some file → FileSays file (Err fault)
      → ReadsFile grip held (read grip answer ∷ []) (Err (Agent (fault_code fault))) held
  no_memory : {answer : KeyRead} {file : List ℕ} → file_in answer ≡ Some file → ReadsFile grip held (read grip answer ∷ out_of_memory ∷ []) (Err (Agent code.NoMemory)) held
  unread : {answer : KeyRead} {code : Code} → read_fault answer ≡ Some code → ReadsFile grip held (read grip answer ∷ []) (Err (Agent code)) held

-- how a change of a key's file is refused, where it isn't done
abbrev pub change_fault : KeyDone → Option Code
change_fault key_done.Done = None
change_fault key_done.Absent = Some code.NoSecKey
change_fault key_done.Failed = Some code.General
change_fault key_done.NoMemory = Some code.NoMemory

pub data Replaces (grip : Grip) (file : List ℕ) (held : Option ℕ) : List Event → Result (Unit {0}) Refusal → Option ℕ → Type 0 where
  done : Replaces grip file held (called (Replaced grip file key_done.Done) ∷ []) (Ok tt) held
  not_done : {answer : KeyDone} {code : Code} → change_fault answer ≡ Some code → Replaces grip file held (called (Replaced grip file answer) ∷ []) (Err (Agent code)) held

pub data Removes (grip : Grip) (held : Option ℕ) : List Event → Result (Unit {0}) Refusal → Option ℕ → Type 0 where
  done : Removes grip held (called (Removed grip key_done.Done) ∷ []) (Ok tt) held
  not_done : {answer : KeyDone} {code : Code} → change_fault answer ≡ Some code → Removes grip held (called (Removed grip answer) ∷ []) (Err (Agent code)) held

-- a clear key is protected by this passphrase, salt and initialization vector, by OCB and with this count
pub data Protects (key : Key) (pass salt iv : List ℕ) (count : ℕ) (held : Option ℕ) : List Event → Result (List ℕ) Refusal → Option ℕ → Type 0 where
  made : Protects key pass salt iv count held [] (Ok (protected_file key (ocb_protection key pass salt iv count None) None)) held
  no_memory : Protects key pass salt iv count held (out_of_memory ∷ []) (Err (Agent code.NoMemory)) held

-- a clear key is short enough to be protected
pub data IsShort (key : Key) (held : Option ℕ) : List Event → Result (Unit {0}) Refusal → Option ℕ → Type 0 where
  short : length (key_list_of key) ≤ MAX_LIST_LEN → IsShort key held [] (Ok tt) held
  long : MAX_LIST_LEN < length (key_list_of key) → IsShort key held [] (Err (Agent code.BadSecKey)) held

-- a passphrase that was given for a key's new file is kept: by the ticket that the request holds, or else by a turn of its own
abbrev pub KeepsNew : Grip → List ℕ → Action (Unit {0})
KeepsNew grip pass None = Changes (put_key grip pass) None
KeepsNew grip pass (Some ticket) = Closes (Some pass) (Some ticket)

-- ---- HAVEKEY

-- one of the keys is there. They are looked for in order, to the first that is there.
abbrev pub HasOne : List Grip → Action (Unit {0})
HasOne [] = Refuses (Agent code.NoSecKey)
HasOne (grip ∷ more) = do
  there ← Finds grip
  unless there (HasOne more)

-- the keys that there are
pub data ListsGrips (held : Option ℕ) : List Event → Result (List Grip) Refusal → Option ℕ → Type 0 where
  listed : {answer : KeyNames} {grips : List Grip} → grips_in answer ≡ Some grips → ListsGrips held (called (Listed answer) ∷ []) (Ok grips) held
  faulted : ListsGrips held (called (Listed key_names.Failed) ∷ []) (Err (Agent code.General)) held
  no_memory : ListsGrips held (called (Listed key_names.NoMemory) ∷ []) (Err (Agent code.NoMemory)) held

-- the bytes of these grips, one behind the other
abbrev pub grips_bytes : List Grip → List ℕ
grips_bytes grips = flat_map (λ grip. grip.0) grips

pub data JoinsGrips (grips : List Grip) (held : Option ℕ) : List Event → Result (List ℕ) Refusal → Option ℕ → Type 0 where
  joined : JoinsGrips grips held [] (Ok (grips_bytes grips)) held
  no_memory : JoinsGrips grips held (out_of_memory ∷ []) (Err (Agent code.NoMemory)) held

-- ---- KEYINFO

-- a key's line
abbrev pub TellsKeyInfo : Grip → Key → Action (List ℕ)
TellsKeyInfo grip key = do
  cached ← Peeks (grip_text grip) Normal
  Returns (info_line grip cached key.is_clear)

-- A listed key's file is read. One that isn't there any more, or that is no key, is passed over.
pub data ReadsListed (grip : Grip) (held : Option ℕ) : List Event → Result (Option Key) Refusal → Option ℕ → Type 0 where
  is_key : {answer : KeyRead} {file : List ℕ} {key : Key} → file_in answer ≡ Some file → FileSays file (Ok key) → ReadsListed grip held (read grip answer ∷ []) (Ok (Some key)) held
  faulty : {answer : KeyRead} {file : List ℕ} {fault : KeyFault} → file_in answer ≡ Some file → FileSays file (Err fault) → ReadsListed grip held (read grip answer ∷ []) (Ok None) held
  absent : ReadsListed grip held (read grip key_read.Absent ∷ []) (Ok None) held
  no_memory : {answer : KeyRead} {file : List ℕ} → file_in answer ≡ Some file → ReadsListed grip held (read grip answer ∷ out_of_memory ∷ []) (Err (Agent code.NoMemory)) held
  unread : {answer : KeyRead} {code : Code} → answer ≢ key_read.Absent → read_fault answer ≡ Some code → ReadsListed grip held (read grip answer ∷ []) (Err (Agent code)) held

abbrev pub WritesInfo : Grip → Option Key → Action (Unit {0})
WritesInfo grip None = Returns tt
WritesInfo grip (Some key) = do
  line ← TellsKeyInfo grip key
  Writes line

abbrev pub TellsListed : Grip → Action (Unit {0})
TellsListed grip = do
  key ← ReadsListed grip
  WritesInfo grip key

-- a line for each of these keys, each written before the next key is read
abbrev pub WritesInfos : List Grip → Action (Unit {0})
WritesInfos [] = Returns tt
WritesInfos (grip ∷ more) = do
  told ← TellsListed grip
  WritesInfos more

-- ---- IMPORT_KEY

-- The client sends a wrapped key. Where there is no memory for its bytes they are read to their end.
pub data AsksKeyData (held : Option ℕ) : List Event → Result (List ℕ) Refusal → Option ℕ → Type 0 where
  asked : {events : List Event} {result : Result (List ℕ) Refusal} → Inquires session_lines (codes "KEYDATA") max_key_data held events result held → AsksKeyData held events result held
  no_memory : {outcome : Outcome} → IsAtEnd outcome
      → AsksKeyData held (Inquiry (codes "KEYDATA") [] max_key_data (Asked outcome) ∷ out_of_memory ∷ []) (Err (Agent code.NoMemory)) held

-- the key that wrapped bytes are
pub data Unwraps (wrap wrapped : List ℕ) (held : Option ℕ) : List Event → Result Key Refusal → Option ℕ → Type 0 where
  is_key : {key : Key} → WrappedSays wrap wrapped (Ok key) → Unwraps wrap wrapped held [] (Ok key) held
  refused : {code : Code} → WrappedSays wrap wrapped (Err code) → Unwraps wrap wrapped held [] (Err (Agent code)) held
  no_memory : Unwraps wrap wrapped held (out_of_memory ∷ []) (Err (Agent code.NoMemory)) held

-- the client is told the limit, and sends a key that is wrapped under this wrapping key
abbrev pub ReceivesKey : (wrap : List ℕ) → Action Key
ReceivesKey wrap = do
  told ← Writes (limit_line max_key_data)
  wrapped ← AsksKeyData
  Unwraps wrap wrapped

-- a key is named by the grip of its public list
pub data NamesKey (key : Key) (held : Option ℕ) : List Event → Result Grip Refusal → Option ℕ → Type 0 where
  named : {grip : Grip} → grip.0 ≡ grip_of key → NamesKey key held [] (Ok grip) held
  no_memory : NamesKey key held (out_of_memory ∷ []) (Err (Agent code.NoMemory)) held

-- a file that is there isn't replaced, unless that is wanted
abbrev pub IsFree : (force : Bool) → Grip → Action (Unit {0})
IsFree true grip = Returns tt
IsFree false grip = do
  there ← Finds grip
  wanted code.FileExists (not there)

-- what is cached under a nonce, where there is one. A look that is replied Stopping finds nothing here.
pub data LooksOver : Option (List ℕ) → Option ℕ → List Event → Result (Option (List ℕ)) Refusal → Option ℕ → Type 0 where
  no_nonce : {held : Option ℕ} → LooksOver None held [] (Ok None) held
  given : {nonce : List ℕ} {held : Option ℕ} {grant : Grant} → FitsStep (ask_nonce nonce) (Given grant) → LooksOver (Some nonce) held (cache_turn (ask_nonce nonce) (Given grant) ∷ []) (Ok (Some grant.entry.secret)) held
  empty : {nonce : List ℕ} {held : Option ℕ} → LooksOver (Some nonce) held (cache_turn (ask_nonce nonce) Empty ∷ []) (Ok None) held
  stopping : {nonce : List ℕ} {held : Option ℕ} → LooksOver (Some nonce) held (cache_turn (ask_nonce nonce) Stopping ∷ []) (Ok None) held
  no_memory : {nonce : List ℕ} {held : Option ℕ} → LooksOver (Some nonce) held (cache_turn (ask_nonce nonce) Refused ∷ []) (Err (Agent code.NoMemory)) held

-- ---- EXPORT_KEY

-- a clear key is wrapped
pub data WrapsKey (wrap : List ℕ) (key : Key) (held : Option ℕ) : List Event → Result (List ℕ) Refusal → Option ℕ → Type 0 where
  is_wrapped : WrapsKey wrap key held [] (Ok (wrapped_key wrap key)) held
  no_memory : WrapsKey wrap key held (out_of_memory ∷ []) (Err (Agent code.NoMemory)) held

-- ---- DELETE_KEY

module _ (rules : Rules) (options : OptionValues) where
  -- the user agrees that this key is deleted
  abbrev pub Agrees : Grip → Action (Unit {0})
  Agrees grip = AgreesTo session_lines rules options (described options.description (delete_description grip))

  -- the user agrees that a key is deleted, unless nobody is to be asked
  abbrev pub Consents : (force : Bool) → Grip → Action (Unit {0})
  Consents true grip = Returns tt
  Consents false grip = in_mode options.mode (Agrees grip)
