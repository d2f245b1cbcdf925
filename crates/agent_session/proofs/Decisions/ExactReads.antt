-- Reads of a key's file, and keys that a client sent, by which a request is refused.
use Rattle.std.{specs.{List.AllByRecursion, Prelude.not}, proofs.Common.{◌≡◌, ◌∙◌, ◌⊎◌, ℕ, Bool, true, false, List, codes, Option, Some, None, Result, Ok, Err, sym, ap, subst, inl, inr, []}}
use Rattle.{agent_ports.specs.declared.{grip.Grip.Grip, keys.{KeyDone.KeyDone, KeyRead.KeyRead}}, assuan_server.specs.Written.{failed, refusal_line}, session_client.specs.declared.{code.Code.Code, refusal.Refusal.Refusal}}
use Rattle.{session_client.specs.declared.refusal.Refusal.TheVariants.Agent, key_lines.specs.Canon.Canon, secret_file.specs.Answers.IsLockedFault, sexp_keys.specs.{Key.Key, declared.fault.KeyFault.KeyFault}}
use Rattle.key_commands.specs.{Lines.max_key_data, Events.Event, Faults.fault_code, Files.FileSays, KeyActions.{ReadsFile, Removes, IsFree, AsksKeyData, Unwraps, ReceivesKey, file_in, change_fault}, Actions.{Finds, read_fault}}
use Rattle.{key_commands.specs.{Passphrases.Locks, Wrapping.WrappedSays}, agent_ask.specs.Session.Actions.{wanted, refuses, returns}}
use Rattle.agent_session.{specs.Completeness.Remembers, proofs.Decisions.ExactFiles.{one_says, one_locked_fault, no_locked_fault, one_wrapped}}
use Rattle.agent_session.proofs.Decisions.ExactActions.{Deciding, IsDecided, never_decided, NoneDue, NoneOwed, SaysTo, Heeds, bind, decided_only, inquires_of, IsSaidAlone, free, said_alone}
use Rattle.agent_ports.specs.declared.keys.KeyDone.TheVariants as key_done
use Rattle.agent_ports.specs.declared.keys.KeyRead.TheVariants as key_read
use Rattle.session_client.specs.declared.code.Code.TheVariants as code
use Rattle.key_commands.specs.KeyActions as actions
use Rattle.key_commands.specs.Actions as small
use Rattle.key_commands.specs.Passphrases as passphrases
use Rattle.agent_session.proofs.Courses.Works as work

-- the line of a code is that of the same code
same_line : {one other : Code} → one ≡ other → refusal_line (Agent one) ≡ Some (failed other)
same_line is = ap (λ c. Some (failed c)) is

-- ---- keys' files

-- what wrapped bytes are refused by
abbrev pub SentRefuses : Option (List ℕ) → List ℕ → Code → Type 0
SentRefuses None bytes why = ⊥
SentRefuses (Some wrap) bytes why = WrappedSays wrap bytes (Err why)

-- the protection of a key has a fault that is answered so
pub record IsUnlockable (key : Key) (why : Code) : Type 0 where
  pub fault : KeyFault
  pub closed : key.is_clear ≡ false
  pub is : IsLockedFault key fault
  pub code_is : fault_code fault ≡ why

-- how a request is refused by a read of the file: it isn't there, or has a fault; or what it says is refused behind it
pub data FileRefuses (Owes : Key → Code → Type 0) (file : List ℕ) (why : Code) : Type 0 where
  faulty : {fault : KeyFault} → FileSays file (Err fault) → fault_code fault ≡ why → FileRefuses Owes file why
  owes : {key : Key} → FileSays file (Ok key) → Owes key why → FileRefuses Owes file why

abbrev pub ReadRefuses : (Key → Code → Type 0) → KeyRead → Code → Type 0
ReadRefuses Owes (key_read.Found file) why = FileRefuses Owes file.items why
ReadRefuses Owes key_read.Absent why = code.NoSecKey ≡ why
ReadRefuses Owes _ why = ⊥

pub read_refuses : (Owes : Key → Code → Type 0) (answer : KeyRead) (bytes : List ℕ) {why : Code} → file_in answer ≡ Some bytes → FileRefuses Owes bytes why → ReadRefuses Owes answer why
read_refuses Owes (key_read.Found found) bytes {why} is refuses_so = let same : found.items ≡ bytes = cc is in subst (λ b. FileRefuses Owes b why) (sym same) refuses_so
read_refuses Owes key_read.Absent bytes is refuses_so = absurd (cc is)
read_refuses Owes key_read.Failed bytes is refuses_so = absurd (cc is)
read_refuses Owes key_read.NoMemory bytes is refuses_so = absurd (cc is)

-- nothing but what the client said, and the bytes of a key that it sent
abbrev pub by_said : Option (List ℕ) → Deciding
by_said wrap = record { sent = SentRefuses wrap; reads = λ grip answer why. ⊥; removed = λ answer why. ⊥; trust = λ call why. ⊥ }

abbrev pub NoFault : Key → Code → Type 0
NoFault key why = ⊥

abbrev pub by_file : Option (List ℕ) → (Key → Code → Type 0) → Deciding
by_file wrap Owes = record { sent = SentRefuses wrap; reads = λ grip answer why. ReadRefuses Owes answer why; removed = λ answer why. ⊥; trust = λ call why. ⊥ }

module _ (one_canon : (file : List ℕ) (a b : Option (List ℕ)) → Canon file a → Canon file b → a ≡ b) (wrap : Option (List ℕ)) (Owes : Key → Code → Type 0) where
  is_owed : (file : List ℕ) (key : Key) (why : Code) → FileSays file (Ok key) → FileRefuses Owes file why → Owes key why
  is_owed file key why says (faulty {fault} says_other is) = let e : Ok key ≡ Err fault = one_says one_canon file (Ok key) (Err fault) says says_other in absurd (cc e)
  is_owed file key why says (owes {key = other} says_other owed) =
      let e : Ok other ≡ Ok key = one_says one_canon file (Ok other) (Ok key) says_other says in
      let same : other ≡ key = cc in
      subst (λ k. Owes k why) same owed

  is_faulty : (file : List ℕ) (fault : KeyFault) (why : Code) → FileSays file (Err fault) → FileRefuses Owes file why → fault_code fault ≡ why
  is_faulty file fault why says (faulty {fault = other} says_other is) =
      let e : Err fault ≡ Err other = one_says one_canon file (Err fault) (Err other) says says_other in
      let same : fault ≡ other = cc in
      ap (λ f. fault_code f) same ∙ is
  is_faulty file fault why says (owes {key} says_other owed) = let e : Ok key ≡ Err fault = one_says one_canon file (Ok key) (Err fault) says_other says in absurd (cc e)

  found_owed : (answer : KeyRead) (file : List ℕ) (key : Key) (why : Code) → file_in answer ≡ Some file → FileSays file (Ok key) → ReadRefuses Owes answer why → Owes key why
  found_owed (key_read.Found bytes) file key why is says refuses_so = let same : bytes.items ≡ file = cc is in is_owed file key why says (subst (λ f. FileRefuses Owes f why) same refuses_so)
  found_owed key_read.Absent file key why is says refuses_so = absurd (cc is)
  found_owed key_read.Failed file key why is says refuses_so = absurd (cc is)
  found_owed key_read.NoMemory file key why is says refuses_so = absurd (cc is)

  found_faulty : (answer : KeyRead) (file : List ℕ) (fault : KeyFault) (why : Code) → file_in answer ≡ Some file → FileSays file (Err fault) → ReadRefuses Owes answer why → fault_code fault ≡ why
  found_faulty (key_read.Found bytes) file fault why is says refuses_so = let same : bytes.items ≡ file = cc is in is_faulty file fault why says (subst (λ f. FileRefuses Owes f why) same refuses_so)
  found_faulty key_read.Absent file fault why is says refuses_so = absurd (cc is)
  found_faulty key_read.Failed file fault why is says refuses_so = absurd (cc is)
  found_faulty key_read.NoMemory file fault why is says refuses_so = absurd (cc is)

  unread_so : (answer : KeyRead) (given why : Code) → read_fault answer ≡ Some given → ReadRefuses Owes answer why → given ≡ why
  unread_so (key_read.Found bytes) given why is refuses_so = absurd (cc is)
  unread_so key_read.Absent given why is refuses_so = let same : code.NoSecKey ≡ given = cc is in sym same ∙ refuses_so
  unread_so key_read.Failed given why is refuses_so = absurd refuses_so
  unread_so key_read.NoMemory given why is refuses_so = absurd refuses_so

  pub reads_file : (grip : Grip) → Heeds (by_file wrap Owes) NoneDue (ReadsFile grip) (λ file why. Owes file.key why)
  reads_file grip before events result after does remembers why (inl due) = absurd due
  reads_file grip before events result after (actions.is_key {answer} {file} {key} is says) remembers why (inr decided) = found_owed answer file key why is says (decided_only (by_file wrap Owes) decided)
  reads_file grip before events result after (actions.faulty {answer} {file} {fault} is says) remembers why (inr decided) =
      same_line (found_faulty answer file fault why is says (decided_only (by_file wrap Owes) decided))
  reads_file grip before events result after (actions.no_memory is) remembers why (inr decided) = absurd (remembers.1.0 tt)
  reads_file grip before events result after (actions.unread {answer} {code = given} is) remembers why (inr decided) = same_line (unread_so answer given why is (decided_only (by_file wrap Owes) decided))

-- the fault of its protection is due
module _ (deciding : Deciding) (key : Key) where
  pub locks : Heeds deciding (IsUnlockable key) (Locks key) NoneOwed
  locks before events result after (passphrases.is_locked {locked} same is) remembers why (inl due) =
      no_locked_fault locked due.fault is (subst (λ k. IsLockedFault k due.fault) (sym same) due.is)
  locks before events result after (passphrases.is_locked same is) remembers why (inr decided) = never_decided deciding [] tt decided
  locks before events result after (passphrases.has_fault {fault} is) remembers why (inl due) = same_line (ap (λ f. fault_code f) (one_locked_fault key fault due.fault due.closed is due.is) ∙ due.code_is)
  locks before events result after (passphrases.has_fault is) remembers why (inr decided) = absurd (never_decided deciding [] tt decided)
  locks before events result after passphrases.no_memory remembers why due = absurd (remembers.0 tt)

-- ---- keys that are deleted

abbrev pub AbsentRefuses : KeyRead → Code → Type 0
AbsentRefuses key_read.Absent why = code.NoSecKey ≡ why
AbsentRefuses _ why = ⊥

abbrev pub RemovalRefuses : KeyDone → Code → Type 0
RemovalRefuses key_done.Absent why = code.NoSecKey ≡ why
RemovalRefuses _ why = ⊥

abbrev pub by_absence : Option (List ℕ) → Deciding
by_absence wrap = record { sent = SentRefuses wrap; reads = λ grip answer why. AbsentRefuses answer why; removed = RemovalRefuses; trust = λ call why. ⊥ }

-- it isn't there
abbrev pub IsLacking : Bool → Code → Type 0
IsLacking true why = ⊥
IsLacking false why = code.NoSecKey ≡ why

module _ (wrap : Option (List ℕ)) where
  abbrev ByAbsence : Deciding
  ByAbsence = by_absence wrap

  pub finds : (grip : Grip) → Heeds (by_absence wrap) NoneDue (Finds grip) IsLacking
  finds grip before events result after does remembers why (inl due) = absurd due
  finds grip before events result after small.found remembers why (inr decided) = decided_only ByAbsence decided
  finds grip before events result after small.absent remembers why (inr decided) = decided_only ByAbsence decided
  finds grip before events result after small.faulted remembers why (inr decided) = absurd (decided_only ByAbsence decided)
  finds grip before events result after small.no_memory remembers why (inr decided) = absurd (decided_only ByAbsence decided)

  pub is_there : (there : Bool) → Heeds (by_absence wrap) (IsLacking there) (wanted code.NoSecKey there) NoneOwed
  is_there true before events result after returns remembers why (inl due) = due
  is_there true before events result after returns remembers why (inr decided) = never_decided ByAbsence [] tt decided
  is_there false before events result after refuses remembers why (inl due) = same_line due
  is_there false before events result after refuses remembers why (inr decided) = absurd (never_decided ByAbsence [] tt decided)

  unremoved : (answer : KeyDone) (given why : Code) → change_fault answer ≡ Some given → RemovalRefuses answer why → given ≡ why
  unremoved key_done.Done given why is refuses_so = absurd refuses_so
  unremoved key_done.Absent given why is refuses_so = let same : code.NoSecKey ≡ given = cc is in sym same ∙ refuses_so
  unremoved key_done.Failed given why is refuses_so = absurd refuses_so
  unremoved key_done.NoMemory given why is refuses_so = absurd refuses_so

  pub removes : (grip : Grip) → Heeds (by_absence wrap) NoneDue (Removes grip) NoneOwed
  removes grip before events result after does remembers why (inl due) = absurd due
  removes grip before events result after actions.done remembers why (inr decided) = decided_only ByAbsence decided
  removes grip before events result after (actions.not_done {answer} {code = given} is) remembers why (inr decided) = same_line (unremoved answer given why is (decided_only ByAbsence decided))

-- ---- keys that come in

-- a file that was found is there, where it isn't to be replaced
abbrev pub FoundRefuses : (force : Bool) → KeyRead → Code → Type 0
FoundRefuses false (key_read.Found file) why = code.FileExists ≡ why
FoundRefuses _ _ why = ⊥

abbrev pub by_import : (force : Bool) → Option (List ℕ) → Deciding
by_import force wrap = record { sent = SentRefuses wrap; reads = λ grip answer why. FoundRefuses force answer why; removed = λ answer why. ⊥; trust = λ call why. ⊥ }

module _ (force : Bool) (wrap : List ℕ) where
  abbrev ByImport : Deciding
  ByImport = by_import force (Some wrap)

  -- the bytes that were sent are due
  asks_key_data_of : (before : Option ℕ) (events : List Event) (result : Result (List ℕ) Refusal) (after : Option ℕ) → AsksKeyData before events result after → AllByRecursion Remembers events
      → (why : Code) → NoneDue why ⊎ IsDecided ByImport events why → SaysTo (λ bytes why. SentRefuses (Some wrap) bytes why) result why
  asks_key_data_of before events (Ok bytes) after (actions.asked does) remembers why due = (inquires_of ByImport (codes "KEYDATA") max_key_data before events (Ok bytes) before does remembers why due).1
  asks_key_data_of before events (Err refusal) after (actions.asked does) remembers why due = inquires_of ByImport (codes "KEYDATA") max_key_data before events (Err refusal) before does remembers why due
  asks_key_data_of before events result after (actions.no_memory at_end) remembers why due = absurd (remembers.1.0 tt)

  unwraps_of : (wrapped : List ℕ) (before : Option ℕ) (events : List Event) (result : Result Key Refusal) (after : Option ℕ) → Unwraps wrap wrapped before events result after → AllByRecursion Remembers events
      → (why : Code) → SentRefuses (Some wrap) wrapped why ⊎ IsDecided ByImport events why → SaysTo NoneOwed result why
  unwraps_of wrapped before events result after (actions.is_key {key} says) remembers why (inl due) = let e : Ok key ≡ Err why = one_wrapped wrap wrapped (Ok key) (Err why) says due in cc e
  unwraps_of wrapped before events result after (actions.is_key says) remembers why (inr decided) = never_decided ByImport [] tt decided
  unwraps_of wrapped before events result after (actions.refused {code = given} says) remembers why (inl due) =
      let e : Err given ≡ Err why = one_wrapped wrap wrapped (Err given) (Err why) says due in
      let same : given ≡ why = cc in
      same_line same
  unwraps_of wrapped before events result after (actions.refused says) remembers why (inr decided) = absurd (never_decided ByImport [] tt decided)
  unwraps_of wrapped before events result after actions.no_memory remembers why due = absurd (remembers.0 tt)

  pub receives_key : Heeds ByImport NoneDue (ReceivesKey wrap) NoneOwed
  receives_key =
      bind ByImport NoneOwed (said_alone ByImport NoneOwed (work.keeps_works (IsSaidAlone ByImport) (work.writes (IsSaidAlone ByImport) (λ text. free ByImport) (free ByImport))))
      (λ told. bind ByImport (λ bytes why. SentRefuses (Some wrap) bytes why) asks_key_data_of (λ wrapped. unwraps_of wrapped))

module _ (wrap : List ℕ) where
  -- it is there
  abbrev IsTaken : Bool → Code → Type 0
  IsTaken true why = code.FileExists ≡ why
  IsTaken false why = ⊥

  abbrev Unforced : Deciding
  Unforced = by_import false (Some wrap)

  looks_of : (grip : Grip) (before : Option ℕ) (events : List Event) (result : Result Bool Refusal) (after : Option ℕ) → Finds grip before events result after → AllByRecursion Remembers events
      → (why : Code) → NoneDue why ⊎ IsDecided Unforced events why → SaysTo IsTaken result why
  looks_of grip before events result after does remembers why (inl due) = absurd due
  looks_of grip before events result after small.found remembers why (inr decided) = decided_only Unforced decided
  looks_of grip before events result after small.absent remembers why (inr decided) = decided_only Unforced decided
  looks_of grip before events result after small.faulted remembers why (inr decided) = absurd (decided_only Unforced decided)
  looks_of grip before events result after small.no_memory remembers why (inr decided) = absurd (decided_only Unforced decided)

  is_free_of : (there : Bool) (before : Option ℕ) (events : List Event) (result : Result (Unit {0}) Refusal) (after : Option ℕ) → wanted code.FileExists (not there) before events result after
      → AllByRecursion Remembers events → (why : Code) → IsTaken there why ⊎ IsDecided Unforced events why → SaysTo NoneOwed result why
  is_free_of true before events result after refuses remembers why (inl due) = same_line due
  is_free_of true before events result after refuses remembers why (inr decided) = absurd (never_decided Unforced [] tt decided)
  is_free_of false before events result after returns remembers why (inl due) = due
  is_free_of false before events result after returns remembers why (inr decided) = never_decided Unforced [] tt decided

  pub is_free : (force : Bool) (grip : Grip) → Heeds (by_import force (Some wrap)) NoneDue (IsFree force grip) NoneOwed
  is_free true grip = said_alone (by_import true (Some wrap)) NoneOwed (work.returned (IsSaidAlone (by_import true (Some wrap))) tt)
  is_free false grip = bind Unforced IsTaken (looks_of grip) (λ there. is_free_of there)
