-- Requests on the trust list: what decides one is what it is refused by.
use Rattle.std.{specs.List.AllByRecursion, proofs.Common.{◌≡◌, ◌⊎◌, ◌∙◌, ◌<◌, ℕ, Bool, true, false, List, ◌∷◌, length, Option, Some, None, Result, Ok, arith, refl, sym, ap, subst, inl, inr, []}}
use Rattle.{agent_ask.specs.{Session.{Actions.Refuses, TrustCalls.{TrustCall, Read, Replaced}}, ConsentActions.AgreesTo}, assuan_server.specs.{Written.{ok, failed, refusal_line}, declared.errors.Origin.TheVariants.Agent as OfAgent}}
use Rattle.{assuan_server.specs.Clients.session_lines, agent_commands.specs.declared.went.Went.Went, agent_ports.specs.declared.{grip.Grip.Grip, trust.{TrustDone.TrustDone, TrustRead.TrustRead}}}
use Rattle.{session_client.specs.declared.{code.Code.Code, refusal.Refusal.Refusal}, session_options.specs.{OptionValues.OptionValues, declared.{options.PinMode.PinMode, rules.Rules.Rules}}, trust_list.specs.Trust.{trust, with_entry}}
use Rattle.trust_list.specs.declared.TheConstants.{MAX_TRUST_FILE_LEN}
use Rattle.agent_origin.specs.TrustExchanges.{flag_of, trust_question, fingerprint_question, unless_said, TrustedNow, Stores, StoresUnsaid, Consented, asked_in, Marked, Carried, TrustExchange}
use Rattle.agent_origin.specs.{TrustActions.{ReadsFile, AddsEntry, Replaces, file_in, trust_called}, declared.trust.request.{TrustPurpose.TrustPurpose, TrustRequest.{TrustRequest, TheVariants.{IsTrusted, MarkTrusted, Bad}}}}
use Rattle.key_commands.specs.{Events.Event, Actions.Action}
use Rattle.agent_session.{specs.Completeness.{Remembers, HasError}, proofs.Decisions.ExactReads.by_said}
use Rattle.agent_session.proofs.Decisions.ExactActions.{Deciding, IsDecided, never_decided, decided_only, NoneDue, NoneOwed, SaysTo, Heeds, bind, refuses_due, IsSaidAlone, free, said_alone, fits_keys, never_ok, error_said}
use Rattle.agent_session.proofs.{Decisions.TrustTold.{Told, told}, Courses.{PromptWorks.agrees_to, Works.{WorksTo, works, one_works, refused_by, WorksSo, Keeps, keeps_works, returned, refuses_by, turns_of}}}
use Rattle.agent_ask.specs.Session.Actions as chain
use Rattle.agent_ports.specs.declared.trust.TrustRead.TheVariants as trust_read
use Rattle.session_client.specs.declared.code.Code.TheVariants as code
use Rattle.session_options.specs.declared.options.PinMode.TheVariants as mode
use Rattle.agent_origin.specs.TrustActions as actions
use Rattle.agent_session.proofs.Courses.Works as work
use Rattle.agent_session.proofs.Decisions.TrustTold as telling

module _ (deciding : Deciding) where
  abbrev Alone : Event → Type 0
  Alone = IsSaidAlone deciding

  alone : {A : Type 0} {action : Action A} → WorksSo Alone action → Heeds deciding NoneDue action NoneOwed
  alone actions_work = said_alone deciding NoneOwed actions_work

  so : {A : Type 0} {action : Action A} → Keeps Alone action → Heeds deciding NoneDue action NoneOwed
  so keeps = alone (keeps_works Alone keeps)

  refused : {A : Type 0} (refusal : Refusal) → Heeds deciding NoneDue (Refuses {A = A} refusal) NoneOwed
  refused refusal = alone (refuses_by Alone refusal)

  agrees : (rules : Rules) (options : OptionValues) (question : List ℕ) → Heeds deciding NoneDue (AgreesTo session_lines rules options question) NoneOwed
  agrees rules options question = alone (agrees_to Alone (fits_keys deciding).calls (fits_keys deciding).notes rules options question)

  -- the user is asked twice, and then an action is done
  module _ (rules : Rules) (options : OptionValues) (fingerprint : Grip) (purpose : TrustPurpose) (name : List ℕ) (stores : Heeds deciding NoneDue (StoresUnsaid fingerprint purpose) NoneOwed) where
    consented : Heeds deciding NoneDue (Consented rules options fingerprint purpose name) NoneOwed
    unfolding Consented
    consented = bind deciding NoneOwed (agrees rules options (trust_question name)) (λ trusted. bind deciding NoneOwed (agrees rules options (fingerprint_question fingerprint name)) (λ right. stores))

    asked_so : (way : PinMode) → Heeds deciding NoneDue (asked_in rules options fingerprint purpose name way) NoneOwed
    asked_so mode.Ask = bind deciding NoneOwed (alone (work.seats Alone (turns_of Alone refl (λ turn. free deciding)))) (λ seated. consented)
    asked_so mode.Cancel = refused _
    asked_so mode.Error = refused _
    asked_so mode.Loopback = refused _

  unless : (said : Option Bool) {other : Action (Unit {0})} → Heeds deciding NoneDue other NoneOwed → Heeds deciding NoneDue (unless_said said other) NoneOwed
  unless (Some true) other = alone (returned Alone tt)
  unless (Some false) other = refused _
  unless None other = other

  -- a file that is stored, whatever it is, decides nothing
  replaces_so : ((file : List ℕ) (answer : TrustDone) (why : Code) → deciding.trust (Replaced file answer) why → ⊥) → (file : List ℕ) → Keeps Alone (Replaces file)
  replaces_so never file _ _ _ _ actions.replaced = (one_works Alone (never file _) refl refl, refl)
  replaces_so never file _ _ _ _ actions.faulted = (refused_by Alone (never file _) refl refl, refl)
  replaces_so never file _ _ _ _ actions.no_memory = (refused_by Alone (never file _) refl refl, refl)

-- ---- what the client said

abbrev BySaid : Deciding
BySaid = by_said None

reads_so : Keeps (Alone BySaid) ReadsFile
reads_so _ _ _ _ (actions.has_read {answer} is) = (has_read answer is, refl)
  where
    has_read : (answer : TrustRead) {file : List ℕ} → file_in answer ≡ Some file → WorksTo (Alone BySaid) (trust_called (Read answer) ∷ []) (Ok file)
    has_read (trust_read.Found file) is = one_works (Alone BySaid) (free BySaid) refl refl
    has_read trust_read.Absent is = one_works (Alone BySaid) (free BySaid) refl refl
    has_read trust_read.Failed is = absurd (cc is)
    has_read trust_read.NoMemory is = absurd (cc is)
reads_so _ _ _ _ actions.faulted = (refused_by (Alone BySaid) (free BySaid) refl refl, refl)
reads_so _ _ _ _ actions.no_memory = (refused_by (Alone BySaid) (free BySaid) refl refl, refl)

reads : Heeds BySaid NoneDue ReadsFile NoneOwed
reads = so BySaid reads_so

adds_so : (file : List ℕ) (fingerprint : Grip) (flag : ℕ) → Keeps (Alone BySaid) (AddsEntry file fingerprint flag)
adds_so file fingerprint flag _ _ _ _ (actions.added fits) = (works (Alone BySaid) tt, refl)
adds_so file fingerprint flag _ _ _ _ (actions.too_long long) = (works (Alone BySaid) tt, refl)
adds_so file fingerprint flag _ _ _ _ actions.no_memory = (work.no_memory (Alone BySaid) (free BySaid), refl)

stores : (fingerprint : Grip) (purpose : TrustPurpose) (file : List ℕ) → Heeds BySaid NoneDue (Stores fingerprint purpose file) NoneOwed
unfolding Stores
stores fingerprint purpose file =
    bind BySaid NoneOwed (so BySaid (adds_so file fingerprint (flag_of purpose))) (λ new. so BySaid (replaces_so BySaid (λ file answer why none. none) new))

stores_unsaid : (fingerprint : Grip) (purpose : TrustPurpose) → Heeds BySaid NoneDue (StoresUnsaid fingerprint purpose) NoneOwed
unfolding StoresUnsaid
stores_unsaid fingerprint purpose = bind BySaid NoneOwed reads (λ file. unless BySaid (trust file fingerprint.0) (stores fingerprint purpose file))

trusted_now : (fingerprint : Grip) → Heeds BySaid NoneDue (TrustedNow fingerprint) NoneOwed
unfolding TrustedNow
trusted_now fingerprint = bind BySaid NoneOwed reads (λ file. unless BySaid (trust file fingerprint.0) (refused BySaid _))

marked : (rules : Rules) (options : OptionValues) (fingerprint : Grip) (purpose : TrustPurpose) (name : List ℕ) → Heeds BySaid NoneDue (Marked rules options fingerprint purpose name) NoneOwed
unfolding Marked
marked rules options fingerprint purpose name =
    bind BySaid NoneOwed reads (λ file. unless BySaid (trust file fingerprint.0) (asked_so BySaid rules options fingerprint purpose name (stores_unsaid fingerprint purpose) options.mode))

-- a line that is out of form
abbrev pub due_trust : TrustRequest → Code → Type 0
due_trust (Bad given) why = given ≡ why
due_trust _ why = ⊥

carried : (rules : Rules) (options : OptionValues) (request : TrustRequest) → Heeds BySaid (due_trust request) (Carried rules options request) NoneOwed
carried rules options (IsTrusted fingerprint) = trusted_now fingerprint
carried rules options (MarkTrusted fingerprint purpose name) = marked rules options fingerprint purpose name.items
carried rules options (Bad given) = refuses_due BySaid given

-- ---- a file that is too long

module _ (fingerprint : Grip) (purpose : TrustPurpose) where
  -- it says nothing, and is too long with the new entry
  abbrev pub IsLong : List ℕ → Code → Type 0
  IsLong file why = (trust file fingerprint.0 ≡ None) × (MAX_TRUST_FILE_LEN < length (with_entry file fingerprint.0 (flag_of purpose))) × (code.TooMuch ≡ why)

  abbrev pub ReadRefuses : TrustCall → Code → Type 0
  ReadRefuses (Read answer) why = (file : List ℕ) × (file_in answer ≡ Some file) × IsLong file why
  ReadRefuses (Replaced file answer) why = ⊥

  abbrev pub ByLong : Deciding
  ByLong = record { sent = λ bytes why. ⊥; reads = λ grip answer why. ⊥; removed = λ answer why. ⊥; trust = ReadRefuses }

  long_of : (before : Option ℕ) (events : List Event) (result : Result (List ℕ) Refusal) (after : Option ℕ) → ReadsFile before events result after → AllByRecursion Remembers events → (why : Code)
      → NoneDue why ⊎ IsDecided ByLong events why → SaysTo IsLong result why
  long_of before events result after does remembers why (inl due) = absurd due
  long_of before events result after (actions.has_read {file} is) remembers why (inr decided) =
      let long = decided_only ByLong decided in
      let found : Some long.0 ≡ Some file = sym long.1 ∙ is in
      let same : long.0 ≡ file = cc in
      subst (λ f. IsLong f why) same long.2
  long_of before events result after actions.faulted remembers why (inr decided) = let long = decided_only ByLong decided in absurd (cc (long.1))
  long_of before events result after actions.no_memory remembers why (inr decided) = let long = decided_only ByLong decided in absurd (cc (long.1))

  adds_long_of : (file : List ℕ) (before : Option ℕ) (events : List Event) (result : Result (List ℕ) Refusal) (after : Option ℕ) → AddsEntry file fingerprint (flag_of purpose) before events result after
      → AllByRecursion Remembers events → (why : Code) → IsLong file why ⊎ IsDecided ByLong events why → SaysTo NoneOwed result why
  adds_long_of file before events result after (actions.added fits) remembers why (inl long) = let many = long.1 in let no : ⊥ = omega arith in no
  adds_long_of file before events result after (actions.added fits) remembers why (inr decided) = never_decided ByLong [] tt decided
  adds_long_of file before events result after (actions.too_long many) remembers why (inl long) = ap (λ c. Some (failed c)) long.2
  adds_long_of file before events result after (actions.too_long many) remembers why (inr decided) = absurd (never_decided ByLong [] tt decided)
  adds_long_of file before events result after actions.no_memory remembers why due = absurd (remembers.0 tt)

  stores_long : (file : List ℕ) → Heeds ByLong (IsLong file) (Stores fingerprint purpose file) NoneOwed
  unfolding Stores
  stores_long file =
      bind ByLong NoneOwed (adds_long_of file) (λ new. so ByLong (replaces_so ByLong (λ file answer why none. none) new))

  unless_long_of : (file : List ℕ) (said : Option Bool) → trust file fingerprint.0 ≡ said → (before : Option ℕ) (events : List Event) (result : _) (after : Option ℕ)
      → unless_said said (Stores fingerprint purpose file) before events result after
      → AllByRecursion Remembers events → (why : Code) → IsLong file why ⊎ IsDecided ByLong events why → SaysTo NoneOwed result why
  unless_long_of file None is before events result after does remembers why due = stores_long file before events result after does remembers why due
  unless_long_of file (Some true) is before events result after chain.returns remembers why (inl long) = cc (is, long.0)
  unless_long_of file (Some true) is before events result after chain.returns remembers why (inr decided) = never_decided ByLong [] tt decided
  unless_long_of file (Some false) is before events result after chain.refuses remembers why (inl long) = absurd (cc (is, long.0))
  unless_long_of file (Some false) is before events result after chain.refuses remembers why (inr decided) = absurd (never_decided ByLong [] tt decided)

  stores_unsaid_long : Heeds ByLong NoneDue (StoresUnsaid fingerprint purpose) NoneOwed
  unfolding StoresUnsaid
  stores_unsaid_long = bind ByLong IsLong long_of (λ file. unless_long_of file (trust file fingerprint.0) refl)

  -- what decides MARKTRUSTED stands behind its first read
  pub marked_long : (rules : Rules) (options : OptionValues) (name : List ℕ) (before : Option ℕ) (events : List Event) (result : _) (after : Option ℕ)
      → Marked rules options fingerprint purpose name before events result after → AllByRecursion Remembers events
      → (why : Code) (first : Event) (more : List Event) → events ≡ first ∷ more → IsDecided ByLong more why → SaysTo NoneOwed result why
  unfolding Marked
  marked_long rules options name before events result after (chain.goes_on {events = rest} {value = file} (actions.has_read is) does) remembers why first more same decided =
      let rest_is : more ≡ rest = cc same in
      unless ByLong (trust file fingerprint.0) (asked_so ByLong rules options fingerprint purpose name stores_unsaid_long options.mode) before rest result after does remembers.1 why
      (inr (subst (λ m. IsDecided ByLong m why) rest_is decided))
  marked_long rules options name before events result after (chain.stops actions.faulted) remembers why first more same decided =
      let none : more ≡ [] = cc same in absurd (never_decided ByLong [] tt (subst (λ m. IsDecided ByLong m why) none decided))
  marked_long rules options name before events result after (chain.stops actions.no_memory) remembers why first more same decided =
      let none : more ≡ [] = cc same in absurd (never_decided ByLong [] tt (subst (λ m. IsDecided ByLong m why) none decided))

-- ---- the answer

module _ (rules : Rules) (options : OptionValues) where
  told_answered : (request : TrustRequest) {events : List Event} {went : Went} → Told rules options request events went → AllByRecursion Remembers events → (why : Code)
      → due_trust request why ⊎ IsDecided BySaid events why → HasError why OfAgent events
  told_answered request (telling.answered events back does closes) remembers why due = absurd (never_ok BySaid (carried rules options request) why (Some ok) closes remembers due does)
  told_answered request (telling.refused events back refusal does closes) remembers why due = error_said BySaid (carried rules options request) why (refusal_line refusal) closes remembers due refl does

  pub trust_answered : (request : TrustRequest) {events : List Event} {went : Went} → TrustExchange rules options request events went → AllByRecursion Remembers events → (why : Code)
      → due_trust request why ⊎ IsDecided BySaid events why → HasError why OfAgent events
  trust_answered request exchanged = told_answered request (told rules options request exchanged)
