-- New trust files: each has its two consents.
use Rattle.std.{proofs.{Common.{◌≡◌, ◌≤◌, ℕ, Bool, true, false, List, [], ◌∷◌, ◌++◌, length, Option, None, Some, Result, Ok, Err, refl, ap, sym, ◌∙◌, subst}, lemmas.List.{append_assoc, append-nil}}, specs.List.AllByRecursion}
use Rattle.{arrayvec.specs.ArrayVec.ArrayVec, agent_ask.specs.{Session.{Answering.{WholeOrCut, whole, cut}, ActionExchanges.{AnyExchange, answered, refused}}, ConsentActions.{AgreesTo, consents, refused as dissents}}}
use Rattle.agent_ask.specs.Session.{Actions.{Follows, goes_on, stops, returns, Refuses, refuses}, SessionEvents.{Received, Sent, Cut, cache_turn, CutAtLast, said_last}, TrustCalls.Read, TurnActions.{Seats, opened, Closes, closed}}
use Rattle.agent_commands.specs.{Endings.went_after, Exchanges.CacheReply, Requests.request_of, Talks.{Talk, over, ended, spent, read_fault, too_long as talk_too_long, cut_too_long, Session as SessionOf, greeted, cut_greeting}}
use Rattle.{agent_commands.specs.declared.went.{SessionEnd.SessionEnd, Went.Went}, agent_ports.specs.declared.{grip.Grip.Grip, trust.TrustRead.TrustRead}, assuan_server.specs.{Clients.session_lines, Written.{failed, refusal_line}}}
use Rattle.{cache_policy.specs.{Turns.{Turn, Open}, declared.mark.MarkStep.TheVariants.{Seat, Close}}, key_commands.{specs.{Events.Event, Actions.Action}, proofs.{EachEvent.{each_seats, each_answer}, EachRequest.IsBesideTrust}}}
use Rattle.{session_client.specs.declared.{code.Code.TheVariants.LineTooLong, refusal.Refusal.{Refusal, TheVariants.Agent}}, session_options.specs.{OptionValues.OptionValues, declared.{options.PinMode.PinMode, rules.Rules.Rules}}}
use Rattle.trust_list.specs.{Trust.{trust, with_entry}, declared.TheConstants.MAX_TRUST_FILE_LEN}
use Rattle.agent_origin.specs.{DoorSessions.{AllowedExchange, helped, unset, trusts as on_trust, any, DoorExchange, forbidden, is_allowed}, Doors.allowed, NewTrustFiles.{replaced, HasConsents, HasConsentsIn}}
use Rattle.agent_origin.specs.TrustExchanges.{flag_of, trust_question, fingerprint_question, unless_said, TrustedNow, Stores, StoresUnsaid, Consented, asked_in, Marked, Carried, TrustReplies}
use Rattle.agent_origin.specs.{TrustActions.{ReadsFile, AddsEntry, Replaces, file_in, has_read, added, trust_called}, TrustRequests.trust_request_of, declared.door.Door.{Door, TheVariants.{Home, Outer}}}
use Rattle.agent_origin.specs.declared.{door_session.DoorCommand.DoorCommand, session_state.SessionState.SessionState, trust.request.{TrustPurpose.TrustPurpose, TrustRequest.{TrustRequest, TheVariants.{IsTrusted, MarkTrusted, Bad}}}}
use Rattle.agent_origin.proofs.{EachLine.{shown_so, each_request}, OuterTrust.{IsOuterTrust, trust_outer}}
use Rattle.agent_commands.specs.Talks as talks
use Rattle.assuan_line.specs.declared.reader.Took.TheVariants as took
use Rattle.session_client.specs.declared.code.Code.TheVariants as code
use Rattle.session_options.specs.declared.options.PinMode.TheVariants as mode
use Rattle.agent_origin.specs.TrustActions as actions

-- ---- where a file became another's successor

-- an element of two lists, one behind the other
data InEither {A : Type 0} (xs ys front : List A) (x : A) (back : List A) : Type 0 where
  in_first : (rest : List A) → xs ≡ front ++ x ∷ rest → back ≡ rest ++ ys → InEither xs ys front x back
  in_second : (rest : List A) → front ≡ xs ++ rest → ys ≡ rest ++ x ∷ back → InEither xs ys front x back

in_either : {A : Type 0} (xs ys front : List A) (x : A) (back : List A) → xs ++ ys ≡ front ++ x ∷ back → InEither xs ys front x back
in_either [] ys front x back is = in_second front refl is
in_either (first ∷ xs) ys [] x back is =
    let same : first ≡ x = cc is in
    let rest : xs ++ ys ≡ back = cc is in
    in_first xs (ap (λ (f : _). f ∷ xs) same) (sym rest)
in_either (first ∷ xs) ys (second ∷ front) x back is =
    let same : first ≡ second = cc is in
    let rest : xs ++ ys ≡ front ++ x ∷ back = cc is in
    elim (in_either xs ys front x back rest) [
      | in_first more here behind ↦ in_first more (ap (λ (f : _). f ∷ xs) same ∙ ap (λ (l : List _). second ∷ l) here) behind
      | in_second more there here ↦ in_second more (ap (λ (l : List _). second ∷ l) there ∙ ap (λ (f : _). f ∷ (xs ++ more)) (sym same)) here
    ]

only_there : (event that : Event) (front back : List Event) → event ∷ [] ≡ front ++ that ∷ back → (front ≡ []) × (that ≡ event) × (back ≡ [])
only_there event that [] back is =
    let same : event ≡ that = cc is in
    let rest : [] ≡ back = cc is in
    (refl, sym same, sym rest)
only_there event that (first ∷ []) back is = cc is
only_there event that (first ∷ second ∷ front) back is = cc is

-- by none of these events it did
abbrev Lacks : List Event → Type 0
Lacks events = (front : List Event) (file : List ℕ) (back : List Event) → events ≡ front ++ replaced file ∷ back → ⊥

none_lacks : Lacks []
none_lacks [] file back is = cc is
none_lacks (event ∷ front) file back is = cc is

one_lacks : (event : Event) → ((file : List ℕ) → replaced file ≡ event → ⊥) → Lacks (event ∷ [])
one_lacks event other front file back is = other file (only_there event (replaced file) front back is).1

its_own : (front : List Event) (event : Event) (back : List Event) → AllByRecursion IsBesideTrust (front ++ event ∷ back) → IsBesideTrust event
its_own [] event back each = each.0
its_own (first ∷ front) event back each = its_own front event back each.1

each_lacks : (events : List Event) → AllByRecursion IsBesideTrust events → Lacks events
each_lacks events each front file back is = its_own front (replaced file) back (subst (λ (e : List Event). AllByRecursion IsBesideTrust e) is each)

-- ---- actions

module _ (file : List ℕ) (later : List Event) where
  abbrev Here : List Event → List Event → Type 0
  Here before events = events ≡ before ++ replaced file ∷ later

  -- it did behind an action, which came to a value
  record Behind {A B : Type 0} (action : Action A) (next : A → Action B) (held : Option ℕ) (before : List Event) (result : Result B Refusal) (after : Option ℕ) : Type 0 where
    pub first : List Event
    pub value : A
    pub mid : Option ℕ
    pub does : action held first (Ok value) mid
    pub more : List Event
    pub goes_on : next value mid more result after
    pub rest : List Event
    pub here : Here rest more
    pub begins : before ≡ first ++ rest

  goes_past : {A B : Type 0} {action : Action A} {next : A → Action B} {held after : Option ℕ} {events : List Event} {result : Result B Refusal}
      → ((events : List Event) (result : Result A Refusal) (after : Option ℕ) → action held events result after → Lacks events) → Follows action next held events result after → (before : List Event) → Here before events
      → Behind action next held before result after
  goes_past lacks (goes_on {first} {events = more} {value} {mid} does next_does) before is =
      elim (in_either first more before (replaced file) later is) [
        | in_first rest here past ↦ absurd (lacks first (Ok value) mid does before file rest here)
        | in_second rest there here ↦
            record { first = first; value = value; mid = mid; does = does; more = more; goes_on = next_does; rest = rest; here = here; begins = there }
      ]
  goes_past {after} {events} lacks (stops {refusal} does) before is = absurd (lacks events (Err refusal) after does before file later is)

  -- what the file says decides nothing
  unsaid : (said : Option Bool) (other : Action (Unit {0})) (held after : Option ℕ) (events : List Event) (result : Result (Unit {0}) Refusal) → unless_said said other held events result after
      → (before : List Event) → Here before events → (said ≡ None) × other held events result after
  unsaid (Some true) other held after events result returns before is = absurd (none_lacks before file later is)
  unsaid (Some false) other held after events result refuses before is = absurd (none_lacks before file later is)
  unsaid None other held after events result does before is = (refl, does)

  refuses_lack : {A : Type 0} {why : Refusal} {held after : Option ℕ} {events : List Event} {result : Result A Refusal} → Refuses why held events result after → (before : List Event) → Here before events → ⊥
  refuses_lack refuses before is = none_lacks before file later is

reads_lack : (held : Option ℕ) (events : List Event) (result : Result (List ℕ) Refusal) (after : Option ℕ) → ReadsFile held events result after → Lacks events
reads_lack held events result after (has_read is) = one_lacks _ (λ file same. cc same)
reads_lack held events result after actions.ReadsFile.faulted = one_lacks _ (λ file same. cc same)
reads_lack held events result after actions.ReadsFile.no_memory = one_lacks _ (λ file same. cc same)

was_read : {held after : Option ℕ} {events : List Event} {file : List ℕ} → ReadsFile held events (Ok file) after
    → (answer : TrustRead) × (file_in answer ≡ Some file) × (events ≡ trust_called (Read answer) ∷ []) × (after ≡ held)
was_read (has_read {answer} is) = (answer, is, refl, refl)

module _ (rules : Rules) (options : OptionValues) (question : List ℕ) where
  abbrev Agrees : Action (Unit {0})
  Agrees = AgreesTo session_lines rules options question

  agrees_lack : (held : Option ℕ) (events : List Event) (result : Result (Unit {0}) Refusal) (after : Option ℕ) → Agrees held events result after → Lacks events
  agrees_lack held events result after (consents spec is prompt) = each_lacks events (shown_so IsBesideTrust (λ event is. is) prompt.in_session)
  agrees_lack held events result after (dissents spec is prompt why) = each_lacks events (shown_so IsBesideTrust (λ event is. is) prompt.in_session)

  has_agreed : (ticket : ℕ) {held after : Option ℕ} {events : List Event} {value : Unit {0}} → held ≡ Some ticket → Agrees held events (Ok value) after
      → Agrees (Some ticket) events (Ok tt) (Some ticket) × (after ≡ Some ticket)
  has_agreed ticket is (consents spec of prompt) = (consents spec of prompt, is)

-- ---- MARKTRUSTED

module _ (fingerprint : Grip) (purpose : TrustPurpose) (file : List ℕ) (later : List Event) where
  abbrev new_file : List ℕ → List ℕ
  new_file old = with_entry old fingerprint.0 (flag_of purpose)

  replaces_it : (new : List ℕ) {held after : Option ℕ} {events : List Event} {result : Result (Unit {0}) Refusal} → Replaces new held events result after → (before : List Event)
      → Here file later before events → (before ≡ []) × (file ≡ new) × (later ≡ []) × (after ≡ held)
  replaces_it new actions.replaced before is =
      let it = only_there _ (replaced file) before later is in
      let same : replaced file ≡ replaced new = it.1 in
      (it.0, cc same, it.2, refl)
  replaces_it new actions.Replaces.faulted before is = let same = (only_there _ (replaced file) before later is).1 in cc same
  replaces_it new actions.Replaces.no_memory before is = let same = (only_there _ (replaced file) before later is).1 in cc same

  adds_lack : (old : List ℕ) (held : Option ℕ) (events : List Event) (result : Result (List ℕ) Refusal) (after : Option ℕ) → AddsEntry old fingerprint (flag_of purpose) held events result after → Lacks events
  adds_lack old held events result after (added fits) = none_lacks
  adds_lack old held events result after (actions.too_long long) = none_lacks
  adds_lack old held events result after actions.AddsEntry.no_memory = one_lacks _ (λ file same. cc same)

  was_added : {old new : List ℕ} {held after : Option ℕ} {events : List Event} → AddsEntry old fingerprint (flag_of purpose) held events (Ok new) after
      → (new ≡ new_file old) × (events ≡ []) × (length new ≤ MAX_TRUST_FILE_LEN) × (after ≡ held)
  was_added (added fits) = (refl, refl, fits, refl)

  stores_it : (old : List ℕ) (held after : Option ℕ) (events : List Event) (result : Result (Unit {0}) Refusal) → Stores fingerprint purpose old held events result after → (before : List Event)
      → Here file later before events → (before ≡ []) × (file ≡ new_file old) × (length file ≤ MAX_TRUST_FILE_LEN) × (later ≡ []) × (after ≡ held)
  unfolding Stores
  stores_it old held after events result stores before is =
      let at = goes_past file later (adds_lack old held) stores before is in
      let new = was_added at.does in
      let it = replaces_it at.value at.goes_on at.rest at.here in (
        at.begins ∙ ap (λ (f : List Event). f ++ at.rest) new.1 ∙ it.0,
        it.1 ∙ new.0,
        subst (λ (f : List ℕ). length f ≤ MAX_TRUST_FILE_LEN) (sym it.1) new.2,
        it.2,
        it.3 ∙ new.3,
      )

  -- it was read, said nothing of the certificate, and became one with one entry more
  record Rewrites (held after : Option ℕ) (before : List Event) : Type 0 where
    pub read : TrustRead
    pub old : List ℕ
    pub before_is : before ≡ trust_called (Read read) ∷ []
    pub old_is : file_in read ≡ Some old
    pub unsaid_is : trust old fingerprint.0 ≡ None
    pub new_is : file ≡ new_file old
    pub fits : length file ≤ MAX_TRUST_FILE_LEN
    pub ends : later ≡ []
    pub holds : after ≡ held

  rewrites_it : (held after : Option ℕ) (events : List Event) (result : Result (Unit {0}) Refusal) → StoresUnsaid fingerprint purpose held events result after → (before : List Event)
      → Here file later before events → Rewrites held after before
  unfolding StoresUnsaid
  rewrites_it held after events result stores before is =
      let at = goes_past file later (reads_lack held) stores before is in
      let read = was_read at.does in
      let said = unsaid file later (trust at.value fingerprint.0) (Stores fingerprint purpose at.value) at.mid after at.more result at.goes_on at.rest at.here in
      let it = stores_it at.value at.mid after at.more result said.1 at.rest at.here in
      record {
        read = read.0;
        old = at.value;
        before_is = at.begins ∙ ap (λ (f : List Event). f ++ at.rest) read.2 ∙ ap (λ (r : List Event). trust_called (Read read.0) ∷ r) it.0;
        old_is = read.1;
        unsaid_is = said.0;
        new_is = it.1;
        fits = it.2;
        ends = it.3;
        holds = it.4 ∙ read.3;
      }

  module _ (rules : Rules) (options : OptionValues) (name : ArrayVec ℕ) where
    -- behind two consents
    record Both (ticket : ℕ) (after : Option ℕ) (before : List Event) : Type 0 where
      pub first : List Event
      pub second : List Event
      pub trusts : Agrees rules options (trust_question name.items) (Some ticket) first (Ok tt) (Some ticket)
      pub is_right : Agrees rules options (fingerprint_question fingerprint name.items) (Some ticket) second (Ok tt) (Some ticket)
      pub rest : List Event
      pub rewrites : Rewrites (Some ticket) after rest
      pub before_is : before ≡ first ++ (second ++ rest)

    consents_to : (ticket : ℕ) (held after : Option ℕ) (events : List Event) (result : Result (Unit {0}) Refusal) → held ≡ Some ticket
        → Consented rules options fingerprint purpose name.items held events result after → (before : List Event) → Here file later before events → Both ticket after before
    unfolding Consented
    consents_to ticket held after events result holds consented before is =
        let one = goes_past file later (agrees_lack rules options (trust_question name.items) held) consented before is in
        let trusts = has_agreed rules options (trust_question name.items) ticket holds one.does in
        let two = goes_past file later (agrees_lack rules options (fingerprint_question fingerprint name.items) one.mid) one.goes_on one.rest one.here in
        let is_right = has_agreed rules options (fingerprint_question fingerprint name.items) ticket trusts.1 two.does in
        record {
          first = one.first;
          second = two.first;
          trusts = trusts.0;
          is_right = is_right.0;
          rest = two.rest;
          rewrites = subst (λ (h : Option ℕ). Rewrites h after two.rest) is_right.1 (rewrites_it two.mid after two.more result two.goes_on two.rest two.here);
          before_is = one.begins ∙ ap (λ (r : List Event). one.first ++ r) two.begins;
        }

    -- under a ticket that is held yet
    record Marks (after : Option ℕ) (before : List Event) : Type 0 where
      pub early : TrustRead
      pub ticket : ℕ
      pub rest : List Event
      pub both : Both ticket after rest
      pub before_is : before ≡ trust_called (Read early) ∷ cache_turn (Seat None None) (Open ticket) ∷ (both.first ++ (both.second ++ both.rest))

    asks : (wanted : PinMode) (held after : Option ℕ) (events : List Event) (result : Result (Unit {0}) Refusal) → asked_in rules options fingerprint purpose name.items wanted held events result after
        → (before : List Event) → Here file later before events → asked_in rules options fingerprint purpose name.items mode.Ask held events result after
    asks mode.Ask held after events result does before is = does
    asks mode.Cancel held after events result refuses before is = absurd (none_lacks before file later is)
    asks mode.Error held after events result refuses before is = absurd (none_lacks before file later is)
    asks mode.Loopback held after events result refuses before is = absurd (none_lacks before file later is)

    seats_lack : (held : Option ℕ) (events : List Event) (result : Result (Unit {0}) Refusal) (after : Option ℕ) → Seats (Seat None None) held events result after → Lacks events
    seats_lack held events result after seats = each_lacks events ((each_seats IsBesideTrust (λ turn. tt)).of held events result after seats)

    was_seated : {held after : Option ℕ} {events : List Event} {value : Unit {0}} → Seats (Seat None None) held events (Ok value) after
        → (ticket : ℕ) × (events ≡ cache_turn (Seat None None) (Open ticket) ∷ []) × (after ≡ Some ticket)
    was_seated (opened {ticket} can) = (ticket, refl, refl)

    marks_it : (held after : Option ℕ) (events : List Event) (result : Result (Unit {0}) Refusal) → Marked rules options fingerprint purpose name.items held events result after → (before : List Event)
        → Here file later before events → Marks after before
    unfolding Marked
    marks_it held after events result marked before is =
        let early = goes_past file later (reads_lack held) marked before is in
        let read = was_read early.does in
        let asked : Action (Unit {0}) = asked_in rules options fingerprint purpose name.items options.mode in
        let said = unsaid file later (trust early.value fingerprint.0) asked early.mid after early.more result early.goes_on early.rest early.here in
        let seat = goes_past file later (seats_lack early.mid) (asks options.mode early.mid after early.more result said.1 early.rest early.here) early.rest early.here in
        let seated = was_seated seat.does in
        let both = consents_to seated.0 seat.mid after seat.more result seated.2 seat.goes_on seat.rest seat.here in
        record {
          early = read.0;
          ticket = seated.0;
          rest = seat.rest;
          both = both;
          before_is =
              early.begins ∙ ap (λ (f : List Event). f ++ early.rest) read.2
              ∙ ap (λ (r : List Event). trust_called (Read read.0) ∷ r)
              (seat.begins ∙ ap (λ (f : List Event). f ++ seat.rest) seated.1 ∙ ap (λ (r : List Event). cache_turn (Seat None None) (Open seated.0) ∷ r) both.before_is);
        }

-- ---- exchanges

module _ (rules : Rules) (options : OptionValues) (before : List Event) (file : List ℕ) where
  has_consents : (fingerprint : Grip) (purpose : TrustPurpose) (name : ArrayVec ℕ) (rest back last : List Event) (held : Option ℕ) → Marks fingerprint purpose file rest rules options name held before
      → Closes None held back (Ok tt) None → HasConsents rules options (MarkTrusted fingerprint purpose name) before file (rest ++ (back ++ last))
  has_consents fingerprint purpose name rest back last held marks closes =
      let both = marks.both in
      let new = both.rewrites in
      let gives = closed_by marks.ticket back (subst (λ (h : Option ℕ). Closes None h back (Ok tt) None) new.holds closes) in
      record {
        fingerprint = fingerprint;
        purpose = purpose;
        name = name;
        marks = refl;
        early = marks.early;
        ticket = marks.ticket;
        first = both.first;
        second = both.second;
        read = new.read;
        in_order = marks.before_is ∙ ap (λ (r : List Event). trust_called (Read marks.early) ∷ cache_turn (Seat None None) (Open marks.ticket) ∷ (both.first ++ (both.second ++ r))) new.before_is;
        trusts = both.trusts;
        is_right = both.is_right;
        old = new.old;
        old_is = new.old_is;
        unsaid = new.unsaid_is;
        new_is = new.new_is;
        fits = new.fits;
        turn = gives.0;
        later = last;
        given_back = ap (λ (r : List Event). r ++ (back ++ last)) new.ends ∙ ap (λ (b : List Event). b ++ last) gives.1;
      }
    where
      closed_by : (ticket : ℕ) (events : List Event) → Closes None (Some ticket) events (Ok tt) None → (turn : Turn) × (events ≡ cache_turn (Close ticket None) turn ∷ [])
      closed_by ticket events (closed turn can) = (turn, refl)

  carried_consents : (request : TrustRequest) (events rest back last : List Event) (result : Result (Unit {0}) Refusal) (held : Option ℕ) → events ≡ before ++ replaced file ∷ rest
      → Carried rules options request None events result held → Closes None held back (Ok tt) None → HasConsents rules options request before file (rest ++ (back ++ last))
  unfolding TrustedNow
  carried_consents (IsTrusted fingerprint) events rest back last result held is carried closes =
      let at = goes_past file rest (reads_lack None) carried before is in
      let refusal : Action (Unit {0}) = Refuses (Agent code.NotTrusted) in
      let said = unsaid file rest (trust at.value fingerprint.0) refusal at.mid held at.more result at.goes_on at.rest at.here in
      absurd (refuses_lack file rest said.1 at.rest at.here)
  carried_consents (MarkTrusted fingerprint purpose name) events rest back last result held is carried closes =
      has_consents fingerprint purpose name rest back last held (marks_it fingerprint purpose file rest rules options name None held events result carried before is) closes
  carried_consents (Bad code) events rest back last result held is carried closes = absurd (refuses_lack file rest carried before is)

  -- and what comes behind the actions of a request
  actions_consents : (request : TrustRequest) (back last : List Event) (held : Option ℕ) → Closes None held back (Ok tt) None → (own : List Event) (result : Result CacheReply Refusal)
      → TrustReplies rules options request None own result held → (rest : List Event) → own ≡ before ++ replaced file ∷ rest → HasConsents rules options request before file (rest ++ (back ++ last))
  actions_consents request back last held closes own result (goes_on {first} {value} does returns) rest here =
      elim (in_either first [] before (replaced file) rest here) [
        | in_first more there past ↦
            subst (λ (r : List Event). HasConsents rules options request before file (r ++ (back ++ last))) (sym (past ∙ append-nil more))
            (carried_consents request first more back last (Ok value) held there does closes)
        | in_second more past there ↦ absurd (none_lacks more file rest there)
      ]
  actions_consents request back last held closes own result (stops {refusal} does) rest here = carried_consents request own rest back last (Err refusal) held here does closes

  replies_consents : (request : TrustRequest) (events back last after : List Event) (result : Result CacheReply Refusal) (held : Option ℕ) → TrustReplies rules options request None events result held
      → Closes None held back (Ok tt) None → AllByRecursion IsBesideTrust (back ++ last) → events ++ (back ++ last) ≡ before ++ replaced file ∷ after → HasConsents rules options request before file after
  replies_consents request events back last after result held replies closes each is =
      elim (in_either events (back ++ last) before (replaced file) after is) [
        | in_first rest here past ↦ subst (HasConsents rules options request before file) (sym past) (actions_consents request back last held closes events result replies rest here)
        | in_second rest there here ↦ absurd (each_lacks (back ++ last) each rest file after here)
      ]

  beside : {held : Option ℕ} {back : List Event} (line : Option (List ℕ)) → Closes None held back (Ok tt) None → AllByRecursion IsBesideTrust (back ++ said_last line)
  beside = each_answer IsBesideTrust (λ number turn. tt) (λ text. tt)

  request_consents : (request : TrustRequest) {events : List Event} {values : OptionValues} {went : Went} → AnyExchange refusal_line went_after (TrustReplies rules options request) options events values went
      → (after : List Event) → events ≡ before ++ replaced file ∷ after → HasConsents rules options request before file after
  request_consents request (answered events held reply {back} does closes) after is = replies_consents request events back (Sent reply.text ∷ []) after (Ok reply) held does closes (beside (Some reply.text) closes) is
  request_consents request (refused events held why {back} does closes) after is =
      replies_consents request events back (said_last (refusal_line why)) after (Err why) held does closes (beside (refusal_line why) closes) is

-- ---- lines at a door

at_home : (door : Door) (line : List ℕ) {rules : Rules} {options : OptionValues} {before after : List Event} {file : List ℕ} → allowed door line ≡ true
    → HasConsents rules options (trust_request_of line) before file after → door ≡ Home
at_home Home line may has = refl
at_home Outer line may has = absurd (subst IsOuterTrust has.marks (trust_outer line may))

pub exchange_consents : (door : Door) (rules : Rules) {prior then : SessionState} (line : List ℕ) {events : List Event} {went : Went} → DoorExchange door rules prior line events then went
    → (before : List Event) (file : List ℕ) (after : List Event) → events ≡ before ++ replaced file ∷ after
    → HasConsents rules prior.options (trust_request_of line) before file after × (door ≡ Home)
exchange_consents door rules line (forbidden not_allowed) before file after is = absurd (one_lacks _ (λ file same. cc same) before file after is)
exchange_consents door rules {prior} line (is_allowed may exchanged) before file after is = allowed_by exchanged is
  where
    allowed_by : {named : Option DoorCommand} {events : List Event} {then : SessionState} {went : Went} → AllowedExchange rules prior line named events then went → events ≡ before ++ replaced file ∷ after
        → HasConsents rules prior.options (trust_request_of line) before file after × (door ≡ Home)
    allowed_by helped is = absurd (one_lacks _ (λ file same. cc same) before file after is)
    allowed_by unset is = absurd (one_lacks _ (λ file same. cc same) before file after is)
    allowed_by (on_trust exchanged) is = let has = request_consents rules prior.options before file (trust_request_of line) exchanged after is in (has, at_home door line may has)
    allowed_by (any {events} exchanged) is = absurd (each_lacks events (each_request IsBesideTrust (λ event is. is) (request_of line) exchanged) before file after is)

-- ---- sessions

-- the same, where something else comes behind the ticket that is given back
moved : {rules : Rules} {options : OptionValues} {request : TrustRequest} {before after : List Event} {file : List ℕ} (has : HasConsents rules options request before file after) (other later : List Event)
    → other ≡ cache_turn (Close has.ticket None) has.turn ∷ later → HasConsents rules options request before file other
moved has other later is = record {
  fingerprint = has.fingerprint;
  purpose = has.purpose;
  name = has.name;
  marks = has.marks;
  early = has.early;
  ticket = has.ticket;
  first = has.first;
  second = has.second;
  read = has.read;
  in_order = has.in_order;
  trusts = has.trusts;
  is_right = has.is_right;
  old = has.old;
  old_is = has.old_is;
  unsaid = has.unsaid;
  new_is = has.new_is;
  fits = has.fits;
  turn = has.turn;
  later = later;
  given_back = is;
}

moved_then : {rules : Rules} {options : OptionValues} {request : TrustRequest} {before after : List Event} {file : List ℕ} (more : List Event) → HasConsents rules options request before file after
    → HasConsents rules options request before file (after ++ more)
moved_then {after} more has = moved has (after ++ more) (has.later ++ more) (ap (λ (a : List Event). a ++ more) has.given_back)

-- what is behind isn't only the last line
behind_close : (rest : List Event) (sent unsent : List ℕ) (close : Event) (later : List Event) → rest ++ Sent (sent ++ unsent) ∷ [] ≡ close ∷ later → (Sent (sent ++ unsent) ≡ close → ⊥)
    → (more : List Event) × rest ≡ close ∷ more
behind_close [] sent unsent close later is other = let same : Sent (sent ++ unsent) ≡ close = cc is in absurd (other same)
behind_close (first ∷ rest) sent unsent close later is other = let same : first ≡ close = cc is in (rest, ap (λ (e : Event). e ∷ rest) same)

module _ (door : Door) (rules : Rules) where
  either_consents : {prior then : SessionState} (line : List ℕ) {events : List Event} {went : Went} → WholeOrCut went_after (DoorExchange door rules prior line) events then went
      → (before : List Event) (file : List ℕ) (after : List Event) → events ≡ before ++ replaced file ∷ after → HasConsents rules prior.options (trust_request_of line) before file after × (door ≡ Home)
  either_consents line (whole exchanged) before file after is = exchange_consents door rules line exchanged before file after is
  either_consents {prior} line (cut {events} exchanged last) before file after is =
      elim (in_either last.before (Cut last.sent ∷ []) before (replaced file) after (sym last.done_is ∙ is)) [
        | in_first rest here behind ↦
            let sent : List Event = Sent (last.sent ++ last.unsent) ∷ [] in
            let there : events ≡ before ++ replaced file ∷ (rest ++ sent) = last.whole ∙ ap (λ (e : List Event). e ++ sent) here ∙ append_assoc before (replaced file ∷ rest) sent in
            let home = exchange_consents door rules line exchanged before file (rest ++ sent) there in
            let has = home.0 in
            let more = behind_close rest last.sent last.unsent (cache_turn (Close has.ticket None) has.turn) has.later has.given_back (λ same. cc same) in
            (moved has after (more.0 ++ Cut last.sent ∷ []) (behind ∙ ap (λ (r : List Event). r ++ Cut last.sent ∷ []) more.1), home.1)
        | in_second rest there here ↦ absurd (one_lacks (Cut last.sent) (λ file same. cc same) rest file after here)
      ]

  -- one line alone was written, and cut
  cut_lacks : {text : List ℕ} {done : List Event} → CutAtLast (Sent text ∷ []) done → Lacks done
  cut_lacks {text} {done} last =
      let only = only_there (Sent text) (Sent (last.sent ++ last.unsent)) last.before [] last.whole in
      subst Lacks (sym (last.done_is ∙ ap (λ (b : List Event). b ++ Cut last.sent ∷ []) only.0)) (one_lacks (Cut last.sent) (λ file same. cc same))

  -- the last request of a session, behind what it did before
  port_in : {before after : List Event} {file : List ℕ} (front all : List Event) → all ≡ front ++ before → HasConsentsIn rules before file after → HasConsentsIn rules all file after
  port_in front all is has = record {
    front = front ++ has.front;
    line = has.line;
    options = has.options;
    own = has.own;
    before_is = is ∙ ap (λ (e : List Event). front ++ e) has.before_is ∙ sym (append_assoc front has.front (Received (took.Line has.line) ∷ has.own));
    consents = has.consents;
  }

  talk_consents : {prior : SessionState} {events : List Event} {end : SessionEnd} → Talk (DoorExchange door rules) prior events end
      → (before : List Event) (file : List ℕ) (after : List Event) → events ≡ before ++ replaced file ∷ after → HasConsentsIn rules before file after × (door ≡ Home)
  talk_consents (talks.Talk.goes_on line exchanged later) [] file after is = cc is
  talk_consents {prior} (talks.Talk.goes_on {events} {more} line exchanged later) (first ∷ before) file after is =
      let begins : first ≡ Received (took.Line line) = cc is in
      let rest : events ++ more ≡ before ++ replaced file ∷ after = cc is in
      elim (in_either events more before (replaced file) after rest) [
        | in_first left here behind ↦
            let has = either_consents line exchanged before file left here in (
              record {
                front = [];
                line = line;
                options = prior.options;
                own = before;
                before_is = ap (λ (e : Event). e ∷ before) begins;
                consents = subst (HasConsents rules prior.options (trust_request_of line) before file) (sym behind) (moved_then more has.0);
              },
              has.1,
            )
        | in_second left there here ↦
            let has = talk_consents later left file after here in (
              port_in (Received (took.Line line) ∷ events) (first ∷ before)
                  (ap (λ (e : Event). e ∷ before) begins ∙ ap (λ (e : List Event). Received (took.Line line) ∷ e) there) has.0,
              has.1,
            )
      ]
  talk_consents (over line exchanged) [] file after is = cc is
  talk_consents {prior} (over {events} line exchanged) (first ∷ before) file after is =
      let begins : first ≡ Received (took.Line line) = cc is in
      let rest : events ≡ before ++ replaced file ∷ after = cc is in
      let has = either_consents line exchanged before file after rest in (
        record {
          front = [];
          line = line;
          options = prior.options;
          own = before;
          before_is = ap (λ (e : Event). e ∷ before) begins;
          consents = has.0;
        },
        has.1,
      )
  talk_consents ended before file after is = absurd (one_lacks _ (λ file same. cc same) before file after is)
  talk_consents spent before file after is = absurd (one_lacks _ (λ file same. cc same) before file after is)
  talk_consents read_fault before file after is = absurd (one_lacks _ (λ file same. cc same) before file after is)
  talk_consents talk_too_long [] file after is = cc is
  talk_consents talk_too_long (first ∷ before) file after is = let rest : Sent (failed LineTooLong) ∷ [] ≡ before ++ replaced file ∷ after = cc is in absurd (one_lacks _ (λ file same. cc same) before file after rest)
  talk_consents (cut_too_long last) [] file after is = cc is
  talk_consents (cut_too_long {done} last) (first ∷ before) file after is = let rest : done ≡ before ++ replaced file ∷ after = cc is in absurd (cut_lacks last before file after rest)

  pub session_consents : {start : SessionState} {events : List Event} {end : SessionEnd} → SessionOf (DoorExchange door rules) start events end
      → (before : List Event) (file : List ℕ) (after : List Event) → events ≡ before ++ replaced file ∷ after → HasConsentsIn rules before file after × (door ≡ Home)
  session_consents (greeted later) [] file after is = cc is
  session_consents (greeted {events} later) (first ∷ before) file after is =
      let rest : events ≡ before ++ replaced file ∷ after = cc is in
      let has = talk_consents later before file after rest in
      (port_in (first ∷ []) (first ∷ before) refl has.0, has.1)
  session_consents (cut_greeting last) before file after is = absurd (cut_lacks last before file after is)
