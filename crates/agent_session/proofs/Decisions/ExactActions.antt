-- Actions of a request: what decides the request among their events is what they are refused by.
use Rattle.std.{specs.{List.AllByRecursion, Option.option_map}, proofs.Common.{◌≡◌, ◌≢◌, ◌∙◌, ◌⊎◌, ℕ, List, [], ◌∷◌, ◌++◌, Option, Some, None, Result, Ok, Err, arith, refl, sym, ap, subst, inl, inr}}
use Rattle.agent_ask.specs.Session.{PortCalls.{Keys, Read, Removed, Trust}, Actions.{◌>>=◌, Refuses, refuses as refusing, returns, needed, or_else}, SessionEvents.{Received, Sent, Cut, Inquiry, CacheTurn, Port, said_last}, TrustCalls.TrustCall}
use Rattle.{agent_ask.{specs.Session.{TurnActions.Closes, ClientActions.Inquires}, proofs.Within.Joins}, agent_ports.specs.declared.{grip.Grip.Grip, keys.{KeyDone.KeyDone, KeyRead.KeyRead}}, assuan_server.specs.Clients.session_lines}
use Rattle.{assuan_server.specs.{Written.{failed, refusal_line}, declared.errors.Origin.TheVariants.Agent as OfAgent}, cache_policy.specs.declared.secret.TheConstants.MAX_SECRET_LEN, session_client.specs.Asking.said_by}
use Rattle.session_client.specs.{Refusals.refusal_code, declared.{client.TheConstants.MAX_NOTE_LEN, code.Code.Code, refusal.Refusal.{Refusal, TheVariants.{Agent, Client}}, client_error.ClientError.ClientError}}
use Rattle.key_commands.{specs.{Lines.max_key_data, Events.Event, Actions.Action}, proofs.EachEvent.each_answer}
use Rattle.agent_session.{specs.{Causes.{Has, here, later}, Completeness.{Remembers, HasError}, Refusals.{refuses, shuts}}, proofs.Courses.{CacheWorks.FitsCache, KeyWorks.FitsKeys}}
use Rattle.agent_session.proofs.{Courses.Works.{unsaid, unheard_by, GoesOn, WorkEnd, no_more, refused, lost, forgot, WorksTo, WorksSo, shuts_fit}, Causes.Explained.has_split, Standing.{each_left, each_right, each_has, has_right}}
use Rattle.agent_ask.proofs.Within as within
use Rattle.agent_ask.specs.Session.ClientActions as client_actions

-- the bytes of a key that a client sent, the reads of a key's file, the removals of one, and the calls of the trust file by which a request is refused by a code
pub record Deciding : Type 1 where
  pub sent : List ℕ → Code → Type 0
  pub reads : Grip → KeyRead → Code → Type 0
  pub removed : KeyDone → Code → Type 0
  pub trust : TrustCall → Code → Type 0

module _ (deciding : Deciding) where
  abbrev pub SaidDecides : ℕ → Result (List ℕ) ClientError → Code → Type 0
  SaidDecides limit (Ok bytes) why = (limit ≡ max_key_data) × deciding.sent bytes why
  SaidDecides limit (Err unheard) why = refusal_code unheard ≡ Some why

  -- an event by which a request is refused by this code: what the client said, too
  abbrev pub Decides : Event → Code → Type 0
  Decides (Inquiry word params limit inquired) why = SaidDecides limit (said_by session_lines inquired) why
  Decides (Port (Keys (Read grip answer))) why = deciding.reads grip answer why
  Decides (Port (Keys (Removed grip answer))) why = deciding.removed answer why
  Decides (Port (Trust call)) why = deciding.trust call why
  Decides _ why = ⊥

  pub record IsDecided (events : List Event) (why : Code) : Type 0 where
    pub event : Event
    pub has : Has event events
    pub decides : Decides event why

  -- by such an event nothing is decided
  abbrev pub IsFree : Event → Type 0
  IsFree event = (why : Code) → Decides event why → ⊥

  pub never_decided : (events : List Event) → AllByRecursion IsFree events → {why : Code} → IsDecided events why → ⊥
  never_decided events each decided = each_has IsFree events each decided.has _ decided.decides

-- ---- actions

-- nothing is due before an action, and nothing is owed behind it
abbrev pub NoneDue : Code → Type 0
NoneDue why = ⊥

abbrev pub NoneOwed : {A : Type 0} → A → Code → Type 0
NoneOwed value why = ⊥

-- what an action comes to that is to be refused by this code: a value behind which that is owed, or the refusal
abbrev pub SaysTo : {A : Type 0} → (A → Code → Type 0) → Result A Refusal → Code → Type 0
SaysTo Owed (Ok value) why = Owed value why
SaysTo Owed (Err refusal) why = refusal_line refusal ≡ Some (failed why)

-- the line of a refusal whose client said so
pub client_line : (why : Code) (unheard : _) (refusal : Refusal) → refusal_code unheard ≡ Some why → Client unheard ≡ refusal → refusal_line refusal ≡ Some (failed why)
client_line why unheard refusal code_is same = subst (λ r. refusal_line r ≡ Some (failed why)) same (ap (option_map failed) code_is)

module _ (deciding : Deciding) where
  -- An action whose request is refused by what decides it among these events, or before them, where that is due; or behind it, where it is owed then.
  abbrev pub HeedLaw : {A : Type 0} → (Code → Type 0) → (A → Code → Type 0) → Action A
  HeedLaw Due Owed before events result after = AllByRecursion Remembers events → (why : Code) → Due why ⊎ IsDecided deciding events why → SaysTo Owed result why

  abbrev pub Heeds : {A : Type 0} → (Code → Type 0) → Action A → (A → Code → Type 0) → Type 0
  Heeds {A} Due action Owed = (before : Option ℕ) (events : List Event) (result : Result A Refusal) (after : Option ℕ) → action before events result after → HeedLaw Due Owed before events result after

  due_then : (Due Mid : Code → Type 0) (some more : List Event) (why : Code) → (Due why ⊎ IsDecided deciding some why → Mid why) → Due why ⊎ IsDecided deciding (some ++ more) why → Mid why ⊎ IsDecided deciding more why
  due_then Due Mid some more why by_first (inl due) = inl (by_first (inl due))
  due_then Due Mid some more why by_first (inr decided) =
      elim (has_split some more decided.has) [
        | inl has ↦ inl (by_first (inr (record { event = decided.event; has = has; decides = decided.decides })))
        | inr has ↦ inr (record { event = decided.event; has = has; decides = decided.decides })
      ]

  heed_joins : {A B : Type 0} {Due : Code → Type 0} {Mid : A → Code → Type 0} {Owed : B → Code → Type 0} → Joins (HeedLaw Due Mid) (λ value. HeedLaw (Mid value) Owed) (HeedLaw Due Owed)
  heed_joins {Due} {Mid} = record {
    then = λ some more {value} first next remembers why due. next (each_right Remembers some more remembers) why (due_then Due (Mid value) some more why (first (each_left Remembers some more remembers) why) due);
    alone = λ first. first;
  }

  pub bind : {A B : Type 0} {action : Action A} {next : A → Action B} {Due : Code → Type 0} (Mid : A → Code → Type 0) {Owed : B → Code → Type 0} → Heeds Due action Mid → ((value : A) → Heeds (Mid value) (next value) Owed)
      → Heeds Due (action >>= next) Owed
  bind Mid first next = (within.bind heed_joins (record { of = first }) (λ value. record { of = next value })).of

  -- ---- single events

  only : {first event : Event} (why : Code) → Has event (first ∷ []) → Decides deciding event why → Decides deciding first why
  only why here decides = decides
  only why (later has) decides = elim has [ ]

  pub decided_only : {first : Event} {why : Code} → IsDecided deciding (first ∷ []) why → Decides deciding first why
  decided_only {why} decided = only why decided.has decided.decides

  -- ---- actions by which nothing is decided but by what the client said

  -- an event by which a request is refused only where its client said so
  abbrev pub IsSaidAlone : Event → Type 0
  IsSaidAlone (Inquiry word params limit inquired) = limit ≢ max_key_data
  IsSaidAlone event = IsFree deciding event

  pub free : (why : Code) → ⊥ → ⊥
  free why none = none

  not_said : (limit : ℕ) (why : Code) (said : Result (List ℕ) ClientError) → limit ≢ max_key_data → unsaid said ≡ None → SaidDecides deciding limit said why → ⊥
  not_said limit why (Ok bytes) other heard decides = other (decides.0)
  not_said limit why (Err unheard) other heard decides = absurd (cc heard)

  goes_free : (event : Event) → GoesOn IsSaidAlone event → IsFree deciding event
  goes_free (Inquiry word params limit inquired) goes why decides = not_said limit why (said_by session_lines inquired) goes.0 goes.2 decides
  goes_free (Received took) goes why decides = decides
  goes_free (Sent text) goes why decides = decides
  goes_free (Cut text) goes why decides = decides
  goes_free (CacheTurn taken) goes why decides = decides
  goes_free (Port what) goes why decides = goes.0 why decides

  each_free : (events : List Event) → AllByRecursion (GoesOn IsSaidAlone) events → AllByRecursion (IsFree deciding) events
  each_free [] each = tt
  each_free (event ∷ more) each = (goes_free event each.0, each_free more each.1)

  refused_free : (event : Event) {given : Code} → IsSaidAlone event → refuses event ≡ Some given → IsFree deciding event
  refused_free (Inquiry word params limit inquired) fits is = absurd (cc is)
  refused_free (Received took) fits is = free
  refused_free (Sent text) fits is = free
  refused_free (Cut text) fits is = free
  refused_free (CacheTurn taken) fits is = free
  refused_free (Port what) fits is = fits

  said_lost : (limit : ℕ) {unheard : ClientError} {why : Code} (said : Result (List ℕ) ClientError) → unsaid said ≡ Some unheard → SaidDecides deciding limit said why → refusal_code unheard ≡ Some why
  said_lost limit (Ok bytes) is decides = absurd (cc is)
  said_lost limit {unheard} {why} (Err given) is decides = let same : given ≡ unheard = cc is in subst (λ u. refusal_code u ≡ Some why) same decides

  lost_by : (event : Event) {unheard : ClientError} {why : Code} → IsSaidAlone event → unheard_by event ≡ Some unheard → Decides deciding event why → refusal_code unheard ≡ Some why
  lost_by (Inquiry word params limit inquired) fits is decides = said_lost limit (said_by session_lines inquired) is decides
  lost_by (Received took) fits is decides = absurd decides
  lost_by (Sent text) fits is decides = absurd decides
  lost_by (Cut text) fits is decides = absurd decides
  lost_by (CacheTurn taken) fits is decides = absurd decides
  lost_by (Port what) {unheard} {why} fits is decides = absurd (fits why decides)

  module _ {A : Type 0} (Owed : A → Code → Type 0) where
    end_says : {last : List Event} {result : Result A Refusal} (why : Code) → WorkEnd IsSaidAlone last result → AllByRecursion Remembers last → IsDecided deciding last why → SaysTo Owed result why
    end_says why no_more remembers decided = absurd (never_decided deciding [] tt decided)
    end_says why (refused {event} fits is) remembers decided = absurd (never_decided deciding (event ∷ shuts event) (refused_free event fits is, shuts_fit (IsFree deciding) free event) decided)
    end_says why (lost {event} {last} {why = unheard} fits is each) remembers decided = by_lost decided.has decided.decides
      where
        by_lost : {at : Event} → Has at (event ∷ last) → Decides deciding at why → SaysTo {A = A} Owed (Err (Client unheard)) why
        by_lost here decides = client_line why unheard (Client unheard) (lost_by event fits is decides) refl
        by_lost {at} (later has) decides = absurd (never_decided deciding last (each_free last each) {why = why} (record { event = at; has = has; decides = decides }))
    end_says why (forgot fits is memory) remembers decided = absurd (remembers.1.0 tt)

    -- an action that is work of such events
    pub said_alone : {action : Action A} → WorksSo IsSaidAlone action → Heeds NoneDue action Owed
    said_alone work before events result after does remembers why (inl due) = absurd due
    said_alone work before events result after does remembers why (inr decided) =
        elim (has_split so.work so.last (subst (λ e. Has decided.event e) so.is decided.has)) [
          | inl has ↦ absurd (never_decided deciding so.work (each_free so.work so.each) {why = why} (record { event = decided.event; has = has; decides = decided.decides }))
          | inr has ↦ end_says why so.end (each_right Remembers so.work so.last (subst (AllByRecursion Remembers) so.is remembers)) (record { event = decided.event; has = has; decides = decided.decides })
        ]
      where
        so : WorksTo IsSaidAlone events result
        so = work.of before events result after does

  -- nothing is due, and nothing decides the request
  undecided : {Is : Type 0} {why : Code} → NoneDue why ⊎ IsDecided deciding [] why → Is
  undecided (inl due) = absurd due
  undecided (inr decided) = absurd (never_decided deciding [] tt decided)

  module _ {A : Type 0} where
    pub otherwise : (value : Option A) {other : Action A} → Heeds NoneDue other NoneOwed → Heeds NoneDue (or_else value other) NoneOwed
    otherwise None other before events result after does remembers why due = other before events result after does remembers why due
    otherwise (Some value) other _ _ _ _ returns remembers why due = undecided due

    -- a refusal that is due
    pub refuses_due : (given : Code) → Heeds {A = A} (λ why. given ≡ why) (Refuses (Agent given)) NoneOwed
    refuses_due given _ _ _ _ refusing remembers why due = elim due [ inl is ↦ ap (λ c. Some (failed c)) is | inr decided ↦ absurd (never_decided deciding [] tt decided) ]

    -- a value that has to be there, where it is due that it isn't
    pub is_needed : (given : Code) (value : Option A) → Heeds (λ why. (value ≡ None) × (given ≡ why)) (needed given value) NoneOwed
    is_needed given None _ _ _ _ refusing remembers why due = elim due [ inl is ↦ ap (λ c. Some (failed c)) is.1 | inr decided ↦ absurd (never_decided deciding [] tt decided) ]
    is_needed given (Some value) _ _ _ _ returns remembers why due = elim due [ inl is ↦ absurd (cc (is.0)) | inr decided ↦ never_decided deciding [] tt decided ]

    -- what is never due
    pub undue : {action : Action A} {Due : Code → Type 0} {Owed : A → Code → Type 0} → ((why : Code) → Due why → ⊥) → Heeds NoneDue action Owed → Heeds Due action Owed
    undue never heeds before events result after does remembers why due = elim due [ inl is ↦ absurd (never why is) | inr decided ↦ heeds before events result after does remembers why (inr decided) ]

  -- ---- the client

  -- what is owed behind bytes of a key that were sent
  pub inquires_of : (word : List ℕ) (limit : ℕ) → Heeds NoneDue (Inquires session_lines word limit) (λ bytes why. (limit ≡ max_key_data) × deciding.sent bytes why)
  inquires_of word limit before events result after does remembers why (inl due) = absurd due
  inquires_of word limit before events result after (client_actions.given {bytes} is) remembers why (inr decided) = subst (λ r. SaidDecides deciding limit r why) is (decided_only decided)
  inquires_of word limit before events result after (client_actions.not_given {why = unheard} is) remembers why (inr decided) =
      client_line why unheard (Client unheard) (subst (λ r. SaidDecides deciding limit r why) is (decided_only decided)) refl

-- the events of what is asked and told for a passphrase of a key, or of what is cached
module _ (deciding : Deciding) where
  no_key_data : MAX_SECRET_LEN ≢ max_key_data
  no_key_data same = let no : ⊥ = omega arith in no

  no_note : MAX_NOTE_LEN ≢ max_key_data
  no_note same = let no : ⊥ = omega arith in no

  pub fits_keys : FitsKeys (IsSaidAlone deciding)
  fits_keys = record {
    memory = free deciding;
    cut = λ text. free deciding;
    limits = free deciding;
    clients = λ word inquired. no_key_data;
    notes = λ pid inquired. no_note;
    calls = λ event. free deciding;
    nonces = λ id turn. free deciding;
    keys = λ grip way turn. free deciding;
    seats_for = λ grip turn. free deciding;
    seats = λ turn. free deciding;
    peeks = λ grip turn. free deciding;
    infos = λ grip is_cached clear. free deciding;
  }

  pub fits_cache : FitsCache (IsSaidAlone deciding)
  fits_cache = record {
    cut = λ text. free deciding;
    limits = free deciding;
    clients = λ inquired. no_key_data;
    notes = λ pid inquired. no_note;
    calls = λ event. free deciding;
    asks = λ id turn. free deciding;
    opens = λ id turn. free deciding;
    seats = λ turn. free deciding;
  }

-- ---- the answer

module _ (deciding : Deciding) where
  pub answer_free : {held : Option ℕ} {back : List Event} (line : Option (List ℕ)) → Closes None held back (Ok tt) None → AllByRecursion (IsFree deciding) (back ++ said_last line)
  answer_free = each_answer (IsFree deciding) (λ number turn. free deciding) (λ text. free deciding)

  -- what decides a request stands before its answer
  pub decided_before : {why : Code} (events more : List Event) → AllByRecursion (IsFree deciding) more → IsDecided deciding (events ++ more) why → IsDecided deciding events why
  decided_before {why} events more frees decided =
      elim (has_split events more decided.has) [
        | inl has ↦ record { event = decided.event; has = has; decides = decided.decides }
        | inr has ↦ absurd (never_decided deciding more frees {why = why} (record { event = decided.event; has = has; decides = decided.decides }))
      ]

-- a line that is said last is an error line
pub said_error : (first back : List Event) (line : Option (List ℕ)) (why : Code) → line ≡ Some (failed why) → HasError why OfAgent (first ++ (back ++ said_last line))
said_error first back line why is = subst (λ l. HasError why OfAgent (first ++ (back ++ said_last l))) (sym is) (has_right first (has_right back here))

-- a request whose actions heed it is answered so
module _ (deciding : Deciding) {A : Type 0} {Due : Code → Type 0} {action : Action A} (heeds : Heeds deciding Due action NoneOwed) (why : Code) where
  module _ {events back : List Event} {held : Option ℕ} (line : Option (List ℕ)) (closes : Closes None held back (Ok tt) None) (remembers : AllByRecursion Remembers (events ++ (back ++ said_last line)))
      (due : Due why ⊎ IsDecided deciding (events ++ (back ++ said_last line)) why) where
    before : Due why ⊎ IsDecided deciding events why
    before = elim due [
      | inl is ↦ inl is
      | inr decided ↦ inr (decided_before deciding events (back ++ said_last line) (answer_free deciding line closes) decided)
    ]

    pub never_ok : {value : A} → action None events (Ok value) held → ⊥
    never_ok {value} does = heeds None events (Ok value) held does (each_left Remembers events _ remembers) why before

    pub error_said : {refusal : Refusal} → refusal_line refusal ≡ line → action None events (Err refusal) held → HasError why OfAgent (events ++ (back ++ said_last line))
    error_said {refusal} is does = said_error events back line why (sym is ∙ heeds None events (Err refusal) held does (each_left Remembers events _ remembers) why before)
