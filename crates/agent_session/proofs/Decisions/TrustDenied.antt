-- A request on the trust list is answered Not trusted wherever a read of the file says so.
use Rattle.std.{specs.List.AllByRecursion, proofs.Common.{◌≡◌, ◌⊎◌, ◌∙◌, ℕ, Bool, true, false, List, [], ◌∷◌, ◌++◌, Option, Some, None, Result, Ok, Err, refl, sym, subst, inl, inr}}
use Rattle.agent_ask.specs.{Session.{SessionEvents.said_last, TrustCalls.TrustCall, Actions.{◌>>=◌, Follows, Refuses}, TurnActions.Closes}, ConsentActions.AgreesTo}
use Rattle.{agent_ask.proofs.Within.{Within, Joins, OfNothing, Does, weaker, bind, returned, refused, refused_so}, assuan_server.specs.{Written.{ok, failed, refusal_line}, declared.errors.Origin.TheVariants.Agent, Clients.session_lines}}
use Rattle.{agent_commands.specs.declared.went.Went.Went, agent_ports.specs.declared.grip.Grip.Grip, session_client.specs.declared.refusal.Refusal.Refusal, key_commands.specs.{Events.{Event, out_of_memory}, Actions.Action}}
use Rattle.{key_commands.proofs.{EachEvent.{EachSo, each_seats, agrees_to}, EachRequest.{IsBesideTrust, still_beside}}, session_options.specs.{OptionValues.OptionValues, declared.{options.PinMode.PinMode, rules.Rules.Rules}}}
use Rattle.{trust_list.specs.Trust.trust, agent_origin.specs.TrustExchanges.{flag_of, trust_question, fingerprint_question, unless_said, TrustedNow, Stores, StoresUnsaid, Consented, asked_in, Marked, Carried, TrustExchange}}
use Rattle.agent_origin.{specs.{TrustActions.{ReadsFile, Replaces, trust_called}, declared.trust.request.{TrustPurpose.TrustPurpose, TrustRequest.{TrustRequest, TheVariants.{IsTrusted, MarkTrusted}}}}, proofs.EachTrust.each_adds}
use Rattle.agent_session.{specs.{Causes.{Has, here, later}, Completeness.HasError, DoorCauses.{IsReadTrust, read_trust, IsAsked, IsNotTrusted, unsaid, denied, denied_mark}}, proofs.Standing.has_right}
use Rattle.agent_session.proofs.Decisions.TrustTold.{Told, answered, refused as refused_then, told}
use Rattle.session_client.specs.declared.code.Code.TheVariants as code
use Rattle.session_options.specs.declared.options.PinMode.TheVariants as mode
use Rattle.agent_ask.specs.Session.Actions as chain
use Rattle.agent_ask.specs.Session.TurnActions as taken
use Rattle.agent_origin.specs.TrustActions as actions

-- no call of the trust file is among events that are beside it
pub none_called : (events : List Event) → AllByRecursion IsBesideTrust events → {call : TrustCall} → Has (trust_called call) events → ⊥
none_called [] each has = elim has [ ]
none_called (event ∷ more) each here = each.0
none_called (event ∷ more) each (later has) = none_called more each.1 has

split : {E : Type 0} {event : E} (first more : List E) → Has event (first ++ more) → Has event first ⊎ Has event more
split [] more has = inr has
split (event ∷ first) more here = inl here
split (other ∷ first) more (later has) = elim (split first more has) [ inl before ↦ inl (later before) | inr behind ↦ inr behind ]

split_read : (first more : List Event) {file : List ℕ} → IsReadTrust (first ++ more) file → IsReadTrust first file ⊎ IsReadTrust more file
split_read first more (read_trust {answer} is has) = elim (split first more has) [ inl before ↦ inl (read_trust {answer = answer} is before) | inr behind ↦ inr (read_trust {answer = answer} is behind) ]

-- an action that comes to nothing else than Not trusted
abbrev IsDenial : {A : Type 0} → Result A Refusal → Type 0
IsDenial (Ok value) = ⊥
IsDenial (Err why) = refusal_line why ≡ Some (failed code.NotTrusted)

abbrev Denies : {A : Type 0} → Action A → Type 0
Denies action = Within action (λ before events result after. IsDenial result)

denies_refused : {A : Type 0} {why : Refusal} → refusal_line why ≡ Some (failed code.NotTrusted) → Denies (Refuses {A = A} why)
denies_refused {why} is = refused_so why (λ held. is)

-- this is what the read file says of the certificate
module _ (fingerprint : Grip) (file : List ℕ) where
  -- by no event of such an action the file is read that has these bytes
  abbrev Unread : List Event → Type 0
  Unread events = ¬ IsReadTrust events file

  abbrev ReadsNot : {A : Type 0} → Action A → Type 0
  ReadsNot action = Within action (Does Unread)

  -- where it is read by an action, that is refused as Not trusted
  abbrev HeedLaw : {A : Type 0} → Action A
  HeedLaw before events result after = IsReadTrust events file → IsDenial result

  abbrev Heeds : {A : Type 0} → Action A → Type 0
  Heeds action = Within action HeedLaw

  by_never : {A : Type 0} {action : Action A} → ReadsNot action → Heeds action
  by_never = weaker (record { of = λ before events result after never is_read. absurd (never is_read) })

  none_read : Unread []
  none_read (read_trust is has) = elim has [ ]

  heeds_nothing : {A : Type 0} → OfNothing {A = A} HeedLaw
  heeds_nothing = record { of = λ held result is_read. absurd (none_read is_read) }

  refuses_heeds : {A : Type 0} {why : Refusal} → Heeds (Refuses {A = A} why)
  refuses_heeds {why} = refused heeds_nothing why

  -- an event by which it isn't read
  abbrev IsUnread : Event → Type 0
  IsUnread event = Unread (event ∷ [])

  none_among : (events : List Event) → AllByRecursion IsUnread events → Unread events
  none_among [] each is_read = none_read is_read
  none_among (event ∷ more) each is_read = elim (split_read (event ∷ []) more is_read) [ inl before ↦ each.0 before | inr behind_it ↦ none_among more each.1 behind_it ]

  each_unread : {A : Type 0} {action : Action A} → EachSo IsUnread action → ReadsNot action
  each_unread = weaker (record { of = λ before events result after each. none_among events each })

  beside_unread : (event : Event) → IsBesideTrust event → IsUnread event
  beside_unread event beside (read_trust found has) = none_called (event ∷ []) (beside, tt) has

  agrees_never : (rules : Rules) (options : OptionValues) (question : List ℕ) → ReadsNot (AgreesTo session_lines rules options question)
  agrees_never rules options question = each_unread (agrees_to IsUnread (λ event still. beside_unread event (still_beside event still)) (λ event. beside_unread _ tt) rules options question)

  replaces_of : (new : List ℕ) (before : Option ℕ) (events : List Event) (result : Result (Unit {0}) Refusal) (after : Option ℕ) → Replaces new before events result after → Unread events
  replaces_of new _ _ _ _ actions.replaced (read_trust is (later has)) = elim has [ ]
  replaces_of new _ _ _ _ actions.faulted (read_trust is (later has)) = elim has [ ]
  replaces_of new _ _ _ _ actions.no_memory (read_trust is (later has)) = elim has [ ]

  -- an action that doesn't read, and then one that heeds what it reads
  unread_joins : {A B : Type 0} → Joins {A = A} {B = B} (Does Unread) (λ value. HeedLaw) HeedLaw
  unread_joins = record {
    then = λ some more never heeds is_read. elim (split_read some more is_read) [ inl before ↦ absurd (never before) | inr behind_it ↦ heeds behind_it ];
    alone = λ never is_read. absurd (never is_read);
  }

  behind : {A B : Type 0} {action : Action A} {next : A → Action B} → ReadsNot action → ((value : A) → Heeds (next value)) → Heeds (action >>= next)
  behind = bind unread_joins

  -- a read, by which the request is decided where the file says something
  module _ (bad : ¬ (trust file fingerprint.0 ≡ Some true)) (otherwise : List ℕ → Action (Unit {0})) (heeds : (other : List ℕ) → Heeds (otherwise other))
      (denies_too : trust file fingerprint.0 ≡ None → Denies (otherwise file)) where
    abbrev Decided : List ℕ → Action (Unit {0})
    Decided other = unless_said (trust other fingerprint.0) (otherwise other)

    unless_heeds : (said : Option Bool) (other : Action (Unit {0})) → Heeds other → Heeds (unless_said said other)
    unless_heeds (Some true) other heeds_so = returned heeds_nothing tt
    unless_heeds (Some false) other heeds_so = refuses_heeds
    unless_heeds None other heeds_so = heeds_so

    unless_denies : (said : Option Bool) → trust file fingerprint.0 ≡ said → Denies (unless_said said (otherwise file))
    unless_denies (Some true) is = absurd (bad is)
    unless_denies (Some false) is = denies_refused refl
    unless_denies None is = denies_too is

    decides : Heeds (ReadsFile >>= Decided)
    decides = record { of = decides_of }
      where
        decides_of : (before : Option ℕ) (events : List Event) (result : Result (Unit {0}) Refusal) (after : Option ℕ) → Follows ReadsFile Decided before events result after → IsReadTrust events file → IsDenial result
        decides_of before _ result after (chain.goes_on {events = more} (actions.has_read {file = other} is) does) (read_trust found here) =
            let same : other ≡ file = cc in (unless_denies (trust file fingerprint.0) refl).of before more result after (subst (λ o. Decided o before more result after) same does)
        decides_of before _ result after (chain.goes_on {events = more} (actions.has_read {file = other} is) does) (read_trust {answer} found (later has)) =
            (unless_heeds (trust other fingerprint.0) (otherwise other) (heeds other)).of before more result after does (read_trust {answer = answer} found has)
        decides_of _ _ _ _ (chain.stops actions.faulted) (read_trust found here) = absurd (cc found)
        decides_of _ _ _ _ (chain.stops actions.faulted) (read_trust found (later has)) = elim has [ ]
        decides_of _ _ _ _ (chain.stops actions.no_memory) (read_trust found here) = absurd (cc found)
        decides_of _ _ _ _ (chain.stops actions.no_memory) (read_trust found (later has)) = elim has [ ]

  -- ---- whole requests

  asked_heeds : ¬ (trust file fingerprint.0 ≡ Some true) → Heeds (TrustedNow fingerprint)
  unfolding TrustedNow
  asked_heeds bad = decides bad _ (λ other. refuses_heeds) (λ none. denies_refused refl)

  module _ (rules : Rules) (options : OptionValues) (purpose : TrustPurpose) (name : List ℕ) (bad : trust file fingerprint.0 ≡ Some false) where
    not_true : ¬ (trust file fingerprint.0 ≡ Some true)
    not_true is = absurd (cc (bad, is))

    stores_heeds : (old : List ℕ) → Heeds (Stores fingerprint purpose old)
    unfolding Stores
    stores_heeds old = behind (each_unread (each_adds IsUnread (beside_unread out_of_memory tt) old fingerprint (flag_of purpose))) (λ new. by_never (record { of = replaces_of new }))

    unsaid_heeds : Heeds (StoresUnsaid fingerprint purpose)
    unfolding StoresUnsaid
    unsaid_heeds = decides not_true _ stores_heeds (λ none. absurd (cc (bad, none)))

    consented_heeds : Heeds (Consented rules options fingerprint purpose name)
    unfolding Consented
    consented_heeds = behind (agrees_never rules options (trust_question name)) (λ trusted. behind (agrees_never rules options (fingerprint_question fingerprint name)) (λ right. unsaid_heeds))

    prompt_heeds : (way : PinMode) → Heeds (asked_in rules options fingerprint purpose name way)
    prompt_heeds mode.Ask = behind (each_unread (each_seats IsUnread (λ turn. beside_unread _ tt))) (λ seated. consented_heeds)
    prompt_heeds mode.Cancel = refuses_heeds
    prompt_heeds mode.Error = refuses_heeds
    prompt_heeds mode.Loopback = refuses_heeds

    marked_heeds : Heeds (Marked rules options fingerprint purpose name)
    unfolding Marked
    marked_heeds = decides not_true _ (λ other. prompt_heeds options.mode) (λ none. absurd (cc (bad, none)))

-- ---- requests

-- a refusal's line is the last event
refused_last : (events back : List Event) {line : Option (List ℕ)} → line ≡ Some (failed code.NotTrusted) → HasError code.NotTrusted Agent (events ++ (back ++ said_last line))
refused_last events back is =
    subst (λ l. HasError code.NotTrusted Agent (events ++ (back ++ said_last l))) (sym is) (has_right events (has_right back here))

-- neither the return of a ticket nor what is said is a read
none_said : (line : Option (List ℕ)) {file : List ℕ} → IsReadTrust (said_last line) file → ⊥
none_said None (read_trust is has) = elim has [ ]
none_said (Some line) (read_trust is (later has)) = elim has [ ]

none_behind : {held : Option ℕ} {back : List Event} (events : List Event) (line : Option (List ℕ)) {file : List ℕ} → Closes None held back (Ok tt) None → IsReadTrust (events ++ (back ++ said_last line)) file
    → IsReadTrust events file
none_behind events line taken.unheld is_read = elim (split_read events _ is_read) [ inl before ↦ before | inr said ↦ absurd (none_said line said) ]
none_behind events line (taken.closed turn can) is_read =
    elim (split_read events _ is_read) [ inl before ↦ before | inr (read_trust is (later has)) ↦ absurd (none_said line (read_trust is has)) ]

module _ (rules : Rules) (options : OptionValues) where
  told_heeded : (fingerprint : Grip) (file : List ℕ) (request : TrustRequest) → Heeds fingerprint file (Carried rules options request) → {events : List Event} {went : Went}
      → Told rules options request events went → IsReadTrust events file → HasError code.NotTrusted Agent events
  told_heeded fingerprint file request heeds (answered events back does closes) is_read = absurd (heeds.of None events (Ok tt) _ does (none_behind events (Some ok) closes is_read))
  told_heeded fingerprint file request heeds (refused_then events back why does closes) is_read = refused_last events back (heeds.of None events (Err why) _ does (none_behind events (refusal_line why) closes is_read))

  heeded : (fingerprint : Grip) (file : List ℕ) (request : TrustRequest) → Heeds fingerprint file (Carried rules options request) → {events : List Event} {went : Went}
      → TrustExchange rules options request events went → IsReadTrust events file → HasError code.NotTrusted Agent events
  heeded fingerprint file request heeds exchanged = told_heeded fingerprint file request heeds (told rules options request exchanged)

  asked_heeded : {fingerprint : Grip} {said : Option Bool} {request : TrustRequest} {events : List Event} {went : Went} → ¬ (said ≡ Some true) → IsAsked events request fingerprint said
      → TrustExchange rules options request events went → HasError code.NotTrusted Agent events
  asked_heeded {fingerprint} {events} {went} other asked exchanged =
      heeded fingerprint asked.file (IsTrusted fingerprint) (asked_heeds fingerprint asked.file (λ is. other (sym asked.says_so ∙ is))) (subst (λ r. TrustExchange rules options r events went) asked.request_is exchanged)
      asked.is_read

  pub denial_is_said : {request : TrustRequest} {events : List Event} {went : Went} → TrustExchange rules options request events went → IsNotTrusted events request
      → HasError code.NotTrusted Agent events
  denial_is_said exchanged (unsaid asked) = asked_heeded (λ is. absurd (cc is)) asked exchanged
  denial_is_said exchanged (denied asked) = asked_heeded (λ is. absurd (cc is)) asked exchanged
  denial_is_said {events} {went} exchanged (denied_mark {fingerprint} {purpose} {file} marked) =
      heeded fingerprint file (MarkTrusted fingerprint purpose marked.name) (marked_heeds fingerprint file rules options purpose marked.name.items marked.says_so)
      (subst (λ r. TrustExchange rules options r events went) marked.request_is exchanged) marked.is_read
