-- A call of the trust file that decides its request is the last thing that is done for it.
use Rattle.std.{specs.List.AllByRecursion, proofs.Common.{◌≡◌, ◌∙◌, ℕ, List, [], ◌∷◌, ◌++◌, Option, Some, None, Result, Ok, Err, refl, sym, ap, subst, append_assoc}}
use Rattle.agent_ask.{specs.Session.{PortCalls.{Keys, Dice, NoMemory, Prompt, Trust}, SessionEvents.{Received, Sent, Cut, Inquiry, CacheTurn, Port, cache_turn, said_last}, TrustCalls.Read, TurnActions.Closes}, proofs.Within.{Within, weaker}}
use Rattle.{assuan_server.specs.Written.{ok, refusal_line}, agent_commands.specs.{Requests.request_of, declared.went.Went.Went}, agent_ports.specs.declared.trust.TrustRead.TrustRead, cache_policy.specs.Turns.Turn}
use Rattle.{cache_policy.specs.declared.mark.MarkStep.TheVariants.Close, session_client.specs.declared.refusal.Refusal.Refusal, session_options.specs.{OptionValues.OptionValues, declared.rules.Rules.Rules}}
use Rattle.agent_origin.specs.{DoorSessions.{AllowedExchange, DoorExchange}, TrustExchanges.{Carried, TrustExchange}, TrustActions.{ReadsFile, Replaces, file_in, trust_called}, declared.door.Door.Door}
use Rattle.agent_origin.{specs.declared.{session_state.SessionState.SessionState, trust.request.TrustRequest.TrustRequest}, proofs.{EachLine.each_request, EachTrust.{TrustLaws, carried_so, each_adds}}}
use Rattle.key_commands.{specs.{Actions.{Action, refusal_events}, Events.Event}, proofs.{EachEvent.{IsStill, EachSo, each_append, each_seats, agrees_to}, EachRequest.{IsBesideTrust, still_beside}}}
use Rattle.agent_session.{specs.TrustCalls.{decided_line, IsLastLine, alone, given_back, EndsAtCalls}, proofs.Decisions.TrustTold.{Told, answered, refused, told}}
use Rattle.agent_ports.specs.declared.trust.TrustRead.TheVariants as read
use Rattle.agent_origin.specs.DoorSessions as doors
use Rattle.agent_ask.specs.Session.TurnActions as taken
use Rattle.agent_origin.specs.TrustActions as actions

-- ---- lists

-- it decides no request
abbrev IsUndecided : Event → Type 0
IsUndecided event = decided_line event ≡ None

abbrev Undecided : List Event → Type 0
Undecided events = AllByRecursion IsUndecided events

both_undecided : (first more : List Event) → Undecided first → Undecided more → Undecided (first ++ more)
both_undecided first more = each_append IsUndecided first more

beside_undecided : (events : List Event) → AllByRecursion IsBesideTrust events → Undecided events
beside_undecided [] each = tt
beside_undecided (Received took ∷ more) each = absurd each.0
beside_undecided (Sent text ∷ more) each = (refl, beside_undecided more each.1)
beside_undecided (Cut text ∷ more) each = (refl, beside_undecided more each.1)
beside_undecided (Inquiry word params limit inquired ∷ more) each = (refl, beside_undecided more each.1)
beside_undecided (CacheTurn taken ∷ more) each = (refl, beside_undecided more each.1)
beside_undecided (Port (Prompt event) ∷ more) each = (refl, beside_undecided more each.1)
beside_undecided (Port (Keys call) ∷ more) each = (refl, beside_undecided more each.1)
beside_undecided (Port (Dice draw) ∷ more) each = (refl, beside_undecided more each.1)
beside_undecided (Port NoMemory ∷ more) each = (refl, beside_undecided more each.1)
beside_undecided (Port (Trust call) ∷ more) each = absurd each.0

still_undecided : (event : Event) → IsStill event → IsUndecided event
still_undecided event still = (beside_undecided (event ∷ []) (still_beside event still, tt)).0

said_undecided : (line : Option (List ℕ)) → Undecided (said_last line)
said_undecided None = tt
said_undecided (Some line) = (refl, tt)

none_ends : (events : List Event) → Undecided events → EndsAtCalls events
none_ends [] each = tt
none_ends (event ∷ more) each = ((λ text is. let never : None ≡ Some text = sym each.0 ∙ is in absurd (cc never)), none_ends more each.1)

last_ends : {text : List ℕ} {behind : List Event} (work : List Event) (event : Event) → Undecided work → decided_line event ≡ Some text → IsLastLine text behind → Undecided behind
    → EndsAtCalls (work ++ event ∷ behind)
last_ends {behind} [] event each is last others =
    ((λ other other_is. let same : Some _ ≡ Some other = sym is ∙ other_is in let alike : _ ≡ other = cc same in subst (λ t. IsLastLine t behind) alike last), none_ends behind others)
last_ends (first ∷ work) event each is last others =
    ((λ text other_is. let never : None ≡ Some text = sym each.0 ∙ other_is in absurd (cc never)), last_ends work event each.1 is last others)

-- ---- actions

-- nothing, or the return of a ticket
data NoBack : List Event → Type 0 where
  no_back : NoBack []

data IsBack : List Event → Type 0 where
  unheld : IsBack []
  returned : {ticket : ℕ} (turn : Turn) → IsBack (cache_turn (Close ticket None) turn ∷ [])

module _ {R : Type 0} (line : R → Option (List ℕ)) where
  -- the line by which an action is answered, where it is the last
  abbrev text_of : {A : Type 0} → Result A R → Option (List ℕ)
  text_of (Ok value) = Some ok
  text_of (Err why) = line why

  -- by none of an action's events its request is decided, or by the last one but what stands behind it
  data Comes (Back : List Event → Type 0) {A : Type 0} : List Event → Result A R → Type 0 where
    goes : {events : List Event} {result : Result A R} → Undecided events → Comes Back events result
    decided : {text : List ℕ} {back : List Event} {result : Result A R} (work : List Event) (event : Event) → Undecided work → decided_line event ≡ Some text → Back back
        → text_of result ≡ Some text → Comes Back (work ++ event ∷ back) result

abbrev Come : (List Event → Type 0) → {A : Type 0} → List Event → Result A Refusal → Type 0
Come Back = Comes refusal_line Back

module _ (Back : List Event → Type 0) (none_back : Back []) where
  abbrev EndLaw : {A : Type 0} → Action A
  EndLaw before events result after = Come Back events result

  -- what an action comes to that others follow
  abbrev StepsTo : {A : Type 0} → List Event → Result A Refusal → Type 0
  StepsTo events (Ok value) = Undecided events
  StepsTo {A} events (Err why) = Come Back {A = A} events (Err why)

  abbrev StepLaw : {A : Type 0} → Action A
  StepLaw before events result after = StepsTo events result

  prepend : {A : Type 0} (first : List Event) {more : List Event} {result : _} → Undecided first → Come Back {A = A} more result → Come Back {A = A} (first ++ more) result
  prepend first {more} each (goes others) = goes (both_undecided first more each others)
  prepend first {result} each (decided {back} work event others is behind answers) =
      subst (λ events. Come Back {A = _} events result) (append_assoc first work (event ∷ back)) (decided (first ++ work) event (both_undecided first work each others) is behind answers)

  as_refused : {A B : Type 0} {events : List Event} {why : _} → Come Back {A = A} events (Err why) → Come Back {A = B} events (Err why)
  as_refused (goes each) = goes each
  as_refused (decided work event each is behind answers) = decided work event each is behind answers

  undecided_step : {A : Type 0} (events : List Event) (result : Result A Refusal) → Undecided events → StepsTo events result
  undecided_step events (Ok value) each = each
  undecided_step events (Err why) each = goes each

  steps : {A : Type 0} {action : Action A} → EachSo IsUndecided action → Within action StepLaw
  steps = weaker (record { of = λ before events result after each. undecided_step events result each })

  -- ---- the trust file

  read_undecided : (answer : TrustRead) {file : List ℕ} → file_in answer ≡ Some file → decided_line (trust_called (Read answer)) ≡ None
  read_undecided (read.Found file) is = refl
  read_undecided read.Absent is = refl
  read_undecided read.Failed is = absurd (cc is)
  read_undecided read.NoMemory is = absurd (cc is)

  reads_of : (before : Option ℕ) (events : List Event) (result : Result (List ℕ) Refusal) (after : Option ℕ) → ReadsFile before events result after → StepsTo events result
  reads_of _ _ _ _ (actions.has_read {answer} is) = (read_undecided answer is, tt)
  reads_of _ _ _ _ actions.faulted = decided [] _ tt refl none_back refl
  reads_of _ _ _ _ actions.no_memory = decided [] _ tt refl none_back refl

  replaces_of : (file : List ℕ) (before : Option ℕ) (events : List Event) (result : Result (Unit {0}) Refusal) (after : Option ℕ) → Replaces file before events result after → Come Back events result
  replaces_of file _ _ _ _ actions.replaced = decided [] _ tt refl none_back refl
  replaces_of file _ _ _ _ actions.faulted = decided [] _ tt refl none_back refl
  replaces_of file _ _ _ _ actions.no_memory = decided [] _ tt refl none_back refl

  end_laws : (options : OptionValues) → TrustLaws options (λ A. StepLaw) (λ A. EndLaw)
  end_laws options = record {
    joins = record { then = λ some later stepped ends. prepend some stepped ends; alone = λ stepped. as_refused stepped };
    nothing = record { of = λ held result. goes tt };
    seats = steps (each_seats IsUndecided (λ turn. refl));
    agrees = λ rules question. steps (agrees_to IsUndecided still_undecided (λ event. refl) rules options question);
    reads = record { of = reads_of };
    adds = λ file fingerprint purpose. steps (each_adds IsUndecided refl file fingerprint _);
    replaces = λ file. record { of = replaces_of file };
  }

carried : (rules : Rules) (options : OptionValues) (request : TrustRequest) → Within (Carried rules options request) (EndLaw NoBack no_back)
carried rules options = carried_so (end_laws NoBack no_back options) rules

-- a ticket that is still held is given back
with_back : {held : Option ℕ} {events back : List Event} {result : _} → Come NoBack {A = Unit {0}} events result → Closes None held back (Ok tt) None → Come IsBack {A = Unit {0}} (events ++ back) result
with_back {events} (goes each) taken.unheld = goes (both_undecided events [] each tt)
with_back {events} (goes each) (taken.closed turn can) = goes (both_undecided events _ each (refl, tt))
with_back {result} (decided work event each is no_back answers) taken.unheld =
    subst (λ e. Come IsBack {A = Unit {0}} e result) (sym (append_assoc work (event ∷ []) [])) (decided work event each is unheld answers)
with_back {result} (decided work event each is no_back answers) (taken.closed {ticket} turn can) =
    subst (λ e. Come IsBack {A = Unit {0}} e result) (sym (append_assoc work (event ∷ []) (cache_turn (Close ticket None) turn ∷ []))) (decided work event each is (returned turn) answers)

-- ---- the answer

back_undecided : {back : List Event} → IsBack back → Undecided back
back_undecided unheld = tt
back_undecided (returned turn) = (refl, tt)

last_line : {back : List Event} (text : List ℕ) → IsBack back → IsLastLine text (back ++ Sent text ∷ [])
last_line text unheld = alone
last_line text (returned turn) = given_back turn

finishes : {text : List ℕ} {back : List Event} (work : List Event) (event : Event) (answer : List Event) → Undecided work → decided_line event ≡ Some text → IsBack back → answer ≡ Sent text ∷ []
    → EndsAtCalls ((work ++ event ∷ back) ++ answer)
finishes {text} {back} work event answer each is behind said =
    subst EndsAtCalls (sym (append_assoc work (event ∷ back) answer))
    (last_ends work event each is (subst (λ a. IsLastLine text (back ++ a)) (sym said) (last_line text behind))
    (both_undecided back answer (back_undecided behind) (subst Undecided (sym said) (refl, tt))))

answered_ends : {events : List Event} → Come IsBack {A = Unit {0}} events (Ok tt) → EndsAtCalls (events ++ Sent ok ∷ [])
answered_ends {events} (goes each) = none_ends (events ++ Sent ok ∷ []) (both_undecided events (Sent ok ∷ []) each (refl, tt))
answered_ends (decided work event each is behind answers) = finishes work event (Sent ok ∷ []) each is behind (ap said_last answers)

refused_so : {events : List Event} (why : _) → Come IsBack {A = Unit {0}} events (Err why) → EndsAtCalls (events ++ refusal_events why)
refused_so {events} why (goes each) = none_ends (events ++ refusal_events why) (both_undecided events (refusal_events why) each (said_undecided (refusal_line why)))
refused_so why (decided work event each is behind answers) = finishes work event (refusal_events why) each is behind (ap said_last answers)

told_ends : (rules : Rules) (options : OptionValues) (request : TrustRequest) {events : List Event} {went : Went} → Told rules options request events went → EndsAtCalls events
told_ends rules options request (answered events back does closes) =
    subst EndsAtCalls (append_assoc events back (Sent ok ∷ [])) (answered_ends (with_back ((carried rules options request).of _ _ _ _ does) closes))
told_ends rules options request (refused events back why does closes) =
    subst EndsAtCalls (append_assoc events back (refusal_events why)) (refused_so why (with_back ((carried rules options request).of _ _ _ _ does) closes))

trust_ends : (rules : Rules) (options : OptionValues) (request : TrustRequest) {events : List Event} {went : Went} → TrustExchange rules options request events went → EndsAtCalls events
trust_ends rules options request exchanged = told_ends rules options request (told rules options request exchanged)

module _ {rules : Rules} {before : SessionState} {line : List ℕ} where
  allowed_ends : {command : _} {events : List Event} {after : SessionState} {went : Went} → AllowedExchange rules before line command events after went → EndsAtCalls events
  allowed_ends doors.helped = ((λ text is. absurd (cc is)), tt)
  allowed_ends doors.unset = ((λ text is. absurd (cc is)), tt)
  allowed_ends (doors.trusts exchanged) = trust_ends _ _ _ exchanged
  allowed_ends (doors.any {events = own} exchanged) = none_ends own (beside_undecided own (each_request IsBesideTrust (λ event is. is) (request_of line) exchanged))

  pub door_ends : {door : Door} {events : List Event} {after : SessionState} {went : Went} → DoorExchange door rules before line events after went → EndsAtCalls events
  door_ends (doors.forbidden refuses) = ((λ text is. absurd (cc is)), tt)
  door_ends (doors.is_allowed allows exchanged) = allowed_ends exchanged
