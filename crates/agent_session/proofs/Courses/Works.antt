-- The one form of what is done for a request: each event goes on, but a last one by which the request is refused or its client is gone. It is so of nothing, of a
-- action and what follows on its value, and of the smallest actions of a request.
use Rattle.std.{specs.List.AllByRecursion, proofs.Common.{codes, ◌≡◌, ◌≢◌, ℕ, Bool, List, [], ◌∷◌, ◌++◌, Option, Some, None, Result, Ok, Err, refl, sym, ap, ◌∙◌, subst, append_assoc, append-nil}}
use Rattle.agent_ask.specs.{Session.{ClientActions.{Writes, Inquires, AsksClient}, PortCalls.{Listed, Replaced, Dice, Draw, Prompt}, Actions.{◌>>=◌, Returns, Refuses, needed, or_else, unless, wanted}}, Events.{Called, Shut}, Interrupts.Interrupts}
use Rattle.{agent_ask.{specs.Session.{SessionEvents.{Received, Sent, Cut, Inquiry, CacheTurn, Port, cache_turn}, TurnActions.{Asks, Seats, Changes, Peeks, Closes}}, proofs.Within.{Within, Joins, OfNothing}}, agent_ports.specs.declared.grip.Grip.Grip}
use Rattle.{agent_ports.specs.declared.keys.{KeyDone.KeyDone, KeyNames.KeyNames, KeyRead.KeyRead}, assuan_server.specs.{Clients.session_lines, Inquiries.{Outcome, IsAtEnd}}, cache_policy.specs.Turns.{Turn, closes}}
use Rattle.{cache_policy.specs.declared.{mark.MarkStep.{MarkStep, TheVariants.{Peek, Close}}, mode.Mode.Mode}, secret_file.specs.Opens.LockedKey, session_client.specs.{Asking.{Asked, said_by}, declared.code.Code.Code}}
use Rattle.{session_client.specs.declared.{refusal.Refusal.{Refusal, TheVariants.{Agent, Client}}, client_error.ClientError.ClientError}, sexp_keys.specs.Key.Key, key_commands.specs.Lines.max_key_data}
use Rattle.key_commands.specs.{Events.{Event, called, read, out_of_memory}, Files.Rewrites}
use Rattle.key_commands.specs.KeyActions.{Tells, tells, ReadsFile, Replaces, KeepsNew, Protects, IsShort, ListsGrips, JoinsGrips, ReadsListed, AsksKeyData, Unwraps, NamesKey, LooksOver, WrapsKey, file_in, grips_in, change_fault}
use Rattle.key_commands.{specs.{Actions.{Action, Finds, Draws, read_fault}, Passphrases.{LooksForNonce, TakesSeat, Locks, TriesPassphrase, TriesFound, ask_nonce, put_key, seat_for}}, proofs.EachEvent.each_append}
use Rattle.agent_session.specs.Refusals.{turn_refuses, change_refuses, refuses, shuts}
use Rattle.agent_ask.specs.Session.ClientActions as client
use Rattle.agent_ask.specs.Interrupts as turns
use Rattle.agent_ask.proofs.Within as within
use Rattle.agent_ask.specs.Session.TurnActions as taken
use Rattle.agent_ports.specs.declared.keys.KeyDone.TheVariants as key_done
use Rattle.agent_ports.specs.declared.keys.KeyNames.TheVariants as key_names
use Rattle.agent_ports.specs.declared.keys.KeyRead.TheVariants as key_read
use Rattle.assuan_server.specs.Inquiries as outcomes
use Rattle.session_client.specs.declared.code.Code.TheVariants as code
use Rattle.session_client.specs.declared.client_error.Gone.TheVariants as gone
use Rattle.session_client.specs.declared.client_error.ClientError.TheVariants as client_error
use Rattle.key_commands.specs.Files as files
use Rattle.key_commands.specs.KeyActions as actions
use Rattle.key_commands.specs.Actions as small
use Rattle.key_commands.specs.Passphrases as passphrases

-- ---- single events

abbrev pub unsaid : Result (List ℕ) ClientError → Option ClientError
unsaid (Err why) = Some why
unsaid (Ok bytes) = None

-- what the client said by an event in place of what it was asked for, or that it is gone
abbrev pub unheard_by : Event → Option ClientError
unheard_by (Cut text) = Some (client_error.Gone gone.WriteFault)
unheard_by (Inquiry word params limit inquired) = unsaid (said_by session_lines inquired)
unheard_by _ = None

-- an event that refuses the request is none of those
pub lost_goes : (event : Event) {why : ClientError} → unheard_by event ≡ Some why → refuses event ≡ None
lost_goes (Cut text) is = refl
lost_goes (Inquiry word params limit inquired) is = refl
lost_goes (Received took) is = refl
lost_goes (Sent text) is = refl
lost_goes (CacheTurn taken) is = absurd (cc is)
lost_goes (Port what) is = absurd (cc is)

-- a turn of a step that gives no ticket back refuses its request by its outcome alone
pub by_turn : (asked : MarkStep) (turn : Turn) {said : Option Code} → closes asked ≡ None → turn_refuses None turn ≡ said → turn_refuses (closes asked) turn ≡ said
by_turn asked turn no_close is = ap (λ c. turn_refuses c turn) no_close ∙ is

-- ---- the form

-- `Fits` is what is so of each event
module _ (Fits : Event → Type 0) where
  abbrev pub GoesOn : Event → Type 0
  GoesOn event = Fits event × (refuses event ≡ None) × (unheard_by event ≡ None)

  -- what an action ends with, by what it comes to
  pub data WorkEnd {A : Type 0} : List Event → Result A Refusal → Type 0 where
    no_more : {result : Result A Refusal} → WorkEnd [] result
    refused : {event : Event} {why : Code} → Fits event → refuses event ≡ Some why → WorkEnd (event ∷ shuts event) (Err (Agent why))
    lost : {event : Event} {last : List Event} {why : ClientError} → Fits event → unheard_by event ≡ Some why → AllByRecursion GoesOn last → WorkEnd (event ∷ last) (Err (Client why))
    -- too much was said, and there was no memory for it
    forgot : {event : Event} → Fits event → unheard_by event ≡ Some client_error.TooMuch → Fits out_of_memory → WorkEnd (event ∷ out_of_memory ∷ []) (Err (Agent code.NoMemory))

  pub record WorksTo {A : Type 0} (events : List Event) (result : Result A Refusal) : Type 0 where
    pub work : List Event
    pub last : List Event
    pub is : events ≡ work ++ last
    pub each : AllByRecursion GoesOn work
    pub end : WorkEnd last result

  pub works : {A : Type 0} {events : List Event} {result : Result A Refusal} → AllByRecursion GoesOn events → WorksTo events result
  works {events} each = record { work = events; last = []; is = sym (append-nil events); each = each; end = no_more }

  ok_last : {A : Type 0} {last : List Event} {value : A} → WorkEnd last (Ok value) → last ≡ []
  ok_last no_more = refl

  err_last : {A B : Type 0} {last : List Event} {why : Refusal} → WorkEnd {A = A} last (Err why) → WorkEnd {A = B} last (Err why)
  err_last no_more = no_more
  err_last (refused fits is) = refused fits is
  err_last (lost fits is each) = lost fits is each
  err_last (forgot fits is memory) = forgot fits is memory

  pub ok_works : {A : Type 0} {events : List Event} {value : A} → WorksTo events (Ok value) → AllByRecursion GoesOn events
  ok_works does = subst (AllByRecursion GoesOn) (sym (does.is ∙ ap (λ l. does.work ++ l) (ok_last does.end) ∙ append-nil does.work)) does.each

  pub err_works : {A B : Type 0} {events : List Event} {why : Refusal} → WorksTo {A = A} events (Err why) → WorksTo {A = B} events (Err why)
  err_works does = record { work = does.work; last = does.last; is = does.is; each = does.each; end = err_last does.end }

  -- behind other work
  pub behind_work : {A : Type 0} {result : Result A Refusal} {events : List Event} (first : List Event) → AllByRecursion GoesOn first → WorksTo events result → WorksTo (first ++ events) result
  behind_work first each does = record {
    work = first ++ does.work;
    last = does.last;
    is = ap (λ e. first ++ e) does.is ∙ sym (append_assoc first does.work does.last);
    each = each_append GoesOn first does.work each does.each;
    end = does.end;
  }

  -- one event alone, which goes on, or refuses its request, also behind one that goes on
  pub one_works : {A : Type 0} {result : Result A Refusal} {event : Event} → Fits event → refuses event ≡ None → unheard_by event ≡ None → WorksTo (event ∷ []) result
  one_works fits goes heard = works ((fits, goes, heard), tt)

  pub refused_by : {A : Type 0} {event : Event} {why : Code} → Fits event → refuses event ≡ Some why → shuts event ≡ [] → WorksTo {A = A} (event ∷ []) (Err (Agent why))
  refused_by {event} fits is alone = record { work = []; last = event ∷ shuts event; is = ap (λ e. event ∷ e) (sym alone); each = tt; end = refused fits is }

  pub refused_second : {A : Type 0} {first event : Event} {why : Code} → GoesOn first → Fits event → refuses event ≡ Some why → shuts event ≡ [] → WorksTo {A = A} (first ∷ event ∷ []) (Err (Agent why))
  refused_second {first} goes fits is alone = behind_work (first ∷ []) (goes, tt) (refused_by fits is alone)

  pub shuts_fit : Fits (Port (Prompt (Called Shut))) → (event : Event) → AllByRecursion Fits (shuts event)
  shuts_fit shut (Port (Prompt event)) = (shut, tt)
  shuts_fit shut _ = tt

  -- all events are so, where the end of a prompt is
  pub each_fits : {A : Type 0} {events : List Event} {result : Result A Refusal} → Fits (Port (Prompt (Called Shut))) → WorksTo events result → AllByRecursion Fits events
  each_fits shut does = subst (AllByRecursion Fits) (sym does.is) (each_append Fits does.work does.last (all_fit does.work does.each) (last_fits does.end))
    where
      all_fit : (events : List Event) → AllByRecursion GoesOn events → AllByRecursion Fits events
      all_fit [] each = tt
      all_fit (event ∷ more) each = (each.0.0, all_fit more each.1)

      last_fits : {B : Type 0} {last : List Event} {came : Result B Refusal} → WorkEnd last came → AllByRecursion Fits last
      last_fits no_more = tt
      last_fits (refused {event} fits is) = (fits, shuts_fit shut event)
      last_fits (lost {last = behind} fits is each) = (fits, all_fit behind each)
      last_fits (forgot fits is memory) = (fits, (memory, tt))

  -- ---- actions

  abbrev pub WorkLaw : {A : Type 0} → Action A
  WorkLaw before events result after = WorksTo events result

  abbrev pub WorksSo : {A : Type 0} → Action A → Type 0
  WorksSo action = Within action WorkLaw

  -- one that leaves the ticket, too
  abbrev pub LeavesTicket : {A : Type 0} → Option ℕ → List Event → Result A Refusal → Option ℕ → Type 0
  LeavesTicket before events result after = WorksTo events result × (after ≡ before)

  abbrev pub Keeps : {A : Type 0} → Action A → Type 0
  Keeps {A} action = (before : Option ℕ) (events : List Event) (result : Result A Refusal) (after : Option ℕ) → action before events result after → LeavesTicket before events result after

  pub keeps_works : {A : Type 0} {action : Action A} → Keeps action → WorksSo action
  keeps_works keeps = record { of = λ before events result after does. (keeps before events result after does).0 }

  works_join : {A B : Type 0} → Joins {A = A} {B = B} WorkLaw (λ value. WorkLaw) WorkLaw
  works_join = record { then = λ some later one other. behind_work some (ok_works one) other; alone = λ one. err_works one }

  works_nothing : {A : Type 0} → OfNothing {A = A} WorkLaw
  works_nothing = record { of = λ held result. works tt }

  pub bind : {A B : Type 0} {action : Action A} {next : A → Action B} → WorksSo action → ((value : A) → WorksSo (next value)) → WorksSo (action >>= next)
  bind = within.bind works_join

  pub returned : {A : Type 0} (value : A) → WorksSo (Returns value)
  returned = within.returned works_nothing

  pub refuses_by : {A : Type 0} (why : Refusal) → WorksSo (Refuses {A = A} why)
  refuses_by = within.refused works_nothing

  pub is_needed : {A : Type 0} (why : Code) (value : Option A) → WorksSo (needed why value)
  is_needed = within.is_needed works_nothing

  pub or_otherwise : {A : Type 0} (value : Option A) {other : Action A} → WorksSo other → WorksSo (or_else value other)
  or_otherwise = within.or_otherwise works_nothing

  pub is_unless : (so : Bool) {other : Action (Unit {0})} → WorksSo other → WorksSo (unless so other)
  is_unless = within.is_unless works_nothing

  pub is_wanted : (why : Code) (so : Bool) → WorksSo (wanted why so)
  is_wanted = within.is_wanted works_nothing

  -- ---- turns at the desk

  -- of a step that gives no ticket back
  pub record Turns (step : MarkStep) : Type 0 where
    pub no_close : closes step ≡ None
    pub fits : (turn : Turn) → Fits (cache_turn step turn)

  pub turns_of : {step : MarkStep} → closes step ≡ None → ((turn : Turn) → Fits (cache_turn step turn)) → Turns step
  turns_of no_close fits = record { no_close = no_close; fits = fits }

  module _ {step : MarkStep} (each : Turns step) where
    goes_turn : {A : Type 0} {result : Result A Refusal} (turn : Turn) → turn_refuses None turn ≡ None → WorksTo (cache_turn step turn ∷ []) result
    goes_turn turn is = one_works (each.fits turn) (by_turn step turn each.no_close is) refl

    interrupted_turn : {A : Type 0} {turn : Turn} {why : Code} → Interrupts turn why → WorksTo {A = A} (cache_turn step turn ∷ []) (Err (Agent why))
    interrupted_turn turns.refused = refused_by (each.fits _) (by_turn step _ each.no_close refl) refl
    interrupted_turn turns.stopping = goes_turn _ refl
    interrupted_turn turns.late = goes_turn _ refl

    asks_of : (before : Option ℕ) (events : List Event) (result : Result (Option (List ℕ)) Refusal) (after : Option ℕ) → Asks step before events result after → WorksTo events result
    asks_of _ _ _ _ (taken.given can) = goes_turn _ refl
    asks_of _ _ _ _ (taken.empty can) = goes_turn _ refl
    asks_of _ _ _ _ (taken.opened can) = goes_turn _ refl
    asks_of _ _ _ _ (taken.interrupted can why) = interrupted_turn why

    pub asks : WorksSo (Asks step)
    asks = record { of = asks_of }

    seats_of : (before : Option ℕ) (events : List Event) (result : Result (Unit {0}) Refusal) (after : Option ℕ) → Seats step before events result after → WorksTo events result
    seats_of _ _ _ _ (taken.opened can) = goes_turn _ refl
    seats_of _ _ _ _ (taken.interrupted can why) = interrupted_turn why

    pub seats : WorksSo (Seats step)
    seats = record { of = seats_of }

    pub changes : Keeps (Changes step)
    changes _ _ _ _ (taken.done can) = (goes_turn _ refl, refl)
    changes _ _ _ _ (taken.interrupted can why) = (interrupted_turn why, refl)

  pub peeks : {id : List ℕ} {mode : Mode} → Turns (Peek id mode) → Keeps (Peeks id mode)
  peeks each _ _ _ _ taken.peeked = (goes_turn each _ refl, refl)
  peeks each _ _ _ _ (taken.interrupted can why) = (interrupted_turn each why, refl)

  module _ (each : (id : List ℕ) → Turns (ask_nonce id)) where
    pub looks_for_nonce : (id : Option (List ℕ)) → WorksSo (LooksForNonce id)
    looks_for_nonce None = returned None
    looks_for_nonce (Some id) = asks (each id)

    pub looks_over : {id : Option (List ℕ)} → Keeps (LooksOver id)
    looks_over _ _ _ _ actions.no_nonce = (works tt, refl)
    looks_over _ _ _ _ (actions.given {nonce} can) = (goes_turn (each nonce) _ refl, refl)
    looks_over _ _ _ _ (actions.empty {nonce}) = (goes_turn (each nonce) _ refl, refl)
    looks_over _ _ _ _ (actions.stopping {nonce}) = (goes_turn (each nonce) _ refl, refl)
    looks_over _ _ _ _ (actions.no_memory {nonce}) = (interrupted_turn (each nonce) turns.refused, refl)

  takes_seat_of : (grip : Grip) → Turns (seat_for grip) → (before : Option ℕ) (events : List Event) (result : Result (Unit {0}) Refusal) (after : Option ℕ) → TakesSeat grip before events result after → WorksTo events result
  takes_seat_of grip each None events result after does = (seats each).of None events result after does
  takes_seat_of grip each (Some ticket) events result after does = (returned tt).of (Some ticket) events result after does

  pub takes_seat : (grip : Grip) → Turns (seat_for grip) → WorksSo (TakesSeat grip)
  takes_seat grip each = record { of = takes_seat_of grip each }

  closes_of : {keep : Option (List ℕ)} → ((ticket : ℕ) (turn : Turn) → Fits (cache_turn (Close ticket keep) turn)) → (before : Option ℕ) (events : List Event) (result : Result (Unit {0}) Refusal) (after : Option ℕ)
      → Closes keep before events result after → WorksTo events result
  closes_of fits _ _ _ _ taken.unheld = works tt
  closes_of fits _ _ _ _ (taken.closed turn can) = one_works (fits _ turn) refl refl

  pub closes_ticket : {keep : Option (List ℕ)} → ((ticket : ℕ) (turn : Turn) → Fits (cache_turn (Close ticket keep) turn)) → WorksSo (Closes keep)
  closes_ticket fits = record { of = closes_of fits }

  keeps_new_of : (grip : Grip) (pass : List ℕ) → Turns (put_key grip pass) → ((ticket : ℕ) (turn : Turn) → Fits (cache_turn (Close ticket (Some pass)) turn))
      → (before : Option ℕ) (events : List Event) (result : Result (Unit {0}) Refusal) (after : Option ℕ) → KeepsNew grip pass before events result after → WorksTo events result
  keeps_new_of grip pass puts fits None events result after does = (changes puts None events result after does).0
  keeps_new_of grip pass puts fits (Some ticket) events result after does = closes_of fits (Some ticket) events result after does

  pub keeps_new : (grip : Grip) (pass : List ℕ) → Turns (put_key grip pass) → ((ticket : ℕ) (turn : Turn) → Fits (cache_turn (Close ticket (Some pass)) turn)) → WorksSo (KeepsNew grip pass)
  keeps_new grip pass puts fits = record { of = keeps_new_of grip pass puts fits }

  -- ---- the client

  module _ (cut : (text : List ℕ) → Fits (Cut text)) where
    cut_works : {A : Type 0} (text : List ℕ) → WorksTo {A = A} (Cut text ∷ []) (Err (Client (client_error.Gone gone.WriteFault)))
    cut_works text = record { work = []; last = _; is = refl; each = tt; end = lost (cut text) refl tt }

    pub writes : {text : List ℕ} → Fits (Sent text) → Keeps (Writes text)
    writes fits _ _ _ _ client.written = (one_works fits refl refl, refl)
    writes fits _ _ _ _ (client.cut unsent is) = (cut_works _, refl)

  module _ {word : List ℕ} {limit : ℕ} (asked : (inquired : _) → Fits (Inquiry word [] limit inquired)) where
    given_works : {A : Type 0} {result : Result A Refusal} {bytes : List ℕ} (inquired : _) → said_by session_lines inquired ≡ Ok bytes → WorksTo (Inquiry word [] limit inquired ∷ []) result
    given_works inquired is = one_works (asked inquired) refl (ap unsaid is)

    unheard_works : {A : Type 0} {why : ClientError} (inquired : _) → said_by session_lines inquired ≡ Err why → WorksTo {A = A} (Inquiry word [] limit inquired ∷ []) (Err (Client why))
    unheard_works inquired is = record { work = []; last = _; is = refl; each = tt; end = lost (asked inquired) (ap unsaid is) tt }

    pub inquires : Keeps (Inquires session_lines word limit)
    inquires _ _ _ _ (client.given {inquired} is) = (given_works inquired is, refl)
    inquires _ _ _ _ (client.not_given {inquired} is) = (unheard_works inquired is, refl)

    pub asks_client : ((text : List ℕ) → Fits (Cut text)) → (told : List ℕ) → Fits (Sent told) → WorksSo (AsksClient session_lines told word limit)
    asks_client cut told fits = bind (keeps_works (writes cut fits)) (λ wrote. keeps_works inquires)

  module _ (asked : (inquired : _) → Fits (Inquiry (codes "KEYDATA") [] max_key_data inquired)) (memory : Fits out_of_memory) where
    at_end_works : {A : Type 0} (outcome : Outcome) → IsAtEnd outcome → WorksTo {A = A} (Inquiry (codes "KEYDATA") [] max_key_data (Asked outcome) ∷ out_of_memory ∷ []) (Err (Agent code.NoMemory))
    at_end_works (outcomes.Data bytes) at_end = refused_second (asked _, refl, refl) memory refl refl
    at_end_works outcomes.TooMuch at_end = record { work = []; last = _; is = refl; each = tt; end = forgot (asked _) refl memory }
    at_end_works _ at_end = absurd at_end

    pub asks_key_data : Keeps AsksKeyData
    asks_key_data _ _ _ _ (actions.asked inquires_so) = ((inquires asked _ _ _ _ inquires_so).0, refl)
    asks_key_data _ _ _ _ (actions.no_memory {outcome} at_end) = (at_end_works outcome at_end, refl)

  -- ---- the keys and the dice

  module _ (memory : Fits out_of_memory) where
    pub no_memory : {A : Type 0} → WorksTo {A = A} (out_of_memory ∷ []) (Err (Agent code.NoMemory))
    no_memory = refused_by memory refl refl

    pub draws : {count : ℕ} → ((draw : Draw) → Fits (Port (Dice draw))) → Keeps (Draws count)
    draws dice _ _ _ _ (small.drawn long) = (one_works (dice _) refl refl, refl)
    draws dice _ _ _ _ small.faulted = (refused_by (dice _) refl refl, refl)

    module _ {grip : Grip} (reads : (answer : KeyRead) → Fits (read grip answer)) where
      pub finds : Keeps (Finds grip)
      finds _ _ _ _ small.found = (one_works (reads _) refl refl, refl)
      finds _ _ _ _ small.absent = (one_works (reads _) refl refl, refl)
      finds _ _ _ _ small.faulted = (refused_by (reads _) refl refl, refl)
      finds _ _ _ _ small.no_memory = (refused_by (reads _) refl refl, refl)

      found_read : (answer : KeyRead) {file : List ℕ} → file_in answer ≡ Some file → GoesOn (read grip answer)
      found_read (key_read.Found bytes) is = (reads _, refl, refl)
      found_read key_read.Absent is = absurd (cc is)
      found_read key_read.Failed is = absurd (cc is)
      found_read key_read.NoMemory is = absurd (cc is)

      unread : {A : Type 0} (answer : KeyRead) {why : Code} → read_fault answer ≡ Some why → WorksTo {A = A} (read grip answer ∷ []) (Err (Agent why))
      unread (key_read.Found bytes) is = absurd (cc is)
      unread key_read.Absent is = one_works (reads _) refl refl
      unread key_read.Failed is = refused_by (reads _) is refl
      unread key_read.NoMemory is = refused_by (reads _) is refl

      pub reads_file : Keeps (ReadsFile grip)
      reads_file _ _ _ _ (actions.is_key {answer} is says) = (works (found_read answer is, tt), refl)
      reads_file _ _ _ _ (actions.faulty {answer} is says) = (works (found_read answer is, tt), refl)
      reads_file _ _ _ _ (actions.no_memory {answer} is) = (refused_second (found_read answer is) memory refl refl, refl)
      reads_file _ _ _ _ (actions.unread {answer} is) = (unread answer is, refl)

      pub reads_listed : Keeps (ReadsListed grip)
      reads_listed _ _ _ _ (actions.is_key {answer} is says) = (works (found_read answer is, tt), refl)
      reads_listed _ _ _ _ (actions.faulty {answer} is says) = (works (found_read answer is, tt), refl)
      reads_listed _ _ _ _ actions.absent = (one_works (reads _) refl refl, refl)
      reads_listed _ _ _ _ (actions.no_memory {answer} is) = (refused_second (found_read answer is) memory refl refl, refl)
      reads_listed _ _ _ _ (actions.unread {answer} other is) = (unread answer is, refl)

    listed_names : ((answer : KeyNames) → Fits (called (Listed answer))) → (answer : KeyNames) {grips : List Grip} → grips_in answer ≡ Some grips → GoesOn (called (Listed answer))
    listed_names names (key_names.Names grips) is = (names _, refl, refl)
    listed_names names key_names.Failed is = absurd (cc is)
    listed_names names key_names.NoMemory is = absurd (cc is)

    pub lists : ((answer : KeyNames) → Fits (called (Listed answer))) → Keeps ListsGrips
    lists names _ _ _ _ (actions.listed {answer} is) = (works (listed_names names answer is, tt), refl)
    lists names _ _ _ _ actions.faulted = (refused_by (names _) refl refl, refl)
    lists names _ _ _ _ actions.no_memory = (refused_by (names _) refl refl, refl)

    pub joins_grips : {grips : List Grip} → Keeps (JoinsGrips grips)
    joins_grips _ _ _ _ actions.joined = (works tt, refl)
    joins_grips _ _ _ _ actions.no_memory = (no_memory, refl)

    -- a change that isn't done
    pub unchanged : {A : Type 0} (answer : KeyDone) {why : Code} (event : KeyDone → Event) → ((given : KeyDone) → given ≢ key_done.Done → Fits (event given))
        → ((given : KeyDone) → refuses (event given) ≡ change_refuses given) → ((given : KeyDone) → unheard_by (event given) ≡ None) → ((given : KeyDone) → shuts (event given) ≡ [])
        → change_fault answer ≡ Some why → WorksTo {A = A} (event answer ∷ []) (Err (Agent why))
    unchanged key_done.Done event fits same heard alone is = absurd (cc is)
    unchanged key_done.Absent event fits same heard alone is = one_works (fits key_done.Absent (λ e. absurd (cc e))) (same key_done.Absent) (heard key_done.Absent)
    unchanged key_done.Failed event fits same heard alone is = refused_by (fits key_done.Failed (λ e. absurd (cc e))) (same key_done.Failed ∙ is) (alone key_done.Failed)
    unchanged key_done.NoMemory event fits same heard alone is = refused_by (fits key_done.NoMemory (λ e. absurd (cc e))) (same key_done.NoMemory ∙ is) (alone key_done.NoMemory)

    pub not_replaced : {A : Type 0} {grip : Grip} {file : List ℕ} (answer : KeyDone) {why : Code} → ((given : KeyDone) → given ≢ key_done.Done → Fits (called (Replaced grip file given)))
        → change_fault answer ≡ Some why → WorksTo {A = A} (called (Replaced grip file answer) ∷ []) (Err (Agent why))
    not_replaced answer fits is = unchanged answer _ fits (λ given. refl) (λ given. refl) (λ given. refl) is

    pub replaces : {grip : Grip} {file : List ℕ} → ((answer : KeyDone) → Fits (called (Replaced grip file answer))) → Keeps (Replaces grip file)
    replaces fits _ _ _ _ actions.done = (one_works (fits _) refl refl, refl)
    replaces fits _ _ _ _ (actions.not_done {answer} is) = (not_replaced answer (λ given other. fits given) is, refl)

    -- ---- actions that only want memory

    pub told : {bytes : List ℕ} → Keeps (Tells bytes)
    told _ _ _ _ (tells is) = (works tt, refl)

    pub protects : {key : Key} {pass salt iv : List ℕ} {count : ℕ} → Keeps (Protects key pass salt iv count)
    protects _ _ _ _ actions.made = (works tt, refl)
    protects _ _ _ _ actions.no_memory = (no_memory, refl)

    pub is_short : {key : Key} → Keeps (IsShort key)
    is_short _ _ _ _ (actions.short few) = (works tt, refl)
    is_short _ _ _ _ (actions.long many) = (works tt, refl)

    pub rewrites : {file list : List ℕ} → Keeps (Rewrites file list)
    rewrites _ _ _ _ (files.canonical_file is) = (works tt, refl)
    rewrites _ _ _ _ (files.extended_file other with_list few) = (works tt, refl)
    rewrites _ _ _ _ (files.too_long new_file other with_list many) = (works tt, refl)
    rewrites _ _ _ _ (files.no_memory other) = (no_memory, refl)

    pub names_key : {key : Key} → Keeps (NamesKey key)
    names_key _ _ _ _ (actions.named is) = (works tt, refl)
    names_key _ _ _ _ actions.no_memory = (no_memory, refl)

    pub wraps_key : {wrap : List ℕ} {key : Key} → Keeps (WrapsKey wrap key)
    wraps_key _ _ _ _ actions.is_wrapped = (works tt, refl)
    wraps_key _ _ _ _ actions.no_memory = (no_memory, refl)

    pub unwraps : {wrap wrapped : List ℕ} → Keeps (Unwraps wrap wrapped)
    unwraps _ _ _ _ (actions.is_key says) = (works tt, refl)
    unwraps _ _ _ _ (actions.refused says) = (works tt, refl)
    unwraps _ _ _ _ actions.no_memory = (no_memory, refl)

    pub locks : {key : Key} → Keeps (Locks key)
    locks _ _ _ _ (passphrases.is_locked same locked) = (works tt, refl)
    locks _ _ _ _ (passphrases.has_fault is) = (works tt, refl)
    locks _ _ _ _ passphrases.no_memory = (no_memory, refl)

    pub tries : {locked : LockedKey} {pass : List ℕ} → Keeps (TriesPassphrase locked pass)
    tries _ _ _ _ (passphrases.opens to) = (works tt, refl)
    tries _ _ _ _ (passphrases.stays closed) = (works tt, refl)
    tries _ _ _ _ passphrases.no_memory = (no_memory, refl)

    pub tries_found : (locked : LockedKey) (pass : Option (List ℕ)) → WorksSo (TriesFound locked pass)
    tries_found locked None = returned None
    tries_found locked (Some pass) = keeps_works tries
