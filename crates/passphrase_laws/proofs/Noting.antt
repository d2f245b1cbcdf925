-- Before its last line, a request for a passphrase tells its client at most that a pinentry was launched, and once.
use Rattle.std.{specs.{List.AllByRecursion, Prelude.⊤}, proofs.Common.{◌≢◌, ℕ, zero, suc, Bool, true, false, List, [], ◌∷◌, ◌++◌, Option, Some, None, Result, Ok, Err, refl, sym, subst, append_assoc}}
use Rattle.agent_ask.specs.{Events.{PromptEvent, Called, Notified, OutOfMemory, Shut}, Session.{PortCalls.Prompt, Actions.{◌>>=◌, Follows, goes_on, stops, Returns, returns, Refuses, refuses, needed, or_else}, SessionEvents.Port}}
use Rattle.agent_ask.specs.{Session.TurnActions.{Asks, Seats, Closes}, PinActions.{PromptsPin, prompted}, Prompts.{AsksBefore, Opens, Tries, IsTry, Repeats, repeated}, SessionPrompts.{AnyInSession, note}, Tests.PinTest}
use Rattle.{agent_ask.specs.declared.prompt.{ask.Asked.Asked, spec.{AskPlan.AskPlan, PromptSpec.PromptSpec}}, agent_commands.specs.Actions.{CacheEvent, CacheAction}}
use Rattle.agent_commands.specs.{Passphrases.{Passphrase, passphrase_by, as_wanted, WithoutPrompt, ByUser, ByCache, LooksFor, WantsPrompt, Prompts, PromptsAny, Uncached}, Requests.GetFields, declared.request.Texts.Texts}
use Rattle.{assuan_server.specs.Clients.session_lines, cache_policy.specs.declared.mark.MarkStep.{MarkStep, TheVariants.Seat}, session_client.specs.declared.{code.Code.Code, refusal.Refusal.{Refusal, TheVariants.Agent}}}
use Rattle.session_options.specs.{OptionValues.OptionValues, declared.{options.PinMode.PinMode, rules.Rules.Rules}}
use Rattle.passphrase_laws.specs.Exchanges.{IsSilent, Notes, none, once}
use Rattle.agent_ask.specs.SessionPrompts as session
use Rattle.agent_ask.specs.Session.TurnActions as turning
use Rattle.agent_commands.specs.Passphrases as passphrases
use Rattle.session_client.specs.declared.code.Code.TheVariants as code
use Rattle.session_options.specs.declared.options.PinMode.TheVariants as mode

abbrev pub Silent : List CacheEvent → Type 0
Silent events = AllByRecursion IsSilent events

silent_append : (first more : List CacheEvent) → Silent first → Silent more → Silent (first ++ more)
silent_append [] more one two = two
silent_append (event ∷ first) more one two = (one.0, silent_append first more one.1 two)

-- whether the client is told, in some events
pub record HasNotes (events : List CacheEvent) : Type 0 where
  pub launched : Bool
  pub notes : Notes events launched

pub silent_notes : {events : List CacheEvent} → Silent events → HasNotes events
silent_notes silent = record { launched = false; notes = none silent }

notes_before : (first : List CacheEvent) {events : List CacheEvent} → Silent first → HasNotes events → HasNotes (first ++ events)
notes_before first silent has = by_notes has.launched has.notes where
  by_notes : {events : List CacheEvent} (launched : Bool) → Notes events launched → HasNotes (first ++ events)
  by_notes {events} false (none each) = silent_notes (silent_append first events silent each)
  by_notes true (once before later pid inquired each rest) = record {
    launched = true;
    notes = subst (λ (e : List CacheEvent). Notes e true) (append_assoc first before (note pid inquired ∷ later)) (once (first ++ before) later pid inquired (silent_append first before silent each) rest);
  }

notes_behind : (last : List CacheEvent) {events : List CacheEvent} → Silent last → HasNotes events → HasNotes (events ++ last)
notes_behind last silent has = by_notes has.launched has.notes where
  by_notes : {events : List CacheEvent} (launched : Bool) → Notes events launched → HasNotes (events ++ last)
  by_notes {events} false (none each) = silent_notes (silent_append events last each silent)
  by_notes true (once before later pid inquired each rest) = record {
    launched = true;
    notes = subst (λ (e : List CacheEvent). Notes e true) (sym (append_assoc before (note pid inquired ∷ later) last)) (once before (later ++ last) pid inquired each (silent_append later last rest silent));
  }

-- ---- prompts

-- no note to the client
abbrev IsCall : PromptEvent → Type 0
IsCall (Called call) = ⊤
IsCall (Notified pid heard) = ⊥
IsCall OutOfMemory = ⊤

abbrev Calls : List PromptEvent → Type 0
Calls events = AllByRecursion IsCall events

calls_append : (first more : List PromptEvent) → Calls first → Calls more → Calls (first ++ more)
calls_append [] more one two = two
calls_append (event ∷ first) more one two = (one.0, calls_append first more one.1 two)

repeated_calls : (count : ℕ) (pin : List ℕ) → Calls (repeated count pin)
repeated_calls zero pin = tt
repeated_calls (suc count) pin = (tt, repeated_calls count pin)

repeats_calls : {count : ℕ} {pin : List ℕ} {events : List PromptEvent} {end : _} → Repeats count pin events end → Calls events
repeats_calls {count} {pin} Repeats.same = repeated_calls count pin
repeats_calls {pin = pin} (Repeats.differs {before} fewer differs) = calls_append (repeated before pin) _ (repeated_calls before pin) (tt, tt)
repeats_calls {pin = pin} (Repeats.ended {before} outcome fewer ends) = calls_append (repeated before pin) _ (repeated_calls before pin) (tt, tt)

module _ (plan : AskPlan) (Rule : List ℕ → Type 0) where
  try_calls : {error : List ℕ} {events : List PromptEvent} {tests : List PinTest} {end : _} → IsTry plan Rule error events tests end → Calls events
  try_calls (IsTry.ended outcome ends) = (tt, tt)
  try_calls (IsTry.weak not) = (tt, tt)
  try_calls (IsTry.bad met not) = (tt, tt)
  try_calls (IsTry.untested met) = (tt, (tt, tt))
  try_calls (IsTry.accepted met right repeats) = (tt, repeats_calls repeats)

  tries_calls : {number : ℕ} {before : _} {events : List PromptEvent} {tests : List PinTest} {end : Asked} → Tries plan Rule number before events tests end → Calls events
  tries_calls (Tries.good within tried) = try_calls tried
  tries_calls (Tries.over within tried) = try_calls tried
  tries_calls (Tries.again {events} {more = later} within tried tries) = calls_append events later (try_calls tried) (tries_calls tries)
  tries_calls (Tries.bad past) = tt

-- a call, and at most a note behind it, and then calls
data CallsOnce : List PromptEvent → Type 0 where
  alone : {events : List PromptEvent} → Calls events → CallsOnce events
  with_note : {events : List PromptEvent} {pid : ℕ} (call : PromptEvent) → IsCall call → {heard : _} → Calls events → CallsOnce (call ∷ Notified pid heard ∷ events)

once_behind : {events : List PromptEvent} (last : List PromptEvent) → Calls last → CallsOnce events → CallsOnce (events ++ last)
once_behind {events} last calls (alone each) = alone (calls_append events last each calls)
once_behind last calls (with_note {events} call is each) = with_note call is (calls_append events last each calls)

opens_once : {spec : PromptSpec} {notify : Bool} {events : List PromptEvent} {opening : _} → Opens spec notify events opening → CallsOnce events
opens_once Opens.failed = alone (tt, tt)
opens_once Opens.broken = alone (tt, tt)
opens_once (Opens.quiet not) = alone (tt, tt)
opens_once (Opens.told is) = with_note _ tt tt

asks_once : {spec : PromptSpec} {plan : AskPlan} {Rule : List ℕ → Type 0} {events : List PromptEvent} {tests : List PinTest} {end : Asked} → AsksBefore spec plan Rule events tests end → CallsOnce events
asks_once (AsksBefore.unopened opens) = opens_once opens
asks_once (AsksBefore.client_error deaf opens) = opens_once opens
asks_once {plan = plan} {Rule = Rule} (AsksBefore.tried {more} opens tries) = once_behind more (tries_calls plan Rule tries) (opens_once opens)

calls_silent : {prompt : List PromptEvent} {shown : List CacheEvent} → Calls prompt → AnyInSession session_lines prompt shown → Silent shown
calls_silent each session.none = tt
calls_silent each (session.called more) = (tt, calls_silent each.1 more)
calls_silent each (session.noted says more) = absurd each.0
calls_silent each (session.out_of_memory more) = (tt, calls_silent each.1 more)

shown_notes : {prompt : List PromptEvent} {shown : List CacheEvent} → CallsOnce prompt → AnyInSession session_lines prompt shown → HasNotes shown
shown_notes (alone each) shows = silent_notes (calls_silent each shows)
shown_notes (with_note call is each) (session.called {call = which} (session.noted {pid} {inquired} says more)) =
    record { launched = true; notes = once (Port (Prompt (Called which)) ∷ []) _ pid inquired (tt, tt) (calls_silent each more) }
shown_notes (with_note call is each) (session.out_of_memory (session.noted {pid} {inquired} says more)) =
    record { launched = true; notes = once (Port (Prompt OutOfMemory) ∷ []) _ pid inquired (tt, tt) (calls_silent each more) }
shown_notes (with_note call is each) (session.noted says more) = absurd is

pin_notes : {spec : PromptSpec} {plan : AskPlan} {Rule : List ℕ → Type 0} {shown : List CacheEvent} {end : Asked} → PromptsPin session_lines spec plan Rule shown end → HasNotes shown
pin_notes {shown = shown} prompts =
    shown_notes (once_behind (Called Shut ∷ []) (tt, tt) (asks_once prompts.asks.asks))
    (subst (λ (p : List PromptEvent). AnyInSession session_lines p shown) prompts.asks.whole prompts.in_session)

-- ---- parts

-- in the events of this part the client is told nothing
pub record Still {A : Type 0} (part : CacheAction A) : Type 0 where
  pub of : (before : Option ℕ) (events : List CacheEvent) (result : Result A Refusal) (after : Option ℕ) → part before events result after → Silent events

-- or at most that
pub record Noted {A : Type 0} (part : CacheAction A) : Type 0 where
  pub of : (before : Option ℕ) (events : List CacheEvent) (result : Result A Refusal) (after : Option ℕ) → part before events result after → HasNotes events

quiet_notes : {A : Type 0} {part : CacheAction A} → Still part → Noted part
quiet_notes still = record { of = λ before events result after does. silent_notes (still.of before events result after does) }

asks_of : (change : MarkStep) (before : Option ℕ) (events : List CacheEvent) (result : Result (Option (List ℕ)) Refusal) (after : Option ℕ) → Asks change before events result after → Silent events
asks_of change before events result after (turning.Asks.given fits) = (tt, tt)
asks_of change before events result after (turning.Asks.empty fits) = (tt, tt)
asks_of change before events result after (turning.Asks.opened fits) = (tt, tt)
asks_of change before events result after (turning.Asks.interrupted fits why) = (tt, tt)

turn_asks : (change : MarkStep) → Still (Asks change)
turn_asks change = record { of = asks_of change }

seats_of : (change : MarkStep) (before : Option ℕ) (events : List CacheEvent) (result : Result (Unit {0}) Refusal) (after : Option ℕ) → Seats change before events result after → Silent events
seats_of change before events result after (turning.Seats.opened fits) = (tt, tt)
seats_of change before events result after (turning.Seats.interrupted fits why) = (tt, tt)

turn_seats : (change : MarkStep) → Still (Seats change)
turn_seats change = record { of = seats_of change }

closes_of : (keep : Option (List ℕ)) (before : Option ℕ) (events : List CacheEvent) (result : Result (Unit {0}) Refusal) (after : Option ℕ) → Closes keep before events result after → Silent events
closes_of keep before events result after turning.Closes.unheld = tt
closes_of keep before events result after (turning.Closes.closed turn fits) = (tt, tt)

pub turn_closes : (keep : Option (List ℕ)) → Still (Closes keep)
turn_closes keep = record { of = closes_of keep }

module _ {A : Type 0} where
  returns_of : (value : A) (before : Option ℕ) (events : List CacheEvent) (result : Result A Refusal) (after : Option ℕ) → Returns value before events result after → Silent events
  returns_of value before events result after returns = tt

  returned : (value : A) → Still (Returns value)
  returned value = record { of = returns_of value }

  refuses_of : (why : Refusal) (before : Option ℕ) (events : List CacheEvent) (result : Result A Refusal) (after : Option ℕ) → Refuses why before events result after → Silent events
  refuses_of why before events result after refuses = tt

  refused : (why : Refusal) → Still (Refuses {A = A} why)
  refused why = record { of = refuses_of why }

  is_needed : (code : Code) (value : Option A) → Still (needed code value)
  is_needed code None = refused (Agent code)
  is_needed code (Some value) = returned value

  or_still : (value : Option A) {other : CacheAction A} → Still other → Still (or_else value other)
  or_still None other = other
  or_still (Some value) other = returned value

  or_noted : (value : Option A) {other : CacheAction A} → Noted other → Noted (or_else value other)
  or_noted None other = other
  or_noted (Some value) other = quiet_notes (returned value)

module _ {A B : Type 0} {part : CacheAction A} {next : A → CacheAction B} where
  still_of : Still part → ((value : A) → Still (next value)) → (before : Option ℕ) (events : List CacheEvent) (result : Result B Refusal) (after : Option ℕ) → Follows part next before events result after
      → Silent events
  still_of still each before events result after (goes_on {first} {events = later} {value} {mid} does more) =
      silent_append first later (still.of before first (Ok value) mid does) ((each value).of mid later result after more)
  still_of still each before events result after (stops {refusal} does) = still.of before events (Err refusal) after does

  still_then : Still part → ((value : A) → Still (next value)) → Still (part >>= next)
  still_then still each = record { of = still_of still each }

  noted_of : Noted part → ((value : A) → Still (next value)) → (before : Option ℕ) (events : List CacheEvent) (result : Result B Refusal) (after : Option ℕ) → Follows part next before events result after
      → HasNotes events
  noted_of noted each before events result after (goes_on {first} {events = later} {value} {mid} does more) =
      notes_behind later ((each value).of mid later result after more) (noted.of before first (Ok value) mid does)
  noted_of noted each before events result after (stops {refusal} does) = noted.of before events (Err refusal) after does

  noted_then : Noted part → ((value : A) → Still (next value)) → Noted (part >>= next)
  noted_then noted each = record { of = noted_of noted each }

  then_of : Still part → ((value : A) → Noted (next value)) → (before : Option ℕ) (events : List CacheEvent) (result : Result B Refusal) (after : Option ℕ) → Follows part next before events result after
      → HasNotes events
  then_of still each before events result after (goes_on {first} {events = later} {value} {mid} does more) =
      notes_before first (still.of before first (Ok value) mid does) ((each value).of mid later result after more)
  then_of still each before events result after (stops {refusal} does) = silent_notes (still.of before events (Err refusal) after does)

  then_noted : Still part → ((value : A) → Noted (next value)) → Noted (part >>= next)
  then_noted still each = record { of = then_of still each }

looks_for : (id : Option (List ℕ)) → Still (LooksFor id)
looks_for None = returned None
looks_for (Some id) = turn_asks (passphrases.ask id)

wants_prompt : (id : Option (List ℕ)) → Still (WantsPrompt id)
wants_prompt None = still_then (turn_seats (Seat None None)) (λ value. returned None)
wants_prompt (Some id) = turn_asks (passphrases.ask_or_open id)

by_cache : (id : Option (List ℕ)) → Still (ByCache id)
by_cache id = still_then (looks_for id) (λ cached. is_needed code.NoData cached)

uncached : (id : Option (List ℕ)) (how : PinMode) → how ≢ mode.Loopback → Still (Uncached id how)
uncached id mode.Ask not = refused (Agent code.NoPinentry)
uncached id mode.Cancel not = refused (Agent code.Cancelled)
uncached id mode.Error not = refused (Agent code.NoPinentry)
uncached id mode.Loopback not = absurd (not refl)

without_prompt : (id : Option (List ℕ)) (how : PinMode) → how ≢ mode.Loopback → Still (WithoutPrompt id how)
without_prompt id how not = still_then (looks_for id) (λ cached. or_still cached (uncached id how not))

module _ (rules : Rules) (values : OptionValues) where
  module _ (texts : Texts) (check quality : Bool) (repeat : ℕ) where
    prompts_of : (before : Option ℕ) (events : List CacheEvent) (result : Result (List ℕ) Refusal) (after : Option ℕ) → PromptsAny rules values texts check quality repeat before events result after
        → HasNotes events
    prompts_of before events result after (prompted spec is pin gives) = pin_notes pin

    prompts : Noted (Prompts rules values texts check quality repeat)
    prompts = noted_then (record { of = prompts_of }) (λ pin. still_then (turn_closes (Some pin)) (λ kept. returned pin))

    by_user : (id : Option (List ℕ)) → Noted (ByUser rules values texts check quality repeat id)
    by_user id = then_noted (wants_prompt id) (λ cached. or_noted cached prompts)

  module _ (fields : GetFields) where
    as_is_wanted : (how : PinMode) (texts : Texts) → how ≢ mode.Loopback → Noted (as_wanted rules values fields how texts)
    as_is_wanted mode.Ask texts not = by_user texts fields.check fields.quality fields.repeat fields.id
    as_is_wanted mode.Cancel texts not = quiet_notes (without_prompt fields.id mode.Cancel not)
    as_is_wanted mode.Error texts not = quiet_notes (without_prompt fields.id mode.Error not)
    as_is_wanted mode.Loopback texts not = absurd (not refl)

    by_fields : (no_ask : Bool) (texts : Option Texts) → values.mode ≢ mode.Loopback → Noted (passphrase_by rules values fields no_ask texts)
    by_fields no_ask None not = quiet_notes (by_cache fields.id)
    by_fields true (Some texts) not = quiet_notes (by_cache fields.id)
    by_fields false (Some texts) not = as_is_wanted values.mode texts not

    pub passphrase_notes : values.mode ≢ mode.Loopback → Noted (Passphrase rules values fields)
    passphrase_notes not = by_fields fields.no_ask fields.texts not
