-- A request for a passphrase whose client wasn't gone is refused by a line.
use Rattle.std.{specs.{List.AllByRecursion, Option.option_map, Prelude.⊤}, proofs.Common.{◌≡◌, ◌≢◌, ℕ, Bool, true, false, List, [], ◌∷◌, ◌++◌, Option, Some, None, Result, Ok, Err, refl, ap, sym, subst, ◌∙◌}}
use Rattle.agent_ask.specs.{Callers.{SaysNote, unheard_of}, Events.{PromptEvent, Called, Shut}, Session.{Actions.{◌>>=◌, Follows, goes_on, stops, Returns, returns, Refuses, refuses, needed, or_else}, TurnActions.{Asks, Seats, Closes}}}
use Rattle.agent_ask.specs.{PinActions.{PromptsPin, pin_refusal, prompted}, Prompts.{AsksBefore, Opens, Tries}, SessionPrompts.{AnyInSession, note}, Tests.PinTest, declared.client.caller.Heard.{Heard, TheVariants.Fine}}
use Rattle.{agent_ask.{specs.declared.prompt.{ask.Asked.Asked, spec.{AskPlan.AskPlan, PromptSpec.PromptSpec}}, proofs.Trying.never_heard}, agent_commands.specs.{Actions.{CacheEvent, CacheAction}, Events.Inquired}}
use Rattle.agent_commands.specs.{Passphrases.{Passphrase, passphrase_by, as_wanted, WithoutPrompt, ByUser, ByCache, LooksFor, WantsPrompt, Prompts, PromptsAny, Uncached}, Requests.GetFields, declared.request.Texts.Texts}
use Rattle.{assuan_server.specs.{Clients.session_lines, Written.refusal_line}, cache_policy.specs.declared.mark.MarkStep.{MarkStep, TheVariants.Seat}, session_client.specs.Asking.{Asked as HasAsked, NotAsked, said_by, without_data}}
use Rattle.{session_client.specs.declared.{client_error.ClientError.ClientError, code.Code.Code, refusal.Refusal.{Refusal, TheVariants.{Agent, Client}}}, session_options.specs.{OptionValues.OptionValues, declared.options.PinMode.PinMode}}
use Rattle.session_options.specs.declared.rules.Rules.{Rules}
use Rattle.passphrase_laws.{specs.Roads.IsWhole, proofs.Texts.whole_behind}
use Rattle.agent_ask.specs.SessionPrompts as session
use Rattle.agent_ask.specs.Session.TurnActions as turning
use Rattle.agent_ask.specs.declared.prompt.ask.Asked.TheVariants as asked
use Rattle.agent_commands.specs.Passphrases as passphrases
use Rattle.assuan_server.specs.Inquiries as inquiry
use Rattle.session_client.specs.declared.code.Code.TheVariants as code
use Rattle.session_options.specs.declared.options.PinMode.TheVariants as mode

abbrev Whole : List CacheEvent → Type 0
Whole events = AllByRecursion IsWhole events

-- ---- prompts

-- a request that is refused after such an answer has a line
abbrev Told : Asked → Type 0
Told answer = (why : Refusal) → pin_refusal answer ≡ Some why → refusal_line why ≢ None

by_line : (by : Refusal) (text : List ℕ) → refusal_line by ≡ Some text → (why : Refusal) → Some by ≡ Some why → refusal_line why ≢ None
by_line by text at why is none =
    let same : by ≡ why = cc is in
    let both : Some text ≡ None = sym at ∙ ap refusal_line same ∙ none in cc both

-- no try ends by what the client said
tries_told : {plan : AskPlan} {Rule : List ℕ → Type 0} {events : List PromptEvent} {tests : List PinTest} (end : Asked) → Tries plan Rule 1 None events tests end → Told end
tries_told (asked.Pin pin) tries = λ why is none. cc is
tries_told asked.Cancelled tries = by_line _ _ refl
tries_told asked.TimedOut tries = by_line _ _ refl
tries_told asked.NoPinentry tries = by_line _ _ refl
tries_told asked.Bad tries = by_line _ _ refl
tries_told asked.NoMemory tries = by_line _ _ refl
tries_told (asked.Heard heard) tries = absurd (never_heard heard tries)

-- what the client said to the note
client_told : (heard : Heard) {said : ClientError} (text : List ℕ) → refusal_line (Client said) ≡ Some text → unheard_of heard ≡ Some said → Told (asked.Heard heard)
client_told heard {said = said} text at says why is = by_line (Client said) text at why (sym (ap (option_map Client) says) ∙ is)

note_told : (pid : ℕ) (inquired : Inquired) (heard : Heard) → IsWhole (note pid inquired) → SaysNote (without_data (said_by session_lines inquired)) heard → heard ≢ Fine → Told (asked.Heard heard)
note_told pid (HasAsked (inquiry.Data bytes)) heard is says deaf = absurd (deaf says)
note_told pid (HasAsked inquiry.Cancelled) heard is says deaf = client_told heard _ refl says
note_told pid (HasAsked inquiry.TooMuch) heard is says deaf = client_told heard _ refl says
note_told pid (HasAsked inquiry.Unexpected) heard is says deaf = client_told heard _ refl says
note_told pid (HasAsked inquiry.TooLong) heard is says deaf = client_told heard _ refl says
note_told pid (HasAsked inquiry.Ended) heard is says deaf = absurd is.1
note_told pid (HasAsked inquiry.Spent) heard is says deaf = absurd is.1
note_told pid (HasAsked inquiry.ReadFault) heard is says deaf = absurd is.1
note_told pid (NotAsked text) heard is says deaf = absurd is

opens_told : {spec : PromptSpec} {notify : Bool} {events : List PromptEvent} {opening : Option Heard} (more : List PromptEvent) → Opens spec notify events opening → {shown : List CacheEvent}
    → AnyInSession session_lines (events ++ more) shown → Whole shown → (heard : Heard) → opening ≡ Some heard → heard ≢ Fine → Told (asked.Heard heard)
opens_told more Opens.failed shows whole heard is deaf = absurd (cc is)
opens_told more Opens.broken shows whole heard is deaf = absurd (cc is)
opens_told more (Opens.quiet not) shows whole heard is deaf = let fine : heard ≡ Fine = cc is in absurd (deaf fine)
opens_told more (Opens.told notifies) (session.called (session.noted {pid} {heard = said} {inquired} says later)) whole heard is deaf =
    let same : said ≡ heard = cc is in
    note_told pid inquired heard whole.1.0 (subst (λ (h : Heard). SaysNote (without_data (said_by session_lines inquired)) h) same says) deaf

asks_told : {spec : PromptSpec} {plan : AskPlan} {Rule : List ℕ → Type 0} {events : List PromptEvent} {tests : List PinTest} {end : Asked} (more : List PromptEvent)
    → AsksBefore spec plan Rule events tests end → {shown : List CacheEvent} → AnyInSession session_lines (events ++ more) shown → Whole shown → Told end
asks_told more (AsksBefore.unopened opens) shows whole = by_line _ _ refl
asks_told more (AsksBefore.client_error {heard} deaf opens) shows whole = opens_told more opens shows whole heard refl deaf
asks_told more (AsksBefore.tried {end} opens tries) shows whole = tries_told end tries

pin_told : {spec : PromptSpec} {plan : AskPlan} {Rule : List ℕ → Type 0} {shown : List CacheEvent} {end : Asked} → PromptsPin session_lines spec plan Rule shown end → Whole shown → Told end
pin_told {shown = shown} prompts =
    asks_told (Called Shut ∷ []) prompts.asks.asks (subst (λ (p : List PromptEvent). AnyInSession session_lines p shown) prompts.asks.whole prompts.in_session)

-- ---- parts

-- where this part is refused in whole events, it is by a line
pub record IsTold {A : Type 0} (part : CacheAction A) : Type 0 where
  pub of : (before : Option ℕ) (events : List CacheEvent) (why : Refusal) (after : Option ℕ) → part before events (Err why) after → Whole events → refusal_line why ≢ None

-- whatever this part came to
abbrev Line : {A : Type 0} → Result A Refusal → Type 0
Line (Ok value) = ⊤
Line (Err why) = refusal_line why ≢ None

by_agent : (code : Code) → refusal_line (Agent code) ≢ None
by_agent code none = cc none

asks_line : {change : MarkStep} {before after : Option ℕ} {events : List CacheEvent} {result : Result (Option (List ℕ)) Refusal} → Asks change before events result after → Line result
asks_line (turning.Asks.given fits) = tt
asks_line (turning.Asks.empty fits) = tt
asks_line (turning.Asks.opened fits) = tt
asks_line (turning.Asks.interrupted {code = which} fits why) = by_agent which

turn_asks : (change : MarkStep) → IsTold (Asks change)
turn_asks change = record { of = λ before events why after does whole. asks_line does }

seats_line : {change : MarkStep} {before after : Option ℕ} {events : List CacheEvent} {result : Result (Unit {0}) Refusal} → Seats change before events result after → Line result
seats_line (turning.Seats.opened fits) = tt
seats_line (turning.Seats.interrupted {code = which} fits why) = by_agent which

turn_seats : (change : MarkStep) → IsTold (Seats change)
turn_seats change = record { of = λ before events why after does whole. seats_line does }

closes_line : {keep : Option (List ℕ)} {before after : Option ℕ} {events : List CacheEvent} {result : Result (Unit {0}) Refusal} → Closes keep before events result after → Line result
closes_line turning.Closes.unheld = tt
closes_line (turning.Closes.closed turn fits) = tt

turn_closes : (keep : Option (List ℕ)) → IsTold (Closes keep)
turn_closes keep = record { of = λ before events why after does whole. closes_line does }

module _ {A : Type 0} where
  returns_line : {value : A} {before after : Option ℕ} {events : List CacheEvent} {result : Result A Refusal} → Returns value before events result after → Line result
  returns_line returns = tt

  returned : (value : A) → IsTold (Returns value)
  returned value = record { of = λ before events why after does whole. returns_line does }

  refuses_line : {by : Refusal} {before after : Option ℕ} {events : List CacheEvent} {result : Result A Refusal} → refusal_line by ≢ None → Refuses by before events result after → Line result
  refuses_line told refuses = told

  refused : (code : Code) → IsTold (Refuses {A = A} (Agent code))
  refused code = record { of = λ before events why after does whole. refuses_line (by_agent code) does }

  is_needed : (code : Code) (value : Option A) → IsTold (needed code value)
  is_needed code None = refused code
  is_needed code (Some value) = returned value

  or_told : (value : Option A) {other : CacheAction A} → IsTold other → IsTold (or_else value other)
  or_told None other = other
  or_told (Some value) other = returned value

module _ {A B : Type 0} {part : CacheAction A} {next : A → CacheAction B} where
  follows_line : IsTold part → ((value : A) → IsTold (next value)) → {before after : Option ℕ} {events : List CacheEvent} {result : Result B Refusal} → Follows part next before events result after → Whole events
      → Line result
  follows_line told each (goes_on {first} {events = later} {value} {result} {mid} {after} does more) whole =
      next_line result mid later after (each value) more (whole_behind first later whole) where
        next_line : {value : A} (result : Result B Refusal) (mid : Option ℕ) (later : List CacheEvent) (after : Option ℕ) → IsTold (next value) → next value mid later result after → Whole later → Line result
        next_line (Ok value) mid later after told more whole = tt
        next_line (Err why) mid later after told more whole = told.of mid later why after more whole
  follows_line told each {before} {after} {events} (stops {refusal} does) whole = told.of before events refusal after does whole

  told_then : IsTold part → ((value : A) → IsTold (next value)) → IsTold (part >>= next)
  told_then told each = record { of = λ before events why after does whole. follows_line told each does whole }

looks_for : (id : Option (List ℕ)) → IsTold (LooksFor id)
looks_for None = returned None
looks_for (Some id) = turn_asks (passphrases.ask id)

wants_prompt : (id : Option (List ℕ)) → IsTold (WantsPrompt id)
wants_prompt None = told_then (turn_seats (Seat None None)) (λ value. returned None)
wants_prompt (Some id) = turn_asks (passphrases.ask_or_open id)

by_cache : (id : Option (List ℕ)) → IsTold (ByCache id)
by_cache id = told_then (looks_for id) (λ cached. is_needed code.NoData cached)

uncached : (id : Option (List ℕ)) (how : PinMode) → how ≢ mode.Loopback → IsTold (Uncached id how)
uncached id mode.Ask not = refused code.NoPinentry
uncached id mode.Cancel not = refused code.Cancelled
uncached id mode.Error not = refused code.NoPinentry
uncached id mode.Loopback not = absurd (not refl)

without_prompt : (id : Option (List ℕ)) (how : PinMode) → how ≢ mode.Loopback → IsTold (WithoutPrompt id how)
without_prompt id how not = told_then (looks_for id) (λ cached. or_told cached (uncached id how not))

module _ (rules : Rules) (values : OptionValues) where
  module _ (texts : Texts) (check quality : Bool) (repeat : ℕ) where
    prompts_line : {before after : Option ℕ} {events : List CacheEvent} (result : Result (List ℕ) Refusal) → PromptsAny rules values texts check quality repeat before events result after → Whole events → Line result
    prompts_line (Ok pin) does whole = tt
    prompts_line (Err why) (prompted spec is pin gives) whole = pin_told pin whole why gives.1

    prompts : IsTold (Prompts rules values texts check quality repeat)
    prompts =
        told_then (record { of = λ before events why after does whole. prompts_line (Err why) does whole }) (λ pin. told_then (turn_closes (Some pin)) (λ kept. returned pin))

    by_user : (id : Option (List ℕ)) → IsTold (ByUser rules values texts check quality repeat id)
    by_user id = told_then (wants_prompt id) (λ cached. or_told cached prompts)

  module _ (fields : GetFields) where
    as_is_wanted : (how : PinMode) (texts : Texts) → how ≢ mode.Loopback → IsTold (as_wanted rules values fields how texts)
    as_is_wanted mode.Ask texts not = by_user texts fields.check fields.quality fields.repeat fields.id
    as_is_wanted mode.Cancel texts not = without_prompt fields.id mode.Cancel not
    as_is_wanted mode.Error texts not = without_prompt fields.id mode.Error not
    as_is_wanted mode.Loopback texts not = absurd (not refl)

    by_fields : (no_ask : Bool) (texts : Option Texts) → values.mode ≢ mode.Loopback → IsTold (passphrase_by rules values fields no_ask texts)
    by_fields no_ask None not = by_cache fields.id
    by_fields true (Some texts) not = by_cache fields.id
    by_fields false (Some texts) not = as_is_wanted values.mode texts not

    pub passphrase_told : values.mode ≢ mode.Loopback → IsTold (Passphrase rules values fields)
    passphrase_told not = by_fields fields.no_ask fields.texts not
