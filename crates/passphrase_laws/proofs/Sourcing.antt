-- Whence the passphrase of a request is: the cache gave it, or the request's own prompt accepted it.
use Rattle.std.{specs.Prelude.⊤, proofs.Common.{◌≡◌, ℕ, Bool, true, false, List, [], ◌∷◌, ◌++◌, Option, Some, None, Ok, refl, ap, subst, ◌∙◌, append_assoc}}
use Rattle.{agent_ask.specs.{PinActions.prompted, Plans.plan_of, Prompts.AsksPin, Session.{Actions.{goes_on, returns}, SessionEvents.cache_turn}, declared.prompt.ask.Asked.Asked}, agent_commands.specs.{Actions.CacheEvent, Requests.GetFields, declared.request.Texts.Texts}}
use Rattle.agent_commands.specs.Passphrases.{ByCache, ByUser, Passphrase, as_wanted, ask_or_open, passphrase_by}
use Rattle.{agent_session.specs.Causes.{Has, HasPrompt, StandIn, here, later}, cache_policy.specs.{Turns.{FitsStep, Given, Open}, declared.{grant.Grant.Grant, mark.{MarkStep.TheVariants.Ask, Way.Way}, mode.Mode.TheVariants.User}}}
use Rattle.session_options.specs.{OptionValues.OptionValues, declared.{options.PinMode.PinMode, rules.Rules.Rules}}
use Rattle.agent_ask.specs.Session.TurnActions as turn
use Rattle.agent_ask.specs.declared.prompt.ask.Asked.TheVariants as asked
use Rattle.cache_policy.specs.declared.mark.Way.TheVariants as way
use Rattle.session_options.specs.declared.options.PinMode.TheVariants as mode

-- a turn gave it
pub record IsGivenIn (id secret : List ℕ) (events : List CacheEvent) : Type 0 where
  pub way : Way
  pub grant : Grant
  pub has : Has (cache_turn (Ask id User way None) (Given grant)) events
  pub fits : FitsStep (Ask id User way None) (Given grant)
  pub secret_is : grant.entry.secret ≡ secret

-- a prompt that was opened for it accepted it
pub record IsTypedIn (rules : Rules) (values : OptionValues) (texts : Texts) (check : Bool) (repeat : ℕ) (id secret : List ℕ) (events : List CacheEvent) : Type 0 where
  pub ticket : ℕ
  pub opened : Has (cache_turn (ask_or_open id) (Open ticket)) events
  pub prompt : HasPrompt events (plan_of rules values texts.error check repeat) (λ pin. ⊤) (asked.Pin secret)

pub data Source (rules : Rules) (values : OptionValues) (texts : Texts) (check : Bool) (repeat : ℕ) (id secret : List ℕ) (events : List CacheEvent) : Type 0 where
  was_given : IsGivenIn id secret events → Source rules values texts check repeat id secret events
  was_typed : IsTypedIn rules values texts check repeat id secret events → Source rules values texts check repeat id secret events

by_cache : {id secret : List ℕ} {events : List CacheEvent} {held : Option ℕ} → ByCache (Some id) None events (Ok secret) held → IsGivenIn id secret events
by_cache (goes_on (turn.Asks.given {grant} fits) returns) = record { way = way.Quiet; grant = grant; has = here; fits = fits; secret_is = refl }
by_cache (goes_on (turn.Asks.empty fits) none) = elim none [ ]
by_cache (goes_on (turn.Asks.opened fits) none) = elim none [ ]

module _ (rules : Rules) (values : OptionValues) (texts : Texts) (check quality : Bool) (repeat : ℕ) where
  by_user : {id secret : List ℕ} {events : List CacheEvent} {held : Option ℕ} → ByUser rules values texts check quality repeat (Some id) None events (Ok secret) held
      → Source rules values texts check repeat id secret events
  by_user (goes_on (turn.Asks.given {grant} fits) returns) = was_given (record { way = way.Prompt; grant = grant; has = here; fits = fits; secret_is = refl })
  by_user (goes_on (turn.Asks.empty fits) none) = absurd fits
  by_user {id} (goes_on (turn.Asks.opened {ticket} fits) (goes_on (prompted {shown} spec is pins gives) (goes_on {first = back} ended returns))) = was_typed (record {
    ticket = ticket;
    opened = here;
    prompt = record {
      spec = spec;
      prompt = pins.prompt;
      shown = shown;
      asks = subst (λ (a : Asked). AsksPin spec (plan_of rules values texts.error check repeat) (λ pin. ⊤) pins.prompt a) gives.1 pins.asks;
      in_session = pins.in_session;
      stands = record { before = cache_turn (ask_or_open id) (Open ticket) ∷ []; after = back ++ []; is = refl };
    };
  })

module _ (rules : Rules) (values : OptionValues) (fields : GetFields) (texts : Texts) where
  wanted_by : {id secret : List ℕ} {events : List CacheEvent} (held : Option ℕ) (no_ask : Bool) → values.mode ≡ mode.Ask → fields.id ≡ Some id
      → passphrase_by rules values fields no_ask (Some texts) None events (Ok secret) held → Source rules values texts fields.check fields.repeat id secret events
  wanted_by {secret = secret} {events} held true asks is came = was_given (by_cache (subst (λ (o : Option (List ℕ)). ByCache o None events (Ok secret) held) is came))
  wanted_by {secret = secret} {events} held false asks is came =
      by_user rules values texts fields.check fields.quality fields.repeat
      (subst (λ (o : Option (List ℕ)). ByUser rules values texts fields.check fields.quality fields.repeat o None events (Ok secret) held) is (subst (λ (how : PinMode). as_wanted rules values fields how texts None events (Ok secret) held) asks came))

  -- where the session's mode has the user asked
  pub source : {id secret : List ℕ} {events : List CacheEvent} (held : Option ℕ) → values.mode ≡ mode.Ask → fields.id ≡ Some id → fields.texts ≡ Some texts
      → Passphrase rules values fields None events (Ok secret) held → Source rules values texts fields.check fields.repeat id secret events
  source {secret = secret} {events} held asks is texts_are came =
      wanted_by held fields.no_ask asks is (subst (λ (o : Option Texts). passphrase_by rules values fields fields.no_ask o None events (Ok secret) held) texts_are came)

-- ---- events among more

pub has_front : {E : Type 0} {one : E} {first : List E} (more : List E) → Has one first → Has one (first ++ more)
has_front more here = here
has_front more (later has) = later (has_front more has)

pub has_behind : {E : Type 0} {one : E} (first : List E) {more : List E} → Has one more → Has one (first ++ more)
has_behind [] has = has
has_behind (other ∷ first) has = later (has_behind first has)

stands_front : {E : Type 0} {part whole : List E} (more : List E) → StandIn part whole → StandIn part (whole ++ more)
stands_front {part = part} more stands = record {
  before = stands.before;
  after = stands.after ++ more;
  is = ap (λ l. l ++ more) stands.is ∙ append_assoc stands.before (part ++ stands.after) more ∙ ap (λ l. stands.before ++ l) (append_assoc part stands.after more);
}

pub typed_front : {rules : Rules} {values : OptionValues} {texts : Texts} {check : Bool} {repeat : ℕ} {id secret : List ℕ} {events : List CacheEvent} (more : List CacheEvent)
    → IsTypedIn rules values texts check repeat id secret events → IsTypedIn rules values texts check repeat id secret (events ++ more)
typed_front more typed = record {
  ticket = typed.ticket;
  opened = has_front more typed.opened;
  prompt = record {
    spec = typed.prompt.spec;
    prompt = typed.prompt.prompt;
    shown = typed.prompt.shown;
    asks = typed.prompt.asks;
    in_session = typed.prompt.in_session;
    stands = stands_front more typed.prompt.stands;
  };
}
