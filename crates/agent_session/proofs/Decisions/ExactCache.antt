-- Requests on the cache and on the session: what decides one is what it is refused by.
use Rattle.std.{specs.List.AllByRecursion, proofs.Common.{◌≡◌, ◌⊎◌, ℕ, Bool, true, false, List, Option, Some, None, Result, refl, subst}}
use Rattle.{agent_ask.specs.Session.{ActionExchanges.{AnyExchange, answered, refused}, SessionEvents.cache_turn}, assuan_server.specs.{Written.refusal_line, declared.errors.Origin.TheVariants.Agent as OfAgent}}
use Rattle.{session_client.specs.declared.{code.Code.Code, refusal.Refusal.Refusal}, cache_policy.specs.{Turns.{Empty, closes}, declared.mark.MarkStep.MarkStep}, session_options.specs.OptionValues.{OptionValues, applied}}
use Rattle.{session_options.specs.declared.{options.{OptionAnswer.{OptionAnswer, TheVariants.{Set, Unknown, Parameter, NotSupported}}, PinMode.PinMode}, rules.Rules.Rules}, agent_commands.specs.Endings.went_after}
use Rattle.agent_commands.specs.{Exchanges.{CacheExchange, CacheReply, CacheReplies, ChangeReplies, TellsPassphrase, option_replies, is_quiet}, Actions.CacheAction, Passphrases.{WithoutPrompt, as_wanted, passphrase_by, ask}}
use Rattle.agent_commands.specs.{Requests.{GetFields, get_passphrase}, declared.request.CacheCommand.CacheCommand}
use Rattle.agent_commands.specs.declared.request.{CacheCommand.TheVariants.{Nop, Reset, Bye, Help, SetOption, GetInfo, GetPassphrase, PresetPassphrase, ClearPassphrase, GetConfirmation, ReloadAgent, KillAgent, SetKeyDesc}, Request.Request}
use Rattle.{agent_commands.specs.declared.{request.{Request.TheVariants.{Cache, Key as OnKeys, Bad}, Texts.Texts}, went.Went.Went}, key_commands.specs.Events.Event}
use Rattle.agent_session.{specs.{Causes.{Has, here, later}, Completeness.{HasError, Remembers}}, proofs.AtOnce.{LooksAlone, answers, interrupted, looked}}
use Rattle.agent_session.proofs.Courses.{CacheWorks.{FitsCache, wants_prompt, changes, by_cache, without_prompt, prompts_any, confirmed, presets, tells_info}, Works.{WorksTo, works, WorksSo, returned, or_otherwise}}
use Rattle.agent_session.proofs.Decisions.ExactActions.{Deciding, IsDecided, NoneDue, NoneOwed, Heeds, refuses_due, IsSaidAlone, free, said_alone, fits_cache, never_ok, error_said}
use Rattle.session_client.specs.declared.code.Code.TheVariants as code
use Rattle.session_options.specs.declared.options.PinMode.TheVariants as mode
use Rattle.agent_commands.specs.Exchanges as exchanges
use Rattle.agent_session.specs.Completeness as completeness
use Rattle.agent_session.proofs.Courses.Works as work

-- the request is refused by this, which is due before all else
abbrev pub option_due : OptionAnswer → Code → Type 0
option_due Set why = ⊥
option_due Unknown why = code.UnknownOption ≡ why
option_due Parameter why = code.Parameter ≡ why
option_due NotSupported why = code.NotSupported ≡ why

abbrev pub cache_due : OptionValues → Request → Code → Type 0
cache_due options (Cache (SetOption text)) why = option_due (applied options text.items).answer why
cache_due options (Bad given) why = given ≡ why
cache_due options _ why = ⊥

module _ (deciding : Deciding) where
  abbrev Alone : Event → Type 0
  Alone = IsSaidAlone deciding

  alone : {A : Type 0} {action : CacheAction A} → WorksSo Alone action → Heeds deciding NoneDue action NoneOwed
  alone actions_work = said_alone deciding NoneOwed actions_work

  fits : FitsCache Alone
  fits = fits_cache deciding

  module _ (rules : Rules) (options : OptionValues) (fields : GetFields) where
    unprompted : (way : PinMode) → WorksSo Alone (WithoutPrompt fields.id way)
    unprompted way = without_prompt fits fields.id (λ named secret same turn. free deciding) way

    wanted_so : (way : PinMode) (texts : Texts) → WorksSo Alone (as_wanted rules options fields way texts)
    wanted_so mode.Ask texts =
        work.bind Alone (wants_prompt fits fields.id) (λ cached. or_otherwise Alone cached (work.bind Alone (prompts_any fits rules options texts fields.check fields.quality fields.repeat)
        (λ pin. work.bind Alone (work.closes_ticket Alone (λ ticket turn. free deciding)) (λ kept. returned Alone pin))))
    wanted_so mode.Cancel texts = unprompted mode.Cancel
    wanted_so mode.Error texts = unprompted mode.Error
    wanted_so mode.Loopback texts = unprompted mode.Loopback

    passphrase : (no_ask : Bool) (texts : Option Texts) → WorksSo Alone (passphrase_by rules options fields no_ask texts)
    passphrase no_ask None = by_cache fits fields.id
    passphrase true (Some texts) = by_cache fits fields.id
    passphrase false (Some texts) = wanted_so options.mode texts

  -- ---- requests

  tells_of : {plain : Bool} {secret : List ℕ} (before : Option ℕ) (events : List Event) (result : Result (List ℕ) Refusal) (after : Option ℕ) → TellsPassphrase plain secret before events result after → WorksTo Alone events result
  tells_of _ _ _ _ (exchanges.tells is) = works Alone tt

  option_answered : (answer : OptionAnswer) (values : OptionValues) → Heeds deciding (option_due answer) (option_replies answer values) NoneOwed
  option_answered Set values = alone (returned Alone _)
  option_answered Unknown values = refuses_due deciding code.UnknownOption
  option_answered Parameter values = refuses_due deciding code.Parameter
  option_answered NotSupported values = refuses_due deciding code.NotSupported

  module _ (rules : Rules) (options : OptionValues) where
    changed : (step : MarkStep) (reply : CacheReply) → closes step ≡ None → Heeds deciding NoneDue (ChangeReplies step reply) NoneOwed
    changed step reply no_close = alone (work.bind Alone (changes fits step no_close (λ turn. free deciding)) (λ done. returned Alone reply))

    replies : (command : CacheCommand) → Heeds deciding (cache_due options (Cache command)) (CacheReplies rules options command) NoneOwed
    replies Nop = alone (returned Alone _)
    replies Reset = alone (returned Alone _)
    replies Bye = alone (returned Alone _)
    replies Help = alone (returned Alone _)
    replies (SetOption text) = option_answered (applied options text.items).answer (applied options text.items).after
    replies (SetKeyDesc text) = alone (returned Alone _)
    replies (GetInfo what) = alone (work.bind Alone (tells_info fits rules options what) (λ text. returned Alone _))
    replies (GetPassphrase plain check no_ask repeat quality id texts) =
        let fields : GetFields = record { plain = plain; check = check; no_ask = no_ask; repeat = repeat; quality = quality; id = id; texts = texts } in
        alone (work.bind Alone (passphrase rules options fields no_ask texts) (λ secret. work.bind Alone (record { of = tells_of }) (λ text. returned Alone _)))
    replies (PresetPassphrase id life secret) = alone (work.bind Alone (presets fits rules options id life secret (λ given turn. free deciding)) (λ stored. returned Alone _))
    replies (ClearPassphrase id way) = changed _ _ refl
    replies (GetConfirmation description) = alone (work.bind Alone (confirmed fits rules options options.mode description) (λ agreed. returned Alone _))
    replies ReloadAgent = changed _ _ refl
    replies KillAgent = changed _ _ refl

  -- ---- the answer

  exchange_answered : {Due : Code → Type 0} {actions : CacheAction CacheReply} → Heeds deciding Due actions NoneOwed → {before after : OptionValues} {events : List Event} {went : Went}
      → AnyExchange refusal_line went_after actions before events after went → AllByRecursion Remembers events → (why : Code) → Due why ⊎ IsDecided deciding events why → HasError why OfAgent events
  exchange_answered heeds (answered events held reply does closes_so) remembers why due = absurd (never_ok deciding heeds why (Some reply.text) closes_so remembers due does)
  exchange_answered heeds (refused events held refusal does closes_so) remembers why due = error_said deciding heeds why (refusal_line refusal) closes_so remembers due refl does

  -- a request on the cache is answered by the error line of what is due before it, or decides it among its events
  pub cache_answered : (rules : Rules) (before after : OptionValues) (request : Request) (events : List Event) (went : Went) → CacheExchange rules before request events after went → AllByRecursion Remembers events
      → (why : Code) → cache_due before request why ⊎ IsDecided deciding events why → HasError why OfAgent events
  cache_answered rules before after (Cache command) events went exchange remembers why due = exchange_answered (replies rules before command) exchange remembers why due
  cache_answered rules before after (Bad given) events went exchange remembers why due = exchange_answered (refuses_due deciding given) exchange remembers why due
  cache_answered rules before after (OnKeys line) events went exchange remembers why due = elim exchange [ ]

-- ---- by the cache alone

quiet_without : (plain : Bool) (id : Option (List ℕ)) {events : List Event} → LooksAlone plain id events → id ≡ None → HasError code.NoData OfAgent events
quiet_without plain None completeness.no_id none = here
quiet_without plain (Some id) looks none = absurd (cc none)

quiet_empty : (plain : Bool) (id : Option (List ℕ)) (named : List ℕ) {events : List Event} → LooksAlone plain id events → Has (cache_turn (ask named) Empty) events → HasError code.NoData OfAgent events
quiet_empty plain None named completeness.no_id (later has) = elim has [ ]
quiet_empty plain (Some id) named (answers (completeness.given is)) (later (later has)) = elim has [ ]
quiet_empty plain (Some id) named (answers completeness.empty) has = later here
quiet_empty plain (Some id) named (interrupted why) here = elim why [ ]
quiet_empty plain (Some id) named (interrupted why) (later (later has)) = elim has [ ]

module _ (rules : Rules) (before after : OptionValues) (request : Request) (events : List Event) (went : Went) (exchange : CacheExchange rules before request events after went) (fields : GetFields)
    (is : request ≡ Cache (get_passphrase fields)) (quiet : is_quiet fields.no_ask fields.texts ≡ true) where
  looks : LooksAlone fields.plain fields.id events
  looks = looked rules before fields quiet (subst (λ r. CacheExchange rules before r events after went) is exchange)

  pub none_without : fields.id ≡ None → HasError code.NoData OfAgent events
  none_without none = quiet_without fields.plain fields.id looks none

  pub none_cached : (named : List ℕ) → Has (cache_turn (ask named) Empty) events → HasError code.NoData OfAgent events
  none_cached named has = quiet_empty fields.plain fields.id named looks has
