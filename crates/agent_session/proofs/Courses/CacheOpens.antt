-- In a request on the cache a prompt is opened before the prompter is called, and once; and so in each exchange of a session.
use Rattle.std.proofs.Common.{ℕ, Bool, true, false, List, Option, Some, None, Ok, Err, refl}
use Rattle.{arrayvec.specs.ArrayVec.ArrayVec, agent_ask.specs.Session.{PortCalls.PortCall, ActionExchanges.AnyExchange, Actions.{◌>>=◌, Returns}, TurnActions.Changes}}
use Rattle.agent_origin.{proofs.EachCache.{wants_prompt, without_prompt, by_cache, presets, tells_passphrase, tells_info, option_so}, specs.{SessionExchanges.{RequestExchange, cache, keys}, declared.session_state.SessionState.SessionState}}
use Rattle.{cache_policy.specs.declared.mark.MarkStep.MarkStep, assuan_server.specs.Written.refusal_line, session_client.specs.declared.refusal.Refusal.TheVariants.Agent}
use Rattle.{session_options.specs.{OptionValues.{OptionValues, applied}, declared.{options.PinMode.PinMode, rules.Rules.Rules}}, agent_commands.specs.{Endings.went_after, Events.EventWith}}
use Rattle.agent_commands.specs.{Exchanges.{CacheExchange, CacheReply, CacheReplies, confirms_by}, Actions.CacheAction, Passphrases.{WithoutPrompt, Prompts, passphrase_by, as_wanted}, Requests.GetFields}
use Rattle.agent_commands.specs.declared.request.CacheCommand.{CacheCommand, TheVariants.{Nop, Reset, Bye, Help, SetOption, GetInfo, GetPassphrase, PresetPassphrase, ClearPassphrase, GetConfirmation, ReloadAgent, KillAgent, SetKeyDesc}}
use Rattle.{agent_commands.specs.declared.{request.{Request.{Request, TheVariants.{Cache, Key, Bad}}, Texts.Texts}, went.Went.Went}, key_commands.specs.Events.IsUncalled}
use Rattle.key_commands.proofs.EachEvent.{still_uncalled, agrees_to, prompts_for, each_bind, each_returned, each_refused, each_otherwise, each_seats, each_changes, each_closes}
use Rattle.agent_session.{specs.Refusals.{IsUnopening, OpensFirst}, proofs.Courses.{Opens.{UnopeningSo, answer_unopening, OpensSo, still_unopening, then_unopening, calls_nobody, behind_opens}, KeyCourses.key_opens}}
use Rattle.agent_ask.specs.Session.ActionExchanges as exchange
use Rattle.session_client.specs.declared.code.Code.TheVariants as code
use Rattle.session_options.specs.declared.options.PinMode.TheVariants as mode

-- what is asked of the cache, without a prompt
without : (id : Option (List ℕ)) (way : PinMode) → OpensSo (WithoutPrompt id way)
without id way = calls_nobody (without_prompt IsUncalled still_uncalled (λ step turn. tt) id way)

changes : {step : MarkStep} (answer : CacheReply) → OpensSo (Changes step >>= λ changed. Returns answer)
changes answer = calls_nobody (each_bind IsUncalled (each_changes IsUncalled (λ turn. tt)) (λ changed. each_returned IsUncalled answer))

module _ (rules : Rules) (options : OptionValues) where
  prompts : (texts : Texts) (check quality : Bool) (repeat : ℕ) → UnopeningSo (Prompts rules options texts check quality repeat)
  prompts texts check quality repeat =
      each_bind IsUnopening (prompts_for IsUnopening still_unopening (λ event. tt)) (λ pin. each_bind IsUnopening (each_closes IsUnopening (Some pin) (λ number turn. refl)) (λ kept. each_returned IsUnopening pin))

  as_wanted_opens : (fields : GetFields) (way : PinMode) (texts : Texts) → OpensSo (as_wanted rules options fields way texts)
  as_wanted_opens fields mode.Ask texts =
      behind_opens (calls_nobody (wants_prompt IsUncalled still_uncalled (λ step turn. tt) fields.id)) (λ cached. each_otherwise IsUnopening cached (prompts texts fields.check fields.quality fields.repeat))
  as_wanted_opens fields mode.Cancel texts = without fields.id mode.Cancel
  as_wanted_opens fields mode.Error texts = without fields.id mode.Error
  as_wanted_opens fields mode.Loopback texts = without fields.id mode.Loopback

  passphrase_opens : (fields : GetFields) (no_ask : Bool) (texts : Option Texts) → OpensSo (passphrase_by rules options fields no_ask texts)
  passphrase_opens fields no_ask None = calls_nobody (by_cache IsUncalled still_uncalled (λ step turn. tt) fields.id)
  passphrase_opens fields true (Some texts) = calls_nobody (by_cache IsUncalled still_uncalled (λ step turn. tt) fields.id)
  passphrase_opens fields false (Some texts) = as_wanted_opens fields options.mode texts

  confirms_opens : (way : PinMode) (description : ArrayVec ℕ) → OpensSo (confirms_by rules options way description)
  confirms_opens mode.Ask description = behind_opens (calls_nobody (each_seats IsUncalled (λ turn. tt))) (λ seated. agrees_to IsUnopening still_unopening (λ event. tt) rules options description.items)
  confirms_opens mode.Cancel description = calls_nobody (each_refused IsUncalled (Agent code.Cancelled))
  confirms_opens mode.Error description = calls_nobody (each_refused IsUncalled (Agent code.NoPinentry))
  confirms_opens mode.Loopback description = calls_nobody (each_refused IsUncalled (Agent code.NoPinentry))

  -- ---- requests

  replies : (command : CacheCommand) → OpensSo (CacheReplies rules options command)
  replies Nop = calls_nobody (each_returned IsUncalled _)
  replies Reset = calls_nobody (each_returned IsUncalled _)
  replies Bye = calls_nobody (each_returned IsUncalled _)
  replies Help = calls_nobody (each_returned IsUncalled _)
  replies (SetOption text) = calls_nobody (option_so IsUncalled (applied options text.items).answer (applied options text.items).after)
  replies (SetKeyDesc text) = calls_nobody (each_returned IsUncalled _)
  replies (GetInfo what) = calls_nobody (each_bind IsUncalled (tells_info IsUncalled rules what) (λ text. each_returned IsUncalled _))
  replies (GetPassphrase plain check no_ask repeat quality id texts) =
      behind_opens (passphrase_opens (record { plain = plain; check = check; no_ask = no_ask; repeat = repeat; quality = quality; id = id; texts = texts }) no_ask texts)
      (λ secret. each_bind IsUnopening (tells_passphrase IsUnopening plain secret) (λ text. each_returned IsUnopening _))
  replies (PresetPassphrase id life secret) = calls_nobody (each_bind IsUncalled (presets IsUncalled still_uncalled (λ step turn. tt) rules id life secret) (λ stored. each_returned IsUncalled _))
  replies (ClearPassphrase id way) = changes _
  replies (GetConfirmation description) = behind_opens (confirms_opens options.mode description) (λ agreed. each_returned IsUnopening _)
  replies ReloadAgent = changes _
  replies KillAgent = changes _

action_opens : {action : CacheAction CacheReply} → OpensSo action → {before after : OptionValues} {events : List (EventWith PortCall)} {went : Went} → AnyExchange refusal_line went_after action before events after went → OpensFirst events
action_opens opens (exchange.answered events held reply does closes_so) = then_unopening events _ (opens.of None events (Ok reply) held does) (answer_unopening (Some reply.text) closes_so)
action_opens opens (exchange.refused events held why does closes_so) = then_unopening events _ (opens.of None events (Err why) held does) (answer_unopening (refusal_line why) closes_so)

cache_opens : (rules : Rules) (before after : OptionValues) (request : Request) (events : List (EventWith PortCall)) (went : Went) → CacheExchange rules before request events after went → OpensFirst events
cache_opens rules before after (Cache command) events went exchanged = action_opens (replies rules before command) exchanged
cache_opens rules before after (Bad why) events went exchanged = action_opens (calls_nobody (each_refused IsUncalled (Agent why))) exchanged
cache_opens rules before after (Key line) events went never = absurd never

pub request_opens : {rules : Rules} {kept now : SessionState} (request : Request) {events : List (EventWith PortCall)} {went : Went} → RequestExchange rules kept request events now went → OpensFirst events
request_opens {rules} {kept} request (cache exchange) = cache_opens rules kept.options _ request _ _ exchange
request_opens {rules} {kept} request (keys exchange) = key_opens rules kept.options kept.wraps _ exchange
