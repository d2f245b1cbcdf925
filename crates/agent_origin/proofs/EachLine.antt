-- What is so of all that is done for a line of a session. And so each event is so, where each but a read request and a call of the trust file is: no line of
-- a session calls the trust file, but by the commands on it.
use Rattle.std.proofs.Common.{◌≡◌, ℕ, Bool, true, false, List, Option, Some, None, refl}
use Rattle.agent_ask.{specs.{Events.PromptEvent, Session.{Actions.{◌>>=◌, Returns}, SessionEvents.Sent, TurnActions.Changes}, SessionPrompts.AnyInSession}, proofs.Within.{Within, Does, or_otherwise}}
use Rattle.agent_commands.specs.{Exchanges.{CacheExchange, CacheReply, confirms_by, CacheReplies}, Passphrases.{Prompts, as_wanted, passphrase_by}, Requests.GetFields, declared.request.CacheCommand.CacheCommand}
use Rattle.{agent_commands.specs.declared.{request.{Request.{Request, TheVariants.{Cache, Key, Bad}}, Texts.Texts}, went.Went.Went}, arrayvec.specs.ArrayVec.ArrayVec, assuan_server.specs.Clients.session_lines}
use Rattle.{cache_policy.specs.declared.mark.MarkStep.MarkStep, session_client.specs.declared.refusal.Refusal.TheVariants.Agent, session_options.specs.{OptionValues.{OptionValues, EnvWords}, declared.options.PinMode.PinMode}}
use Rattle.{session_options.specs.declared.rules.Rules.Rules, key_commands.{specs.{Events.Event, Actions.Action}, proofs.EachEvent.{All, each_shown, each_bind, each_returned, each_refused, each_seats, each_changes, each_closes}}}
use Rattle.key_commands.proofs.EachRequest.{IsBesideTrust, works_beside, still_beside, Carries, each_carries, so, then, nothing, prompts_for, agrees, whole, key_whole}
use Rattle.agent_origin.{proofs.EachCache.{wants_prompt, without_prompt, by_cache, presets, tells_passphrase, tells_info, option_so}, specs.{SessionExchanges.{RequestExchange, cache, keys}, declared.session_state.SessionState.SessionState}}
use Rattle.agent_commands.specs.declared.request.CacheCommand.TheVariants as on
use Rattle.session_client.specs.declared.code.Code.TheVariants as code
use Rattle.session_options.specs.declared.options.PinMode.TheVariants as mode

module _ {env : EnvWords} {Is : Event → Type 0} {So : List Event → Type 0} (law : Carries env Is So) where
  abbrev Here : {A : Type 0} → Action A → Type 0
  Here action = Within action (Does So)

  module _ (rules : Rules) (options : OptionValues) (same : options.env ≡ env) where
    module _ (fields : GetFields) where
      prompts : (texts : Texts) → Here (Prompts rules options texts fields.check fields.quality fields.repeat)
      prompts texts =
          then law (prompts_for law rules options same)
          (λ pin. so law (each_bind Is (each_closes Is (Some pin) (λ number. law.turns _)) (λ kept. each_returned Is pin)))

      wanted_so : (way : PinMode) (texts : Texts) → Here (as_wanted rules options fields way texts)
      wanted_so mode.Ask texts = then law (so law (wants_prompt Is law.still law.turns fields.id)) (λ cached. or_otherwise (nothing law) cached (prompts texts))
      wanted_so mode.Cancel texts = so law (without_prompt Is law.still law.turns fields.id mode.Cancel)
      wanted_so mode.Error texts = so law (without_prompt Is law.still law.turns fields.id mode.Error)
      wanted_so mode.Loopback texts = so law (without_prompt Is law.still law.turns fields.id mode.Loopback)

      passphrase_so : (no_ask : Bool) (texts : Option Texts) → Here (passphrase_by rules options fields no_ask texts)
      passphrase_so true None = so law (by_cache Is law.still law.turns fields.id)
      passphrase_so false None = so law (by_cache Is law.still law.turns fields.id)
      passphrase_so true (Some texts) = so law (by_cache Is law.still law.turns fields.id)
      passphrase_so false (Some texts) = wanted_so options.mode texts

    confirms : (way : PinMode) (description : ArrayVec ℕ) → Here (confirms_by rules options way description)
    confirms mode.Ask description = then law (so law (each_seats Is (law.turns _))) (λ seated. agrees law rules options same description.items)
    confirms mode.Cancel description = so law (each_refused Is (Agent code.Cancelled))
    confirms mode.Error description = so law (each_refused Is (Agent code.NoPinentry))
    confirms mode.Loopback description = so law (each_refused Is (Agent code.NoPinentry))

    changes : {step : MarkStep} (answer : CacheReply) → Here (Changes step >>= λ changed. Returns answer)
    changes answer = so law (each_bind Is (each_changes Is (law.turns _)) (λ changed. each_returned Is answer))

    replies : (command : CacheCommand) → Here (CacheReplies rules options command)
    replies on.Nop = so law (each_returned Is _)
    replies on.Reset = so law (each_returned Is _)
    replies on.Bye = so law (each_returned Is _)
    replies on.Help = so law (each_returned Is _)
    replies (on.SetOption text) = so law (option_so Is _ _)
    replies (on.SetKeyDesc text) = so law (each_returned Is _)
    replies (on.GetInfo what) = so law (each_bind Is (tells_info Is rules what) (λ text. each_returned Is _))
    replies (on.GetPassphrase plain check no_ask repeat quality id texts) =
        then law (passphrase_so (record { plain = plain; check = check; no_ask = no_ask; repeat = repeat; quality = quality; id = id; texts = texts }) no_ask texts)
        (λ secret. so law (each_bind Is (tells_passphrase Is plain secret) (λ text. each_returned Is _)))
    replies (on.PresetPassphrase id life secret) = so law (each_bind Is (presets Is law.still law.turns rules id life secret) (λ stored. each_returned Is _))
    replies (on.ClearPassphrase id mode) = changes _
    replies (on.GetConfirmation description) = then law (confirms options.mode description) (λ agreed. so law (each_returned Is _))
    replies on.ReloadAgent = changes _
    replies on.KillAgent = changes _

  module _ (said : (text : List ℕ) → Is (Sent text)) where
    cache_so : (rules : Rules) (before after : OptionValues) → before.env ≡ env → (request : Request) (events : List Event) (went : Went) → CacheExchange rules before request events after went → So events
    cache_so rules before after same (Cache command) events went does = whole law said (replies rules before same command) does
    cache_so rules before after same (Bad why) events went does = whole law said (so law (each_refused Is (Agent why))) does
    cache_so rules before after same (Key line) events went does = absurd does

    pub request_whole : {rules : Rules} {kept now : SessionState} → kept.options.env ≡ env → (request : Request) {events : List Event} {went : Went} → RequestExchange rules kept request events now went → So events
    request_whole {rules} {kept} same request {events} {went} (cache {options} exchange) = cache_so rules kept.options options same request events went exchange
    request_whole {rules} {kept} same request (keys exchange) = key_whole law said rules kept.options same kept.wraps _ exchange

module _ (Is : Event → Type 0) (every : (event : Event) → IsBesideTrust event → Is event) where
  pub shown_so : {prompt : List PromptEvent} {events : List Event} → AnyInSession session_lines prompt events → All Is events
  shown_so = each_shown Is (λ event still. every event (still_beside event still)) (λ event. every _ tt)

  pub each_request : {rules : Rules} {kept now : SessionState} (request : Request) {events : List Event} {went : Went} → RequestExchange rules kept request events now went → All Is events
  each_request = request_whole (each_carries Is (λ event work. every event (works_beside event work))) (λ text. every _ tt) refl
