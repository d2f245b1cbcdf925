-- Actions of requests on the cache that are work of the one form, where each of their events is fit.
use Rattle.std.proofs.Common.{◌≡◌, ℕ, Bool, List, [], codes, Option, Some, None, Result, refl}
use Rattle.{arrayvec.specs.ArrayVec.ArrayVec, agent_ask.specs.{Events.PromptEvent, Session.{PortCalls.Prompt, SessionEvents.{Sent, Cut, Inquiry, Port, cache_turn}, TurnActions.Changes}, SessionPrompts.note}}
use Rattle.cache_policy.specs.Turns.{Turn, closes}
use Rattle.cache_policy.specs.declared.{life.Life.{Life, TheVariants.Default}, mark.MarkStep.{MarkStep, TheVariants.{Seat, Put}}, mode.Mode.TheVariants.User, secret.TheConstants.MAX_SECRET_LEN}
use Rattle.{session_client.specs.declared.refusal.Refusal.{Refusal, TheVariants.Agent}, session_options.specs.{OptionValues.OptionValues, declared.{options.PinMode.PinMode, rules.Rules.Rules}}}
use Rattle.agent_commands.specs.{Exchanges.{TellsInfo, put, confirms_by, Presets}, Actions.{CacheAction, AsksPassphrase}, Passphrases.{LooksFor, WantsPrompt, KeepsUnder, ByCache, Uncached, WithoutPrompt, PromptsAny, ask, ask_or_open}}
use Rattle.{agent_commands.specs.declared.request.{Info.Info, Texts.Texts}, assuan_server.specs.Written.limit_line, key_commands.specs.Events.Event}
use Rattle.agent_session.proofs.Courses.{PromptWorks.{any_comes, prompts_for, agrees_to}, Works.{WorksTo, works, WorksSo, keeps_works, bind, returned, refuses_by, is_needed, or_otherwise, is_wanted, turns_of}}
use Rattle.session_client.specs.declared.code.Code.TheVariants as code
use Rattle.session_options.specs.declared.options.PinMode.TheVariants as mode
use Rattle.agent_commands.specs.Exchanges as exchanges
use Rattle.agent_session.proofs.Courses.Works as work

-- each event of such an action is fit, but that a passphrase is put
pub record FitsCache (Fits : Event → Type 0) : Type 0 where
  pub cut : (text : List ℕ) → Fits (Cut text)
  pub limits : Fits (Sent (limit_line MAX_SECRET_LEN))
  pub clients : (inquired : _) → Fits (Inquiry (codes "PASSPHRASE") [] MAX_SECRET_LEN inquired)
  pub notes : (pid : ℕ) (inquired : _) → Fits (note pid inquired)
  pub calls : (event : PromptEvent) → Fits (Port (Prompt event))
  pub asks : (id : List ℕ) (turn : Turn) → Fits (cache_turn (ask id) turn)
  pub opens : (id : List ℕ) (turn : Turn) → Fits (cache_turn (ask_or_open id) turn)
  pub seats : (turn : Turn) → Fits (cache_turn (Seat None None) turn)

module _ {Fits : Event → Type 0} (fits : FitsCache Fits) where
  abbrev Here : {A : Type 0} → CacheAction A → Type 0
  Here = WorksSo Fits

  asks_passphrase : Here AsksPassphrase
  asks_passphrase = work.asks_client Fits fits.clients fits.cut (limit_line MAX_SECRET_LEN) fits.limits

  looks_for : (id : Option (List ℕ)) → Here (LooksFor id)
  looks_for None = returned Fits None
  looks_for (Some id) = work.asks Fits (turns_of Fits refl (fits.asks id))

  pub wants_prompt : (id : Option (List ℕ)) → Here (WantsPrompt id)
  wants_prompt None = bind Fits (work.seats Fits (turns_of Fits refl fits.seats)) (λ seated. returned Fits None)
  wants_prompt (Some id) = work.asks Fits (turns_of Fits refl (fits.opens id))

  pub changes : (asked : MarkStep) → closes asked ≡ None → ((turn : Turn) → Fits (cache_turn asked turn)) → Here (Changes asked)
  changes asked no_close allowed = keeps_works Fits (work.changes Fits (turns_of Fits no_close allowed))

  pub by_cache : (id : Option (List ℕ)) → Here (ByCache id)
  by_cache id = bind Fits (looks_for id) (λ cached. is_needed Fits code.NoData cached)

  module _ (id : Option (List ℕ)) (stores : (named secret : List ℕ) → id ≡ Some named → (turn : Turn) → Fits (cache_turn (Put named User Default secret) turn)) where
    keeps_under : (named : Option (List ℕ)) (secret : List ℕ) → id ≡ named → Here (KeepsUnder named secret)
    keeps_under None secret same = returned Fits tt
    keeps_under (Some named) secret same = changes _ refl (stores named secret same)

    uncached : (way : PinMode) → Here (Uncached id way)
    uncached mode.Ask = refuses_by Fits (Agent code.NoPinentry)
    uncached mode.Cancel = refuses_by Fits (Agent code.Cancelled)
    uncached mode.Error = refuses_by Fits (Agent code.NoPinentry)
    uncached mode.Loopback = bind Fits asks_passphrase (λ secret. bind Fits (keeps_under id secret refl) (λ kept. returned Fits secret))

    pub without_prompt : (way : PinMode) → Here (WithoutPrompt id way)
    without_prompt way = bind Fits (looks_for id) (λ cached. or_otherwise Fits cached (uncached way))

  module _ (rules : Rules) (options : OptionValues) where
    pub prompts_any : (texts : Texts) (check quality : Bool) (repeat : ℕ) → Here (PromptsAny rules options texts check quality repeat)
    prompts_any texts check quality repeat = prompts_for Fits fits.calls fits.notes any_comes

    pub confirmed : (way : PinMode) (description : ArrayVec ℕ) → Here (confirms_by rules options way description)
    confirmed mode.Ask description = bind Fits (work.seats Fits (turns_of Fits refl fits.seats)) (λ seated. agrees_to Fits fits.calls fits.notes rules options description.items)
    confirmed mode.Cancel description = refuses_by Fits (Agent code.Cancelled)
    confirmed mode.Error description = refuses_by Fits (Agent code.NoPinentry)
    confirmed mode.Loopback description = refuses_by Fits (Agent code.NoPinentry)

    pub presets : (id : List ℕ) (life : Life) (secret : Option (List ℕ)) → ((given : List ℕ) (turn : Turn) → Fits (cache_turn (put id life given) turn)) → Here (Presets rules id life secret)
    presets id life secret stores =
        bind Fits (is_wanted Fits code.NotSupported rules.allow_preset) (λ allowed. bind Fits (or_otherwise Fits secret asks_passphrase) (λ given. changes _ refl (stores given)))

    tells_info_of : {what : Info} (before : Option ℕ) (events : List Event) (result : Result (List ℕ) Refusal) (after : Option ℕ) → TellsInfo rules what before events result after → WorksTo Fits events result
    tells_info_of _ _ _ _ (exchanges.tells is) = works Fits tt

    pub tells_info : (what : Info) → Here (TellsInfo rules what)
    tells_info what = record { of = tells_info_of }
