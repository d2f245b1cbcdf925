-- Actions of a request on the cache by which no prompter is called, and each of whose events is so.
use Rattle.std.proofs.Common.{codes, ℕ, Bool, List, Option, Some, None, Result}
use Rattle.agent_commands.specs.{Exchanges.{option_replies, Presets, TellsPassphrase, TellsInfo}, Actions.AsksPassphrase, Passphrases.{LooksFor, WantsPrompt, KeepsUnder, ByCache, Uncached, WithoutPrompt}, declared.request.Info.Info}
use Rattle.{cache_policy.specs.{declared.{life.Life.Life, mark.MarkStep.MarkStep}, Turns.Turn}, agent_ask.specs.Session.SessionEvents.cache_turn, session_client.specs.declared.refusal.Refusal.{Refusal, TheVariants.Agent}}
use Rattle.{session_options.specs.{OptionValues.OptionValues, declared.{options.{OptionAnswer.OptionAnswer, PinMode.PinMode}, rules.Rules.Rules}}, key_commands.specs.Events.Event}
use Rattle.key_commands.proofs.EachEvent.{IsStill, All, EachSo, asks_secret, each_bind, each_returned, each_refused, each_needed, each_otherwise, each_wanted, each_looks, each_seats, each_changes}
use Rattle.agent_commands.specs.Exchanges as exchange
use Rattle.session_client.specs.declared.code.Code.TheVariants as code
use Rattle.session_options.specs.declared.options.OptionAnswer.TheVariants as option
use Rattle.session_options.specs.declared.options.PinMode.TheVariants as mode

-- where what is done beside the desk and the prompter is so, and what is done at the desk
module _ (Is : Event → Type 0) (still : (event : Event) → IsStill event → Is event) (turns : (step : MarkStep) (turn : Turn) → Is (cache_turn step turn)) where
  asks_passphrase : EachSo Is AsksPassphrase
  asks_passphrase = asks_secret Is still (codes "PASSPHRASE")

  looks_for : (id : Option (List ℕ)) → EachSo Is (LooksFor id)
  looks_for None = each_returned Is None
  looks_for (Some id) = each_looks Is (turns _)

  pub wants_prompt : (id : Option (List ℕ)) → EachSo Is (WantsPrompt id)
  wants_prompt None = each_bind Is (each_seats Is (turns _)) (λ seated. each_returned Is None)
  wants_prompt (Some id) = each_looks Is (turns _)

  keeps_under : (id : Option (List ℕ)) (secret : List ℕ) → EachSo Is (KeepsUnder id secret)
  keeps_under None secret = each_returned Is tt
  keeps_under (Some id) secret = each_changes Is (turns _)

  uncached : (id : Option (List ℕ)) (way : PinMode) → EachSo Is (Uncached id way)
  uncached id mode.Ask = each_refused Is (Agent code.NoPinentry)
  uncached id mode.Cancel = each_refused Is (Agent code.Cancelled)
  uncached id mode.Error = each_refused Is (Agent code.NoPinentry)
  uncached id mode.Loopback = each_bind Is asks_passphrase (λ secret. each_bind Is (keeps_under id secret) (λ kept. each_returned Is secret))

  pub without_prompt : (id : Option (List ℕ)) (way : PinMode) → EachSo Is (WithoutPrompt id way)
  without_prompt id way = each_bind Is (looks_for id) (λ cached. each_otherwise Is cached (uncached id way))

  pub by_cache : (id : Option (List ℕ)) → EachSo Is (ByCache id)
  by_cache id = each_bind Is (looks_for id) (λ cached. each_needed Is code.NoData cached)

  pub presets : (rules : Rules) (id : List ℕ) (life : Life) (secret : Option (List ℕ)) → EachSo Is (Presets rules id life secret)
  presets rules id life secret =
      each_bind Is (each_wanted Is code.NotSupported rules.allow_preset) (λ allowed. each_bind Is (each_otherwise Is secret asks_passphrase) (λ known. each_changes Is (turns _)))

-- actions that only tell
module _ (Is : Event → Type 0) where
  tells_passphrase_of : (plain : Bool) (secret : List ℕ) (before : Option ℕ) (events : List Event) (result : Result (List ℕ) Refusal) (after : Option ℕ) → TellsPassphrase plain secret before events result after
      → All Is events
  tells_passphrase_of plain secret before events result after (exchange.TellsPassphrase.tells is) = tt

  pub tells_passphrase : (plain : Bool) (secret : List ℕ) → EachSo Is (TellsPassphrase plain secret)
  tells_passphrase plain secret = record { of = tells_passphrase_of plain secret }

  tells_info_of : (rules : Rules) (what : Info) (before : Option ℕ) (events : List Event) (result : Result (List ℕ) Refusal) (after : Option ℕ) → TellsInfo rules what before events result after → All Is events
  tells_info_of rules what before events result after (exchange.TellsInfo.tells is) = tt

  pub tells_info : (rules : Rules) (what : Info) → EachSo Is (TellsInfo rules what)
  tells_info rules what = record { of = tells_info_of rules what }

  pub option_so : (answer : OptionAnswer) (after : OptionValues) → EachSo Is (option_replies answer after)
  option_so option.Set after = each_returned Is _
  option_so option.Unknown after = each_refused Is (Agent code.UnknownOption)
  option_so option.Parameter after = each_refused Is (Agent code.Parameter)
  option_so option.NotSupported after = each_refused Is (Agent code.NotSupported)
