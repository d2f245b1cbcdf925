-- How GET_PASSPHRASE comes by a passphrase (GnuPG manual, "Agent GET_PASSPHRASE"). The codes, the texts and the order of what is done are this project's own.
use Rattle.std.specs.Prelude.{ℕ, Bool, true, false, List, Option, Some, None, ⊤}
use Rattle.agent_ask.specs.{Session.{Actions.{◌>>=◌, Returns, Refuses, needed, or_else}, TurnActions.{Asks, Seats, Changes, Closes}}, Plans.plan_of, PinActions.{PromptsFor, IsAnyGiven}}
use Rattle.{assuan_server.specs.Clients.session_lines, cache_policy.specs.declared.{life.Life.TheVariants.Default, mark.{MarkStep.{MarkStep, TheVariants.{Ask, Seat, Put}}, Way.TheVariants.{Quiet, Prompt}}, mode.Mode.TheVariants.User}}
use Rattle.{session_client.specs.declared.refusal.Refusal.TheVariants.Agent, session_options.specs.{OptionValues.OptionValues, declared.{options.PinMode.PinMode, rules.Rules.Rules}}}
use Rattle.agent_commands.specs.{Actions.{AsksPassphrase, CacheAction}, Requests.GetFields, declared.request.Texts.Texts}
use Rattle.session_client.specs.declared.code.Code.TheVariants as code
use Rattle.session_options.specs.declared.options.PinMode.TheVariants as mode

-- the question of the cache, and one that opens a prompt where nothing is cached
abbrev pub ask : List ℕ → MarkStep
ask id = Ask id User Quiet None

abbrev pub ask_or_open : List ℕ → MarkStep
ask_or_open id = Ask id User Prompt None

-- what is cached, where there is an id
abbrev pub LooksFor : Option (List ℕ) → CacheAction (Option (List ℕ))
LooksFor None = Returns None
LooksFor (Some id) = Asks (ask id)

-- the same, or the seat for a prompt
abbrev pub WantsPrompt : Option (List ℕ) → CacheAction (Option (List ℕ))
WantsPrompt None = do
  seated ← Seats (Seat None None)
  Returns None
WantsPrompt (Some id) = Asks (ask_or_open id)

-- what the client gave is kept, where there is an id
abbrev pub KeepsUnder : Option (List ℕ) → List ℕ → CacheAction (Unit {0})
KeepsUnder None secret = Returns tt
KeepsUnder (Some id) secret = Changes (Put id User Default secret)

-- by the cache alone
abbrev pub ByCache : Option (List ℕ) → CacheAction (List ℕ)
ByCache id = do
  cached ← LooksFor id
  needed code.NoData cached

-- by the client itself
abbrev pub ByClient : Option (List ℕ) → CacheAction (List ℕ)
ByClient id = do
  secret ← AsksPassphrase
  kept ← KeepsUnder id secret
  Returns secret

-- one that isn't cached, where the client wants no prompt
abbrev pub Uncached : Option (List ℕ) → PinMode → CacheAction (List ℕ)
Uncached id mode.Ask = Refuses (Agent code.NoPinentry)
Uncached id mode.Cancel = Refuses (Agent code.Cancelled)
Uncached id mode.Error = Refuses (Agent code.NoPinentry)
Uncached id mode.Loopback = ByClient id

-- by the cache, or else without a prompt
abbrev pub WithoutPrompt : Option (List ℕ) → PinMode → CacheAction (List ℕ)
WithoutPrompt id mode = do
  cached ← LooksFor id
  or_else cached (Uncached id mode)

module _ (rules : Rules) (options : OptionValues) where
  -- what the user is asked by, where these are the texts, and what is shown and how often by the rest of the line
  module _ (texts : Texts) (check quality : Bool) (repeat : ℕ) where
    -- one prompt at which every passphrase is right
    abbrev pub PromptsAny : CacheAction (List ℕ)
    PromptsAny = PromptsFor session_lines rules options texts.description texts.prompt quality (plan_of rules options texts.error check repeat) (λ pin. ⊤) IsAnyGiven

    -- the user is asked, and what is given is kept as the ticket is given back
    abbrev pub Prompts : CacheAction (List ℕ)
    Prompts = do
      pin ← PromptsAny
      kept ← Closes (Some pin)
      Returns pin

    -- By the cache, or else by a prompt. Where nothing is cached and no prompt is opened, there is none to ask by.
    abbrev pub ByUser : Option (List ℕ) → CacheAction (List ℕ)
    ByUser id = do
      cached ← WantsPrompt id
      or_else cached Prompts

  module _ (fields : GetFields) where
    abbrev pub as_wanted : PinMode → Texts → CacheAction (List ℕ)
    as_wanted mode.Ask texts = ByUser texts fields.check fields.quality fields.repeat fields.id
    as_wanted other texts = WithoutPrompt fields.id other

    -- a request that asks the cache alone says so, or has no texts for a prompt
    abbrev pub passphrase_by : Bool → Option Texts → CacheAction (List ℕ)
    passphrase_by no_ask None = ByCache fields.id
    passphrase_by true (Some texts) = ByCache fields.id
    passphrase_by false (Some texts) = as_wanted options.mode texts

    abbrev pub Passphrase : CacheAction (List ℕ)
    Passphrase = passphrase_by fields.no_ask fields.texts
