-- Requests and what is done for them, as the GnuPG manual has them ("Agent's Assuan protocol"). The codes, the texts and the order of
-- what is done are this project's own. A row of each stands in proofs/WorkedExchanges, or where it prompts in proofs/WorkedPrompts.
use Rattle.std.specs.{Prelude.{ℕ, Bool, true, List, [], Option, Some, None, Result, Ok, if◌then◌else◌}, Option.option_and_then}
use Rattle.{arrayvec.specs.ArrayVec.ArrayVec, agent_ask.specs.{ConsentActions.AgreesTo, Session.{Actions.{◌>>=◌, Returns, Refuses, wanted, or_else}, TurnActions.{Changes, in_mode}, ActionExchanges.{AnyReply, AnyExchange}}}}
use Rattle.{assuan_server.specs.{Clients.session_lines, Written.{refusal_line, ok}}, cache_policy.specs.declared.{life.Life.Life, mark.MarkStep.{MarkStep, TheVariants.{Put, Clear, Flush, Stop}}, mode.Mode.TheVariants.Any}}
use Rattle.{session_client.specs.declared.refusal.Refusal.{Refusal, TheVariants.Agent}, session_options.specs.{OptionValues.{OptionValues, at_start, applied, with_description}, declared.options.OptionAnswer.OptionAnswer}}
use Rattle.session_options.specs.declared.{options.{OptionAnswer.TheVariants.{Set, Unknown, Parameter, NotSupported}, PinMode.PinMode}, rules.Rules.Rules}
use Rattle.agent_commands.specs.{Answers.{closing, help, IsInfo, IsPassphrase}, Endings.went_after, Actions.{CacheEvent, AsksPassphrase, CacheAction}, Passphrases.Passphrase, Requests.{GetFields, get_fields, request_of}}
use Rattle.agent_commands.specs.declared.request.CacheCommand.{CacheCommand, TheVariants.{Nop, Reset, Bye, Help, SetOption, GetInfo, GetPassphrase, PresetPassphrase, ClearPassphrase, GetConfirmation, ReloadAgent, KillAgent, SetKeyDesc}}
use Rattle.agent_commands.specs.declared.{request.{Info.Info, QuietRequest.QuietRequest, Request.{Request, TheVariants.{Cache, Key, Bad}}, Texts.Texts}, went.{SessionEnd.SessionEnd, Went.{Went, TheVariants.{On, End}}}}
use Rattle.session_client.specs.declared.code.Code.TheVariants as code
use Rattle.agent_commands.specs.declared.went.SessionEnd.TheVariants as ends

-- what a request is answered where it isn't refused, the option values after it, and how the session goes on
abbrev pub CacheReply : Type 0
CacheReply = AnyReply OptionValues Went

abbrev pub reply : OptionValues → List ℕ → CacheReply
reply values text = record { text = text; kept = values; went = On }

-- the last reply of a session
abbrev pub last_reply : OptionValues → SessionEnd → CacheReply
last_reply values end = record { text = closing; kept = values; went = End end }

-- a passphrase is told, and what GETINFO asks for
pub data TellsPassphrase (plain : Bool) (secret : List ℕ) (held : Option ℕ) : List CacheEvent → Result (List ℕ) Refusal → Option ℕ → Type 0 where
  tells : {text : List ℕ} → IsPassphrase plain secret text → TellsPassphrase plain secret held [] (Ok text) held

pub data TellsInfo (rules : Rules) (what : Info) (held : Option ℕ) : List CacheEvent → Result (List ℕ) Refusal → Option ℕ → Type 0 where
  tells : {text : List ℕ} → IsInfo rules what text → TellsInfo rules what held [] (Ok text) held

-- the storing of a preset
abbrev pub put : List ℕ → Life → List ℕ → MarkStep
put id life secret = Put id Any life secret

-- what OPTION is answered. A refusal leaves the values as they were.
abbrev pub option_replies : OptionAnswer → OptionValues → CacheAction CacheReply
option_replies Set after = Returns (reply after ok)
option_replies Unknown after = Refuses (Agent code.UnknownOption)
option_replies Parameter after = Refuses (Agent code.Parameter)
option_replies NotSupported after = Refuses (Agent code.NotSupported)

-- a command that is one change of the cache
abbrev pub ChangeReplies : MarkStep → CacheReply → CacheAction CacheReply
ChangeReplies step reply = do
  changed ← Changes step
  Returns reply

-- the passphrase that the line has, or that the client is asked for
abbrev pub GivenOrAsked : Option (List ℕ) → CacheAction (List ℕ)
GivenOrAsked secret = or_else secret AsksPassphrase

module _ (rules : Rules) where
  -- a passphrase is stored that the line has, or that the client is asked for
  abbrev pub Presets : List ℕ → Life → Option (List ℕ) → CacheAction (Unit {0})
  Presets id life secret = do
    allowed ← wanted code.NotSupported rules.allow_preset
    given ← GivenOrAsked secret
    Changes (put id life given)

  module _ (options : OptionValues) where
    -- the user's consent, where the client wants a prompt
    abbrev pub confirms_by : PinMode → ArrayVec ℕ → CacheAction (Unit {0})
    confirms_by mode description = in_mode mode (AgreesTo session_lines rules options description.items)

    abbrev pub InfoReplies : Info → CacheAction CacheReply
    InfoReplies what = do
      text ← TellsInfo rules what
      Returns (reply options text)

    abbrev pub GetReplies : GetFields → CacheAction CacheReply
    GetReplies fields = do
      secret ← Passphrase rules options fields
      text ← TellsPassphrase fields.plain secret
      Returns (reply options text)

    abbrev pub PresetReplies : List ℕ → Life → Option (List ℕ) → CacheAction CacheReply
    PresetReplies id life secret = do
      stored ← Presets id life secret
      Returns (reply options ok)

    abbrev pub ConfirmationReplies : ArrayVec ℕ → CacheAction CacheReply
    ConfirmationReplies description = do
      agreed ← confirms_by options.mode description
      Returns (reply options ok)

    -- what is done for a command, up to its reply
    abbrev pub CacheReplies : CacheCommand → CacheAction CacheReply
    CacheReplies Nop = Returns (reply options ok)
    -- what the rules said stays
    CacheReplies Reset = Returns (reply (at_start options.rules_count options.allow_loopback) ok)
    CacheReplies Bye = Returns (last_reply options ends.Bye)
    CacheReplies Help = Returns (reply options help)
    CacheReplies (SetOption text) = option_replies (applied options text.items).answer (applied options text.items).after
    CacheReplies (SetKeyDesc text) = Returns (reply (with_description options text.items) ok)
    CacheReplies (GetInfo what) = InfoReplies what
    CacheReplies (GetPassphrase plain check no_ask repeat quality id texts) =
        GetReplies (record { plain = plain; check = check; no_ask = no_ask; repeat = repeat; quality = quality; id = id; texts = texts })
    CacheReplies (PresetPassphrase id life secret) = PresetReplies id life secret
    CacheReplies (ClearPassphrase id mode) = ChangeReplies (Clear id mode) (reply options ok)
    CacheReplies (GetConfirmation description) = ConfirmationReplies description
    CacheReplies ReloadAgent = ChangeReplies Flush (reply options ok)
    CacheReplies KillAgent = ChangeReplies Stop (last_reply options ends.Killed)

-- A request on the cache or on the session, or a line that is refused: the option values before it, what the session does for it, the values after
-- it, and how the session goes on. What is done for a command on keys is said elsewhere.
abbrev pub CacheExchange : Rules → OptionValues → Request → List CacheEvent → OptionValues → Went → Type 0
CacheExchange rules before (Cache command) = AnyExchange refusal_line went_after (CacheReplies rules before command) before
CacheExchange rules before (Bad code) = AnyExchange refusal_line went_after (Refuses (Agent code)) before
CacheExchange rules before (Key line) = λ events after went. ⊥

-- what is needed of a request that asks the cache alone, to answer it: it says so, or it has no texts for a prompt
abbrev pub is_quiet : Bool → Option Texts → Bool
is_quiet no_ask None = true
is_quiet no_ask (Some texts) = no_ask

abbrev pub quiet_fields : GetFields → Option QuietRequest
quiet_fields fields =
    if is_quiet fields.no_ask fields.texts then Some (record { plain = fields.plain; id = fields.id }) else None

abbrev pub quiet_of : Request → Option QuietRequest
quiet_of request = option_and_then quiet_fields (get_fields request)

-- the exchange of a line
abbrev pub LineExchange : Rules → OptionValues → List ℕ → List CacheEvent → OptionValues → Went → Type 0
LineExchange rules before line events after went = CacheExchange rules before (request_of line) events after went
