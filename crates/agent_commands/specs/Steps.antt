-- Private: what the steps of a request know, and what is written for it, once all else is done.
use Rattle.std.specs.Prelude.{◌≡◌, ℕ, Bool, List, decimal, Option, None, Result, Ok as Whole, Err as Part}
use Rattle.agent_ask.specs.{Events.Call, Session.{PortCalls.PortCall, Actions.Refuses, ActionReplies.{RespondsBy, CarriesBy}, ActionStates.{ActionState, action_state, DoesAction, DoesPrompts, NoTurn, NoEnd, DoesTurns}}}
use Rattle.{assuan_server.specs.{Clients.connection_views, Connections.Connection, Written.{refusal_line, ok, IsDataAnswer}}, cache_policy.specs.{declared.mark.MarkStep.MarkStep, Turns.Turn}}
use Rattle.{session_client.specs.declared.refusal.Refusal.{Refusal, TheVariants.Agent}, session_options.specs.{OptionValues.OptionValues, declared.options.OptionAnswer.{OptionAnswer, TheVariants.{Set, Unknown, Parameter, NotSupported}}}}
use Rattle.session_options.specs.declared.rules.Rules.{Rules}
use Rattle.agent_commands.specs.{Answers.{closing, help, IsPassphrase}, Endings.went_after, Exchanges.CacheReply, Actions.CacheAction, Passphrases.{Passphrase as ThePassphrase, ByCache}, declared.request.Info.Info}
use Rattle.agent_commands.specs.declared.{request.CacheCommand.{CacheCommand, TheVariants.{GetPassphrase, PresetPassphrase, GetConfirmation}}, response.Response.{Response, TheVariants.{Ok, Bye, Killed, Help, Version, Number, Passphrase}}}
use Rattle.agent_commands.specs.declared.went.Went.{Went, TheVariants.{On, End}}
use Rattle.session_client.specs.declared.code.Code.TheVariants as code
use Rattle.agent_commands.specs.declared.request.Info.TheVariants as info
use Rattle.agent_commands.specs.declared.went.SessionEnd.TheVariants as ends

-- the lines of a response, and how the session goes on after it
abbrev pub IsText : Response → List ℕ → Type 0
IsText Ok text = text ≡ ok
IsText Bye text = text ≡ closing
IsText Killed text = text ≡ closing
IsText Help text = text ≡ help
IsText (Version version) text = IsDataAnswer version.bytes.items text
IsText (Number number) text = IsDataAnswer (decimal number) text
IsText (Passphrase secret plain) text = IsPassphrase plain secret text

abbrev pub went_of : Response → Went
went_of Bye = End ends.Bye
went_of Killed = End ends.Killed
went_of _ = On

-- a GET_PASSPHRASE
abbrev pub IsGet : CacheCommand → Type 0
IsGet (GetPassphrase plain check no_ask repeat quality id texts) = Unit {0}
IsGet _ = ⊥

-- a command that wants nothing of the client or the user
abbrev pub AsksNobody : CacheCommand → Type 0
AsksNobody (GetPassphrase plain check no_ask repeat quality id texts) = ⊥
AsksNobody (PresetPassphrase id life secret) = ⊥
AsksNobody (GetConfirmation description) = ⊥
AsksNobody _ = Unit {0}

module _ {A : Type 0} (action : CacheAction A) where
  -- an action in which no prompter is called, of a request that holds no ticket
  abbrev pub DoesAtDesk : {D : Type 0} → (D → MarkStep → Turn → D → Type 0) → Connection → D → Result A Refusal → Connection → D → Type 0
  DoesAtDesk turned conn desk result now desk_now = DoesAction connection_views turned NoEnd action None (action_state connection_views turned NoEnd conn desk tt) result None (action_state connection_views turned NoEnd now desk_now tt)

  -- one in which no turn is taken
  abbrev pub DoesAtPrompter : {P : Type 0} → (P → Call → P → Type 0) → Option ℕ → Connection → P → Result A Refusal → Connection → P → Type 0
  DoesAtPrompter prompted held conn prompter result now prompter_now =
      DoesAction connection_views NoTurn (DoesPrompts prompted) action held (action_state connection_views NoTurn (DoesPrompts prompted) conn tt prompter) result held
      (action_state connection_views NoTurn (DoesPrompts prompted) now tt prompter_now)

-- how a GET_PASSPHRASE comes by its passphrase
abbrev pub PassphraseOf : Rules → OptionValues → CacheCommand → CacheAction (List ℕ)
PassphraseOf rules options (GetPassphrase plain check no_ask repeat quality id texts) =
    ThePassphrase rules options (record { plain = plain; check = check; no_ask = no_ask; repeat = repeat; quality = quality; id = id; texts = texts })
PassphraseOf rules options _ = Refuses (Agent code.NoData)

-- what OPTION and GETINFO are answered
abbrev pub option_reply : OptionAnswer → Result Response Refusal
option_reply Set = Whole Ok
option_reply Unknown = Part (Agent code.UnknownOption)
option_reply Parameter = Part (Agent code.Parameter)
option_reply NotSupported = Part (Agent code.NotSupported)

abbrev pub info_response : Rules → Info → Response
info_response rules info.Version = Version rules.version
info_response rules info.Pid = Number rules.pid
info_response rules info.S2kCount = Number rules.s2k_count
info_response rules info.Listed = Ok

-- the response of a request that is answered by OK alone, or its refusal
abbrev pub ok_by : Result (Unit {0}) Refusal → Result Response Refusal
ok_by (Whole carried) = Whole Ok
ok_by (Part why) = Part why

-- a passphrase was found by the cache alone, and is told, or the request is refused
pub data TellsCached {D : Type 0} (turned : D → MarkStep → Turn → D → Type 0) (plain : Bool) (id : Option (List ℕ)) (before : D) : Result Response Refusal → D → Type 0 where
  cached : {secret : List ℕ} {after : D} → DoesTurns turned (ByCache id) None before (Whole secret) None after → TellsCached turned plain id before (Whole (Passphrase secret plain)) after
  refused : {why : Refusal} {after : D} → DoesTurns turned (ByCache id) None before (Part why) None after → TellsCached turned plain id before (Part why) after

-- all was done for a request but its reply, whatever text that is written by
abbrev pub CarriesOut : {D E : Type 0} (turned : D → MarkStep → Turn → D → Type 0) (ported : E → PortCall → E → Type 0) → CacheAction CacheReply → OptionValues → ActionState connection_views turned ported
    → Result Response Refusal → OptionValues → Option ℕ → ActionState connection_views turned ported → Type 0
CarriesOut = CarriesBy connection_views IsText went_of

-- the reply of a request was written, or its refusal, and the session goes on so
abbrev pub RespondsTo : Connection → Result Response Refusal → Went → Connection → Type 0
RespondsTo = RespondsBy connection_views IsText went_of refusal_line went_after
