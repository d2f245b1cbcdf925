-- Actions of a request on the cache, one after another, and requests whose actions are done.
use Rattle.std.proofs.Common.{◌≡◌, ◌≢◌, ℕ, Bool, true, false, List, [], Option, Some, None, Result, Ok, Err, refl}
use Rattle.agent_ask.specs.{Doing.DoesCall, Events.{Call, PromptEvent}, Session.{PortCalls.{PortCall, Prompt}, ActionReplies.{reply_by, comes_to, stops_at}, Actions.{◌>>=◌, Returns, returns, refuses, goes_on}}}
use Rattle.agent_ask.specs.{Session.ActionStates.{ActionState, action_state, gone_in, DoesAction, DoesPrompts, prompts, NoTurn, NoEnd, DoesTurn, DoesTurns}, Seats.ChangesCache}
use Rattle.{agent_ask.proofs.{ActionsDone.{action_then, action_stops, action_turned, action_still, action_turns, action_in, cache_changed}, Replying.carries_in}, assuan_server.specs.{Clients.connection_views, Connections.{Connection, IsOpen}}}
use Rattle.{assuan_server.specs.Written.ok, cache_policy.specs.{declared.mark.MarkStep.MarkStep, Turns.Turn}, session_client.specs.declared.refusal.Refusal.Refusal, session_options.specs.OptionValues.OptionValues}
use Rattle.session_options.specs.declared.{options.{OptionAnswer.{OptionAnswer, TheVariants.{Set, Unknown, Parameter, NotSupported}}, PinMode.{PinMode, TheVariants.{Ask, Cancel, Error, Loopback}}}, rules.Rules.Rules}
use Rattle.agent_commands.specs.{Exchanges.{CacheReply, reply, tells, option_replies, InfoReplies, ChangeReplies, GetReplies, is_quiet}, Actions.CacheAction, Passphrases.{ByCache, WithoutPrompt, as_wanted, passphrase_by}, Requests.GetFields}
use Rattle.agent_commands.specs.{Steps.{IsText, went_of, CarriesOut, DoesAtDesk, DoesAtPrompter, option_reply, info_response, TellsCached, cached, refused}, declared.{request.{Info.Info, Texts.Texts}, response.Response.Response}}
use Rattle.agent_commands.specs.declared.request.Info.TheVariants as info
use Rattle.agent_commands.specs.declared.response.Response.TheVariants as response

-- ---- with a prompter beside

module _ {D P : Type 0} (turned : D → MarkStep → Turn → D → Type 0) (prompted : P → Call → P → Type 0) where
  abbrev at_prompter : Connection → D → P → ActionState connection_views turned (DoesPrompts prompted)
  at_prompter = action_state connection_views turned (DoesPrompts prompted)

  -- an action at the desk
  pub beside_desk : {A : Type 0} {action : CacheAction A} {result : Result A Refusal} {conn now : Connection} {desk desk_now : D} (prompter : P) → DoesAtDesk action turned conn desk result now desk_now
      → DoesAction connection_views turned (DoesPrompts prompted) action None (at_prompter conn desk prompter) result None (at_prompter now desk_now prompter)
  beside_desk prompter done =
      action_in connection_views turned NoEnd turned (DoesPrompts prompted) (λ same. same) (λ none. prompter) (λ before after step turn does. does) (λ before after what never. absurd never) done

  -- an action at the prompter
  pub beside_prompter : {A : Type 0} {action : CacheAction A} {result : Result A Refusal} {held : Option ℕ} {conn now : Connection} {prompter prompter_now : P} (desk : D)
      → DoesAtPrompter action prompted held conn prompter result now prompter_now
      → DoesAction connection_views turned (DoesPrompts prompted) action held (at_prompter conn desk prompter) result held (at_prompter now desk prompter_now)
  beside_prompter desk done =
      action_in connection_views NoTurn (DoesPrompts prompted) turned (DoesPrompts prompted) (λ none. desk) (λ same. same) (λ before after step turn never. absurd never) (λ before after what does. does) done

  -- all of a request but its reply
  pub carries_beside : {action : CacheAction CacheReply} {before after : OptionValues} {held : Option ℕ} {answer : Result Response Refusal} {conn now : Connection} {desk desk_now : D} (prompter : P)
      → CarriesOut turned NoEnd action before (action_state connection_views turned NoEnd conn desk tt) answer after held (action_state connection_views turned NoEnd now desk_now tt)
      → CarriesOut turned (DoesPrompts prompted) action before (at_prompter conn desk prompter) answer after held (at_prompter now desk_now prompter)
  carries_beside prompter =
      carries_in turned NoEnd turned (DoesPrompts prompted) (λ same. same) (λ none. prompter) (λ before after step turn does. does) (λ before after what never. absurd never)

-- what a prompt does to a prompter is an event at the only port
pub each_prompted : {P : Type 0} {prompted : P → Call → P → Type 0} (before after : P) (event : PromptEvent) → DoesCall prompted before event after → DoesPrompts prompted before (Prompt event) after
each_prompted before after event does = prompts does

-- a request that is answered by OK alone once its work is done
pub replies_ok : {D E : Type 0} (turned : D → MarkStep → Turn → D → Type 0) (ported : E → PortCall → E → Type 0) {work : CacheAction (Unit {0})} {options : OptionValues}
    {start : ActionState connection_views turned ported} {held : Option ℕ} (conn : Connection) (desk : D) (ends : E)
    → DoesAction connection_views turned ported work None start (Ok tt) held (action_state connection_views turned ported conn desk ends)
    → CarriesOut turned ported (work >>= (λ done. Returns (reply options ok))) options start (Ok response.Ok) options held (action_state connection_views turned ported conn desk ends)
replies_ok turned ported {options} {held} conn desk ends done =
    comes_to {answer = response.Ok} {kept = options} {held = held} {now = action_state connection_views turned ported conn desk ends} (λ text is. rw is (action_then done (action_still done.fits.0 refl returns)))

-- ---- requests

module _ {D E : Type 0} (turned : D → MarkStep → Turn → D → Type 0) (ported : E → PortCall → E → Type 0) (conn : Connection) (going : IsOpen conn) (ends : E) where
  abbrev at_desk : D → ActionState connection_views turned ported
  at_desk desk = action_state connection_views turned ported conn desk ends

  -- nothing was done but to find the reply
  pub only_replies : {actions : CacheAction CacheReply} {before after : OptionValues} (desk : D) (answer : Response)
      → ((text : List ℕ) → IsText answer text → actions None [] (Ok (reply_by went_of answer after text)) None) → CarriesOut turned ported actions before (at_desk desk) (Ok answer) after None (at_desk desk)
  only_replies desk answer each = comes_to (λ text is. action_still going refl (each text is))

  pub only_refuses : {actions : CacheAction CacheReply} {before : OptionValues} (desk : D) {why : Refusal} → gone_in {A = CacheReply} (Err why) ≡ None → actions None [] (Err why) None
      → CarriesOut turned ported actions before (at_desk desk) (Err why) before None (at_desk desk)
  only_refuses desk on does = stops_at (action_still going on does)

  -- OPTION
  pub option_carried : {before after : OptionValues} (desk : D) (answer : OptionAnswer) → (answer ≢ Set → after ≡ before)
      → CarriesOut turned ported (option_replies answer after) before (at_desk desk) (option_reply answer) after None (at_desk desk)
  option_carried desk Set same = only_replies desk response.Ok (λ text is. rw is returns)
  option_carried {before} desk Unknown same = rw (same (λ e. cc e)) (only_refuses {before = before} desk refl refuses)
  option_carried {before} desk Parameter same = rw (same (λ e. cc e)) (only_refuses {before = before} desk refl refuses)
  option_carried {before} desk NotSupported same = rw (same (λ e. cc e)) (only_refuses {before = before} desk refl refuses)

  -- GETINFO
  pub info_carried : (rules : Rules) {before : OptionValues} (desk : D) (what : Info)
      → CarriesOut turned ported (InfoReplies rules before what) before (at_desk desk) (Ok (info_response rules what)) before None (at_desk desk)
  info_carried rules desk info.Version = only_replies desk (response.Version rules.version) (λ text is. goes_on (tells is) returns)
  info_carried rules desk info.Pid = only_replies desk (response.Number rules.pid) (λ text is. goes_on (tells is) returns)
  info_carried rules desk info.S2kCount = only_replies desk (response.Number rules.s2k_count) (λ text is. goes_on (tells is) returns)
  info_carried rules desk info.Listed = only_replies desk response.Ok (λ text is. goes_on (tells is) returns)

  -- a command that is one change of the cache
  pub change_done : {before : OptionValues} {desk now : D} {step : MarkStep} {reply : CacheReply} (answer : Response) → ((text : List ℕ) → IsText answer text → reply_by went_of answer before text ≡ reply)
      → ChangesCache turned step desk (Ok tt) now → CarriesOut turned ported (ChangeReplies step reply) before (at_desk desk) (Ok answer) before None (at_desk now)
  change_done {now} answer is_reply turn =
      comes_to {answer = answer} {held = None} {now = at_desk now} (λ text is. rw (is_reply text is) (action_then (action_turned going (cache_changed turn)) (action_still going refl returns)))

  pub change_refused : {before : OptionValues} {desk now : D} {step : MarkStep} {reply : CacheReply} {why : Refusal} → ChangesCache turned step desk (Err why) now
      → CarriesOut turned ported (ChangeReplies step reply) before (at_desk desk) (Err why) before None (at_desk now)
  change_refused turn = stops_at (action_stops (action_turned going (cache_changed turn)))

  -- GET_PASSPHRASE of the cache alone
  quiet_by : (rules : Rules) (options : OptionValues) (fields : GetFields) (no_ask : Bool) (texts : Option Texts) → is_quiet no_ask texts ≡ true → {desk now : D} {result : Result (List ℕ) Refusal}
      → DoesTurns turned (ByCache fields.id) None desk result None now
      → DoesAction connection_views turned ported (passphrase_by rules options fields no_ask texts) None (at_desk desk) result None (at_desk now)
  quiet_by rules options fields no_ask None quiet turns = action_turns going turns
  quiet_by rules options fields true (Some texts) quiet turns = action_turns going turns
  quiet_by rules options fields false (Some texts) quiet turns = cc quiet

  pub quiet_carried : (rules : Rules) (options : OptionValues) (fields : GetFields) → is_quiet fields.no_ask fields.texts ≡ true → {desk now : D} {answer : Result Response Refusal}
      → TellsCached turned fields.plain fields.id desk answer now → CarriesOut turned ported (GetReplies rules options fields) options (at_desk desk) answer options None (at_desk now)
  quiet_carried rules options fields quiet {now} (cached turns) = comes_to (λ text is.
      action_then (quiet_by rules options fields fields.no_ask fields.texts quiet turns) (action_still going refl (goes_on (tells is) returns)))
  quiet_carried rules options fields quiet (refused turns) = stops_at (action_stops (quiet_by rules options fields fields.no_ask fields.texts quiet turns))

-- ---- GET_PASSPHRASE as its line says

module _ {D E : Type 0} {turned : D → MarkStep → Turn → D → Type 0} {ported : E → PortCall → E → Type 0} (rules : Rules) (options : OptionValues) (fields : GetFields)
    {start now : ActionState connection_views turned ported} {result : Result (List ℕ) Refusal} where
  -- of the cache alone
  pub asked_cache : (no_ask : Bool) (texts : Option Texts) → is_quiet no_ask texts ≡ true → DoesAction connection_views turned ported (ByCache fields.id) None start result None now
      → DoesAction connection_views turned ported (passphrase_by rules options fields no_ask texts) None start result None now
  asked_cache no_ask None quiet done = done
  asked_cache true (Some texts) quiet done = done
  asked_cache false (Some texts) quiet done = cc quiet

  -- of a client that wants no prompt
  pub wanted_else : (texts : Texts) (mode : PinMode) → mode ≢ Ask → DoesAction connection_views turned ported (WithoutPrompt fields.id mode) None start result None now
      → DoesAction connection_views turned ported (as_wanted rules options fields mode texts) None start result None now
  wanted_else texts Ask other done = absurd (other refl)
  wanted_else texts Cancel other done = done
  wanted_else texts Error other done = done
  wanted_else texts Loopback other done = done
