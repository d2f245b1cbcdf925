-- Requests on the cache and on the session: their work, and what ends them.
use Rattle.std.proofs.Common.{◌≡◌, ℕ, Bool, true, false, List, [], Option, Some, None, Result, Ok, Err, refl, sym, ap, subst}
use Rattle.{agent_ask.{specs.Session.{ActionExchanges.AnyExchange, Actions.{◌>>=◌, goes_on, stops, Returns, returns, or_else}, TurnActions.Closes}, proofs.Within.values_so}, assuan_server.specs.Written.{refusal_line, ok}}
use Rattle.{cache_policy.specs.declared.mode.Mode.TheVariants.User, session_client.specs.{Refusals.gone_by, declared.{refusal.Refusal.{Refusal, TheVariants.{Agent, Client}}, client_error.Gone.Gone}}}
use Rattle.{session_options.specs.{OptionValues.{OptionValues, applied}, declared.{options.{OptionAnswer.OptionAnswer, PinMode.PinMode}, rules.Rules.Rules}}, agent_commands.specs.{Answers.IsInfo, Endings.{went_after, end_of}}}
use Rattle.agent_commands.specs.{Exchanges.{CacheExchange, CacheReply, CacheReplies, TellsPassphrase, TellsInfo, option_replies, reply}, Actions.CacheAction, Passphrases.{Prompts, passphrase_by, as_wanted}, Requests.GetFields}
use Rattle.agent_commands.specs.declared.request.CacheCommand.{CacheCommand, TheVariants.{Nop, Reset, Bye, Help, SetOption, GetInfo, GetPassphrase, PresetPassphrase, ClearPassphrase, GetConfirmation, ReloadAgent, KillAgent, SetKeyDesc}}
use Rattle.agent_commands.specs.declared.{request.{Info.{Info, TheVariants.{Version, Pid, S2kCount, Listed}}, Request.{Request, TheVariants.{Cache, Key, Bad}}, Texts.Texts}, went.Went.{Went, TheVariants.End}}
use Rattle.key_commands.specs.{Events.Event, Lines.of_passphrase}
use Rattle.agent_session.specs.{Causes.IsSaid, Completeness.EndsInOk, Refusals.{IsAllowed, CourseBy}, OwnPassphrases.{MayStore, directly, under_get, under_preset}}
use Rattle.agent_session.proofs.Courses.CacheWorks.{FitsCache, wants_prompt, changes, by_cache, without_prompt, prompts_any, confirmed, presets, tells_info}
use Rattle.agent_session.proofs.Courses.Courses.{AnyNonce, Ends, ends_with, EndsSo, working_ends, ends_working, bind_ends, made, closed, RepliesOk, ok_returns, ok_refuses, ok_then, reply_ends_in_ok, ok_course, err_course, ends_said}
use Rattle.agent_session.proofs.{Courses.{Courses.{gone_only, said_before, answer_heard}, Works.{works, WorksSo, bind, returned, refuses_by}}, Causes.Replying.{IsReply, reply_ok, reply_closing, reply_help, reply_cache, reply_passphrase}}
use Rattle.agent_ask.specs.Session.ActionExchanges as exchange
use Rattle.agent_ask.specs.Session.TurnActions as taken
use Rattle.session_client.specs.declared.code.Code.TheVariants as code
use Rattle.session_client.specs.declared.client_error.ClientError.TheVariants as client_error
use Rattle.session_options.specs.declared.options.OptionAnswer.TheVariants as option_answer
use Rattle.session_options.specs.declared.options.PinMode.TheVariants as mode
use Rattle.agent_commands.specs.Exchanges as told

module _ (request : Request) where
  abbrev Fits : Event → Type 0
  Fits = IsAllowed request AnyNonce

  abbrev Here : {A : Type 0} → CacheAction A → Type 0
  Here = WorksSo Fits

  fits : FitsCache Fits
  fits = record {
    cut = λ text. tt;
    limits = of_passphrase;
    clients = λ inquired. tt;
    notes = λ pid inquired. tt;
    calls = λ event. tt;
    asks = λ id turn. tt;
    opens = λ id turn. tt;
    seats = λ turn. tt;
  }

  module _ (rules : Rules) (options : OptionValues) where
    -- what was given is kept as the ticket is given back
    kept_of : {pin : List ℕ} (before : Option ℕ) (events : List Event) (result : Result (List ℕ) Refusal) (after : Option ℕ) → (Closes (Some pin) >>= λ kept. Returns pin) before events result after
        → Ends request events result after
    kept_of _ _ _ _ (goes_on taken.unheld returns) = working_ends request (works Fits tt)
    kept_of _ _ _ _ (goes_on (taken.closed turn can) returns) = ends_with request (closed turn)
    kept_of _ _ _ _ (stops never) = elim never [ ]

    module _ (fields : GetFields) (stores : (named : List ℕ) → fields.id ≡ Some named → MayStore request AnyNonce named User) where
      prompted : (texts : Texts) (cached : Option (List ℕ)) → EndsSo request (or_else cached (Prompts rules options texts fields.check fields.quality fields.repeat))
      prompted texts None = bind_ends request (prompts_any fits rules options texts fields.check fields.quality fields.repeat) (λ pin. record { of = kept_of })
      prompted texts (Some secret) = ends_working request (returned Fits secret)

      wanted_so : (way : PinMode) (texts : Texts) → EndsSo request (as_wanted rules options fields way texts)
      wanted_so mode.Ask texts = bind_ends request (wants_prompt fits fields.id) (λ cached. prompted texts cached)
      wanted_so mode.Cancel texts = ends_working request (without_prompt fits fields.id (λ named secret same turn. stores named same) mode.Cancel)
      wanted_so mode.Error texts = ends_working request (without_prompt fits fields.id (λ named secret same turn. stores named same) mode.Error)
      wanted_so mode.Loopback texts = ends_working request (without_prompt fits fields.id (λ named secret same turn. stores named same) mode.Loopback)

      passphrase_so : (no_ask : Bool) (texts : Option Texts) → EndsSo request (passphrase_by rules options fields no_ask texts)
      passphrase_so no_ask None = ends_working request (by_cache fits fields.id)
      passphrase_so true (Some texts) = ends_working request (by_cache fits fields.id)
      passphrase_so false (Some texts) = wanted_so options.mode texts

    -- ---- requests

    tells_of : {plain : Bool} {secret : List ℕ} (before : Option ℕ) (events : List Event) (result : Result CacheReply Refusal) (after : Option ℕ)
        → (TellsPassphrase plain secret >>= λ text. Returns (reply options text)) before events result after → (value : CacheReply) × (result ≡ Ok value) × (events ≡ []) × (after ≡ before)
    tells_of _ _ _ _ (goes_on (told.tells is) returns) = (_, refl, refl, refl)
    tells_of _ _ _ _ (stops never) = elim never [ ]

    option_so : (answer : OptionAnswer) (after : OptionValues) → Here (option_replies answer after)
    option_so option_answer.Set after = returned Fits _
    option_so option_answer.Unknown after = refuses_by Fits (Agent code.UnknownOption)
    option_so option_answer.Parameter after = refuses_by Fits (Agent code.Parameter)
    option_so option_answer.NotSupported after = refuses_by Fits (Agent code.NotSupported)

    replies : (command : CacheCommand) → request ≡ Cache command → EndsSo request (CacheReplies rules options command)
    replies Nop is = ends_working request (returned Fits _)
    replies Reset is = ends_working request (returned Fits _)
    replies Bye is = ends_working request (returned Fits _)
    replies Help is = ends_working request (returned Fits _)
    replies (SetOption text) is = ends_working request (option_so (applied options text.items).answer (applied options text.items).after)
    replies (SetKeyDesc text) is = ends_working request (returned Fits _)
    replies (GetInfo what) is = ends_working request (bind Fits (tells_info fits rules options what) (λ text. returned Fits _))
    replies (GetPassphrase plain check no_ask repeat quality id texts) is =
        let fields : GetFields = record { plain = plain; check = check; no_ask = no_ask; repeat = repeat; quality = quality; id = id; texts = texts } in
        made request (passphrase_so fields (λ named same. directly (under_get fields is same)) no_ask texts) (λ secret. record { of = tells_of })
    replies (PresetPassphrase id life secret) is = ends_working request (bind Fits (presets fits rules options id life secret (λ given_so turn. directly (under_preset is))) (λ stored. returned Fits _))
    replies (ClearPassphrase id way) is = ends_working request (bind Fits (changes fits _ refl (λ turn. is)) (λ changed. returned Fits _))
    replies (GetConfirmation description) is = ends_working request (bind Fits (confirmed fits rules options options.mode description) (λ agreed. returned Fits _))
    replies ReloadAgent is = ends_working request (bind Fits (changes fits _ refl (λ turn. is)) (λ changed. returned Fits _))
    replies KillAgent is = ends_working request (bind Fits (changes fits _ refl (λ turn. is)) (λ changed. returned Fits _))

-- ---- every reply ends in an OK line

info_reply : (rules : Rules) (what : Info) {text : List ℕ} → IsInfo rules what text → IsReply text
info_reply rules Version is = reply_cache is
info_reply rules Pid is = reply_cache is
info_reply rules S2kCount is = reply_cache is
info_reply rules Listed is = subst IsReply (sym is) reply_ok

abbrev ReplyOk : CacheAction CacheReply → Type 0
ReplyOk = RepliesOk (λ reply. reply.text)

module _ (rules : Rules) (options : OptionValues) where
  info_ok : {what : Info} (before : Option ℕ) (events : List Event) (given_reply : CacheReply) (after : Option ℕ) → (TellsInfo rules what >>= λ text. Returns (reply options text)) before events (Ok given_reply) after
      → EndsInOk given_reply.text
  info_ok {what} _ _ _ _ (goes_on (told.tells is) returns) = reply_ends_in_ok (info_reply rules what is)

  told_ok : {plain : Bool} {secret : List ℕ} (before : Option ℕ) (events : List Event) (given_reply : CacheReply) (after : Option ℕ)
      → (TellsPassphrase plain secret >>= λ text. Returns (reply options text)) before events (Ok given_reply) after → EndsInOk given_reply.text
  told_ok {plain} {secret} _ _ _ _ (goes_on (told.tells is) returns) = reply_ends_in_ok (reply_passphrase plain secret _ is)

  option_ok : (answer : OptionAnswer) (after : OptionValues) → ReplyOk (option_replies answer after)
  option_ok option_answer.Set after = ok_returns _ (reply_ends_in_ok reply_ok)
  option_ok option_answer.Unknown after = ok_refuses _
  option_ok option_answer.Parameter after = ok_refuses _
  option_ok option_answer.NotSupported after = ok_refuses _

  done_ok : {A : Type 0} {action : CacheAction A} {values : OptionValues} → ReplyOk (action >>= λ value. Returns (reply values ok))
  done_ok = ok_then (λ value. ok_returns _ (reply_ends_in_ok reply_ok))

  replies_ok : (command : CacheCommand) → ReplyOk (CacheReplies rules options command)
  replies_ok Nop = ok_returns _ (reply_ends_in_ok reply_ok)
  replies_ok Reset = ok_returns _ (reply_ends_in_ok reply_ok)
  replies_ok Bye = ok_returns _ (reply_ends_in_ok reply_closing)
  replies_ok Help = ok_returns _ (reply_ends_in_ok reply_help)
  replies_ok (SetOption text) = option_ok (applied options text.items).answer (applied options text.items).after
  replies_ok (SetKeyDesc text) = ok_returns _ (reply_ends_in_ok reply_ok)
  replies_ok (GetInfo what) = values_so info_ok
  replies_ok (GetPassphrase plain check no_ask repeat quality id texts) = ok_then (λ secret. values_so told_ok)
  replies_ok (PresetPassphrase id life secret) = done_ok
  replies_ok (ClearPassphrase id way) = done_ok
  replies_ok (GetConfirmation description) = done_ok
  replies_ok ReloadAgent = done_ok
  replies_ok KillAgent = ok_then (λ value. ok_returns _ (reply_ends_in_ok reply_closing))

-- ---- exchanges

module _ (request : Request) {action : CacheAction CacheReply} (ends : EndsSo request action) where
  action_course : {before after : OptionValues} {events : List Event} {went : Went} → ReplyOk action → AnyExchange refusal_line went_after action before events after went → CourseBy request AnyNonce events
  action_course oks (exchange.answered some held given_reply does closes_so) = ok_course request (oks.of None some (Ok given_reply) held does) (ends.of _ _ _ _ does) closes_so
  action_course oks (exchange.refused some held why does closes_so) = err_course request (ends.of _ _ _ _ does) closes_so

  action_gone : {before after : OptionValues} {events : List Event} {went : Went} {how : Gone} → AnyExchange refusal_line went_after action before events after went → IsSaid events (client_error.Gone how) → went ≡ End (end_of how)
  action_gone (exchange.answered some held given_reply does closes_so) says_so =
      absurd (cc (gone_only (ends_said request (ends.of _ _ _ _ does) (said_before some _ (answer_heard (Some given_reply.text) closes_so) says_so))))
  action_gone {how} (exchange.refused some held why does closes_so) says_so =
      let same : Err why ≡ Err (Client (client_error.Gone how)) = gone_only (ends_said request (ends.of _ _ _ _ does) (said_before some _ (answer_heard (refusal_line why) closes_so) says_so)) in
      let refusal : why ≡ Client (client_error.Gone how) = cc same in
      ap (λ w. went_after (gone_by w)) refusal

module _ (rules : Rules) (before after : OptionValues) (events : List Event) (went : Went) where
  pub cache_course : (request : Request) → CacheExchange rules before request events after went → CourseBy request AnyNonce events
  cache_course (Cache command) exchanged = action_course (Cache command) (replies (Cache command) rules before command refl) (replies_ok rules before command) exchanged
  cache_course (Bad why) exchanged = action_course (Bad why) (ends_working (Bad why) (refuses_by (IsAllowed (Bad why) AnyNonce) (Agent why))) (ok_refuses _) exchanged
  cache_course (Key line) never = absurd never

  -- a client that is gone ends its session
  pub cache_gone : (request : Request) {how : Gone} → CacheExchange rules before request events after went → IsSaid events (client_error.Gone how) → went ≡ End (end_of how)
  cache_gone (Cache command) exchanged says = action_gone (Cache command) (replies (Cache command) rules before command refl) exchanged says
  cache_gone (Bad why) exchanged says = action_gone (Bad why) (ends_working (Bad why) (refuses_by (IsAllowed (Bad why) AnyNonce) (Agent why))) exchanged says
  cache_gone (Key line) never says = absurd never
