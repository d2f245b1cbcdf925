-- Requests on the cache and on the session, each of whose refusals has its cause.
use Rattle.std.proofs.Common.{◌≡◌, ℕ, Bool, true, false, List, [], ◌++◌, codes, Option, Some, None, Result, Ok, refl, sym, subst, inl}
use Rattle.{arrayvec.specs.ArrayVec.ArrayVec, agent_ask.specs.{Session.{SessionEvents.said_last, PortCalls.PortCall, Actions.{◌>>=◌, Returns}}, Plans.plan_of}, assuan_server.specs.{Clients.session_lines, Written.{refusal_line, limit_line}}}
use Rattle.session_client.specs.{Asking.gone_of, Refusals.gone_by, declared.{code.Code.Code, refusal.Refusal.{Refusal, TheVariants.{Agent, Pinentry, Client}}, client_error.ClientError.ClientError}}
use Rattle.{cache_policy.specs.{Turns.{closes, Empty}, declared.{mark.MarkStep.MarkStep, secret.TheConstants.MAX_SECRET_LEN}}, session_options.specs.{OptionValues.{OptionValues, applied}, declared.options.OptionAnswer.OptionAnswer}}
use Rattle.{session_options.specs.declared.{options.PinMode.PinMode, rules.Rules.Rules}, agent_commands.specs.{Answers.IsInfo, Endings.went_after, Events.EventWith}}
use Rattle.agent_commands.specs.{Exchanges.{CacheExchange, CacheReply, CacheReplies, TellsPassphrase, TellsInfo, option_replies, ChangeReplies, confirms_by, is_quiet, tells}, Actions.{CacheAction, AsksPassphrase}}
use Rattle.agent_commands.specs.{Passphrases.{ask, ask_or_open, LooksFor, WantsPrompt, ByCache, ByClient, Uncached, WithoutPrompt, ByUser, as_wanted, passphrase_by}, Requests.{GetFields, get_passphrase}}
use Rattle.agent_commands.specs.declared.{request.{CacheCommand.CacheCommand, Info.{Info, TheVariants.{Version, Pid, S2kCount, Listed}}, Request.{Request, TheVariants.{Cache, Key, Bad}}, Texts.Texts}, went.Went.Went}
use Rattle.agent_origin.specs.declared.session_state.SessionState.{SessionState}
use Rattle.agent_session.specs.Causes.{AsksAny, wanted, StandIn, IsCaused, IsRefusedBy, IsSaid, said, by_client, by_mode, no_id, empty, option, preset, confirmation, none_given, HasNoEntry, IsUnprompted, IsMalformed, IsUnsupported}
use Rattle.agent_session.{specs.Causes.{without_id, passphrase}, proofs.Causes.{Asides.secret_limit, Explained.{Explained, replied, failed, silent, after_these, IsLast}}}
use Rattle.agent_session.proofs.Causes.Explaining.{Caused, CausedRefusal, ClientSays, cut, client_said, Comes, IsExplained, Explains, Anything, bind, whatever, returned, refused, or_otherwise, is_wanted, interrupts, looks, seats, changes}
use Rattle.agent_session.proofs.Causes.{Explaining.closes_explained, KeyActions.{Either, prompts_any, agrees}, KeyRequests.{if_needed, or_else_explained}}
use Rattle.agent_session.proofs.{Causes.Replying.{IsReply, reply_ok, reply_closing, reply_help, reply_cache, reply_passphrase}, Standing.{has_first, stand_left, stand_right}}
use Rattle.agent_ask.specs.Session.ClientActions as client
use Rattle.agent_ask.specs.Session.ActionExchanges as exchange
use Rattle.agent_ask.specs.Session.TurnActions as taken
use Rattle.assuan_server.specs.declared.errors.Origin.TheVariants as origin
use Rattle.session_client.specs.declared.code.Code.TheVariants as code
use Rattle.session_client.specs.declared.client_error.Gone.TheVariants as gone
use Rattle.session_client.specs.declared.client_error.ClientError.TheVariants as client_error
use Rattle.session_options.specs.declared.options.OptionAnswer.TheVariants as option_answer
use Rattle.session_options.specs.declared.options.PinMode.TheVariants as mode
use Rattle.agent_commands.specs.declared.request.CacheCommand.TheVariants as command

-- a reply that answers the request
abbrev Answers : CacheReply → Type 0
Answers given = IsReply given.text × IsLast given.went

info_reply : (rules : Rules) (what : Info) {text : List ℕ} → IsInfo rules what text → IsReply text
info_reply rules Version is = reply_cache is
info_reply rules Pid is = reply_cache is
info_reply rules S2kCount is = reply_cache is
info_reply rules Listed is = subst IsReply (sym is) reply_ok

module _ (rules : Rules) (kept : SessionState) (whole : List (EventWith PortCall)) (request : Request) where
  abbrev Here : List (EventWith PortCall) → Went → Type 0
  Here = Explained whole (IsCaused whole rules kept request)

  -- what is done so comes to a good value, or to a refusal that has its cause
  abbrev ExplainsHere : {A : Type 0} → CacheAction A → (A → Type 0) → Type 0
  ExplainsHere action Good = Explains whole (IsCaused whole rules kept request) action Good

  -- an action, and then what follows whatever it came to
  then : {A B : Type 0} {action : CacheAction A} {next : A → CacheAction B} {Good : B → Type 0} → ExplainsHere action Anything → ((value : A) → ExplainsHere (next value) Good) → ExplainsHere (action >>= next) Good
  then first next = bind first (λ value any. next value)

  done : {A : Type 0} (value : A) → ExplainsHere (Returns value) Anything
  done value = returned Anything value tt

  -- ---- the client

  writes_of : ExplainsHere (client.Writes (limit_line MAX_SECRET_LEN)) Anything
  writes_of before events result after client.written stands = record { silent = (secret_limit, tt); explained = tt }
  writes_of before events result after (client.cut unsent is) stands = record { silent = (tt, tt); explained = cut }

  inquires_of : ExplainsHere (client.Inquires session_lines (codes "PASSPHRASE") MAX_SECRET_LEN) Anything
  inquires_of before events result after (client.given is) stands = record { silent = (tt, tt); explained = tt }
  inquires_of before events result after (client.not_given is) stands = record { silent = (tt, tt); explained = client_said (said is (has_first stands)) }

  asks_passphrase : ExplainsHere AsksPassphrase Anything
  asks_passphrase = then writes_of (λ told. inquires_of)

  -- ---- the cache

  wants_prompt : (id : Option (List ℕ)) → ExplainsHere (WantsPrompt id) Anything
  wants_prompt None = then (seats rules kept request whole _ refl) (λ seated. done None)
  wants_prompt (Some id) = whatever _ (looks rules kept request whole (ask_or_open id) refl)

  by_client_itself : (id : Option (List ℕ)) → ExplainsHere (ByClient id) Anything
  by_client_itself None = then asks_passphrase (λ secret. then (done tt) (λ any. done secret))
  by_client_itself (Some id) = then asks_passphrase (λ secret. then (changes rules kept request whole _ refl) (λ stored. done secret))

  -- ---- prompts

  module _ (texts : Texts) (check quality : Bool) (repeat : ℕ) (asks : AsksAny rules kept.options request (plan_of rules kept.options texts.error check repeat)) where
    by_user : (id : Option (List ℕ)) → ExplainsHere (ByUser rules kept.options texts check quality repeat id) Anything
    by_user id =
        then (wants_prompt id) (λ cached. or_otherwise Anything cached _ (λ some is. tt)
        (λ none. then (prompts_any rules kept request whole asks) (λ pin. then (closes_explained (Some pin)) (λ closed. done pin))))

  -- ---- replies

  answered : {given : CacheReply} → IsReply given.text → IsLast given.went → ExplainsHere (Returns given) Answers
  answered {given} reply last = returned Answers given (reply, last)

  tells_of : (plain : Bool) (secret : List ℕ) → ExplainsHere (TellsPassphrase plain secret) IsReply
  tells_of plain secret before events result after (tells answer) stands = record { silent = tt; explained = reply_passphrase plain secret _ answer }

  tells_info_of : (what : Info) → ExplainsHere (TellsInfo rules what) IsReply
  tells_info_of what before events result after (tells is) stands = record { silent = tt; explained = info_reply rules what is }

  -- ---- the commands

  module _ (fields : GetFields) (is_get : request ≡ Cache (get_passphrase fields)) where
    -- the cache has nothing for it
    abbrev HasNone : Type 0
    HasNone = HasNoEntry whole request × (is_quiet fields.no_ask fields.texts ≡ true → Caused rules kept request whole code.NoData)

    looks_of : (id : List ℕ) → fields.id ≡ Some id → {before after : Option ℕ} {events : List (EventWith PortCall)} {result : Result (Option (List ℕ)) Refusal} → taken.Asks (ask id) before events result after
        → StandIn events whole → Comes whole (IsCaused whole rules kept request) (Either rules kept request whole Anything HasNone) events result
    looks_of id same (taken.given can) stands = record { silent = (tt, tt); explained = tt }
    looks_of id same (taken.empty can) stands =
        record { silent = (tt, tt); explained = (passphrase fields id is_get same (none_given Empty tt (has_first stands)), λ quiet. empty fields id is_get quiet same (has_first stands)) }
    looks_of id same (taken.opened fits) stands = absurd fits
    looks_of id same (taken.interrupted can why) stands = record { silent = (tt, tt); explained = interrupts rules kept request whole (ask id) refl why stands }

    looks_for : (id : Option (List ℕ)) → fields.id ≡ id → ExplainsHere (LooksFor id) (Either rules kept request whole Anything HasNone)
    looks_for None same = returned _ None (without_id fields is_get same, λ quiet. no_id fields is_get quiet same)
    looks_for (Some id) same = λ before events result after looked stands. looks_of id same looked stands

    by_cache : is_quiet fields.no_ask fields.texts ≡ true → ExplainsHere (ByCache fields.id) Anything
    by_cache quiet = bind (looks_for fields.id refl) (λ cached so. if_needed rules kept request whole Anything HasNone code.NoData cached so (λ none. none.1 quiet))

    without_prompt : (way : PinMode) → (HasNoEntry whole request → ExplainsHere (Uncached fields.id way) Anything) → ExplainsHere (WithoutPrompt fields.id way) Anything
    without_prompt way other =
        bind (looks_for fields.id refl) (λ cached so. or_else_explained rules kept request whole Anything HasNone cached _ so (λ none. other none.0))

    as_client_wants : (way : PinMode) → kept.options.mode ≡ way → (texts : Texts) → fields.texts ≡ Some texts → ExplainsHere (as_wanted rules kept.options fields way texts) Anything
    as_client_wants mode.Ask same texts is = by_user texts fields.check fields.quality fields.repeat (wanted fields is_get is) fields.id
    as_client_wants mode.Cancel same texts is = without_prompt mode.Cancel (λ unmet. refused Anything (Agent code.Cancelled) (by_mode same unmet))
    as_client_wants mode.Error same texts is = without_prompt mode.Error (λ unmet. refused Anything (Agent code.NoPinentry) (inl (by_mode same unmet)))
    as_client_wants mode.Loopback same texts is = without_prompt mode.Loopback (λ unmet. by_client_itself fields.id)

    -- the fields say whether the cache alone is asked
    found : (no_ask : Bool) (texts : Option Texts) → fields.texts ≡ texts → (is_quiet no_ask texts ≡ true → is_quiet fields.no_ask fields.texts ≡ true) → ExplainsHere (passphrase_by rules kept.options fields no_ask texts) Anything
    found no_ask None is quiet = by_cache (quiet refl)
    found true (Some texts) is quiet = by_cache (quiet refl)
    found false (Some texts) is quiet = as_client_wants kept.options.mode refl texts is

  option_said : (text : ArrayVec ℕ) → request ≡ Cache (command.SetOption text) → (answer : OptionAnswer) → (applied kept.options text.items).answer ≡ answer → (after : OptionValues)
      → ExplainsHere (option_replies answer after) Answers
  option_said text is_option option_answer.Set is after = answered reply_ok tt
  option_said text is_option option_answer.Unknown is after = refused Answers (Agent code.UnknownOption) (option is_option is)
  option_said text is_option option_answer.Parameter is after = refused Answers (Agent code.Parameter) (IsMalformed.option (option is_option is))
  option_said text is_option option_answer.NotSupported is after = refused Answers (Agent code.NotSupported) (IsUnsupported.option (option is_option is))

  confirms : (description : ArrayVec ℕ) → request ≡ Cache (command.GetConfirmation description) → (way : PinMode) → kept.options.mode ≡ way → ExplainsHere (confirms_by rules kept.options way description) Anything
  confirms description is mode.Ask same = then (seats rules kept request whole _ refl) (λ seated. agrees rules kept request whole description.items)
  confirms description is mode.Cancel same = refused Anything (Agent code.Cancelled) (by_mode same (HasNoEntry.of_consent (confirmation is)))
  confirms description is mode.Error same = refused Anything (Agent code.NoPinentry) (inl (by_mode same (HasNoEntry.of_consent (confirmation is))))
  confirms description is mode.Loopback same = refused Anything (Agent code.NoPinentry) (inl (IsUnprompted.of_consent (confirmation is) same))

  changed : {step : MarkStep} → closes step ≡ None → {given : CacheReply} → IsReply given.text → IsLast given.went → ExplainsHere (ChangeReplies step given) Answers
  changed keeps reply last = then (changes rules kept request whole _ keeps) (λ made. answered reply last)

  replies : (asked : CacheCommand) → request ≡ Cache asked → ExplainsHere (CacheReplies rules kept.options asked) Answers
  replies command.Nop is = answered reply_ok tt
  replies command.Reset is = answered reply_ok tt
  replies command.Bye is = answered reply_closing tt
  replies command.Help is = answered reply_help tt
  replies (command.SetOption text) is = option_said text is (applied kept.options text.items).answer refl _
  replies (command.SetKeyDesc text) is = answered reply_ok tt
  replies (command.GetInfo what) is = bind (tells_info_of what) (λ text reply. answered reply tt)
  replies (command.GetPassphrase plain check no_ask repeat quality id texts) is =
      let fields : GetFields = record { plain = plain; check = check; no_ask = no_ask; repeat = repeat; quality = quality; id = id; texts = texts } in
      then (found fields is no_ask texts refl (λ quiet. quiet)) (λ secret. bind (tells_of plain secret) (λ text reply. answered reply tt))
  replies (command.PresetPassphrase id life secret) is =
      then (bind (is_wanted code.NotSupported rules.allow_preset (λ none. preset is none)) (λ allowed so. then
      (or_otherwise Anything secret AsksPassphrase (λ some is. tt) (λ none. asks_passphrase)) (λ given. changes rules kept request whole _ refl))) (λ stored. answered reply_ok tt)
  replies (command.ClearPassphrase id cleared) is = changed refl reply_ok tt
  replies (command.GetConfirmation description) is = then (confirms description is kept.options.mode refl) (λ agreed. answered reply_ok tt)
  replies command.ReloadAgent is = changed refl reply_ok tt
  replies command.KillAgent is = changed refl reply_closing tt

  -- ---- what is written last

  unheard_explained : (why : ClientError) → IsSaid whole why → Here (said_last (refusal_line (Client why))) (went_after (gone_of why))
  unheard_explained client_error.Cancelled is = failed [] code.Cancelled origin.Agent tt (by_client is) tt
  unheard_explained client_error.TooMuch is = failed [] code.TooMuch origin.Agent tt is tt
  unheard_explained client_error.Unexpected is = failed [] code.Unexpected origin.Agent tt is tt
  unheard_explained (client_error.Gone gone.TooLong) is = failed [] code.LineTooLong origin.Agent tt is refl
  unheard_explained (client_error.Gone gone.Ended) is = silent tt is
  unheard_explained (client_error.Gone gone.Spent) is = silent tt is
  unheard_explained (client_error.Gone gone.ReadFault) is = silent tt is
  unheard_explained (client_error.Gone gone.WriteFault) is = silent tt tt

  client_explained : (why : ClientError) → ClientSays whole why → Here (said_last (refusal_line (Client why))) (went_after (gone_of why))
  client_explained why cut = silent tt tt
  client_explained why (client_said is) = unheard_explained why is

  pub refusal_explained : (why : Refusal) → CausedRefusal whole (IsCaused whole rules kept request) why → Here (said_last (refusal_line why)) (went_after (gone_by why))
  refusal_explained (Agent why) caused = failed [] why origin.Agent tt caused tt
  refusal_explained (Pinentry why) caused = failed [] why origin.Pinentry tt caused tt
  refusal_explained (Client why) says = client_explained why says

  -- the actions of a request are done, its ticket is given back, and then this is written
  pub in_exchange : {A : Type 0} {action : CacheAction A} {Good : A → Type 0} → ExplainsHere action Good → {events back last : List (EventWith PortCall)} {result : Result A Refusal} {held : Option ℕ} {went : Went}
      → action None events result held → taken.Closes None held back (Ok tt) None → (IsExplained whole (IsCaused whole rules kept request) Good result → Here last went) → StandIn (events ++ (back ++ last)) whole
      → Here (events ++ (back ++ last)) went
  in_exchange {Good} explains {events} {back} {last} {result} {held} does closes ends stands =
      let first : Comes whole (IsCaused whole rules kept request) Good events result = explains None events result held does (stand_left events _ stands) in
      let close : Comes whole (IsCaused whole rules kept request) Anything back (Ok tt) = closes_explained None held back (Ok tt) None closes (stand_left back last (stand_right events _ stands)) in
      after_these _ _ events first.silent (after_these _ _ back close.silent (ends first.explained))

  exchange_explained : {action : CacheAction CacheReply} → ExplainsHere action Answers → {events : List (EventWith PortCall)} {after : OptionValues} {went : Went}
      → exchange.AnyExchange refusal_line went_after action kept.options events after went → StandIn events whole → Here events went
  exchange_explained explains (exchange.answered events held reply does closes) stands = in_exchange explains does closes (λ good. replied [] reply.text tt good.0 good.1) stands
  exchange_explained explains (exchange.refused events held why does closes) stands = in_exchange explains does closes (λ caused. refusal_explained why caused) stands

module _ (rules : Rules) (kept : SessionState) (whole : List (EventWith PortCall)) where
  pub cache_explained : (request : Request) {events : List (EventWith PortCall)} (after : OptionValues) {went : Went} → ((why : Code) → IsRefusedBy request why → IsCaused whole rules kept request why origin.Agent)
      → CacheExchange rules kept.options request events after went → StandIn events whole → Explained whole (IsCaused whole rules kept request) events went
  cache_explained (Cache asked) after line_caused exchanged stands = exchange_explained rules kept whole (Cache asked) (replies rules kept whole (Cache asked) asked refl) exchanged stands
  cache_explained (Bad why) after line_caused exchanged stands =
      exchange_explained rules kept whole (Bad why) (refused Answers (Agent why) (line_caused why (inl refl))) exchanged stands
  cache_explained (Key line) after line_caused exchanged stands = absurd exchanged
