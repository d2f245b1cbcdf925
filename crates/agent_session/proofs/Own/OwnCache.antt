-- What requests on the cache hand to it is their own, and so is the passphrase that they are answered; and so of what each request of a session hands in.
use Rattle.std.{specs.{List.AllByRecursion, Prelude.⊤}, proofs.Common.{◌≡◌, ℕ, Bool, true, false, List, ◌∷◌, ◌++◌, Option, Some, None, Result, Ok, Err, refl, sym, ◌∙◌, subst, append_assoc, append-nil, codes, []}}
use Rattle.agent_ask.specs.Session.{ClientActions.{Writes, Inquires}, PortCalls.PortCall, ActionExchanges.AnyExchange, Actions.{◌>>=◌, Returns, Refuses, needed, or_else}, SessionEvents.{Sent, cache_turn, said_last}}
use Rattle.agent_ask.specs.{ConsentActions.AgreesTo, PinActions.prompted}
use Rattle.{agent_ask.{specs.Session.TurnActions.{Asks, Seats, Changes, Closes}, proofs.Within.{HoldsOf, Within, Joins, returned_so, refused_so}}, assuan_server.specs.{Clients.session_lines, Written.{refusal_line, limit_line}}}
use Rattle.cache_policy.specs.{Turns.{Given, FitsStep}, declared.{grant.Grant.Grant, life.Life.{Life, TheVariants.Default}, mark.MarkStep.{MarkStep, TheVariants.{Put, Seat}}, mode.Mode.TheVariants.User, secret.TheConstants.MAX_SECRET_LEN}}
use Rattle.{session_client.specs.declared.refusal.Refusal.{Refusal, TheVariants.Agent}, session_options.specs.{OptionValues.{OptionValues, applied}, declared.options.OptionAnswer.OptionAnswer}}
use Rattle.{session_options.specs.declared.{options.{OptionAnswer.TheVariants.{Set, Unknown, Parameter, NotSupported}, PinMode.PinMode}, rules.Rules.Rules}, agent_commands.specs.{Endings.went_after, Events.EventWith}}
use Rattle.agent_commands.specs.{Exchanges.{CacheExchange, CacheReply, TellsPassphrase, TellsInfo, GivenOrAsked, Presets, CacheReplies, option_replies, confirms_by, put}, Actions.{CacheAction, AsksPassphrase}}
use Rattle.agent_commands.specs.{Passphrases.{ask, ask_or_open, LooksFor, WantsPrompt, KeepsUnder, ByCache, ByClient, Uncached, WithoutPrompt, PromptsAny, ByUser, as_wanted, passphrase_by}, Requests.{GetFields, get_passphrase}}
use Rattle.agent_commands.specs.declared.{request.{CacheCommand.CacheCommand, Info.Info, Request.{Request, TheVariants.{Cache, Key as OnKeys, Bad}}, Texts.Texts}, went.Went.Went}
use Rattle.{key_commands.{proofs.EachEvent.{each_append, EachSo, each_bind, each_refused, each_seats, each_changes, each_wanted}, specs.Lines.of_passphrase}, agent_origin.specs.SessionExchanges.{RequestExchange, cache, keys}}
use Rattle.agent_origin.specs.declared.session_state.SessionState.{SessionState}
use Rattle.agent_session.specs.Causes.{Has, here, wanted, IsSent, sent, on_keys}
use Rattle.agent_session.specs.OwnPassphrases.{IsPublic, done, closes, helps, tells, notice, IsAnswered, cached, unprompted, typed, SaysOwn, public, passphrase, SaysOwnAlone, for_get, for_preset, by_command, WantsTicket, by_id, unkept}
use Rattle.agent_session.{specs.OwnPassphrases.{HasTicket, has_ticket, IsAccepted, any, HandsIn, StoresOwn, directly, under_get, under_preset}, proofs.Own.OwnFacts.{ticket_more, accepted_more, sent_more}}
use Rattle.agent_session.proofs.Own.{OwnLines.{IsOpen, IsPlain, Open, Plain, each_first, each_second, shown_plain, refusal_plain, back_plain, open_are_own, said_last_own}, OwnKeys.{stand_last, key_own}}
use Rattle.agent_session.proofs.{Own.OwnActions.{IsQuiet, Fit, Fact, AreOwn, own_then, quiet_are_own, whatever, Anything}, Causes.Prompted.has_prompt, Standing.{has_left, has_right}}
use Rattle.agent_ask.specs.Session.ClientActions as client
use Rattle.agent_ask.specs.ConsentActions as consent
use Rattle.agent_ask.specs.Session.ActionExchanges as exchange
use Rattle.agent_ask.proofs.Within as within
use Rattle.agent_ask.specs.Session.TurnActions as turning
use Rattle.cache_policy.specs.Turns as turns
use Rattle.session_client.specs.declared.code.Code.TheVariants as code
use Rattle.session_options.specs.declared.options.PinMode.TheVariants as mode
use Rattle.agent_commands.specs.Exchanges as exchanges
use Rattle.agent_commands.specs.declared.request.CacheCommand.TheVariants as on
use Rattle.agent_session.specs.OwnPassphrases as whose

module _ (rules : Rules) where
  agrees_of : {options : OptionValues} {question : List ℕ} (before : Option ℕ) (events : List (EventWith PortCall)) (result : Result (Unit {0}) Refusal) (after : Option ℕ)
      → AgreesTo session_lines rules options question before events result after → Plain rules events
  agrees_of before events result after (consent.consents spec is prompt) = shown_plain rules prompt.in_session
  agrees_of before events result after (consent.refused spec is prompt refusal) = shown_plain rules prompt.in_session

  confirms_plain : (options : OptionValues) (way : PinMode) (description : _) → EachSo (IsPlain rules) (confirms_by rules options way description)
  confirms_plain options mode.Ask description = each_bind (IsPlain rules) (each_seats (IsPlain rules) (λ turn. ((λ hands. elim hands [ ]), tt))) (λ seated. record { of = agrees_of })
  confirms_plain options mode.Cancel description = each_refused (IsPlain rules) (Agent code.Cancelled)
  confirms_plain options mode.Error description = each_refused (IsPlain rules) (Agent code.NoPinentry)
  confirms_plain options mode.Loopback description = each_refused (IsPlain rules) (Agent code.NoPinentry)

  module _ (kept : SessionState) (request : Request) where
    abbrev Mine : List (EventWith PortCall) → MarkStep → Type 0
    Mine = StoresOwn rules kept request

    -- ---- actions

    -- where this is so, what an action hands in is the request's own, and it writes no passphrase; and then that is so of what it comes to
    abbrev Owns : {A : Type 0} → Fact → CacheAction A → (A → Fact) → Type 0
    Owns {A} Pre action Post = (prior : List (EventWith PortCall)) (before : Option ℕ) (events : List (EventWith PortCall)) (result : Result A Refusal) (after : Option ℕ) → action before events result after → Pre prior before
        → AreOwn Mine prior events × Open rules events × HoldsOf (λ value. Post value (prior ++ events) after) result

    record Owned {A : Type 0} (Pre : Fact) (Post : A → Fact) (before : Option ℕ) (events : List (EventWith PortCall)) (result : Result A Refusal) (after : Option ℕ) : Type 0 where
      so : (prior : List (EventWith PortCall)) → Pre prior before → AreOwn Mine prior events × Open rules events × HoldsOf (λ value. Post value (prior ++ events) after) result

    abbrev OwnUntold : {A : Type 0} → Fact → CacheAction A → (A → Fact) → Type 0
    OwnUntold Pre action Post = Within action (Owned Pre Post)

    owned : {A : Type 0} {Pre : Fact} {Post : A → Fact} {action : CacheAction A} → Owns Pre action Post → OwnUntold Pre action Post
    owned owns = record { of = λ before events result after does. record { so = λ prior. owns prior before events result after does } }

    owned_join : {A B : Type 0} {Pre : Fact} {Mid : A → Fact} {Post : B → Fact} → Joins (Owned Pre Mid) (λ value. Owned (Mid value) Post) (Owned Pre Post)
    owned_join {Post} = record {
      then = λ {before} {mid} {after} some later {value} {result} first more. record {
        so = λ prior pre.
            let one = first.so prior pre in
            let two = more.so (prior ++ some) one.2 in
            (own_then Mine prior some later one.0 two.0, each_append (IsOpen rules) some later one.1 two.1, subst (λ p. HoldsOf (λ value. Post value p after) result) (append_assoc prior some later) two.2);
      };
      alone = λ first. record { so = λ prior pre. let one = first.so prior pre in (one.0, one.1, tt) };
    }

    bind : {A B : Type 0} {Pre : Fact} {Mid : A → Fact} {Post : B → Fact} {action : CacheAction A} {next : A → CacheAction B} → OwnUntold Pre action Mid → ((value : A) → OwnUntold (Mid value) (next value) Post)
        → OwnUntold Pre (action >>= next) Post
    bind = within.bind owned_join

    module _ {A : Type 0} {Pre : Fact} {Post : A → Fact} where
      returned : (value : A) → ((prior : List (EventWith PortCall)) (held : Option ℕ) → Pre prior held → Post value prior held) → OwnUntold Pre (Returns value) Post
      returned value so = returned_so value (λ held. record { so = λ prior pre. (tt, tt, subst (λ p. Post value p held) (sym (append-nil prior)) (so prior held pre)) })

      refused : (why : Refusal) → OwnUntold Pre (Refuses {A = A} why) Post
      refused why = refused_so why (λ held. record { so = λ prior pre. (tt, tt, tt) })

    plain_own : (prior events : List (EventWith PortCall)) → Plain rules events → AreOwn Mine prior events × Open rules events
    plain_own prior events each = (quiet_are_own Mine prior events (each_first IsQuiet (IsOpen rules) events each), each_second IsQuiet (IsOpen rules) events each)

    plainly : {A : Type 0} {Pre : Fact} {action : CacheAction A} → EachSo (IsPlain rules) action → OwnUntold Pre action (λ value. Anything)
    plainly each = owned (λ prior before events result after does pre. let so = plain_own prior events (each.of before events result after does) in (so.0, so.1, whatever result tt))

    -- a turn that changes the cache
    module _ (Is After : List (EventWith PortCall) → Type 0) (step : MarkStep) (own : (prior : List (EventWith PortCall)) → Is prior → HandsIn step → StoresOwn rules kept request prior step)
        (then : (prior more : List (EventWith PortCall)) → Is prior → After (prior ++ more)) where
      changes_of : Owns (λ prior held. Is prior) (Changes step) (λ changed prior held. After prior)
      changes_of prior before events result after (turning.done can) pre = ((own prior pre, tt), (tt, tt), then prior _ pre)
      changes_of prior before events result after (turning.interrupted can why) pre = ((own prior pre, tt), (tt, tt), tt)

      changes : OwnUntold (λ prior held. Is prior) (Changes step) (λ changed prior held. After prior)
      changes = owned changes_of

    -- ---- the client

    abbrev IsSaid : List ℕ → Fact
    IsSaid pass prior held = IsSent prior (codes "PASSPHRASE") MAX_SECRET_LEN pass

    module _ (Pre : Fact) (Post : List ℕ → Fact) (gives : (pass : List ℕ) (prior : List (EventWith PortCall)) (held : Option ℕ) → IsSaid pass prior held → Post pass prior held) where
      writes_of : Owns Pre (Writes (limit_line MAX_SECRET_LEN)) (λ wrote. Anything)
      writes_of prior before events result after client.written pre = ((tt, tt), (notice of_passphrase, tt), tt)
      writes_of prior before events result after (client.cut unsent is) pre = ((tt, tt), (tt, tt), tt)

      inquires_of : Owns Anything (Inquires session_lines (codes "PASSPHRASE") MAX_SECRET_LEN) Post
      inquires_of prior before events result after (client.given is) pre = ((tt, tt), (tt, tt), gives _ _ before (sent is (has_right prior here)))
      inquires_of prior before events result after (client.not_given is) pre = ((tt, tt), (tt, tt), tt)

      asks_client : OwnUntold Pre AsksPassphrase Post
      asks_client = bind (owned writes_of) (λ wrote. owned inquires_of)

    -- ---- the ticket

    -- the one that is held is the request's own
    abbrev Held : Fact
    Held prior held = (ticket : ℕ) → held ≡ Some ticket → HasTicket rules kept request prior ticket

    held_more : {prior : List (EventWith PortCall)} {held : Option ℕ} (more : List (EventWith PortCall)) → Held prior held → Held (prior ++ more) held
    held_more more own ticket is = ticket_more more (own ticket is)

    opened_own : {prior : List (EventWith PortCall)} {ticket : ℕ} → HasTicket rules kept request prior ticket → Held prior (Some ticket)
    opened_own {prior} has other is = subst (HasTicket rules kept request prior) (cc is) has

    seats_of : Owns Held (Seats (Seat None None)) (λ seated. Held)
    seats_of prior before events result after (turning.opened can) pre = (((λ hands. elim hands [ ]), tt), (tt, tt), opened_own (has_ticket unkept (has_right prior here)))
    seats_of prior before events result after (turning.interrupted can why) pre = (((λ hands. elim hands [ ]), tt), (tt, tt), tt)

    closes_of : (pin : List ℕ) → Owns (λ prior held. Held prior held × IsAccepted rules kept.options request prior pin) (Closes (Some pin)) (λ closed prior held. IsAccepted rules kept.options request prior pin)
    closes_of pin prior before events result after turning.unheld pre = (tt, tt, accepted_more [] pre.1)
    closes_of pin prior before events result after (turning.closed {ticket} turn can) pre = (((λ hands. whose.accepted (pre.0 ticket refl) pre.1), tt), (tt, tt), accepted_more _ pre.1)

    -- ---- GET_PASSPHRASE

    module _ (fields : GetFields) (is_get : request ≡ Cache (get_passphrase fields)) where
      abbrev IsFound : List ℕ → Fact
      IsFound secret prior held = IsAnswered rules kept.options request prior fields secret

      -- what the cache gave, or whose the ticket is that is held
      abbrev Known : Option (List ℕ) → Fact
      Known None = Held
      Known (Some secret) = IsFound secret

      module _ (step : MarkStep) (quiet : HandsIn step → ⊥)
          (gives : (prior : List (EventWith PortCall)) (grant : Grant) → Has (cache_turn step (Given grant)) prior → IsAnswered rules kept.options request prior fields grant.entry.secret) where
        asks_of : (prior : List (EventWith PortCall)) (before : Option ℕ) (events : List (EventWith PortCall)) (result : Result (Option (List ℕ)) Refusal) (after : Option ℕ)
            → ((ticket : ℕ) → FitsStep step (turns.Open ticket) → WantsTicket rules kept request (prior ++ events) step) → Asks step before events result after → Held prior before
            → AreOwn Mine prior events × Open rules events × HoldsOf (λ found. Known found (prior ++ events) after) result
        asks_of prior before events result after wants (turning.given {grant} can) pre = (((λ hands. absurd (quiet hands)), tt), (tt, tt), gives _ grant (has_right prior here))
        asks_of prior before events result after wants (turning.empty can) pre = (((λ hands. absurd (quiet hands)), tt), (tt, tt), held_more _ pre)
        asks_of prior before events result after wants (turning.opened fits) pre = (((λ hands. absurd (quiet hands)), tt), (tt, tt), opened_own (has_ticket (wants _ fits) (has_right prior here)))
        asks_of prior before events result after wants (turning.interrupted can why) pre = (((λ hands. absurd (quiet hands)), tt), (tt, tt), tt)

      looks_for : (id : Option (List ℕ)) → fields.id ≡ id → OwnUntold Held (LooksFor id) Known
      looks_for None same = returned None (λ prior held pre. pre)
      looks_for (Some id) same = owned (λ prior before events result after does pre.
          asks_of (ask id) (λ hands. elim hands [ ]) (λ prior grant has. cached same has) prior before events result after (λ ticket fits. absurd fits) does pre)

      wants_prompt : (id : Option (List ℕ)) → fields.id ≡ id → OwnUntold Held (WantsPrompt id) Known
      wants_prompt None same = bind (owned seats_of) (λ seated. returned None (λ prior held pre. pre))
      wants_prompt (Some id) same = owned (λ prior before events result after does pre.
          asks_of (ask_or_open id) (λ hands. elim hands [ ]) (λ prior grant has. unprompted same has) prior before events result after (λ ticket fits. by_id fields is_get same) does pre)

      found_or : (found : Option (List ℕ)) {other : CacheAction (List ℕ)} → OwnUntold Held other IsFound → OwnUntold (Known found) (or_else found other) IsFound
      found_or None other = other
      found_or (Some secret) other = returned secret (λ prior held found. found)

      found_needed : (found : Option (List ℕ)) → OwnUntold (Known found) (needed code.NoData found) IsFound
      found_needed None = refused (Agent code.NoData)
      found_needed (Some secret) = returned secret (λ prior held found. found)

      by_cache : OwnUntold Held (ByCache fields.id) IsFound
      by_cache = bind (looks_for fields.id refl) found_needed

      keeps_under : (id : Option (List ℕ)) → fields.id ≡ id → (secret : List ℕ) → OwnUntold (IsSaid secret) (KeepsUnder id secret) (λ kept. IsSaid secret)
      keeps_under None same secret = returned tt (λ prior held says. says)
      keeps_under (Some id) same secret =
          let says_so : List (EventWith PortCall) → Type 0 = λ prior. IsSaid secret prior None in
          changes says_so says_so (Put id User Default secret) (λ prior says hands. whose.sent (by_command (directly (under_get fields is_get same))) (for_get fields is_get) says) (λ prior more says. sent_more more says)

      by_client : OwnUntold Held (ByClient fields.id) IsFound
      by_client = bind (asks_client Held IsSaid (λ pass prior held says. says)) (λ secret. bind (keeps_under fields.id refl secret) (λ kept. returned secret (λ prior held says. whose.from_client says)))

      uncached : (way : PinMode) → OwnUntold Held (Uncached fields.id way) IsFound
      uncached mode.Ask = refused (Agent code.NoPinentry)
      uncached mode.Cancel = refused (Agent code.Cancelled)
      uncached mode.Error = refused (Agent code.NoPinentry)
      uncached mode.Loopback = by_client

      without_prompt : (way : PinMode) → OwnUntold Held (WithoutPrompt fields.id way) IsFound
      without_prompt way = bind (looks_for fields.id refl) (λ found. found_or found (uncached way))

      prompts_of : (texts : Texts) → fields.texts ≡ Some texts → Owns Held (PromptsAny rules kept.options texts fields.check fields.quality fields.repeat)
          (λ pin prior held. Held prior held × IsAccepted rules kept.options request prior pin)
      prompts_of texts is_texts prior before events (Ok pin) after (prompted {shown} spec is prompt gives) pre =
          let so = plain_own prior shown (shown_plain rules prompt.in_session) in (so.0, so.1, (held_more shown pre, any (wanted fields is_get is_texts) (has_prompt (rw gives.1 at prompt) (stand_last prior shown))))
      prompts_of texts is_texts prior before events (Err why) after (prompted {shown} spec is prompt gives) pre =
          let so = plain_own prior shown (shown_plain rules prompt.in_session) in (so.0, so.1, tt)

      by_user : (texts : Texts) → fields.texts ≡ Some texts → OwnUntold Held (ByUser rules kept.options texts fields.check fields.quality fields.repeat fields.id) IsFound
      by_user texts is =
          bind (wants_prompt fields.id refl)
          (λ found. found_or found (bind (owned (prompts_of texts is)) (λ pin. bind (owned (closes_of pin)) (λ kept_so. returned pin (λ prior held so. typed so)))))

      wanted_by : (way : PinMode) (texts : Texts) → fields.texts ≡ Some texts → OwnUntold Held (as_wanted rules kept.options fields way texts) IsFound
      wanted_by mode.Ask texts is = by_user texts is
      wanted_by mode.Cancel texts is = without_prompt mode.Cancel
      wanted_by mode.Error texts is = without_prompt mode.Error
      wanted_by mode.Loopback texts is = without_prompt mode.Loopback

      found_by : (no_ask : Bool) (texts : Option Texts) → fields.texts ≡ texts → OwnUntold Held (passphrase_by rules kept.options fields no_ask texts) IsFound
      found_by no_ask None is = by_cache
      found_by true (Some texts) is = by_cache
      found_by false (Some texts) is = wanted_by kept.options.mode texts is

      tells_of : (secret : List ℕ) → Owns (IsFound secret) (TellsPassphrase fields.plain secret) (λ text prior held. SaysOwn rules kept.options request prior text)
      tells_of secret prior before events result after (exchanges.tells is) found =
          (tt, tt, passphrase fields is_get (subst (λ p. IsAnswered rules kept.options request p fields secret) (sym (append-nil prior)) found) is)

    -- ---- requests

    abbrev Says : CacheReply → Fact
    Says reply prior held = SaysOwn rules kept.options request prior reply.text

    says : {Pre : Fact} (reply : CacheReply) → IsPublic rules reply.text → OwnUntold Pre (Returns reply) Says
    says reply is = returned reply (λ prior held pre. public is)

    tells_info_of : (what : Info) → Owns Held (TellsInfo rules what) (λ text prior held. SaysOwn rules kept.options request prior text)
    tells_info_of what prior before events result after (exchanges.tells is) pre = (tt, tt, public (tells what is))

    option_own : (end : OptionAnswer) (values : OptionValues) → OwnUntold Held (option_replies end values) Says
    option_own Set values = says _ done
    option_own Unknown values = refused (Agent code.UnknownOption)
    option_own Parameter values = refused (Agent code.Parameter)
    option_own NotSupported values = refused (Agent code.NotSupported)

    changes_plainly : {step : MarkStep} → (HandsIn step → ⊥) → OwnUntold Held (Changes step) (λ changed. Anything)
    changes_plainly quiet = plainly (each_changes (IsPlain rules) (λ turn. (quiet, tt)))

    module _ (id : List ℕ) (life : Life) where
      abbrev IsPreset : List ℕ → List (EventWith PortCall) → Type 0
      IsPreset pass prior = StoresOwn rules kept request prior (put id life pass)

      given_or_asked : (secret : Option (List ℕ)) → request ≡ Cache (on.PresetPassphrase id life secret) → OwnUntold Anything (GivenOrAsked secret) (λ pass prior held. IsPreset pass prior)
      given_or_asked None is = asks_client Anything (λ pass prior held. IsPreset pass prior) (λ pass prior held says. whose.sent (by_command (directly (under_preset is))) (for_preset is) says)
      given_or_asked (Some pass) is = returned pass (λ prior held pre. whose.preset is)

      presets : (secret : Option (List ℕ)) → request ≡ Cache (on.PresetPassphrase id life secret) → OwnUntold Held (Presets rules id life secret) (λ stored. Anything)
      presets secret is =
          bind (plainly (each_wanted (IsPlain rules) code.NotSupported rules.allow_preset))
          (λ allowed. bind (given_or_asked secret is) (λ pass. changes (IsPreset pass) (λ prior. ⊤) (put id life pass) (λ prior so hands. so) (λ prior more so. tt)))

    replies : (command : CacheCommand) → request ≡ Cache command → OwnUntold Held (CacheReplies rules kept.options command) Says
    replies on.Nop is = says _ done
    replies on.Reset is = says _ done
    replies on.Bye is = says _ closes
    replies on.Help is = says _ helps
    replies (on.SetOption text) is = option_own (applied kept.options text.items).answer (applied kept.options text.items).after
    replies (on.SetKeyDesc text) is = says _ done
    replies (on.GetInfo what) is = bind (owned (tells_info_of what)) (λ text. returned _ (λ prior held so. so))
    replies (on.GetPassphrase plain check no_ask repeat quality id texts) is =
        let fields : GetFields = record { plain = plain; check = check; no_ask = no_ask; repeat = repeat; quality = quality; id = id; texts = texts } in
        bind (found_by fields is no_ask texts refl) (λ secret. bind (owned (tells_of fields is secret)) (λ text. returned _ (λ prior held so. so)))
    replies (on.PresetPassphrase id life secret) is = bind (presets id life secret is) (λ stored. says _ done)
    replies (on.ClearPassphrase id way) is = bind (changes_plainly (λ hands. elim hands [ ])) (λ changed. says _ done)
    replies (on.GetConfirmation description) is = bind (plainly (confirms_plain kept.options kept.options.mode description)) (λ agreed. says _ done)
    replies on.ReloadAgent is = bind (changes_plainly (λ hands. elim hands [ ])) (λ changed. says _ done)
    replies on.KillAgent is = bind (changes_plainly (λ hands. elim hands [ ])) (λ changed. says _ closes)

    -- ---- exchanges

    says_more : {prior : List (EventWith PortCall)} {text : List ℕ} (more : List (EventWith PortCall)) → SaysOwn rules kept.options request prior text → SaysOwn rules kept.options request (prior ++ more) text
    says_more more (public is) = public is
    says_more more (passphrase fields is_get found is) = passphrase fields is_get (found_more found) is
      where
        found_more : {prior secret : _} {fields : GetFields} → IsAnswered rules kept.options request prior fields secret → IsAnswered rules kept.options request (prior ++ more) fields secret
        found_more (cached same has) = cached same (has_left more has)
        found_more (unprompted same has) = unprompted same (has_left more has)
        found_more (typed accepted) = typed (accepted_more more accepted)
        found_more (whose.from_client says) = whose.from_client (sent_more more says)

    -- what is done for a request is its own, and what is written for it
    abbrev AllOwn : List (EventWith PortCall) → Type 0
    AllOwn events = AreOwn Mine [] events × SaysOwnAlone rules kept.options request events

    exchange_own : {action : CacheAction CacheReply} {before after : OptionValues} {events : List (EventWith PortCall)} {went : Went} → OwnUntold Held action Says
        → AnyExchange refusal_line went_after action before events after went → AllOwn events
    exchange_own own (exchange.answered events held reply {back} does closes_so) =
        let so = (own.of None events (Ok reply) held does).so [] (λ ticket is. absurd (cc is)) in
        let plain : Plain rules back = back_plain rules closes_so in
        let quiet : AllByRecursion IsQuiet (back ++ Sent reply.text ∷ []) = each_append IsQuiet back (Sent reply.text ∷ []) (each_first IsQuiet (IsOpen rules) back plain) (tt, tt) in (
          own_then Mine [] events (back ++ Sent reply.text ∷ []) so.0 (quiet_are_own Mine events (back ++ Sent reply.text ∷ []) quiet),
          λ front later text is.
              said_last_own rules kept.options request (events ++ back) reply.text (each_append (IsOpen rules) events back so.1 (each_second IsQuiet (IsOpen rules) back plain)) (says_more back so.2) front later text
              (append_assoc events back (Sent reply.text ∷ []) ∙ is),
        )
    exchange_own own (exchange.refused events held why {back} does closes_so) =
        let so = (own.of None events (Err why) held does).so [] (λ ticket is. absurd (cc is)) in
        let last = back ++ said_last (refusal_line why) in
        let plain : Plain rules last = each_append (IsPlain rules) back (said_last (refusal_line why)) (back_plain rules closes_so) (refusal_plain rules why) in (
          own_then Mine [] events last so.0 (quiet_are_own Mine events last (each_first IsQuiet (IsOpen rules) last plain)),
          open_are_own rules kept.options request (events ++ last) (each_append (IsOpen rules) events last so.1 (each_second IsQuiet (IsOpen rules) last plain)),
        )

  pub cache_own : (kept : SessionState) (request : Request) (events : List (EventWith PortCall)) (after : OptionValues) (went : Went) → CacheExchange rules kept.options request events after went → AllOwn kept request events
  cache_own kept (Cache command) events after went exchanged = exchange_own kept (Cache command) (replies kept (Cache command) command refl) exchanged
  cache_own kept (Bad why) events after went exchanged = exchange_own kept (Bad why) (refused kept (Bad why) {Post = Says kept (Bad why)} (Agent why)) exchanged
  cache_own kept (OnKeys line) events after went exchanged = absurd exchanged

pub request_own : {rules : Rules} {kept now : SessionState} (request : Request) {events : List (EventWith PortCall)} {went : Went} → RequestExchange rules kept request events now went → Fit events
    → AreOwn (StoresOwn rules kept request) [] events
request_own {rules} {kept} request {events} {went} (cache {options} exchanged) fits = (cache_own rules kept request events options went exchanged).0
request_own {rules} {kept} request (keys exchanged) fits = key_own rules kept request _ refl exchanged fits

-- each passphrase in a line for a request that isn't on keys is its own
pub request_says_own : {rules : Rules} {kept now : SessionState} (request : Request) {events : List (EventWith PortCall)} {went : Went} → RequestExchange rules kept request events now went → on_keys request ≡ None
    → SaysOwnAlone rules kept.options request events
request_says_own {rules} {kept} request {events} {went} (cache {options} exchanged) is = (cache_own rules kept request events options went exchanged).1
request_says_own request (keys exchanged) is = absurd (cc is)
