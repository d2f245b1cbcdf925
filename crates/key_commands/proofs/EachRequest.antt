-- Requests on keys each of whose events is so, where each event but a read request and a call of the trust file is so.
use Rattle.std.{proofs.Common.{◌≡◌, ◌∙◌, ℕ, Bool, true, false, List, ◌++◌, Option, Some, None, Result, Ok, Err, []}, specs.Prelude.⊤}
use Rattle.agent_ask.specs.{Session.{PortCalls.{Prompt, Trust}, SessionEvents.{Received, Sent, CacheTurn, Port, cache_turn}, ActionExchanges.{AnyReply, AnyExchange}, Actions.◌>>=◌}, ConsentActions.{AgreesTo, PromptsConsent}}
use Rattle.agent_ask.specs.{PinActions.{PromptsPin, PromptsFor, prompted}, declared.prompt.{ask.Asked.Asked, consent.Agreed.Agreed, spec.{AskPlan.AskPlan, PromptSpec.PromptSpec}}}
use Rattle.{agent_ask.proofs.Within.{Within, OfNothing, Does, does_join, weaker, bind, or_otherwise}, assuan_server.specs.Clients.session_lines, cache_policy.specs.{Turns.Turn, declared.mark.MarkStep.{MarkStep, TheVariants.Peek}}}
use Rattle.{cache_policy.specs.declared.mode.Mode.TheVariants.Normal, session_client.specs.declared.{refusal.Refusal.{Refusal, TheVariants.Agent}, client_error.Gone.Gone}, agent_ports.specs.declared.grip.Grip.Grip}
use Rattle.{secret_file.specs.Opens.LockedKey, session_options.specs.{OptionValues.{OptionValues, EnvWords, words_of}, declared.{options.PinMode.PinMode, rules.Rules.Rules}}, sexp_keys.specs.Key.Key}
use Rattle.key_commands.specs.{Actions.Action, Events.Event}
use Rattle.key_commands.specs.Exchanges.{KeyExchange, HaveKeyReplies, ListGripsReplies, KeyInfoReplies, ListKeysReplies, KeyWrapReplies, ImportKeyReplies, ExportKeyReplies, PasswdReplies, VerifyReplies, DeleteKeyReplies, KeyReplies}
use Rattle.key_commands.specs.{Exchanges.{wrap_key, FoundOrNew, RenewsPassphrase, ChangesOpened}, Lines.{IsNotice, grip_text}, KeyActions.Consents, Passphrases.{UncachedOld, OpensLocked, old_by, verified_by, new_by}}
use Rattle.key_commands.specs.declared.{request.KeyRequest.KeyRequest, went.KeyWent.KeyWent, keywrap_key.WrapKeys.WrapKeys}
use Rattle.key_commands.proofs.EachEvent.{IsStill, All, each_append, each_shown, each_answer, EachSo, each_bind, each_returned, each_refused, each_needed, each_otherwise, each_wanted, each_looks, each_seats, each_changes, looks_nonce}
use Rattle.key_commands.proofs.EachEvent.{looks_over, takes_seat, each_closes, finds, draws, reads_file, lists, told, is_short, names_key, wraps_key, receives_key, is_free, has_one, locks, tries_found, removes, tells_info, writes_infos}
use Rattle.key_commands.proofs.EachEvent.{joins_grips, client_old, rewrites_file, stores_key, client_new}
use Rattle.agent_ask.specs.ConsentActions as consent
use Rattle.agent_ask.specs.Session.ActionExchanges as exchange
use Rattle.session_client.specs.declared.code.Code.TheVariants as code
use Rattle.session_options.specs.declared.options.PinMode.TheVariants as mode
use Rattle.key_commands.specs.declared.request.KeyRequest.TheVariants as on

-- what may be done for a request that has nothing to do with the trust file
abbrev pub IsBesideTrust : Event → Type 0
IsBesideTrust (Received took) = ⊥
IsBesideTrust (Port (Trust call)) = ⊥
IsBesideTrust _ = ⊤

-- the same up to its reply: what is written then answers nothing
abbrev pub IsKeyWork : Event → Type 0
IsKeyWork (Sent text) = IsNotice text
IsKeyWork event = IsBesideTrust event

still_works : (event : Event) → IsStill event → IsKeyWork event
still_works (Sent text) noted = noted
still_works (Port (Prompt event)) still = absurd still
still_works (Port (Trust call)) still = absurd still
still_works (CacheTurn taken) still = absurd still
still_works (Received took) still = absurd still
still_works _ _ = tt

pub works_beside : (event : Event) → IsKeyWork event → IsBesideTrust event
works_beside (Sent text) work = tt
works_beside _ work = work

pub still_beside : (event : Event) → IsStill event → IsBesideTrust event
still_beside event still = works_beside event (still_works event still)

-- a request by which nobody is asked, and that takes no turn but to look whether a passphrase is cached
abbrev pub IsPlain : KeyRequest → Type 0
IsPlain (on.ImportKey force id) = ⊥
IsPlain (on.ExportKey grip id) = ⊥
IsPlain (on.Passwd grip old new verify) = ⊥
IsPlain (on.DeleteKey grip force) = ⊥
IsPlain _ = ⊤

pub plain_replies : (Is : Event → Type 0) → ((event : Event) → IsStill event → Is event) → ((grip : Grip) (turn : Turn) → Is (cache_turn (Peek (grip_text grip) Normal) turn))
    → (rules : Rules) (options : OptionValues) (wraps : WrapKeys) (asked : KeyRequest) → IsPlain asked → EachSo Is (KeyReplies rules options wraps asked)
unfolding HaveKeyReplies ListGripsReplies KeyInfoReplies ListKeysReplies KeyWrapReplies
plain_replies Is still peeked rules options wraps (on.HaveKey grips) plain = each_bind Is (has_one Is still grips) (λ one. each_returned Is _)
plain_replies Is still peeked rules options wraps on.ListGrips plain =
    each_bind Is (lists Is still) (λ grips. each_bind Is (joins_grips Is still grips) (λ bytes. each_bind Is (told Is still bytes) (λ text. each_returned Is _)))
plain_replies Is still peeked rules options wraps (on.KeyInfo grip) plain = each_bind Is (reads_file Is still grip) (λ file. each_bind Is (tells_info Is still peeked grip file.key) (λ line. each_returned Is _))
plain_replies Is still peeked rules options wraps on.ListKeys plain = each_bind Is (lists Is still) (λ grips. each_bind Is (writes_infos Is still peeked grips) (λ written. each_returned Is _))
plain_replies Is still peeked rules options wraps (on.KeyWrap way) plain =
    each_bind Is (each_otherwise Is (wrap_key way wraps) (draws Is still 16)) (λ key. each_bind Is (told Is still key) (λ text. each_returned Is _))
plain_replies Is still peeked rules options wraps (on.Bad why) plain = each_refused Is (Agent why)
plain_replies Is still peeked rules options wraps _ plain = absurd plain

-- What is so of a request's events, where it is so of one list behind another, of events each of which is so, and of those of a prompt that names this
-- terminal and locale.
pub record Carries (env : EnvWords) (Is : Event → Type 0) (So : List Event → Type 0) : Type 1 where
  pub still : (event : Event) → IsStill event → Is event
  pub turns : (step : MarkStep) (turn : Turn) → Is (cache_turn step turn)
  pub behind : (first more : List Event) → So first → So more → So (first ++ more)
  pub each : (events : List Event) → All Is events → So events
  pub pins : {spec : PromptSpec} {plan : AskPlan} {Rule : List ℕ → Type 0} {shown : List Event} {answer : Asked} → words_of spec.env ≡ env
      → PromptsPin session_lines spec plan Rule shown answer → So shown
  pub consents : {spec : PromptSpec} {notify : Bool} {shown : List Event} {answer : Agreed} → words_of spec.env ≡ env → PromptsConsent session_lines spec notify shown answer → So shown

-- that each of them is so
pub each_carries : {env : EnvWords} (Is : Event → Type 0) → ((event : Event) → IsKeyWork event → Is event) → Carries env Is (All Is)
each_carries Is every = record {
  still = λ event still. every event (still_works event still);
  turns = λ step turn. every _ tt;
  behind = each_append Is;
  each = λ events each. each;
  pins = λ named prompt. each_shown Is (λ event still. every event (still_works event still)) (λ event. every _ tt) prompt.in_session;
  consents = λ named prompt. each_shown Is (λ event still. every event (still_works event still)) (λ event. every _ tt) prompt.in_session;
}

module _ {env : EnvWords} {Is : Event → Type 0} {So : List Event → Type 0} (law : Carries env Is So) where
  abbrev Here : {A : Type 0} → Action A → Type 0
  Here action = Within action (Does So)

  pub so : {A : Type 0} {action : Action A} → EachSo Is action → Here action
  so = weaker (record { of = λ before events result after each. law.each events each })

  pub then : {A B : Type 0} {action : Action A} {next : A → Action B} → Here action → ((value : A) → Here (next value)) → Here (action >>= next)
  then = bind (does_join law.behind (λ some one. one))

  pub nothing : {A : Type 0} → OfNothing {A = A} (Does So)
  nothing = record { of = λ held result. law.each [] tt }

  -- ---- prompts

  module _ (rules : Rules) (options : OptionValues) (same : options.env ≡ env) where
    module _ {A : Type 0} {description field : _} {quality : _} {plan : _} {Rule : _} {Gives : Asked → Result A Refusal → Type 0} where
      prompts_of : (before : Option ℕ) (events : List Event) (result : Result A Refusal) (after : Option ℕ) → PromptsFor session_lines rules options description field quality plan Rule Gives before events result after → So events
      prompts_of before events result after (prompted spec is prompt gives) = law.pins (is.env ∙ same) prompt

      pub prompts_for : Here (PromptsFor session_lines rules options description field quality plan Rule Gives)
      prompts_for = record { of = prompts_of }

    agrees_of : (question : List ℕ) (before : Option ℕ) (events : List Event) (result : Result (Unit {0}) Refusal) (after : Option ℕ) → AgreesTo session_lines rules options question before events result after → So events
    agrees_of question before events result after (consent.consents spec is prompt) = law.consents (is.env ∙ same) prompt
    agrees_of question before events result after (consent.refused spec is prompt refusal) = law.consents (is.env ∙ same) prompt

    pub agrees : (question : List ℕ) → Here (AgreesTo session_lines rules options question)
    agrees question = record { of = agrees_of question }

  -- ---- passphrases

  module _ (rules : Rules) (options : OptionValues) (same : options.env ≡ env) (grip : Grip) where
    uncached_so : (locked : LockedKey) (way : PinMode) → Here (UncachedOld rules options grip way locked)
    uncached_so locked mode.Ask = then (so (takes_seat Is grip (law.turns _))) (λ seated. prompts_for rules options same)
    uncached_so locked mode.Cancel = so (each_refused Is (Agent code.Cancelled))
    uncached_so locked mode.Error = so (each_refused Is (Agent code.NoPinentry))
    uncached_so locked mode.Loopback = so (client_old Is law.still (λ key pass. law.turns _) rules options grip locked)

    locked_so : (id : Option (List ℕ)) (locked : LockedKey) → Here (OpensLocked rules options grip id locked)
    unfolding OpensLocked
    locked_so id locked =
        then (so (looks_nonce Is id (λ named. law.turns _))) (λ by_nonce. then (so (tries_found Is law.still locked by_nonce)) (λ first. or_otherwise nothing first
        (then (so (each_looks Is (law.turns _))) (λ cached. then (so (tries_found Is law.still locked cached)) (λ second. or_otherwise nothing second (uncached_so locked options.mode))))))

    old_so : (id : Option (List ℕ)) (key : Key) (clear : Bool) → Here (old_by rules options grip id key clear)
    old_so id key true = so (each_returned Is _)
    old_so id key false = then (so (locks Is law.still key)) (λ locked. locked_so id locked)

    verified_so : (key : Key) (clear : Bool) → Here (verified_by rules options grip key clear)
    verified_so key true = so (each_returned Is _)
    verified_so key false = then (so (locks Is law.still key)) (λ locked. uncached_so locked options.mode)

    new_so : (way : PinMode) → Here (new_by rules options grip way)
    new_so mode.Ask = then (so (takes_seat Is grip (law.turns _))) (λ seated. prompts_for rules options same)
    new_so mode.Cancel = so (each_refused Is (Agent code.Cancelled))
    new_so mode.Error = so (each_refused Is (Agent code.NoPinentry))
    new_so mode.Loopback = so (client_new Is law.still)

    agreed_so : (way : PinMode) → Here (Consents rules (record options { mode = way }) false grip)
    agreed_so mode.Ask = then (so (each_seats Is (law.turns _))) (λ seated. agrees rules (record options { mode = mode.Ask }) same _)
    agreed_so mode.Cancel = so (each_refused Is (Agent code.Cancelled))
    agreed_so mode.Error = so (each_refused Is (Agent code.NoPinentry))
    agreed_so mode.Loopback = so (each_refused Is (Agent code.NoPinentry))

    consented_so : (force : Bool) → Here (Consents rules options force grip)
    consented_so true = so (each_returned Is tt)
    consented_so false = agreed_so options.mode

    found_so : (id : Option (List ℕ)) → Here (FoundOrNew rules options id grip)
    found_so id = then (so (looks_over Is id (λ named. law.turns _))) (λ found. or_otherwise nothing found (new_so options.mode))

    renewed_so : (id : Option (List ℕ)) → Here (RenewsPassphrase rules options grip id)
    renewed_so id = then (so (looks_nonce Is id (λ named. law.turns _))) (λ found. or_otherwise nothing found (new_so options.mode))

    opened_so : (id : Option (List ℕ)) (file : List ℕ) (key : Key) → Here (ChangesOpened rules options grip id file key)
    opened_so id file key =
        then (so (is_short Is law.still key)) (λ short. then (renewed_so id)
        (λ pass. so (rewrites_file Is law.still (λ key_grip secret. law.turns _) (λ ticket keep. law.turns _) rules options grip file key pass)))

  module _ (rules : Rules) (options : OptionValues) (same : options.env ≡ env) (wraps : WrapKeys) where
    -- all that is done for a request up to its reply
    pub key_replies : (asked : KeyRequest) → Here (KeyReplies rules options wraps asked)
    unfolding ImportKeyReplies ExportKeyReplies VerifyReplies PasswdReplies DeleteKeyReplies
    key_replies (on.ImportKey force id) =
        then (so (each_needed Is code.Parameter wraps.import)) (λ wrap. then (so (receives_key Is law.still wrap)) (λ key. then (so (names_key Is law.still key))
        (λ grip. then (so (is_free Is law.still force grip)) (λ free. then (found_so rules options same grip id)
        (λ pass. then (so (stores_key Is law.still (λ key_grip secret. law.turns _) (λ ticket keep. law.turns _) (λ named secret. law.turns _) options.s2k_count key grip pass))
        (λ cache_nonce. so (each_returned Is _)))))))
    key_replies (on.ExportKey grip id) =
        then (so (each_needed Is code.Parameter wraps.export)) (λ wrap. then (so (reads_file Is law.still grip)) (λ file. then (old_so rules options same grip id file.key file.key.is_clear)
        (λ opened. then (so (each_closes Is opened.by (λ number. law.turns _))) (λ closed. then (so (wraps_key Is law.still wrap opened.key))
        (λ wrapped. then (so (told Is law.still wrapped)) (λ text. so (each_returned Is _)))))))
    key_replies (on.Passwd grip old new true) =
        then (so (reads_file Is law.still grip)) (λ file. then (verified_so rules options same grip file.key file.key.is_clear)
        (λ opened. then (so (each_closes Is opened.by (λ number. law.turns _))) (λ closed. so (each_returned Is _))))
    key_replies (on.Passwd grip old new false) =
        then (so (reads_file Is law.still grip)) (λ file. then (old_so rules options same grip old file.key file.key.is_clear)
        (λ opened. then (opened_so rules options same grip new file.bytes opened.key) (λ changed. so (each_returned Is _))))
    key_replies (on.DeleteKey grip force) =
        then (so (finds Is law.still grip)) (λ there. then (so (each_wanted Is code.NoSecKey there)) (λ some. then (consented_so rules options same grip force)
        (λ agreed. then (so (removes Is law.still grip)) (λ removed. then (so (each_changes Is (law.turns _))) (λ cleared. so (each_returned Is _))))))
    key_replies asked = so (plain_replies Is law.still (λ grip. law.turns _) rules options wraps asked tt)

  -- all that is done for one, where its answer is so
  module _ (said : (text : List ℕ) → Is (Sent text)) where
    pub whole : {S W : Type 0} {refusal_text : Refusal → Option (List ℕ)} {went_after : Option Gone → W} {actions : Action (AnyReply S W)} {before after : S} {events : List Event} {went : W} → Here actions
        → AnyExchange refusal_text went_after actions before events after went → So events
    whole actions (exchange.answered events held reply does closes) =
        law.behind events _ (actions.of None events (Ok reply) held does) (law.each _ (each_answer Is (λ number. law.turns _) said (Some reply.text) closes))
    whole {refusal_text} actions (exchange.refused events held why does closes) =
        law.behind events _ (actions.of None events (Err why) held does) (law.each _ (each_answer Is (λ number. law.turns _) said (refusal_text why) closes))

    pub key_whole : (rules : Rules) (options : OptionValues) → options.env ≡ env → (wraps : WrapKeys) (asked : KeyRequest) {events : List Event} {after : WrapKeys} {went : KeyWent} → KeyExchange rules options wraps asked events after went → So events
    key_whole rules options same wraps asked = whole (key_replies rules options same wraps asked)
