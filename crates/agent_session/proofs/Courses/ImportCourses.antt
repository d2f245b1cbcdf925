-- What an IMPORT_KEY hands to the cache, in its order.
use Rattle.std.{specs.Prelude.drop, proofs.Common.{◌≡◌, ◌⊎◌, ℕ, Bool, List, [], ◌∷◌, ◌++◌, length, inl, inr, Option, Some, None, Result, Ok, Err, refl, sym, ap, ◌∙◌, subst, append_assoc}}
use Rattle.agent_ask.{specs.Session.{PortCalls.{PortCall, Replaced}, SessionEvents.{Sent, CacheTurn, cache_turn, said_last}, Actions.{◌>>=◌, goes_on, stops}, TurnActions.Closes}, proofs.Within.{Within, Does, does_join, bind}}
use Rattle.{agent_ports.specs.declared.{grip.Grip.Grip, keys.KeyDone.KeyDone}, assuan_escape.specs.Escapes.hex_text, cache_policy.specs.{Turns.Turn, declared.{life.Life.Life, mark.MarkStep.{MarkStep, TheVariants.{Close, Put}}}}}
use Rattle.{cache_policy.specs.declared.mode.Mode.TheVariants.Nonce, session_client.specs.declared.{code.Code.Code, refusal.Refusal.{Refusal, TheVariants.Agent}}, session_options.specs.OptionValues.OptionValues}
use Rattle.{session_options.specs.declared.{options.PinMode.PinMode, rules.Rules.Rules}, sexp_keys.specs.Key.Key, agent_commands.specs.{Events.EventWith, declared.request.Request.{Request, TheVariants.{Cache, Key as OnKeys, Bad}}}}
use Rattle.{agent_commands.specs.declared.went.Went.Went, key_commands.specs.{Events.{drew, called}, Exchanges.{KeyExchange, ImportKeyReplies, StoresKey, FoundOrNew}, KeyActions.change_fault, Actions.{Action, refusal_events}}}
use Rattle.key_commands.specs.{Passphrases.put_key, declared.{request.KeyRequest.KeyRequest, went.KeyWent.KeyWent, keywrap_key.WrapKeys.WrapKeys}}
use Rattle.key_commands.proofs.EachEvent.{each_answer, each_returned, each_append, EachSo, each_bind, each_refused, each_needed, each_otherwise, receives_key, names_key, is_free, looks_over, takes_seat, prompts_for, client_new}
use Rattle.{assuan_server.specs.Written.refusal_line, agent_origin.specs.{SessionExchanges.{RequestExchange, cache, keys}, declared.session_state.SessionState.SessionState}}
use Rattle.agent_session.specs.{Causes.{Has, here, later, on_keys}, Imports.{HandsNothing, HandNothing, put_nonce, KeepsPass, put, given_back, ImportCourse, not_drawn, not_put, not_replaced, replaced}}
use Rattle.agent_session.{specs.OwnPassphrases.{puts, IsNonceOf, nonce_of}, proofs.{Causes.Explained.has_split, Own.{OwnKeys.still_quiet, OwnActions.kept_none}, Standing.{each_has, has_right}}}
use Rattle.agent_ports.specs.declared.keys.KeyDone.TheVariants as key_done
use Rattle.session_client.specs.declared.code.Code.TheVariants as code
use Rattle.session_options.specs.declared.options.PinMode.TheVariants as mode
use Rattle.agent_ask.specs.Session.ActionExchanges as action_exchanges
use Rattle.key_commands.specs.KeyActions as actions
use Rattle.agent_ask.specs.Session.Actions as chain
use Rattle.agent_ask.specs.Session.TurnActions as turning
use Rattle.key_commands.specs.Actions as small
use Rattle.key_commands.specs.Passphrases as passphrases
use Rattle.key_commands.specs.declared.request.KeyRequest.TheVariants as on

-- ---- what is stored under a nonce is stored under one that was drawn

-- the first one, or one of the others
first_or : {E : Type 0} {one other : E} {more : List E} → Has one (other ∷ more) → (one ≡ other) ⊎ Has one more
first_or here = inl refl
first_or (later has) = inr has

-- the step of a turn
abbrev step_of : EventWith PortCall → Option MarkStep
step_of (CacheTurn taken) = Some taken.asked
step_of _ = None

module _ (id pass : List ℕ) (life : Life) (turn : Turn) where
  abbrev Puts : EventWith PortCall
  Puts = cache_turn (Put id Nonce life pass) turn

  none_in : (events : List (EventWith PortCall)) → HandNothing events → Has Puts events → ⊥
  none_in events nothing has = each_has HandsNothing events nothing has puts

  at_put : (early tail : List (EventWith PortCall)) (drawn other : List ℕ) (came : Turn) → HandNothing early → length drawn ≡ 32 → (Has Puts tail → ⊥)
      → Has Puts (early ++ drew drawn ∷ cache_turn (put_nonce drawn other) came ∷ tail) → IsNonceOf (early ++ drew drawn ∷ cache_turn (put_nonce drawn other) came ∷ tail) id
  at_put early tail drawn other came nothing long none has = elim (has_split early _ has) [ inl first ↦ absurd (none_in early nothing first) | inr rest ↦ drawn_here (first_or rest) ]
    where
      put_here : (Puts ≡ cache_turn (put_nonce drawn other) came) ⊎ Has Puts tail → IsNonceOf (early ++ drew drawn ∷ cache_turn (put_nonce drawn other) came ∷ tail) id
      put_here (inl same) =
          let asked_is : Some (Put id Nonce life pass) ≡ Some (put_nonce drawn other) = ap step_of same in
          let id_is : id ≡ hex_text (drop 20 drawn) = cc asked_is in
          subst (IsNonceOf (early ++ drew drawn ∷ cache_turn (put_nonce drawn other) came ∷ tail)) (sym id_is) (nonce_of (record { long = long; has = has_right early here }))
      put_here (inr behind) = absurd (none behind)

      drawn_here : (Puts ≡ drew drawn) ⊎ Has Puts (cache_turn (put_nonce drawn other) came ∷ tail) → IsNonceOf (early ++ drew drawn ∷ cache_turn (put_nonce drawn other) came ∷ tail) id
      drawn_here (inl same) = absurd (cc same)
      drawn_here (inr rest) = put_here (first_or rest)

  kept_elsewhere : {grip : Grip} {kept_pass : List ℕ} {step : MarkStep} {came : Turn} → KeepsPass grip kept_pass step → Puts ≡ cache_turn step came → ⊥
  kept_elsewhere {grip} {kept_pass} put same = let asked_is : Some (Put id Nonce life pass) ≡ Some (put_key grip kept_pass) = ap step_of same in cc asked_is
  kept_elsewhere {kept_pass} (given_back {ticket}) same = let asked_is : Some (Put id Nonce life pass) ≡ Some (Close ticket (Some kept_pass)) = ap step_of same in cc asked_is

  behind_file : {grip : Grip} {file : List ℕ} {answer : KeyDone} {behind : List (EventWith PortCall)} → (Has Puts behind → ⊥) → Has Puts (called (Replaced grip file answer) ∷ behind) → ⊥
  behind_file none has = elim (first_or has) [ inl same ↦ cc same | inr rest ↦ none rest ]

  pub nonce_drawn : {events : List (EventWith PortCall)} → ImportCourse events → Has Puts events → IsNonceOf events id
  nonce_drawn (not_drawn {events} nothing) has = absurd (none_in events nothing has)
  nonce_drawn (not_put early late drawn other nothing long why behind) has = at_put early late drawn other _ nothing long (none_in late behind) has
  nonce_drawn (not_replaced early late drawn other file grip answer nothing long not_done behind) has = at_put early (called (Replaced grip file answer) ∷ late) drawn other _ nothing long (behind_file (none_in late behind)) has
  nonce_drawn (replaced early late drawn other file {grip} {step} came nothing long keeps behind) has =
      at_put early (called (Replaced grip file key_done.Done) ∷ cache_turn step came ∷ late) drawn other _ nothing long
      (behind_file (λ there. elim (first_or there) [ inl same ↦ kept_elsewhere {step = step} {came = came} keeps same | inr rest ↦ none_in late behind rest ])) has

-- behind what hands nothing in, and before it
course_behind : (first : List (EventWith PortCall)) {events : List (EventWith PortCall)} → HandNothing first → ImportCourse events → ImportCourse (first ++ events)
course_behind first each (not_drawn {events} nothing) = not_drawn (each_append HandsNothing first events each nothing)
course_behind first each (not_put early late drawn pass nothing long why behind) =
    subst ImportCourse (append_assoc first early _) (not_put (first ++ early) late drawn pass (each_append HandsNothing first early each nothing) long why behind)
course_behind first each (not_replaced early late drawn pass file grip answer nothing long other behind) =
    subst ImportCourse (append_assoc first early _) (not_replaced (first ++ early) late drawn pass file grip answer (each_append HandsNothing first early each nothing) long other behind)
course_behind first each (replaced early late drawn pass file turn nothing long keeps behind) =
    subst ImportCourse (append_assoc first early _) (replaced (first ++ early) late drawn pass file turn (each_append HandsNothing first early each nothing) long keeps behind)

course_before : (last : List (EventWith PortCall)) {events : List (EventWith PortCall)} → HandNothing last → ImportCourse events → ImportCourse (events ++ last)
course_before last each (not_drawn {events} nothing) = not_drawn (each_append HandsNothing events last nothing each)
course_before last each (not_put early late drawn pass nothing long why behind) =
    subst ImportCourse (sym (append_assoc early _ last)) (not_put early (late ++ last) drawn pass nothing long why (each_append HandsNothing late last behind each))
course_before last each (not_replaced early late drawn pass file grip answer nothing long other behind) =
    subst ImportCourse (sym (append_assoc early _ last)) (not_replaced early (late ++ last) drawn pass file grip answer nothing long other (each_append HandsNothing late last behind each))
course_before last each (replaced early late drawn pass file turn nothing long keeps behind) =
    subst ImportCourse (sym (append_assoc early _ last)) (replaced early (late ++ last) drawn pass file turn nothing long keeps (each_append HandsNothing late last behind each))

abbrev IsImport : {A : Type 0} → Action A → Type 0
IsImport action = Within action (Does ImportCourse)

module _ {A B : Type 0} {action : Action A} {next : A → Action B} where
  quiet_then : EachSo HandsNothing action → ((value : A) → IsImport (next value)) → IsImport (action >>= next)
  quiet_then = bind (does_join (λ some later nothing course. course_behind some nothing course) (λ some nothing. not_drawn nothing))

  then_quiet : IsImport action → ((value : A) → EachSo HandsNothing (next value)) → IsImport (action >>= next)
  then_quiet = bind (does_join (λ some later course nothing. course_before later nothing course) (λ some course. course))

-- ---- the key is stored

undone : (answer : KeyDone) {why : Code} → change_fault answer ≡ Some why → answer ≡ key_done.Done → ⊥
undone answer is done = let never : None ≡ Some _ = sym (ap change_fault done) ∙ is in cc never

stores_of : (count : ℕ) (key : Key) (grip : Grip) (pass : List ℕ) (before : Option ℕ) (events : List (EventWith PortCall)) (result : Result _ Refusal) (after : Option ℕ) → StoresKey count key grip pass before events result after
    → ImportCourse events
stores_of count key grip pass before events result after (stops small.faulted) = not_drawn (tt, tt)
stores_of count key grip pass before events result after (goes_on (small.drawn long) (stops actions.no_memory)) = not_drawn (tt, (tt, tt))
stores_of count key grip pass before events result after (goes_on (small.drawn long) (goes_on actions.made (stops (turning.interrupted can why)))) = not_put [] [] _ _ tt long why tt
stores_of count key grip pass before events result after (goes_on (small.drawn long) (goes_on actions.made (goes_on (turning.done can) (stops (actions.not_done {answer} is))))) =
    not_replaced [] [] _ _ _ _ _ tt long (undone answer is) tt
stores_of count key grip pass None events result after (goes_on (small.drawn long) (goes_on actions.made (goes_on (turning.done can) (goes_on actions.done (stops (turning.interrupted can_too why)))))) =
    replaced [] [] _ _ _ _ tt long put tt
stores_of count key grip pass None events result after (goes_on (small.drawn long) (goes_on actions.made (goes_on (turning.done can) (goes_on actions.done (goes_on (turning.done can_too) chain.returns))))) =
    replaced [] [] _ _ _ _ tt long put tt
stores_of count key grip pass (Some number) events result after (goes_on (small.drawn long) (goes_on actions.made (goes_on (turning.done can) (goes_on actions.done (goes_on (turning.closed turn can_too) chain.returns))))) =
    replaced [] [] _ _ _ _ tt long given_back tt
stores_of count key grip pass (Some number) events result after (goes_on (small.drawn long) (goes_on actions.made (goes_on (turning.done can) (goes_on actions.done (stops never))))) = elim never [ ]

-- ---- before

new_quiet : (rules : Rules) (options : OptionValues) (grip : Grip) (way : PinMode) → EachSo HandsNothing (passphrases.new_by rules options grip way)
new_quiet rules options grip mode.Ask = each_bind HandsNothing (takes_seat HandsNothing grip (λ turn hands. elim hands [ ])) (λ seated. prompts_for HandsNothing still_quiet (λ event. tt))
new_quiet rules options grip mode.Cancel = each_refused HandsNothing (Agent code.Cancelled)
new_quiet rules options grip mode.Error = each_refused HandsNothing (Agent code.NoPinentry)
new_quiet rules options grip mode.Loopback = client_new HandsNothing still_quiet

found_quiet : (rules : Rules) (options : OptionValues) (nonce : Option (List ℕ)) (grip : Grip) → EachSo HandsNothing (FoundOrNew rules options nonce grip)
found_quiet rules options nonce grip =
    each_bind HandsNothing (looks_over HandsNothing nonce (λ named turn hands. elim hands [ ])) (λ found. each_otherwise HandsNothing found (new_quiet rules options grip options.mode))

module _ (rules : Rules) (options : OptionValues) (wraps : WrapKeys) where
  import_so : (force : Bool) (nonce : Option (List ℕ)) → IsImport (ImportKeyReplies rules options wraps force nonce)
  unfolding ImportKeyReplies
  import_so force nonce =
      quiet_then (each_needed HandsNothing code.Parameter wraps.import) (λ wrap. quiet_then (receives_key HandsNothing still_quiet wrap) (λ key. quiet_then (names_key HandsNothing still_quiet key)
      (λ grip. quiet_then (is_free HandsNothing still_quiet force grip) (λ free. quiet_then (found_quiet rules options nonce grip)
      (λ pass. then_quiet (record { of = stores_of options.s2k_count key grip pass }) (λ cache_nonce. each_returned HandsNothing _))))))

  answer_nothing : {held : Option ℕ} {back : List (EventWith PortCall)} (line : Option (List ℕ)) → Closes None held back (Ok tt) None → HandNothing (back ++ said_last line)
  answer_nothing = each_answer HandsNothing (λ number turn. kept_none number) (λ text. tt)

  pub import_exchange : (force : Bool) (nonce : Option (List ℕ)) {events : List (EventWith PortCall)} {after : WrapKeys} {went : KeyWent} → KeyExchange rules options wraps (on.ImportKey force nonce) events after went
      → ImportCourse events
  import_exchange force nonce (action_exchanges.answered events held reply {back} does closes) =
      course_before (back ++ Sent reply.text ∷ []) (answer_nothing (Some reply.text) closes) ((import_so force nonce).of None events (Ok reply) held does)
  import_exchange force nonce (action_exchanges.refused events held why {back} does closes) =
      course_before (back ++ refusal_events why) (answer_nothing (refusal_line why) closes) ((import_so force nonce).of None events (Err why) held does)

pub some_key : {one other : KeyRequest} → Some one ≡ Some other → one ≡ other
some_key is = cc is

pub import_course : (request : Request) {force : Bool} {nonce : Option (List ℕ)} → on_keys request ≡ Some (on.ImportKey force nonce) → {rules : Rules} {kept now : SessionState} {events : List (EventWith PortCall)} {went : Went}
    → RequestExchange rules kept request events now went → ImportCourse events
import_course (Cache command) is exchanged = absurd (cc is)
import_course (Bad why) is exchanged = absurd (cc is)
import_course (OnKeys line) is {rules} {kept} {events} (keys {wraps} {went} exchanged) =
    import_exchange rules kept.options kept.wraps _ _ (subst (λ a. KeyExchange rules kept.options kept.wraps a events wraps went) (some_key is) exchanged)
import_course (OnKeys line) is (cache exchanged) = elim exchanged [ ]
