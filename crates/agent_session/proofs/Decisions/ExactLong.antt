-- PASSWD of a key whose list is too long is answered Bad secret key, and so is one whose new file is too long.
use Rattle.std.{specs.{List.AllByRecursion, Prelude.⊤}, proofs.Common.{◌≡◌, ◌<◌, ◌∙◌, ℕ, Bool, true, false, List, [], ◌∷◌, ◌++◌, length, Option, Some, None, Result, Ok, Err, arith, refl, sym, ap, subst, inl, inr, ◌⊎◌}}
use Rattle.agent_ask.specs.{Events.{PromptEvent, Called, OutOfMemory, GetPin}, Session.{PortCalls.{Prompt, Keys, Read, Dice, Drew}, Actions.{◌>>=◌, goes_on, stops, returns}}}
use Rattle.agent_ask.specs.{Interrupts.Interrupts, Prompts.{AsksPin, AsksBefore, Tries, IsTry, Repeats}}
use Rattle.agent_ask.specs.{Session.{SessionEvents.{CacheTurn, Port, cache_turn, said_last}, TurnActions.Closes}, SessionPrompts.AnyInSession}
use Rattle.agent_ask.specs.declared.prompt.{ask.Asked.Asked, prompter.Outcome.Outcome, spec.{AskPlan.AskPlan, PromptSpec.PromptSpec}}
use Rattle.{agent_ports.specs.declared.{grip.Grip.Grip, keys.KeyRead.KeyRead}, assuan_server.specs.{Clients.session_lines, Written.{failed, refusal_line}, declared.errors.Origin.TheVariants.Agent as OfAgent}}
use Rattle.{cache_policy.specs.{Turns.{Turn, Given, Done}, declared.{mark.{MarkStep.{MarkStep, TheVariants.{Ask, Put}}, Way.TheVariants.Quiet}, mode.Mode.TheVariants.{Normal, Nonce}}}, key_lines.specs.Canon.Canon}
use Rattle.{secret_file.specs.Opens.LockedKey, session_client.specs.declared.{code.Code.Code, refusal.Refusal.Refusal}, session_options.specs.{OptionValues.OptionValues, declared.{options.PinMode.PinMode, rules.Rules.Rules}}}
use Rattle.{sexp_keys.specs.{Key.Key, Lists.key_list_of}, agent_commands.specs.declared.request.Request.Request, key_commands.specs.Events.Event}
use Rattle.key_commands.specs.{Exchanges.{KeyReply, KeyExchange, PasswdReplies, RenewsPassphrase, RewritesFile, ChangesOpened}, Files.FileSays, KeyActions.{ReadsFile, file_in}, Lines.grip_text}
use Rattle.key_commands.specs.{Passphrases.{OpensBy, PromptsOld, ClientOld, UncachedOld, CachedOld, OpensLocked, OldPassphrase, TakesSeat, old_by, put_key}, declared.{wrapping.TheConstants.MAX_LIST_LEN, request.KeyRequest.KeyRequest}}
use Rattle.{key_commands.{specs.declared.{went.KeyWent.KeyWent, keywrap_key.WrapKeys.WrapKeys}, proofs.EachEvent.each_append}, agent_origin.specs.declared.session_state.SessionState.SessionState}
use Rattle.agent_session.specs.{Causes.{Has, here, IsRead, read, IsReadOf, read_of, IsDrawn, protected, OpensRead, of_change, on_keys, StandIn, changed, changes}, Completeness.{HasError, Remembers}}
use Rattle.agent_session.{specs.Exactly.{OpensIt, IsOpened, clear, by_nonce, cached, typed, given, HasLongList, HasLongFile, IsLong, long, long_file}, proofs.Courses.ImportCourses.some_key}
use Rattle.agent_session.proofs.Courses.{KeyWorks.{FitsKeys, looks_nonce, old_here, new_here}, Works.{WorksSo, bind, or_otherwise, each_fits}}
use Rattle.agent_session.proofs.{Decisions.{ExactActions.{Deciding, IsDecided, IsFree, NoneOwed, SaysTo, answer_free, decided_before, said_error}, ExactReads.{by_file, reads_file, read_refuses, owes}}, Causes.KeyRequests.old_passphrase}
use Rattle.agent_session.proofs.Standing.{each_left, each_right, each_has, has_first, stand_left, stand_right}
use Rattle.agent_ask.specs.Interrupts as turns
use Rattle.agent_ask.specs.Session.Actions as chain
use Rattle.agent_ask.specs.Prompts as prompts
use Rattle.agent_ask.specs.SessionPrompts as session
use Rattle.agent_ask.specs.Session.TurnActions as taken
use Rattle.agent_ask.specs.declared.prompt.ask.Asked.TheVariants as asked
use Rattle.agent_ask.specs.declared.prompt.prompter.Outcome.TheVariants as outcome
use Rattle.session_client.specs.declared.code.Code.TheVariants as code
use Rattle.session_options.specs.declared.options.PinMode.TheVariants as mode
use Rattle.agent_ask.specs.Session.ActionExchanges as action_exchanges
use Rattle.key_commands.specs.Files as files
use Rattle.key_commands.specs.KeyActions as actions
use Rattle.agent_ask.specs.Session.ClientActions as client_actions
use Rattle.key_commands.specs.Actions as small
use Rattle.agent_ask.specs.PinActions as pin_actions
use Rattle.key_commands.specs.Passphrases as passphrases
use Rattle.key_commands.specs.declared.request.KeyRequest.TheVariants as on
use Rattle.agent_session.proofs.Courses.Works as work

-- ---- passphrases that came to nothing

-- each passphrase among the events, as the cache gave it, the user typed it, or it was kept for a key, is one of those
module _ (Vain : List ℕ → Type 0) where
  abbrev VainTurn : MarkStep → Turn → Type 0
  VainTurn (Ask id kind way under) (Given grant) = Vain grant.entry.secret
  VainTurn (Put id kind life secret) Done = Vain secret
  VainTurn asked_so turn = ⊤

  abbrev VainPrompt : PromptEvent → Type 0
  VainPrompt (Called (GetPin error (outcome.Pin pin))) = Vain pin
  VainPrompt event = ⊤

  abbrev IsVain : Event → Type 0
  IsVain (CacheTurn taken) = VainTurn taken.asked taken.turn
  IsVain (Port (Prompt event)) = VainPrompt event
  IsVain event = ⊤

  shown_vain : {prompt : List PromptEvent} {shown : List Event} → AnyInSession session_lines prompt shown → AllByRecursion VainPrompt prompt → AllByRecursion IsVain shown
  shown_vain session.none each = tt
  shown_vain (session.called more) each = (each.0, shown_vain more each.1)
  shown_vain (session.noted says more) each = (tt, shown_vain more each.1)
  shown_vain (session.out_of_memory more) each = (tt, shown_vain more each.1)

  back_vain : {held : Option ℕ} {back : List Event} (line : Option (List ℕ)) → Closes None held back (Ok tt) None → AllByRecursion IsVain (back ++ said_last line)
  back_vain None taken.unheld = tt
  back_vain (Some line) taken.unheld = (tt, tt)
  back_vain None (taken.closed turn can) = (tt, tt)
  back_vain (Some line) (taken.closed turn can) = (tt, (tt, tt))

-- no memory was wanted in a prompt
abbrev Recalls : PromptEvent → Type 0
Recalls OutOfMemory = ⊥
Recalls event = ⊤

shown_recalls : {prompt : List PromptEvent} {shown : List Event} → AnyInSession session_lines prompt shown → AllByRecursion Remembers shown → AllByRecursion Recalls prompt
shown_recalls session.none each = tt
shown_recalls (session.called more) each = (tt, shown_recalls more each.1)
shown_recalls (session.noted says more) each = (tt, shown_recalls more each.1)
shown_recalls (session.out_of_memory more) each = (each.0 tt, shown_recalls more each.1)

-- a prompt without a check and without repeats, which accepted none
module _ (Rule : List ℕ → Type 0) (plan : AskPlan) (no_check : plan.check ≡ None) (no_repeat : plan.repeat ≡ 0) where
  abbrev Refused : List ℕ → Type 0
  Refused pin = ¬ Rule pin

  outcome_vain : (error : List ℕ) (what : Outcome) {end : _} → prompts.pin_or_stop what ≡ Err end → AllByRecursion (VainPrompt Refused) (Called (GetPin error what) ∷ [])
  outcome_vain error (outcome.Pin pin) is = absurd (cc is)
  outcome_vain error outcome.Cancelled is = (tt, tt)
  outcome_vain error outcome.TimedOut is = (tt, tt)
  outcome_vain error outcome.Failed is = (tt, tt)
  outcome_vain error (outcome.Broken breach) is = (tt, tt)

  no_repeats : {pin : List ℕ} {events : List PromptEvent} {end : _} → Repeats plan.repeat pin events (Err end) → ⊥
  no_repeats (prompts.differs less other) = omega (arith, less, no_repeat)
  no_repeats (prompts.ended what less is) = omega (arith, less, no_repeat)

  try_vain : (error : List ℕ) {events : List PromptEvent} {tests : _} {end : _} → IsTry plan Rule error events tests (Err end) → AllByRecursion Recalls events → AllByRecursion (VainPrompt Refused) events
  try_vain error (prompts.ended what is) recalls = outcome_vain error what is
  try_vain error (prompts.weak {pin} fails) recalls = absurd (fails (subst (λ c. prompts.MeetsCheck c pin) (sym no_check) tt))
  try_vain error (prompts.bad meets wrong) recalls = (wrong, tt)
  try_vain error (prompts.untested meets) recalls = absurd (recalls.1.0)
  try_vain error (prompts.accepted meets right repeats) recalls = absurd (no_repeats repeats)

  tries_vain : {number : ℕ} {before : _} {events : List PromptEvent} {tests : _} {end : Asked} → Tries plan Rule number before events tests end → ((pin : List ℕ) → end ≡ asked.Pin pin → ⊥)
      → AllByRecursion Recalls events → AllByRecursion (VainPrompt Refused) events
  tries_vain (prompts.good {pin} within try) none recalls = absurd (none pin refl)
  tries_vain (prompts.over within try) none recalls = try_vain _ try recalls
  tries_vain (prompts.again {events} {more} within try tries) none recalls =
      each_append (VainPrompt Refused) events more (try_vain _ try (each_left Recalls events more recalls)) (tries_vain tries none (each_right Recalls events more recalls))
  tries_vain (prompts.bad past) none recalls = tt

  before_vain : {spec : PromptSpec} {events : List PromptEvent} {tests : _} {end : Asked} → AsksBefore spec plan Rule events tests end → ((pin : List ℕ) → end ≡ asked.Pin pin → ⊥)
      → AllByRecursion Recalls events → AllByRecursion (VainPrompt Refused) events
  before_vain (prompts.unopened prompts.failed) none recalls = (tt, tt)
  before_vain (prompts.unopened prompts.broken) none recalls = (tt, tt)
  before_vain (prompts.client_error other (prompts.quiet is)) none recalls = absurd (other refl)
  before_vain (prompts.client_error other (prompts.told is)) none recalls = (tt, (tt, tt))
  before_vain (prompts.tried (prompts.quiet is) tries) none recalls = (tt, tries_vain tries none recalls.1)
  before_vain (prompts.tried (prompts.told is) tries) none recalls = (tt, (tt, tries_vain tries none recalls.1.1))

  pin_vain : {spec : PromptSpec} {prompt : List PromptEvent} {end : Asked} → AsksPin spec plan Rule prompt end → ((pin : List ℕ) → end ≡ asked.Pin pin → ⊥) → AllByRecursion Recalls prompt
      → AllByRecursion (VainPrompt Refused) prompt
  pin_vain asks none recalls =
      subst (AllByRecursion (VainPrompt Refused)) (sym asks.whole)
      (each_append (VainPrompt Refused) asks.before _ (before_vain asks.asks none (each_left Recalls asks.before _ (subst (AllByRecursion Recalls) asks.whole recalls))) (tt, tt))

refused_none : (answer : Asked) {why : Refusal} → pin_actions.pin_refusal answer ≡ Some why → (pin : List ℕ) → answer ≡ asked.Pin pin → ⊥
refused_none answer refusal pin is = let none : None ≡ Some _ = sym (ap pin_actions.pin_refusal is) ∙ refusal in cc none

-- ---- a key that wasn't opened

module _ (rules : Rules) (options : OptionValues) (grip : Grip) (locked : LockedKey) where
  abbrev Closed : List ℕ → Type 0
  Closed pass = ¬ OpensBy locked pass

  abbrev Vain : List Event → Type 0
  Vain events = AllByRecursion (IsVain Closed) events

  interrupted_ask : (id : List ℕ) (kind : _) (way : _) (under : _) {turn : Turn} {why : Code} → Interrupts turn why → Vain (cache_turn (Ask id kind way under) turn ∷ [])
  interrupted_ask id kind way under turns.refused = (tt, tt)
  interrupted_ask id kind way under turns.stopping = (tt, tt)
  interrupted_ask id kind way under turns.late = (tt, tt)

  interrupted_put : (pass : List ℕ) {turn : Turn} {why : Code} → Interrupts turn why → Vain (cache_turn (put_key grip pass) turn ∷ [])
  interrupted_put pass turns.refused = (tt, tt)
  interrupted_put pass turns.stopping = (tt, tt)
  interrupted_put pass turns.late = (tt, tt)

  seat_vain : (before : Option ℕ) (events : List Event) (result : Result (Unit {0}) Refusal) (after : Option ℕ) → TakesSeat grip before events result after → Vain events
  seat_vain None _ _ _ (taken.opened can) = (tt, tt)
  seat_vain None _ _ _ (taken.interrupted can why) = (tt, tt)
  seat_vain (Some ticket) _ _ _ returns = tt

  prompts_vain : (before : Option ℕ) (events : List Event) (why : Refusal) (after : Option ℕ) → PromptsOld rules options grip locked before events (Err why) after → AllByRecursion Remembers events → Vain events
  prompts_vain _ _ _ _ (pin_actions.prompted spec is prompt (passphrases.refused {answer} refusal)) remembers =
      shown_vain Closed prompt.in_session (pin_vain (OpensBy locked) _ refl refl prompt.asks (refused_none answer refusal) (shown_recalls prompt.in_session remembers))

  client_vain : (before : Option ℕ) (events : List Event) (why : Refusal) (after : Option ℕ) → ClientOld rules options grip locked before events (Err why) after → Vain events
  unfolding ClientOld
  client_vain _ _ _ _ (stops (stops (client_actions.cut unsent is))) = (tt, tt)
  client_vain _ _ _ _ (stops (goes_on client_actions.written (client_actions.not_given is))) = (tt, (tt, tt))
  client_vain _ _ _ _ (goes_on (goes_on client_actions.written (client_actions.given is)) (stops passphrases.no_memory)) = (tt, (tt, (tt, tt)))
  client_vain _ _ _ _ (goes_on (goes_on client_actions.written (client_actions.given is)) (goes_on (passphrases.stays closed) (stops chain.refuses))) = (tt, (tt, tt))
  client_vain _ _ _ _ (goes_on (goes_on client_actions.written (client_actions.given is)) (goes_on (passphrases.stays closed) (goes_on never more))) = elim never [ ]
  client_vain _ _ _ _ (goes_on (goes_on client_actions.written (client_actions.given is)) (goes_on (passphrases.opens to) (stops never))) = elim never [ ]
  client_vain _ _ _ _ (goes_on (goes_on client_actions.written (client_actions.given is)) (goes_on (passphrases.opens to) (goes_on returns (stops (taken.interrupted can why))))) = (tt, (tt, interrupted_put _ why))
  client_vain _ _ _ _ (goes_on (goes_on client_actions.written (client_actions.given is)) (goes_on (passphrases.opens to) (goes_on returns (goes_on (taken.done can) never)))) = elim never [ ]

  uncached_vain : (way : PinMode) (before : Option ℕ) (events : List Event) (why : Refusal) (after : Option ℕ) → UncachedOld rules options grip way locked before events (Err why) after → AllByRecursion Remembers events
      → Vain events
  uncached_vain mode.Ask before events why after (goes_on {first} {events = more} seated does) remembers =
      each_append (IsVain Closed) first more (seat_vain before first _ _ seated) (prompts_vain _ _ _ _ does (each_right Remembers first more remembers))
  uncached_vain mode.Ask before events why after (stops seated) remembers = seat_vain before events _ after seated
  uncached_vain mode.Cancel _ _ _ _ chain.refuses remembers = tt
  uncached_vain mode.Error _ _ _ _ chain.refuses remembers = tt
  uncached_vain mode.Loopback _ _ _ _ does remembers = client_vain _ _ _ _ does

  cached_vain : (before : Option ℕ) (events : List Event) (why : Refusal) (after : Option ℕ) → CachedOld rules options grip locked before events (Err why) after → AllByRecursion Remembers events → Vain events
  cached_vain _ _ _ _ (stops (taken.interrupted can why)) remembers = interrupted_ask (grip_text grip) Normal (passphrases.way_of options.mode) None why
  cached_vain _ _ _ _ (goes_on (taken.given can) (stops passphrases.no_memory)) remembers = absurd (remembers.1.0 tt)
  cached_vain _ _ _ _ (goes_on (taken.given can) (goes_on (passphrases.opens to) never)) remembers = elim never [ ]
  cached_vain _ _ _ _ (goes_on (taken.given can) (goes_on (passphrases.stays closed) does)) remembers = (closed, uncached_vain options.mode _ _ _ _ does remembers.1)
  cached_vain _ _ _ _ (goes_on (taken.empty can) (goes_on returns does)) remembers = (tt, uncached_vain options.mode _ _ _ _ does remembers.1)
  cached_vain _ _ _ _ (goes_on (taken.empty can) (stops never)) remembers = elim never [ ]
  cached_vain _ _ _ _ (goes_on (taken.opened can) (goes_on returns does)) remembers = (tt, uncached_vain options.mode _ _ _ _ does remembers.1)
  cached_vain _ _ _ _ (goes_on (taken.opened can) (stops never)) remembers = elim never [ ]

  locked_vain : (id : Option (List ℕ)) (before : Option ℕ) (events : List Event) (why : Refusal) (after : Option ℕ) → OpensLocked rules options grip id locked before events (Err why) after → AllByRecursion Remembers events
      → Vain events
  unfolding OpensLocked
  locked_vain None _ _ _ _ (goes_on returns (goes_on returns does)) remembers = cached_vain _ _ _ _ does remembers
  locked_vain None _ _ _ _ (goes_on returns (stops never)) remembers = elim never [ ]
  locked_vain None _ _ _ _ (stops never) remembers = elim never [ ]
  locked_vain (Some id) _ _ _ _ (stops (taken.interrupted can why)) remembers = interrupted_ask id Nonce Quiet None why
  locked_vain (Some id) _ _ _ _ (goes_on (taken.given can) (stops passphrases.no_memory)) remembers = absurd (remembers.1.0 tt)
  locked_vain (Some id) _ _ _ _ (goes_on (taken.given can) (goes_on (passphrases.opens to) never)) remembers = elim never [ ]
  locked_vain (Some id) _ _ _ _ (goes_on (taken.given can) (goes_on (passphrases.stays closed) does)) remembers = (closed, cached_vain _ _ _ _ does remembers.1)
  locked_vain (Some id) _ _ _ _ (goes_on (taken.empty can) (goes_on returns does)) remembers = (tt, cached_vain _ _ _ _ does remembers.1)
  locked_vain (Some id) _ _ _ _ (goes_on (taken.empty can) (stops never)) remembers = elim never [ ]
  locked_vain (Some id) _ _ _ _ (goes_on (taken.opened can) (goes_on returns does)) remembers = (tt, cached_vain _ _ _ _ does remembers.1)
  locked_vain (Some id) _ _ _ _ (goes_on (taken.opened can) (stops never)) remembers = elim never [ ]

reads_vain : (Vain : List ℕ → Type 0) {grip : Grip} {before after : Option ℕ} {events : List Event} {result : _} → ReadsFile grip before events result after → AllByRecursion (IsVain Vain) events
reads_vain Vain (actions.is_key is says) = (tt, tt)
reads_vain Vain (actions.faulty is says) = (tt, tt)
reads_vain Vain (actions.no_memory is) = (tt, (tt, tt))
reads_vain Vain (actions.unread is) = (tt, tt)

-- no passphrase among these events opens the key whose file was read
record Unopened (whole : List Event) (grip : Grip) (events : List Event) : Type 1 where
  vain : List ℕ → Type 0
  each : AllByRecursion (IsVain vain) events
  never : (pass : List ℕ) → OpensIt whole grip pass → vain pass → ⊥

-- so it was opened since it is clear
record IsClearOne (whole : List Event) (grip : Grip) : Type 0 where
  key : Key
  is_read : IsRead whole grip (Ok key)
  all_clear : (other : Key) → IsRead whole grip (Ok other) → other.is_clear ≡ true

opened_clear : {whole : List Event} {grip : Grip} {nonce : Option (List ℕ)} → Unopened whole grip whole → IsOpened whole grip nonce → IsClearOne whole grip
opened_clear unopened (clear {key} is all_clear) = record { key = key; is_read = is; all_clear = all_clear }
opened_clear {whole} unopened (by_nonce same opens has) = absurd (unopened.never _ opens (each_has (IsVain unopened.vain) whole unopened.each has))
opened_clear {whole} unopened (cached way opens has) = absurd (unopened.never _ opens (each_has (IsVain unopened.vain) whole unopened.each has))
opened_clear {whole} unopened (typed opens has) = absurd (unopened.never _ opens (each_has (IsVain unopened.vain) whole unopened.each has))
opened_clear {whole} unopened (given opens has) = absurd (unopened.never _ opens (each_has (IsVain unopened.vain) whole unopened.each has))

module _ (rules : Rules) (options : OptionValues) (grip : Grip) (whole : List Event) (key : Key) (is_read : IsRead whole grip (Ok key)) where
  old_unopened : (nonce : Option (List ℕ)) (clear : Bool) (before : Option ℕ) (events : List Event) (why : Refusal) (after : Option ℕ) → old_by rules options grip nonce key clear before events (Err why) after
      → AllByRecursion Remembers events → (clear ≡ false) × Unopened whole grip events
  old_unopened nonce true _ _ _ _ never remembers = elim never [ ]
  old_unopened nonce false _ _ _ _ (stops (passphrases.has_fault is)) remembers = (refl, record { vain = λ pass. ⊥; each = tt; never = λ pass opens none. none })
  old_unopened nonce false _ _ _ _ (stops passphrases.no_memory) remembers = absurd (remembers.0 tt)
  old_unopened nonce false _ _ _ _ (goes_on (passphrases.is_locked {locked} same is) does) remembers = (
    refl,
    record {
      vain = λ pass. ¬ OpensBy locked pass;
      each = locked_vain rules options grip locked nonce _ _ _ _ does remembers;
      never = λ pass opens closed. closed (opens locked (record { key = subst (λ k. IsRead whole grip (Ok k)) (sym same) is_read; protection = is }));
    },
  )

-- ---- draws

abbrev IsUndrawn : Event → Type 0
IsUndrawn (Port (Dice (Drew bytes))) = ⊥
IsUndrawn event = ⊤

undrawn_keys : FitsKeys IsUndrawn
undrawn_keys = record {
  memory = tt;
  cut = λ text. tt;
  limits = tt;
  clients = λ word inquired. tt;
  notes = λ pid inquired. tt;
  calls = λ event. tt;
  nonces = λ id turn. tt;
  keys = λ grip way turn. tt;
  seats_for = λ grip turn. tt;
  seats = λ turn. tt;
  peeks = λ grip turn. tt;
  infos = λ grip is_cached clear. tt;
}

undrawn_said : {held : Option ℕ} {back : List Event} (line : Option (List ℕ)) → Closes None held back (Ok tt) None → AllByRecursion IsUndrawn (back ++ said_last line)
undrawn_said None taken.unheld = tt
undrawn_said (Some line) taken.unheld = (tt, tt)
undrawn_said None (taken.closed turn can) = (tt, tt)
undrawn_said (Some line) (taken.closed turn can) = (tt, (tt, tt))

-- ---- the request

-- each key is due to be refused by this
abbrev IsDue : Key → Code → Type 0
IsDue key why = code.BadSecKey ≡ why

abbrev ByRead : Deciding
ByRead = by_file None IsDue

-- what stands behind the actions of a request
record Behind (more : List Event) : Type 1 where
  vain : (Vain : List ℕ → Type 0) → AllByRecursion (IsVain Vain) more
  free : AllByRecursion (IsFree ByRead) more
  undrawn : AllByRecursion IsUndrawn more

behind_of : {held : Option ℕ} {back : List Event} (line : Option (List ℕ)) → Closes None held back (Ok tt) None → Behind (back ++ said_last line)
behind_of {held} {back} line closes = record {
  vain = λ Vain. back_vain Vain line closes;
  free = answer_free ByRead line closes;
  undrawn = undrawn_said line closes;
}

-- what the file says decides what follows
module _ (rules : Rules) (kept : SessionState) (grip : Grip) (new : Option (List ℕ)) (file : List ℕ) (key : Key) where
  changed_long : (before : Option ℕ) (events : List Event) (result : Result (Unit {0}) Refusal) (after : Option ℕ) → ChangesOpened rules kept.options grip new file key before events result after
      → MAX_LIST_LEN < length (key_list_of key) → SaysTo NoneOwed result code.BadSecKey
  changed_long _ _ _ _ (stops (actions.long much)) many = refl
  changed_long _ _ _ _ (goes_on (actions.short few) does) many = let no : ⊥ = omega (arith, few, many) in absurd no

  module _ (whole : List Event) (request : Request) (read_so : IsReadOf whole grip file) (opens : OpensRead whole rules kept.options request grip key) (long : HasLongFile whole rules kept request grip) where
    rewrites_long : (pass : List ℕ) (before : Option ℕ) (events : List Event) (result : Result (Unit {0}) Refusal) (after : Option ℕ) → RewritesFile rules kept.options grip file key pass before events result after
        → StandIn events whole → AllByRecursion Remembers events → AllByRecursion IsUndrawn events ⊎ SaysTo NoneOwed result code.BadSecKey
    unfolding RewritesFile
    rewrites_long pass _ _ _ _ (stops small.faulted) stands_so remembers = inl (tt, tt)
    rewrites_long pass _ _ _ _ (goes_on (small.drawn many) (stops actions.no_memory)) stands_so remembers = absurd (remembers.1.0 tt)
    rewrites_long pass _ _ _ _ (goes_on (small.drawn many) (goes_on actions.made (stops (files.too_long new_file other with_list much)))) stands_so remembers = inr refl
    rewrites_long pass _ _ _ _ (goes_on (small.drawn many) (goes_on actions.made (stops (files.no_memory other)))) stands_so remembers = absurd (remembers.1.0 tt)
    rewrites_long pass _ _ _ _ (goes_on (small.drawn many) (goes_on actions.made (goes_on (files.canonical_file is) does))) stands_so remembers =
        let other = (long file key pass _ read_so opens (protected (record { long = many; has = has_first stands_so }) refl)).0 in absurd (cc (is, other))
    rewrites_long pass _ _ _ _ (goes_on (small.drawn many) (goes_on actions.made (goes_on (files.extended_file {new = new_file} other with_list few) does))) stands_so remembers =
        let much = (long file key pass _ read_so opens (protected (record { long = many; has = has_first stands_so }) refl)).1 new_file with_list in
        let no : ⊥ = omega (arith, few, much) in absurd no

    changes_long : (before : Option ℕ) (events : List Event) (result : Result (Unit {0}) Refusal) (after : Option ℕ) → ChangesOpened rules kept.options grip new file key before events result after
        → StandIn events whole → AllByRecursion Remembers events → AllByRecursion IsUndrawn events ⊎ SaysTo NoneOwed result code.BadSecKey
    changes_long _ _ _ _ (stops (actions.long much)) stands_so remembers = inl tt
    changes_long _ _ _ _ (goes_on (actions.short few) (stops renews)) stands_so remembers = inl (each_fits IsUndrawn tt (renewed.of _ _ _ _ renews))
      where
        renewed : WorksSo IsUndrawn (RenewsPassphrase rules kept.options grip new)
        renewed = bind IsUndrawn (looks_nonce undrawn_keys new) (λ found. or_otherwise IsUndrawn found (new_here undrawn_keys rules kept.options grip kept.options.mode))
    changes_long _ _ _ _ (goes_on (actions.short few) (goes_on {first = some} {events = last} renews does)) stands_so remembers =
        elim (rewrites_long _ _ _ _ _ does (stand_right some last stands_so) (each_right Remembers some last remembers)) [
          | inl undrawn ↦ inl (each_append IsUndrawn some last (each_fits IsUndrawn tt (renewed.of _ _ _ _ renews)) undrawn)
          | inr says ↦ inr says
        ]
      where
        renewed : WorksSo IsUndrawn (RenewsPassphrase rules kept.options grip new)
        renewed = bind IsUndrawn (looks_nonce undrawn_keys new) (λ found. or_otherwise IsUndrawn found (new_here undrawn_keys rules kept.options grip kept.options.mode))

module _ (one_canon : (file : List ℕ) (a b : Option (List ℕ)) → Canon file a → Canon file b → a ≡ b) (rules : Rules) (kept : SessionState) (request : Request) (grip : Grip) (old new : Option (List ℕ))
    (asked_so : on_keys request ≡ Some (on.Passwd grip old new false)) (whole more : List Event) (behind : Behind more) where
  stands_in : {events : List Event} → whole ≡ events ++ more → StandIn events whole
  stands_in is = record { before = []; after = more; is = is }

  unopened_all : {events : List Event} → whole ≡ events ++ more → Unopened whole grip events → Unopened whole grip whole
  unopened_all {events} is unopened = record {
    vain = unopened.vain;
    each = subst (AllByRecursion (IsVain unopened.vain)) (sym is) (each_append (IsVain unopened.vain) events more unopened.each (behind.vain unopened.vain));
    never = unopened.never;
  }

  -- a file that isn't read so is refused by what it says
  unread_long : {events : List Event} {after : Option ℕ} {why : Refusal} → ReadsFile grip None events (Err why) after → whole ≡ events ++ more → AllByRecursion Remembers events → IsClearOne whole grip
      → refusal_line why ≡ Some (failed code.BadSecKey)
  unread_long {events} {after} {why} does is remembers one = decided_by one.is_read
    where
      decided_by : {key : Key} → IsRead whole grip (Ok key) → refusal_line why ≡ Some (failed code.BadSecKey)
      decided_by (read {answer} {file} found says has) =
          reads_file one_canon None IsDue grip None events (Err why) after does remembers code.BadSecKey
          (inr (decided_before ByRead events more behind.free
          (subst (λ w. IsDecided ByRead w code.BadSecKey) is (record { event = Port (Keys (Read grip answer)); has = has; decides = read_refuses IsDue answer file found (owes says refl) }))))

  -- the run of a request, whose file was read
  module _ {answer : KeyRead} {file : List ℕ} {key : Key} (found : file_in answer ≡ Some file) (says : FileSays file (Ok key)) (rest : List Event) (is : whole ≡ Port (Keys (Read grip answer)) ∷ (rest ++ more)) where
    has_read : Has (Port (Keys (Read grip answer))) whole
    has_read = subst (λ w. Has (Port (Keys (Read grip answer))) w) (sym is) here

    is_read : IsRead whole grip (Ok key)
    is_read = read found says has_read

    rest_stands : StandIn rest whole
    rest_stands = stand_right (Port (Keys (Read grip answer)) ∷ []) rest (stands_in is)

    opens_read : (before after : Option ℕ) (second third : List Event) (opened : _) → rest ≡ second ++ third → OldPassphrase rules kept.options grip old key before second (Ok opened) after
        → OpensRead whole rules kept.options request grip opened.key
    opens_read before after second third opened rest_is does =
        let comes = old_passphrase rules kept request whole grip (changes asked_so) key.is_clear key old
        (λ nonce same. of_change (subst (λ n. on_keys request ≡ Some (on.Passwd grip n new false)) same asked_so)) is_read (λ locked is_locked by_id by_key. changed _ asked_so is_locked by_id by_key) before second (Ok opened) after does
        (stand_left second third (subst (λ r. StandIn r whole) rest_is rest_stands)) in
        comes.explained

  passwd_long : (events : List Event) (result : Result KeyReply Refusal) (held : Option ℕ) → PasswdReplies rules kept.options kept.wraps grip old new None events result held → whole ≡ events ++ more
      → AllByRecursion Remembers events → IsOpened whole grip old → HasLongList whole rules kept request grip → SaysTo NoneOwed result code.BadSecKey
  unfolding PasswdReplies
  passwd_long _ _ _ (stops does) is remembers opened long_so =
      unread_long does is remembers (opened_clear (unopened_all is (record { vain = λ pass. ⊥; each = reads_vain (λ pass. ⊥) does; never = λ pass opens none. none })) opened)
  passwd_long _ _ _ (goes_on (actions.is_key {answer} {key} found says) (stops {first = second} does)) is remembers opened long_so =
      let unopened = old_unopened rules kept.options grip whole key (is_read found says _ is) old key.is_clear _ _ _ _ does remembers.1 in
      let one = opened_clear (unopened_all {events = Port (Keys (Read grip answer)) ∷ second} is (record { vain = unopened.1.vain; each = (tt, unopened.1.each); never = unopened.1.never })) opened in
      let all_clear : key.is_clear ≡ true = one.all_clear key (is_read found says _ is) in
      absurd (cc (unopened.0, all_clear))
  passwd_long _ _ _ (goes_on (actions.is_key {file} found says) (goes_on {value = opened_key} old_does (stops does))) is remembers opened long_so =
      changed_long rules kept grip new file opened_key.key _ _ _ _ does (long_so opened_key.key (opens_read found says _ is _ _ _ _ _ refl old_does))
  passwd_long _ _ _ (goes_on (actions.is_key {file} found says) (goes_on {value = opened_key} old_does (goes_on does returns))) is remembers opened long_so =
      absurd (changed_long rules kept grip new file opened_key.key _ _ _ _ does (long_so opened_key.key (opens_read found says _ is _ _ _ _ _ refl old_does)))

  drawn_none : (events : List Event) {drawn : List ℕ} → whole ≡ events ++ more → AllByRecursion IsUndrawn events → IsDrawn whole 20 drawn → ⊥
  drawn_none events is each drawn = each_has IsUndrawn whole (subst (AllByRecursion IsUndrawn) (sym is) (each_append IsUndrawn events more each behind.undrawn)) drawn.has

  passwd_long_file : (events : List Event) (result : Result KeyReply Refusal) (held : Option ℕ) (drawn : List ℕ) → PasswdReplies rules kept.options kept.wraps grip old new None events result held
      → whole ≡ events ++ more → AllByRecursion Remembers events → IsDrawn whole 20 drawn → HasLongFile whole rules kept request grip → SaysTo NoneOwed result code.BadSecKey
  unfolding PasswdReplies
  passwd_long_file _ _ _ _ (stops does) is remembers drawn long_so = absurd (drawn_none _ is (each_fits IsUndrawn tt (work.reads_file IsUndrawn tt (λ answer. tt) _ _ _ _ does).0) drawn)
  passwd_long_file _ _ _ _ (goes_on (actions.is_key {answer} {key} found says) (stops {first = second} does)) is remembers drawn long_so =
      absurd (drawn_none (Port (Keys (Read grip answer)) ∷ second) is (tt, each_fits IsUndrawn tt ((old_here undrawn_keys rules kept.options grip (λ pass turn. tt) old key key.is_clear).of _ _ _ _ does)) drawn)
  passwd_long_file _ _ _ _ (goes_on (actions.is_key {answer} {file} {key} found says) (goes_on {first = second} {events = third} {value = opened_key} old_does (stops does))) is remembers drawn long_so =
      let opens = opens_read found says _ is _ _ _ _ _ refl old_does in
      elim (changes_long rules kept grip new file opened_key.key whole request (read_of found (has_read found says _ is)) opens long_so _ _ _ _ does
      (stand_right second third (rest_stands found says _ is)) (each_right Remembers second third remembers.1)) [
        | inl undrawn ↦ absurd (drawn_none (Port (Keys (Read grip answer)) ∷ (second ++ third)) is
            (tt, each_append IsUndrawn second third (each_fits IsUndrawn tt ((old_here undrawn_keys rules kept.options grip (λ pass turn. tt) old key key.is_clear).of _ _ _ _ old_does)) undrawn) drawn)
        | inr so ↦ so
      ]
  passwd_long_file _ _ _ _ (goes_on (actions.is_key {answer} {file} {key} found says) (goes_on {first = second} {value = opened_key} old_does (goes_on {first = third} does returns))) is remembers drawn long_so =
      let opens = opens_read found says _ is _ _ _ _ _ refl old_does in
      elim (changes_long rules kept grip new file opened_key.key whole request (read_of found (has_read found says _ is)) opens long_so _ _ _ _ does
      (stand_left third [] (stand_right second (third ++ []) (rest_stands found says _ is))) (each_left Remembers third [] (each_right Remembers second (third ++ []) remembers.1))) [
        | inl undrawn ↦ absurd (drawn_none (Port (Keys (Read grip answer)) ∷ (second ++ (third ++ []))) is (
          tt,
          each_append IsUndrawn second (third ++ []) (each_fits IsUndrawn tt ((old_here undrawn_keys rules kept.options grip (λ pass turn. tt) old key key.is_clear).of _ _ _ _ old_does))
              (each_append IsUndrawn third [] undrawn tt),
        ) drawn)
        | inr so ↦ absurd so
      ]

-- ---- the answer

module _ (one_canon : (file : List ℕ) (a b : Option (List ℕ)) → Canon file a → Canon file b → a ≡ b) (rules : Rules) (kept : SessionState) (request : Request) where
  pub long_answered : {asked_for : KeyRequest} {events : List Event} {after : WrapKeys} {went : KeyWent} → on_keys request ≡ Some asked_for → KeyExchange rules kept.options kept.wraps asked_for events after went
      → AllByRecursion Remembers events → IsLong events rules kept request → HasError code.BadSecKey OfAgent events
  long_answered {events = whole} {after} {went} same exchanged remembers (long {grip} {old} {new} is opened long_list) =
      let asked_is : _ ≡ on.Passwd grip old new false = some_key (sym same ∙ is) in
      run (subst (λ a. KeyExchange rules kept.options kept.wraps a whole after went) asked_is exchanged) remembers opened long_list
    where
      run : {whole : List Event} {after : WrapKeys} {went : KeyWent} → KeyExchange rules kept.options kept.wraps (on.Passwd grip old new false) whole after went → AllByRecursion Remembers whole → IsOpened whole grip old
          → HasLongList whole rules kept request grip → HasError code.BadSecKey OfAgent whole
      run (action_exchanges.answered some held reply {back} does closes) all opened_so list_so =
          absurd (passwd_long one_canon rules kept request grip old new is _ _ (behind_of (Some reply.text) closes) _ _ _ does refl (each_left Remembers some _ all) opened_so list_so)
      run (action_exchanges.refused some held why {back} does closes) all opened_so list_so =
          said_error some back (refusal_line why) code.BadSecKey (passwd_long one_canon rules kept request grip old new is _ _ (behind_of (refusal_line why) closes) _ _ _ does refl (each_left Remembers some _ all) opened_so list_so)
  long_answered {events = whole} {after} {went} same exchanged remembers (long_file {grip} {old} {new} is drawn file_long) =
      let asked_is : _ ≡ on.Passwd grip old new false = some_key (sym same ∙ is) in
      run (subst (λ a. KeyExchange rules kept.options kept.wraps a whole after went) asked_is exchanged) remembers drawn file_long
    where
      run : {whole : List Event} {after : WrapKeys} {went : KeyWent} {bytes : List ℕ} → KeyExchange rules kept.options kept.wraps (on.Passwd grip old new false) whole after went → AllByRecursion Remembers whole
          → IsDrawn whole 20 bytes → HasLongFile whole rules kept request grip → HasError code.BadSecKey OfAgent whole
      run (action_exchanges.answered some held reply {back} does closes) all drawn_so file_so =
          absurd (passwd_long_file one_canon rules kept request grip old new is _ _ (behind_of (Some reply.text) closes) _ _ _ _ does refl (each_left Remembers some _ all) drawn_so file_so)
      run (action_exchanges.refused some held why {back} does closes) all drawn_so file_so =
          said_error some back (refusal_line why) code.BadSecKey (passwd_long_file one_canon rules kept request grip old new is _ _ (behind_of (refusal_line why) closes) _ _ _ _ does refl (each_left Remembers some _ all) drawn_so file_so)
