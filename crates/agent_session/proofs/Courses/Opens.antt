-- In a request a prompt is opened before the prompter is called, and once.
use Rattle.std.{specs.{List.AllByRecursion, Prelude.⊤}, proofs.Common.{◌≡◌, ℕ, Bool, true, false, List, ◌∷◌, ◌++◌, Option, Some, None, Result, Ok, Err, refl, subst, inl, inr, append-nil, []}}
use Rattle.agent_ask.specs.Session.{PortCalls.{PortCall, Trust}, SessionEvents.{CacheTurn, Port, said_last}, Actions.{◌>>=◌, goes_on, stops, Returns, or_else}, TurnActions.Closes}
use Rattle.agent_ask.{specs.{PinActions.{PromptsFor, prompted}, declared.prompt.ask.Asked.Asked}, proofs.Within.{Within, Does, does_join, weaker, bind, or_otherwise}}
use Rattle.{agent_ports.specs.declared.grip.Grip.Grip, secret_file.specs.Opens.LockedKey, session_options.specs.{OptionValues.OptionValues, declared.{options.PinMode.PinMode, rules.Rules.Rules}}, sexp_keys.specs.Key.Key}
use Rattle.{assuan_server.specs.Clients.session_lines, agent_commands.specs.Events.EventWith, key_commands.specs.{Events.IsUncalled, Exchanges.{KeyReply, RenewsPassphrase, ChangesOpened}, KeyActions.{IsShort, Consents}, Actions.Action}}
use Rattle.key_commands.specs.{Passphrases.{UncachedOld, OpensLocked, OldPassphrase, LooksForNonce, TakesSeat}, declared.keywrap_key.WrapKeys.WrapKeys}
use Rattle.key_commands.proofs.EachEvent.{each_append, IsStill, still_uncalled, agrees_to, each_answer, EachSo, each_returned, each_refused, each_looks, each_seats, looks_nonce, takes_seat, is_short, locks, tries_found, client_old}
use Rattle.{key_commands.proofs.EachEvent.{rewrites_file, client_new, each_shown, prompts_for}, assuan_server.specs.Written.ok, session_client.specs.declared.refusal.Refusal.{Refusal, TheVariants.Agent}}
use Rattle.agent_session.specs.Refusals.{IsUnopening, OpensFirst}
use Rattle.session_client.specs.declared.code.Code.TheVariants as code
use Rattle.session_options.specs.declared.options.PinMode.TheVariants as mode
use Rattle.key_commands.specs.Exchanges as exchange
use Rattle.key_commands.specs.KeyActions as actions
use Rattle.agent_ask.specs.Session.Actions as chain
use Rattle.agent_ask.specs.Session.TurnActions as taken
use Rattle.key_commands.specs.Passphrases as passphrases

abbrev pub Uncalled : List (EventWith PortCall) → Type 0
Uncalled events = AllByRecursion IsUncalled events

abbrev pub Unopening : List (EventWith PortCall) → Type 0
Unopening events = AllByRecursion IsUnopening events

abbrev pub UncalledSo : {A : Type 0} → Action A → Type 0
UncalledSo action = EachSo IsUncalled action

abbrev pub UnopeningSo : {A : Type 0} → Action A → Type 0
UnopeningSo action = EachSo IsUnopening action

pub still_unopening : (event : EventWith PortCall) → IsStill event → IsUnopening event
still_unopening (Port (Trust call)) still = absurd still
still_unopening (CacheTurn taken) still = absurd still
still_unopening _ still = tt

-- ---- lists

pub uncalled_first : (first more : List (EventWith PortCall)) → Uncalled first → OpensFirst more → OpensFirst (first ++ more)
uncalled_first [] more each opens = opens
uncalled_first (event ∷ first) more each opens = (inl each.0, uncalled_first first more each.1 opens)

pub unopening_opens : (events : List (EventWith PortCall)) → Unopening events → OpensFirst events
unopening_opens [] each = tt
unopening_opens (event ∷ more) each = (inr each.1, unopening_opens more each.1)

pub then_unopening : (first more : List (EventWith PortCall)) → OpensFirst first → Unopening more → OpensFirst (first ++ more)
then_unopening [] more opens each = unopening_opens more each
then_unopening (event ∷ first) more opens each = (elim (opens.0) [ inl uncalled ↦ inl uncalled | inr unopening ↦ inr (each_append IsUnopening first more unopening each) ], then_unopening first more opens.1 each)

pub uncalled_opens : (events : List (EventWith PortCall)) → Uncalled events → OpensFirst events
uncalled_opens events each = subst OpensFirst (append-nil events) (uncalled_first events [] each tt)

-- ---- actions

-- an action, by which the prompter is called only where it leaves a ticket out
abbrev PromptLaw : {A : Type 0} → Action A
PromptLaw before events result after = OpensFirst events × (after ≡ None → Uncalled events)

abbrev PromptsSo : {A : Type 0} → Action A → Type 0
PromptsSo action = Within action PromptLaw

-- one from its first event on, whatever is behind
abbrev pub OpensSo : {A : Type 0} → Action A → Type 0
OpensSo action = Within action (Does OpensFirst)

uncalled_prompts : {A : Type 0} {action : Action A} → UncalledSo action → PromptsSo action
uncalled_prompts = weaker (record { of = λ before events result after each. (uncalled_opens events each, λ none. each) })

pub prompts_opens : {A : Type 0} {action : Action A} → PromptsSo action → OpensSo action
prompts_opens = weaker (record { of = λ before events result after prompts. prompts.0 })

pub calls_nobody : {A : Type 0} {action : Action A} → UncalledSo action → OpensSo action
calls_nobody = weaker (record { of = λ before events result after each. uncalled_opens events each })

unopening_action_opens : {A : Type 0} {action : Action A} → UnopeningSo action → OpensSo action
unopening_action_opens = weaker (record { of = λ before events result after each. unopening_opens events each })

module _ {A B : Type 0} {action : Action A} {next : A → Action B} where
  pub before_opens : UncalledSo action → ((value : A) → OpensSo (next value)) → OpensSo (action >>= next)
  before_opens = bind (does_join uncalled_first uncalled_opens)

  pub before_prompts : UncalledSo action → ((value : A) → PromptsSo (next value)) → PromptsSo (action >>= next)
  before_prompts = bind (record {
    then = λ some later each prompts. (uncalled_first some later each prompts.0, λ none. each_append IsUncalled some later each (prompts.1 none));
    alone = λ {before} {after} {events} each. (uncalled_opens events each, λ none. each);
  })

  -- nothing behind it opens another
  pub behind_opens : OpensSo action → ((value : A) → UnopeningSo (next value)) → OpensSo (action >>= next)
  behind_opens = bind (does_join then_unopening (λ some opens. opens))

pub otherwise_prompts : {A : Type 0} (value : Option A) {other : Action A} → PromptsSo other → PromptsSo (or_else value other)
otherwise_prompts = or_otherwise (record { of = λ held result. (tt, λ none. tt) })

-- ---- prompts

module _ {A : Type 0} {rules : Rules} {options : OptionValues} {description field : _} {quality : _} {plan : _} {Rule : _} {Gives : Asked → Result A Refusal → Type 0} where
  -- the prompter is called behind a ticket, which is still held then
  prompts_of : (before : Option ℕ) (events : List (EventWith PortCall)) (result : Result A Refusal) (after : Option ℕ)
      → PromptsFor session_lines rules options description field quality plan Rule Gives before events result after → PromptLaw before events result after
  prompts_of before events result after (prompted spec is prompt gives) =
      (unopening_opens events (each_shown IsUnopening still_unopening (λ event. tt) prompt.in_session), λ none. absurd (cc none))

  prompts_so : PromptsSo (PromptsFor session_lines rules options description field quality plan Rule Gives)
  prompts_so = record { of = prompts_of }

module _ (rules : Rules) (options : OptionValues) (grip : Grip) where
  -- ---- passphrases

  uncached_prompts : (locked : LockedKey) (way : PinMode) → PromptsSo (UncachedOld rules options grip way locked)
  uncached_prompts locked mode.Ask = before_prompts (takes_seat IsUncalled grip (λ turn. tt)) (λ seated_so. prompts_so)
  uncached_prompts locked mode.Cancel = uncalled_prompts (each_refused IsUncalled (Agent code.Cancelled))
  uncached_prompts locked mode.Error = uncalled_prompts (each_refused IsUncalled (Agent code.NoPinentry))
  uncached_prompts locked mode.Loopback = uncalled_prompts (client_old IsUncalled still_uncalled (λ key pass turn. tt) rules options grip locked)

  locked_prompts : (id : Option (List ℕ)) (locked : LockedKey) → PromptsSo (OpensLocked rules options grip id locked)
  unfolding OpensLocked
  locked_prompts id locked =
      before_prompts (looks_nonce IsUncalled id (λ named turn. tt)) (λ by_nonce. before_prompts (tries_found IsUncalled still_uncalled locked by_nonce) (λ first. otherwise_prompts first
      (before_prompts (each_looks IsUncalled (λ turn. tt)) (λ cached. before_prompts (tries_found IsUncalled still_uncalled locked cached) (λ second. otherwise_prompts second (uncached_prompts locked options.mode))))))

  pub old_by_prompts : (id : Option (List ℕ)) (key : Key) (clear : Bool) → PromptsSo (passphrases.old_by rules options grip id key clear)
  old_by_prompts id key true = uncalled_prompts (each_returned IsUncalled _)
  old_by_prompts id key false = before_prompts (locks IsUncalled still_uncalled key) (λ locked. locked_prompts id locked)

  pub verified_prompts : (key : Key) (clear : Bool) → PromptsSo (passphrases.verified_by rules options grip key clear)
  verified_prompts key true = uncalled_prompts (each_returned IsUncalled _)
  verified_prompts key false = before_prompts (locks IsUncalled still_uncalled key) (λ locked. uncached_prompts locked options.mode)

  pub new_by_prompts : (way : PinMode) → PromptsSo (passphrases.new_by rules options grip way)
  new_by_prompts mode.Ask = before_prompts (takes_seat IsUncalled grip (λ turn. tt)) (λ seated_so. prompts_so)
  new_by_prompts mode.Cancel = uncalled_prompts (each_refused IsUncalled (Agent code.Cancelled))
  new_by_prompts mode.Error = uncalled_prompts (each_refused IsUncalled (Agent code.NoPinentry))
  new_by_prompts mode.Loopback = uncalled_prompts (client_new IsUncalled still_uncalled)

pub agrees_opens : (rules : Rules) (options : OptionValues) (grip : Grip) (way : PinMode) (force : Bool) → OpensSo (Consents rules (record options { mode = way }) force grip)
agrees_opens rules options grip way true = calls_nobody (each_returned IsUncalled tt)
agrees_opens rules options grip mode.Ask false =
    before_opens (each_seats IsUncalled (λ turn. tt)) (λ seated_so. unopening_action_opens (agrees_to IsUnopening still_unopening (λ event. tt) rules (record options { mode = mode.Ask }) _))
agrees_opens rules options grip mode.Cancel false = calls_nobody (each_refused IsUncalled (Agent code.Cancelled))
agrees_opens rules options grip mode.Error false = calls_nobody (each_refused IsUncalled (Agent code.NoPinentry))
agrees_opens rules options grip mode.Loopback false = calls_nobody (each_refused IsUncalled (Agent code.NoPinentry))

-- what follows the actions of a request
pub answer_unopening : {held : Option ℕ} {back : List (EventWith PortCall)} (line : Option (List ℕ)) → Closes None held back (Ok tt) None → Unopening (back ++ said_last line)
answer_unopening = each_answer IsUnopening (λ number turn. refl) (λ text. tt)

-- ---- a request that has a ticket opens no other prompt

abbrev IsHeld : Option ℕ → Type 0
IsHeld None = ⊥
IsHeld (Some number) = ⊤

-- an action of such a request, and one that keeps the ticket too
abbrev SeatedLaw : {A : Type 0} → Action A
SeatedLaw before events result after = IsHeld before → Unopening events

abbrev StayLaw : {A : Type 0} → Action A
StayLaw before events result after = IsHeld before → Unopening events × IsHeld after

abbrev SeatedSo : {A : Type 0} → Action A → Type 0
SeatedSo action = Within action SeatedLaw

seated_so : {A : Type 0} {action : Action A} → UnopeningSo action → SeatedSo action
seated_so = weaker (record { of = λ before events result after each held. each })

module _ {A B : Type 0} {action : Action A} {next : A → Action B} where
  stays_then : Within action StayLaw → ((value : A) → SeatedSo (next value)) → SeatedSo (action >>= next)
  stays_then = bind (record { then = λ some later stays more held. let so = stays held in each_append IsUnopening some later so.0 (more so.1); alone = λ stays held. (stays held).0 })

  seated_then : SeatedSo action → ((value : A) → UnopeningSo (next value)) → SeatedSo (action >>= next)
  seated_then = bind (record { then = λ some later seated each held. each_append IsUnopening some later (seated held) each; alone = λ seated. seated })

short_stays : (key : Key) (before : Option ℕ) (events : List (EventWith PortCall)) (result : Result (Unit {0}) Refusal) (after : Option ℕ) → IsShort key before events result after → StayLaw before events result after
short_stays key _ _ _ _ (actions.short few) held = (tt, held)
short_stays key _ _ _ _ (actions.long many) held = (tt, held)

nonce_stays : (id : Option (List ℕ)) (before : Option ℕ) (events : List (EventWith PortCall)) (result : Result (Option (List ℕ)) Refusal) (after : Option ℕ) → LooksForNonce id before events result after
    → StayLaw before events result after
nonce_stays None _ _ _ _ chain.returns held = (tt, held)
nonce_stays (Some id) _ _ _ _ (taken.given can) held = ((refl, tt), held)
nonce_stays (Some id) _ _ _ _ (taken.empty can) held = ((refl, tt), held)
nonce_stays (Some id) _ _ _ _ (taken.opened can) held = absurd held
nonce_stays (Some id) _ _ _ _ (taken.interrupted can why) held = ((refl, tt), held)

seat_stays : (grip : Grip) (before : Option ℕ) (events : List (EventWith PortCall)) (result : Result (Unit {0}) Refusal) (after : Option ℕ) → TakesSeat grip before events result after → StayLaw before events result after
seat_stays grip None events result after does held = absurd held
seat_stays grip (Some number) _ _ _ chain.returns held = (tt, held)

module _ (rules : Rules) (options : OptionValues) (grip : Grip) where
  new_by_seated : (way : PinMode) → SeatedSo (passphrases.new_by rules options grip way)
  new_by_seated mode.Ask = stays_then (record { of = seat_stays grip }) (λ seated. seated_so (prompts_for IsUnopening still_unopening (λ event. tt)))
  new_by_seated mode.Cancel = seated_so (each_refused IsUnopening (Agent code.Cancelled))
  new_by_seated mode.Error = seated_so (each_refused IsUnopening (Agent code.NoPinentry))
  new_by_seated mode.Loopback = seated_so (client_new IsUnopening still_unopening)

  renews_seated : (id : Option (List ℕ)) → SeatedSo (RenewsPassphrase rules options grip id)
  renews_seated id = stays_then (record { of = nonce_stays id }) (λ found. or_otherwise (record { of = λ held result seat. tt }) found (new_by_seated options.mode))

  changes_seated : (id : Option (List ℕ)) (file : List ℕ) (key : Key) → SeatedSo (ChangesOpened rules options grip id file key)
  changes_seated id file key =
      stays_then (record { of = short_stays key }) (λ short. seated_then (renews_seated id)
      (λ pass. rewrites_file IsUnopening still_unopening (λ key_grip secret turn. refl) (λ ticket keep turn. refl) rules options grip file key pass))

  changes_opens : (id : Option (List ℕ)) (file : List ℕ) (key : Key) → OpensSo (ChangesOpened rules options grip id file key)
  changes_opens id file key =
      before_opens (is_short IsUncalled still_uncalled key) (λ short. behind_opens
      (prompts_opens (before_prompts (looks_nonce IsUncalled id (λ named turn. tt)) (λ found. otherwise_prompts found (new_by_prompts rules options grip options.mode))))
      (λ pass. rewrites_file IsUnopening still_unopening (λ key_grip secret turn. refl) (λ ticket keep turn. refl) rules options grip file key pass))

  -- both passphrases, under one ticket
  pub both_of : (wraps : WrapKeys) (old_id new_id : Option (List ℕ)) (file : List ℕ) (key : Key) (before : Option ℕ) (events : List (EventWith PortCall)) (result : Result KeyReply Refusal) (after : Option ℕ)
      → (OldPassphrase rules options grip old_id key >>= λ opened. (ChangesOpened rules options grip new_id file opened.key >>= λ changed. Returns (exchange.key_reply wraps ok))) before events result after
      → OpensFirst events
  both_of wraps old_id new_id file key before events result after (goes_on {first = some} {events = more} {value = opened} {mid = None} does next_does) =
      uncalled_first some more (((old_by_prompts rules options grip old_id key key.is_clear).of before some (Ok opened) None does).1 refl)
      ((behind_opens (changes_opens new_id file opened.key) (λ changed. each_returned IsUnopening _)).of None more result after next_does)
  both_of wraps old_id new_id file key before events result after (goes_on {first = some} {events = more} {value = opened} {mid = Some number} does next_does) =
      then_unopening some more ((old_by_prompts rules options grip old_id key key.is_clear).of before some (Ok opened) (Some number) does).0
      ((seated_then (changes_seated new_id file opened.key) (λ changed. each_returned IsUnopening _)).of (Some number) more result after next_does tt)
  both_of wraps old_id new_id file key before events result after (stops {refusal = why} does) = ((old_by_prompts rules options grip old_id key key.is_clear).of before events (Err why) after does).0
