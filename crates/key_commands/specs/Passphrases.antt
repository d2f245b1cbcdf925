-- How a request comes by the passphrase of a key, old or new (GnuPG manual, "Agent EXPORT", "Agent PASSWD"). Where it is looked for, in which order, and what
-- is kept of it, is this project's own.
use Rattle.std.specs.Prelude.{◌≡◌, ◌==◌, ℕ, Bool, true, false, List, [], ◌∷◌, length, codes, Option, Some, None, Result, Ok, Err, not, ⊤}
use Rattle.agent_ask.specs.{Session.{ClientActions.AsksClient, Actions.{◌>>=◌, Returns, Refuses, needed, wanted, or_else}}, PinActions.{PromptsFor, IsAnyGiven, pin_refusal}, Plans.{plan_of, text}, declared.prompt.ask.Asked.Asked}
use Rattle.{agent_ask.specs.Session.TurnActions.{Asks, Seats, Changes}, agent_ports.specs.declared.grip.Grip.Grip, assuan_server.specs.{Clients.session_lines, Written.limit_line}, cache_policy.specs.declared.life.Life.TheVariants.Default}
use Rattle.cache_policy.specs.declared.{mark.{MarkStep.{MarkStep, TheVariants.{Ask, Seat, Put}}, Way.{Way, TheVariants.{Quiet, Prompt}}}, mode.Mode.TheVariants.{Normal, Nonce}, secret.TheConstants.MAX_SECRET_LEN}
use Rattle.{secret_file.specs.{Answers.IsLockedFault, Opens.{LockedKey, IsLocked, OpensTo}}, session_options.specs.{OptionValues.OptionValues, declared.{options.PinMode.PinMode, rules.Rules.Rules}}, sexp_keys.specs.Key.Key}
use Rattle.{sexp_keys.specs.declared.fault.KeyFault.KeyFault, session_client.specs.declared.refusal.Refusal.{Refusal, TheVariants.Agent}}
use Rattle.key_commands.specs.{Events.{Event, out_of_memory}, Lines.{grip_text, described, old_description, new_description, field_text}, Actions.Action, Faults.fault_code, declared.opened.OpenedKey.OpenedKey}
use Rattle.agent_ask.specs.declared.prompt.ask.Asked.TheVariants as asked
use Rattle.session_client.specs.declared.code.Code.TheVariants as code
use Rattle.session_options.specs.declared.options.PinMode.TheVariants as mode

-- ---- the cache

-- the question for what is cached under a nonce, and for a key's passphrase, which may open a prompt
abbrev pub ask_nonce : List ℕ → MarkStep
ask_nonce nonce = Ask nonce Nonce Quiet None

abbrev pub ask_key : Grip → Way → MarkStep
ask_key grip way = Ask (grip_text grip) Normal way None

-- the seat for a prompt whose passphrase is a key's
abbrev pub seat_for : Grip → MarkStep
seat_for grip = Seat (Some (record { id = grip_text grip; mode = Normal })) None

-- a key's passphrase is kept
abbrev pub put_key : Grip → List ℕ → MarkStep
put_key grip pass = Put (grip_text grip) Normal Default pass

-- what is cached under a nonce, where there is one
abbrev pub LooksForNonce : Option (List ℕ) → Action (Option (List ℕ))
LooksForNonce None = Returns None
LooksForNonce (Some nonce) = Asks (ask_nonce nonce)

-- whether a request may open a prompt: where its client wants one
abbrev pub way_of : PinMode → Way
way_of mode.Ask = Prompt
way_of _ = Quiet

-- a request has one ticket at most: it takes the seat unless it has one
abbrev pub TakesSeat : Grip → Action (Unit {0})
TakesSeat grip None = Seats (seat_for grip) None
TakesSeat grip (Some ticket) = Returns tt (Some ticket)

-- ---- the old passphrase

abbrev pub opened_by : Key → List ℕ → OpenedKey
opened_by key pass = record { key = key; by = Some pass }

-- a protected key, whose protection may have a fault that no passphrase decides
pub data Locks (key : Key) (held : Option ℕ) : List Event → Result LockedKey Refusal → Option ℕ → Type 0 where
  is_locked : {locked : LockedKey} → locked.key ≡ key → IsLocked locked → Locks key held [] (Ok locked) held
  has_fault : {fault : KeyFault} → IsLockedFault key fault → Locks key held [] (Err (Agent (fault_code fault))) held
  no_memory : Locks key held (out_of_memory ∷ []) (Err (Agent code.NoMemory)) held

-- the key opens by this passphrase
abbrev pub OpensBy : LockedKey → List ℕ → Type 0
OpensBy locked pass = (key : Key) × OpensTo locked pass key

-- the request goes on with the key that the given passphrase opens, or is refused so
pub data IsOpened (locked : LockedKey) : Asked → Result OpenedKey Refusal → Type 0 where
  opens_by : {pin : List ℕ} {key : Key} → OpensTo locked pin key → IsOpened locked (asked.Pin pin) (Ok (opened_by key pin))
  refused : {answer : Asked} {why : Refusal} → pin_refusal answer ≡ Some why → IsOpened locked answer (Err why)

-- A passphrase is tried on it: the clear key, or none. Being out of memory is never taken for a passphrase that doesn't open it.
pub data TriesPassphrase (locked : LockedKey) (pass : List ℕ) (held : Option ℕ) : List Event → Result (Option OpenedKey) Refusal → Option ℕ → Type 0 where
  opens : {key : Key} → OpensTo locked pass key → TriesPassphrase locked pass held [] (Ok (Some (opened_by key pass))) held
  stays : ¬ OpensBy locked pass → TriesPassphrase locked pass held [] (Ok None) held
  no_memory : TriesPassphrase locked pass held (out_of_memory ∷ []) (Err (Agent code.NoMemory)) held

-- one that was found is tried, where one was
abbrev pub TriesFound : LockedKey → Option (List ℕ) → Action (Option OpenedKey)
TriesFound locked None = Returns None
TriesFound locked (Some pass) = TriesPassphrase locked pass

-- the client is asked for a passphrase by this word. It is told first how many bytes are taken.
abbrev pub AsksSecret : (word : List ℕ) → Action (List ℕ)
AsksSecret word = AsksClient session_lines (limit_line MAX_SECRET_LEN) word MAX_SECRET_LEN

-- the client itself gives a new passphrase, which isn't empty
unfoldable pub ClientNew : Action (List ℕ)
ClientNew = do
  pass ← AsksSecret (codes "NEW_PASSPHRASE")
  some ← wanted code.BadPass (not (length pass == 0))
  Returns pass

module _ (rules : Rules) (options : OptionValues) (grip : Grip) where
  -- one prompt at which a passphrase is right that opens the key
  abbrev pub PromptsOld : LockedKey → Action OpenedKey
  PromptsOld locked =
      PromptsFor session_lines rules options (text (described options.description (old_description grip))) (text field_text) false (plan_of rules options (text []) false 0) (OpensBy locked) (IsOpened locked)

  -- the client itself gives the passphrase, and it is kept
  unfoldable pub ClientOld : LockedKey → Action OpenedKey
  ClientOld locked = do
    pass ← AsksSecret (codes "PASSPHRASE")
    tried ← TriesPassphrase locked pass
    opened ← needed code.BadPass tried
    kept ← Changes (put_key grip pass)
    Returns opened

  -- the passphrase comes from no cache: as the client wants it
  abbrev pub UncachedOld : PinMode → LockedKey → Action OpenedKey
  UncachedOld mode.Ask locked = do
    seated ← TakesSeat grip
    PromptsOld locked
  UncachedOld mode.Cancel locked = Refuses (Agent code.Cancelled)
  UncachedOld mode.Error locked = Refuses (Agent code.NoPinentry)
  UncachedOld mode.Loopback locked = ClientOld locked

  -- what is cached under the key opens it, or else it is opened as the client wants it
  abbrev pub CachedOld : LockedKey → Action OpenedKey
  CachedOld locked = do
    cached ← Asks (ask_key grip (way_of options.mode))
    second ← TriesFound locked cached
    or_else second (UncachedOld options.mode locked)

  -- A locked key is opened by what is cached under the nonce, or else under the key, or else as the client wants it. What is cached and doesn't
  -- open it is passed over.
  unfoldable pub OpensLocked : Option (List ℕ) → LockedKey → Action OpenedKey
  OpensLocked nonce locked = do
    by_nonce ← LooksForNonce nonce
    first ← TriesFound locked by_nonce
    or_else first (CachedOld locked)

  abbrev pub old_by : Option (List ℕ) → Key → Bool → Action OpenedKey
  old_by id key true = Returns (record { key = key; by = None })
  old_by id key false = do
    locked ← Locks key
    OpensLocked id locked

  -- The old passphrase of a key. A clear one needs none.
  abbrev pub OldPassphrase : Option (List ℕ) → Key → Action OpenedKey
  OldPassphrase nonce key = old_by nonce key key.is_clear

  abbrev pub verified_by : Key → Bool → Action OpenedKey
  verified_by key true = Returns (record { key = key; by = None })
  verified_by key false = do
    locked ← Locks key
    UncachedOld options.mode locked

  -- The passphrase of a key is asked for and tried, whatever is cached. A clear one has none.
  abbrev pub VerifiesPassphrase : Key → Action OpenedKey
  VerifiesPassphrase key = verified_by key key.is_clear

  -- ---- a new passphrase

  -- One prompt for a passphrase that meets the check and is repeated once. It says so in words of its own, whatever description the client set for the
  -- request: that one is about the key as it is.
  abbrev pub PromptsNew : Action (List ℕ)
  PromptsNew = PromptsFor session_lines rules options (text (new_description grip)) (text field_text) true (plan_of rules options (text []) true 1) (λ pin. ⊤) IsAnyGiven

  abbrev pub new_by : PinMode → Action (List ℕ)
  new_by mode.Ask = do
    seated ← TakesSeat grip
    PromptsNew
  new_by mode.Cancel = Refuses (Agent code.Cancelled)
  new_by mode.Error = Refuses (Agent code.NoPinentry)
  new_by mode.Loopback = ClientNew

  -- a new passphrase for a key, as the client wants it
  abbrev pub NewPassphrase : Action (List ℕ)
  NewPassphrase = new_by options.mode
