-- Actions of a request on keys each of whose events is so.
use Rattle.std.{specs.{List.AllByRecursion, Prelude.{⊤, not, take, drop}}, proofs.Common.{◌==◌, ◌++◌, ℕ, Bool, true, false, List, [], ◌∷◌, length, codes, Option, Some, None, Result, Ok}}
use Rattle.agent_ask.specs.{Events.PromptEvent, Session.{PortCalls.{Keys, Dice, NoMemory, Prompt, Trust}, SessionEvents.{Sent, Cut, Inquiry, Port, cache_turn, said_last}}, SessionPrompts.AnyInSession}
use Rattle.agent_ask.specs.Session.{Actions.{◌>>=◌, goes_on, stops, Returns, returns, Refuses, needed, or_else, unless, wanted}, TurnActions.{Asks, Seats, Changes, Peeks, Closes}, ClientActions.{Writes, Inquires}}
use Rattle.agent_ask.specs.{ConsentActions.AgreesTo, PinActions.{PromptsFor, prompted}, declared.prompt.ask.Asked.Asked}
use Rattle.{agent_ask.proofs.Within.{Within, Joins, OfNothing, Does, does_join, bind, returned, refused, is_needed, or_otherwise, is_unless, is_wanted}, agent_ports.specs.declared.grip.Grip.Grip, assuan_server.specs.Clients.session_lines}
use Rattle.{assuan_server.specs.Written.limit_line, session_client.specs.declared.{code.Code.Code, refusal.Refusal.{Refusal, TheVariants.Agent}}, cache_policy.specs.{Turns.Turn, declared.life.Life.TheVariants.Default}}
use Rattle.{cache_policy.specs.declared.{mark.MarkStep.{MarkStep, TheVariants.{Close, Put, Peek}}, mode.Mode.TheVariants.{Normal, Nonce}, secret.TheConstants.MAX_SECRET_LEN}, assuan_escape.specs.Escapes.hex_text}
use Rattle.{secret_file.specs.Opens.LockedKey, session_options.specs.{OptionValues.OptionValues, declared.rules.Rules.Rules}, sexp_keys.specs.Key.Key}
use Rattle.key_commands.specs.{Events.{Event, IsUncalled}, Exchanges.{StoresKey, RewritesFile}, Files.Rewrites}
use Rattle.key_commands.specs.KeyActions.{Tells, tells, ReadsFile, Replaces, Removes, KeepsNew, Protects, IsShort, HasOne, TellsKeyInfo, ListsGrips, ReadsListed, WritesInfo, WritesInfos, AsksKeyData, Unwraps, ReceivesKey, NamesKey, IsFree}
use Rattle.key_commands.specs.{KeyActions.{JoinsGrips, LooksOver, WrapsKey}, Lines.{max_key_data, grip_text, IsNotice, of_passphrase, of_key_data, of_key}, Actions.{Action, Finds, Draws}}
use Rattle.key_commands.specs.Passphrases.{AsksSecret, ClientOld, ClientNew, LooksForNonce, TakesSeat, Locks, TriesPassphrase, TriesFound, ask_nonce, seat_for, put_key}
use Rattle.agent_ask.specs.SessionPrompts as session
use Rattle.session_client.specs.declared.code.Code.TheVariants as code
use Rattle.key_commands.specs.Files as files
use Rattle.key_commands.specs.KeyActions as actions
use Rattle.agent_ask.specs.Session.ClientActions as client
use Rattle.agent_ask.specs.ConsentActions as consent
use Rattle.agent_ask.specs.Session.TurnActions as taken
use Rattle.key_commands.specs.Actions as small
use Rattle.key_commands.specs.Passphrases as passphrases

-- a list, and what comes behind it
pub each_append : {E : Type 0} (Is : E → Type 0) (first more : List E) → AllByRecursion Is first → AllByRecursion Is more → AllByRecursion Is (first ++ more)
each_append Is [] more none each = each
each_append Is (event ∷ first) more each each_more = (each.0, each_append Is first more each.1 each_more)

-- what is done beside the desk and the prompter
abbrev pub IsStill : Event → Type 0
IsStill (Sent text) = IsNotice text
IsStill (Cut text) = ⊤
IsStill (Inquiry word params limit inquired) = ⊤
IsStill (Port (Keys call)) = ⊤
IsStill (Port (Dice draw)) = ⊤
IsStill (Port NoMemory) = ⊤
IsStill _ = ⊥

pub still_uncalled : (event : Event) → IsStill event → IsUncalled event
still_uncalled (Port (Trust call)) still = absurd still
still_uncalled (Port (Prompt event)) still = absurd still
still_uncalled _ still = tt

-- what is told of a key is a notice
told_info : (grip : Grip) (key : Key) {before after : Option ℕ} {events : List Event} {line : List ℕ} → TellsKeyInfo grip key before events (Ok line) after → IsNotice line
told_info grip key (goes_on {value = cached} peeks returns) = of_key grip cached key.is_clear

module _ (Is : Event → Type 0) where
  abbrev pub All : List Event → Type 0
  All events = AllByRecursion Is events

  abbrev pub EachSo : {A : Type 0} → Action A → Type 0
  EachSo action = Within action (Does All)

  each_join : {A B : Type 0} → Joins {A = A} {B = B} (Does All) (λ value. Does All) (Does All)
  each_join = does_join (each_append Is) (λ some each. each)

  each_nothing : {A : Type 0} → OfNothing {A = A} (Does All)
  each_nothing = record { of = λ held result. tt }

  pub each_bind : {A B : Type 0} {action : Action A} {next : A → Action B} → EachSo action → ((value : A) → EachSo (next value)) → EachSo (action >>= next)
  each_bind = bind each_join

  pub each_returned : {A : Type 0} (value : A) → EachSo (Returns value)
  each_returned = returned each_nothing

  pub each_refused : {A : Type 0} (why : Refusal) → EachSo (Refuses {A = A} why)
  each_refused = refused each_nothing

  pub each_needed : {A : Type 0} (why : Code) (value : Option A) → EachSo (needed why value)
  each_needed = is_needed each_nothing

  pub each_otherwise : {A : Type 0} (value : Option A) {other : Action A} → EachSo other → EachSo (or_else value other)
  each_otherwise = or_otherwise each_nothing

  each_unless : (so : Bool) {other : Action (Unit {0})} → EachSo other → EachSo (unless so other)
  each_unless = is_unless each_nothing

  pub each_wanted : (why : Code) (so : Bool) → EachSo (wanted why so)
  each_wanted = is_wanted each_nothing

  -- ---- turns, each of whose outcomes is so
  module _ {step : MarkStep} (turns : (turn : Turn) → Is (cache_turn step turn)) where
    looks_of : (before : Option ℕ) (events : List Event) (result : Result (Option (List ℕ)) Refusal) (after : Option ℕ) → Asks step before events result after → All events
    looks_of before events result after (taken.given can) = (turns _, tt)
    looks_of before events result after (taken.empty can) = (turns _, tt)
    looks_of before events result after (taken.opened can) = (turns _, tt)
    looks_of before events result after (taken.interrupted can why) = (turns _, tt)

    pub each_looks : EachSo (Asks step)
    each_looks = record { of = looks_of }

    seats_of : (before : Option ℕ) (events : List Event) (result : Result (Unit {0}) Refusal) (after : Option ℕ) → Seats step before events result after → All events
    seats_of before events result after (taken.opened can) = (turns _, tt)
    seats_of before events result after (taken.interrupted can why) = (turns _, tt)

    pub each_seats : EachSo (Seats step)
    each_seats = record { of = seats_of }

    changes_of : (before : Option ℕ) (events : List Event) (result : Result (Unit {0}) Refusal) (after : Option ℕ) → Changes step before events result after → All events
    changes_of before events result after (taken.done can) = (turns _, tt)
    changes_of before events result after (taken.interrupted can why) = (turns _, tt)

    pub each_changes : EachSo (Changes step)
    each_changes = record { of = changes_of }

  peeks_of : (grip : Grip) → ((turn : Turn) → Is (cache_turn (Peek (grip_text grip) Normal) turn))
      → (before : Option ℕ) (events : List Event) (result : Result Bool Refusal) (after : Option ℕ) → Peeks (grip_text grip) Normal before events result after → All events
  peeks_of grip turns before events result after taken.peeked = (turns _, tt)
  peeks_of grip turns before events result after (taken.interrupted can why) = (turns _, tt)

  pub looks_nonce : (id : Option (List ℕ)) → ((named : List ℕ) (turn : Turn) → Is (cache_turn (ask_nonce named) turn)) → EachSo (LooksForNonce id)
  looks_nonce None turns = each_returned None
  looks_nonce (Some id) turns = each_looks (turns id)

  looks_over_of : (id : Option (List ℕ)) → ((named : List ℕ) (turn : Turn) → Is (cache_turn (ask_nonce named) turn)) → (before : Option ℕ) (events : List Event) (result : Result (Option (List ℕ)) Refusal)
      (after : Option ℕ) → LooksOver id before events result after → All events
  looks_over_of id turns before events result after actions.no_nonce = tt
  looks_over_of id turns before events result after (actions.given can) = (turns _ _, tt)
  looks_over_of id turns before events result after actions.empty = (turns _ _, tt)
  looks_over_of id turns before events result after actions.stopping = (turns _ _, tt)
  looks_over_of id turns before events result after actions.no_memory = (turns _ _, tt)

  pub looks_over : (id : Option (List ℕ)) → ((named : List ℕ) (turn : Turn) → Is (cache_turn (ask_nonce named) turn)) → EachSo (LooksOver id)
  looks_over id turns = record { of = looks_over_of id turns }

  takes_seat_of : (grip : Grip) → ((turn : Turn) → Is (cache_turn (seat_for grip) turn)) → (before : Option ℕ) (events : List Event) (result : Result (Unit {0}) Refusal) (after : Option ℕ)
      → TakesSeat grip before events result after → All events
  takes_seat_of grip turns None events result after does = (each_seats turns).of None events result after does
  takes_seat_of grip turns (Some number) events result after does = (each_returned tt).of (Some number) events result after does

  pub takes_seat : (grip : Grip) → ((turn : Turn) → Is (cache_turn (seat_for grip) turn)) → EachSo (TakesSeat grip)
  takes_seat grip turns = record { of = takes_seat_of grip turns }

  closes_of : (keep : Option (List ℕ)) → ((number : ℕ) (turn : Turn) → Is (cache_turn (Close number keep) turn)) → (before : Option ℕ) (events : List Event) (result : Result (Unit {0}) Refusal)
      (after : Option ℕ) → Closes keep before events result after → All events
  closes_of keep turns before events result after taken.unheld = tt
  closes_of keep turns before events result after (taken.closed turn can) = (turns _ turn, tt)

  pub each_closes : (keep : Option (List ℕ)) → ((number : ℕ) (turn : Turn) → Is (cache_turn (Close number keep) turn)) → EachSo (Closes keep)
  each_closes keep turns = record { of = closes_of keep turns }

  -- ---- what is so beside the desk and the prompter
  module _ (still : (event : Event) → IsStill event → Is event) where
    one : (event : Event) → IsStill event → All (event ∷ [])
    one event is = (still event is, tt)

    pub writes_of : (text : List ℕ) → IsNotice text → (before : Option ℕ) (events : List Event) (result : Result (Unit {0}) Refusal) (after : Option ℕ) → Writes text before events result after → All events
    writes_of text noted before events result after client.written = one _ noted
    writes_of text noted before events result after (client.cut unsent is) = one _ tt

    pub inquires_of : (word : List ℕ) (most : ℕ) (before : Option ℕ) (events : List Event) (result : Result (List ℕ) Refusal) (after : Option ℕ) → Inquires session_lines word most before events result after → All events
    inquires_of word most before events result after (client.given is) = one _ tt
    inquires_of word most before events result after (client.not_given is) = one _ tt

    pub asks_secret : (word : List ℕ) → EachSo (AsksSecret word)
    asks_secret word = each_bind (record { of = writes_of (limit_line MAX_SECRET_LEN) of_passphrase }) (λ told. record { of = inquires_of word MAX_SECRET_LEN })

    finds_of : (grip : Grip) (before : Option ℕ) (events : List Event) (result : Result Bool Refusal) (after : Option ℕ) → Finds grip before events result after → All events
    finds_of grip before events result after small.found = one _ tt
    finds_of grip before events result after small.absent = one _ tt
    finds_of grip before events result after small.faulted = one _ tt
    finds_of grip before events result after small.no_memory = one _ tt

    pub finds : (grip : Grip) → EachSo (Finds grip)
    finds grip = record { of = finds_of grip }

    draws_of : (count : ℕ) (before : Option ℕ) (events : List Event) (result : Result (List ℕ) Refusal) (after : Option ℕ) → Draws count before events result after → All events
    draws_of count before events result after (small.drawn long) = one _ tt
    draws_of count before events result after small.faulted = one _ tt

    pub draws : (count : ℕ) → EachSo (Draws count)
    draws count = record { of = draws_of count }

    reads_file_of : (grip : Grip) (before : Option ℕ) (events : List Event) (result : Result _ Refusal) (after : Option ℕ) → ReadsFile grip before events result after → All events
    reads_file_of grip before events result after (actions.is_key is says) = one _ tt
    reads_file_of grip before events result after (actions.faulty is says) = one _ tt
    reads_file_of grip before events result after (actions.no_memory is) = (still _ tt, one _ tt)
    reads_file_of grip before events result after (actions.unread is) = one _ tt

    pub reads_file : (grip : Grip) → EachSo (ReadsFile grip)
    reads_file grip = record { of = reads_file_of grip }

    reads_listed_of : (grip : Grip) (before : Option ℕ) (events : List Event) (result : Result (Option Key) Refusal) (after : Option ℕ) → ReadsListed grip before events result after → All events
    reads_listed_of grip before events result after (actions.is_key is says) = one _ tt
    reads_listed_of grip before events result after (actions.faulty is says) = one _ tt
    reads_listed_of grip before events result after actions.absent = one _ tt
    reads_listed_of grip before events result after (actions.no_memory is) = (still _ tt, one _ tt)
    reads_listed_of grip before events result after (actions.unread other is) = one _ tt

    lists_of : (before : Option ℕ) (events : List Event) (result : Result (List Grip) Refusal) (after : Option ℕ) → ListsGrips before events result after → All events
    lists_of before events result after (actions.listed is) = one _ tt
    lists_of before events result after actions.faulted = one _ tt
    lists_of before events result after actions.no_memory = one _ tt

    pub lists : EachSo ListsGrips
    lists = record { of = lists_of }

    joins_grips_of : (grips : List Grip) (before : Option ℕ) (events : List Event) (result : Result (List ℕ) Refusal) (after : Option ℕ) → JoinsGrips grips before events result after → All events
    joins_grips_of grips before events result after actions.joined = tt
    joins_grips_of grips before events result after actions.no_memory = one _ tt

    pub joins_grips : (grips : List Grip) → EachSo (JoinsGrips grips)
    joins_grips grips = record { of = joins_grips_of grips }

    tells_of : (bytes : List ℕ) (before : Option ℕ) (events : List Event) (result : Result (List ℕ) Refusal) (after : Option ℕ) → Tells bytes before events result after → All events
    tells_of bytes before events result after (tells is) = tt

    pub told : (bytes : List ℕ) → EachSo (Tells bytes)
    told bytes = record { of = tells_of bytes }

    protects_of : (key : Key) (pass salt iv : List ℕ) (count : ℕ) (before : Option ℕ) (events : List Event) (result : Result (List ℕ) Refusal) (after : Option ℕ)
        → Protects key pass salt iv count before events result after → All events
    protects_of key pass salt iv count before events result after actions.made = tt
    protects_of key pass salt iv count before events result after actions.no_memory = one _ tt

    is_short_of : (key : Key) (before : Option ℕ) (events : List Event) (result : Result (Unit {0}) Refusal) (after : Option ℕ) → IsShort key before events result after → All events
    is_short_of key before events result after (actions.short few) = tt
    is_short_of key before events result after (actions.long many) = tt

    pub is_short : (key : Key) → EachSo (IsShort key)
    is_short key = record { of = is_short_of key }

    rewrites_of : (file list : List ℕ) (before : Option ℕ) (events : List Event) (result : Result (List ℕ) Refusal) (after : Option ℕ) → Rewrites file list before events result after → All events
    rewrites_of file list before events result after (files.canonical_file is) = tt
    rewrites_of file list before events result after (files.extended_file other with_list few) = tt
    rewrites_of file list before events result after (files.too_long new_file other with_list many) = tt
    rewrites_of file list before events result after (files.no_memory extended) = one _ tt

    names_key_of : (key : Key) (before : Option ℕ) (events : List Event) (result : Result Grip Refusal) (after : Option ℕ) → NamesKey key before events result after → All events
    names_key_of key before events result after (actions.named is) = tt
    names_key_of key before events result after actions.no_memory = one _ tt

    pub names_key : (key : Key) → EachSo (NamesKey key)
    names_key key = record { of = names_key_of key }

    wraps_key_of : (wrap : List ℕ) (key : Key) (before : Option ℕ) (events : List Event) (result : Result (List ℕ) Refusal) (after : Option ℕ) → WrapsKey wrap key before events result after → All events
    wraps_key_of wrap key before events result after actions.is_wrapped = tt
    wraps_key_of wrap key before events result after actions.no_memory = one _ tt

    pub wraps_key : (wrap : List ℕ) (key : Key) → EachSo (WrapsKey wrap key)
    wraps_key wrap key = record { of = wraps_key_of wrap key }

    asks_key_data_of : (before : Option ℕ) (events : List Event) (result : Result (List ℕ) Refusal) (after : Option ℕ) → AsksKeyData before events result after → All events
    asks_key_data_of before events result after (actions.asked inquires) = inquires_of (codes "KEYDATA") max_key_data before events result before inquires
    asks_key_data_of before events result after (actions.no_memory at_end) = (still _ tt, one _ tt)

    unwraps_of : (wrap wrapped : List ℕ) (before : Option ℕ) (events : List Event) (result : Result Key Refusal) (after : Option ℕ) → Unwraps wrap wrapped before events result after → All events
    unwraps_of wrap wrapped before events result after (actions.is_key says) = tt
    unwraps_of wrap wrapped before events result after (actions.refused says) = tt
    unwraps_of wrap wrapped before events result after actions.no_memory = one _ tt

    pub receives_key : (wrap : List ℕ) → EachSo (ReceivesKey wrap)
    receives_key wrap = each_bind (record { of = writes_of (limit_line max_key_data) of_key_data }) (λ told_so. each_bind (record { of = asks_key_data_of }) (λ wrapped. record { of = unwraps_of wrap wrapped }))

    pub is_free : (force : Bool) (grip : Grip) → EachSo (IsFree force grip)
    is_free true grip = each_returned tt
    is_free false grip = each_bind (finds grip) (λ there. each_wanted code.FileExists (not there))

    pub has_one : (grips : List Grip) → EachSo (HasOne grips)
    has_one [] = each_refused (Agent code.NoSecKey)
    has_one (grip ∷ more) = each_bind (finds grip) (λ there. each_unless there (has_one more))

    locks_of : (key : Key) (before : Option ℕ) (events : List Event) (result : Result LockedKey Refusal) (after : Option ℕ) → Locks key before events result after → All events
    locks_of key before events result after (passphrases.is_locked same locked) = tt
    locks_of key before events result after (passphrases.has_fault is) = tt
    locks_of key before events result after passphrases.no_memory = one _ tt

    pub locks : (key : Key) → EachSo (Locks key)
    locks key = record { of = locks_of key }

    tries_of : (locked : LockedKey) (pass : List ℕ) (before : Option ℕ) (events : List Event) (result : Result (Option _) Refusal) (after : Option ℕ) → TriesPassphrase locked pass before events result after → All events
    tries_of locked pass before events result after (passphrases.opens to) = tt
    tries_of locked pass before events result after (passphrases.stays closed) = tt
    tries_of locked pass before events result after passphrases.no_memory = one _ tt

    pub tries_found : (locked : LockedKey) (pass : Option (List ℕ)) → EachSo (TriesFound locked pass)
    tries_found locked None = each_returned None
    tries_found locked (Some pass) = record { of = tries_of locked pass }

    replaces_of : (grip : Grip) (file : List ℕ) (before : Option ℕ) (events : List Event) (result : Result (Unit {0}) Refusal) (after : Option ℕ) → Replaces grip file before events result after → All events
    replaces_of grip file before events result after actions.done = one _ tt
    replaces_of grip file before events result after (actions.not_done is) = one _ tt

    removes_of : (grip : Grip) (before : Option ℕ) (events : List Event) (result : Result (Unit {0}) Refusal) (after : Option ℕ) → Removes grip before events result after → All events
    removes_of grip before events result after actions.done = one _ tt
    removes_of grip before events result after (actions.not_done is) = one _ tt

    pub removes : (grip : Grip) → EachSo (Removes grip)
    removes grip = record { of = removes_of grip }

    module _ (peeked : (grip : Grip) (turn : Turn) → Is (cache_turn (Peek (grip_text grip) Normal) turn)) where
      pub tells_info : (grip : Grip) (key : Key) → EachSo (TellsKeyInfo grip key)
      tells_info grip key = each_bind (record { of = peeks_of grip (peeked grip) }) (λ cached. each_returned _)

      writes_info_of : (grip : Grip) (key : Key) (before : Option ℕ) (events : List Event) (result : Result (Unit {0}) Refusal) (after : Option ℕ) → WritesInfo grip (Some key) before events result after → All events
      writes_info_of grip key before events result after (stops does) = (tells_info grip key).of before events _ after does
      writes_info_of grip key before events result after (goes_on {first} {events = more} {value = line} {mid} does writes) =
          each_append Is first more ((tells_info grip key).of before first (Ok line) mid does) (writes_of line (told_info grip key does) mid more result after writes)

      writes_info : (grip : Grip) (key : Option Key) → EachSo (WritesInfo grip key)
      writes_info grip None = each_returned tt
      writes_info grip (Some key) = record { of = writes_info_of grip key }

      pub writes_infos : (grips : List Grip) → EachSo (WritesInfos grips)
      writes_infos [] = each_returned tt
      writes_infos (grip ∷ more) = each_bind (each_bind (record { of = reads_listed_of grip }) (λ key. writes_info grip key)) (λ told_so. writes_infos more)

    -- turns that store
    module _ (stored : (grip : Grip) (pass : List ℕ) (turn : Turn) → Is (cache_turn (put_key grip pass) turn)) where
      pub client_old : (rules : Rules) (options : OptionValues) (grip : Grip) (locked : LockedKey) → EachSo (ClientOld rules options grip locked)
      unfolding ClientOld
      client_old rules options grip locked =
          each_bind (asks_secret (codes "PASSPHRASE")) (λ pass. each_bind (record { of = tries_of locked pass }) (λ tried. each_bind (each_needed code.BadPass tried)
          (λ opened. each_bind (each_changes (stored grip pass)) (λ kept. each_returned opened))))

      module _ (closed : (number : ℕ) (keep : Option (List ℕ)) (turn : Turn) → Is (cache_turn (Close number keep) turn)) where
        keeps_new_of : (grip : Grip) (pass : List ℕ) (before : Option ℕ) (events : List Event) (result : Result (Unit {0}) Refusal) (after : Option ℕ) → KeepsNew grip pass before events result after → All events
        keeps_new_of grip pass None events result after does = (each_changes (stored grip pass)).of None events result after does
        keeps_new_of grip pass (Some number) events result after does = closes_of (Some pass) (λ ticket turn. closed ticket (Some pass) turn) (Some number) events result after does

        pub rewrites_file : (rules : Rules) (options : OptionValues) (grip : Grip) (file : List ℕ) (key : Key) (pass : List ℕ) → EachSo (RewritesFile rules options grip file key pass)
        unfolding RewritesFile
        rewrites_file rules options grip file key pass =
            each_bind (draws 20) (λ drawn. each_bind (record { of = protects_of key pass (take 8 drawn) (drop 8 drawn) options.s2k_count })
            (λ list. each_bind (record { of = rewrites_of file list }) (λ new_file. each_bind (record { of = replaces_of grip new_file }) (λ replaced. record { of = keeps_new_of grip pass }))))

        pub stores_key : ((id pass : List ℕ) (turn : Turn) → Is (cache_turn (Put id Nonce Default pass) turn)) → (count : ℕ) (key : Key) (grip : Grip) (pass : List ℕ) → EachSo (StoresKey count key grip pass)
        stores_key nonces count key grip pass =
            each_bind (draws 32) (λ drawn. each_bind (record { of = protects_of key pass (take 8 drawn) (take 12 (drop 8 drawn)) count })
            (λ file. each_bind (each_changes (nonces (hex_text (drop 20 drawn)) pass)) (λ cached. each_bind (record { of = replaces_of grip file })
            (λ replaced. each_bind (record { of = keeps_new_of grip pass }) (λ kept. each_returned (drop 20 drawn))))))

    pub client_new : EachSo ClientNew
    unfolding ClientNew
    client_new = each_bind (asks_secret (codes "NEW_PASSPHRASE")) (λ pass. each_bind (each_wanted code.BadPass (not (length pass == 0))) (λ some. each_returned pass))

    -- ---- prompts
    module _ (calls : (event : PromptEvent) → Is (Port (Prompt event))) where
      pub each_shown : {prompt : List PromptEvent} {shown : List Event} → AnyInSession session_lines prompt shown → All shown
      each_shown session.none = tt
      each_shown (session.called more) = (calls _, each_shown more)
      each_shown (session.noted says more) = (still _ tt, each_shown more)
      each_shown (session.out_of_memory more) = (calls _, each_shown more)

      module _ {A : Type 0} {rules : Rules} {options : OptionValues} {description field : _} {quality : _} {plan : _} {Rule : _} {Gives : Asked → Result A Refusal → Type 0} where
        prompts_of : (before : Option ℕ) (events : List Event) (result : Result A Refusal) (after : Option ℕ) → PromptsFor session_lines rules options description field quality plan Rule Gives before events result after → All events
        prompts_of before events result after (prompted spec is prompt gives) = each_shown prompt.in_session

        pub prompts_for : EachSo (PromptsFor session_lines rules options description field quality plan Rule Gives)
        prompts_for = record { of = prompts_of }

      module _ (rules : Rules) (options : OptionValues) (question : List ℕ) where
        agrees_of : (before : Option ℕ) (events : List Event) (result : Result (Unit {0}) Refusal) (after : Option ℕ) → AgreesTo session_lines rules options question before events result after → All events
        agrees_of before events result after (consent.consents spec is prompt) = each_shown prompt.in_session
        agrees_of before events result after (consent.refused spec is prompt refusal) = each_shown prompt.in_session

        pub agrees_to : EachSo (AgreesTo session_lines rules options question)
        agrees_to = record { of = agrees_of }

  -- ---- what follows a request's actions

  module _ (gives_back : (number : ℕ) (turn : Turn) → Is (cache_turn (Close number None) turn)) where
    -- a ticket that is held then is given back
    pub each_behind : {held : Option ℕ} {back : List Event} (last : List Event) → Closes None held back (Ok tt) None → All last → All (back ++ last)
    each_behind last taken.unheld each = each
    each_behind last (taken.closed turn can) each = (gives_back _ turn, each)

    module _ (said : (text : List ℕ) → Is (Sent text)) where
      -- and the request is answered, where it is
      each_said : (line : Option (List ℕ)) → All (said_last line)
      each_said None = tt
      each_said (Some text) = (said text, tt)

      pub each_answer : {held : Option ℕ} {back : List Event} (line : Option (List ℕ)) → Closes None held back (Ok tt) None → All (back ++ said_last line)
      each_answer line closes = each_behind (said_last line) closes (each_said line)
