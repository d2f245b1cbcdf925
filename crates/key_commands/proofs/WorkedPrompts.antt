-- A row of each request on keys that prompts the user: what is done and written for it, in order.
use Rattle.std.{specs.Prelude.{◌≡◌, ◌≤◌, ◌++◌, ℕ, true, false, List, [], ◌∷◌, length, take, drop, codes, Some, None, Ok, refl}, proofs.Common.arith}
use Rattle.agent_ask.specs.{PinActions.prompted, Session.{ClientActions.{written, given as sent}, PortCalls.{Replaced, Removed}, ActionExchanges.{answered, refused}, Actions.{goes_on, stops, returns}}}
use Rattle.agent_ask.specs.{Events.{Call, Start, GetPin, Confirm, Shut}, Plans.{IsSpec, text}}
use Rattle.agent_ask.specs.{Prompts.{MeetsCheck, typed, Tries, IsTry, Repeats}, Session.{SessionEvents.{Sent, Inquiry, cache_turn}, TurnActions.{Asks, Seats, done, unheld, closed}}}
use Rattle.agent_ask.specs.{Tests.test_of, declared.prompt.prompter.Outcome.TheVariants.Pin}
use Rattle.agent_ask.{specs.declared.prompt.{spec.PromptSpec.PromptSpec, test.Tested.TheVariants.{Yes, No}}, proofs.WorkedPrompts.{any_given, shown_by, prompts, asks_consent, first_try, second_try, third_try}}
use Rattle.agent_ports.specs.declared.grip.Grip.{Grip}
use Rattle.{agent_ports.specs.declared.keys.{KeyDone.TheVariants.Done as IsDone, KeyRead.{KeyRead, TheVariants.{Found, Absent}}}, assuan_escape.specs.Escapes.hex_text, assuan_server.specs.{Clients.session_lines, Inquiries.Data}}
use Rattle.{assuan_server.specs.Written.{ok, limit_line, failed, failed_at_pinentry, IsDataAnswer}, cache_policy.specs.{Turns.{Given, Open, Done, FitsStep}, declared.{grant.Grant.Grant, life.Life.TheVariants.Default}}}
use Rattle.{cache_policy.specs.declared.{mark.MarkStep.TheVariants.{Seat, Close, Put, Clear}, mode.Mode.TheVariants.{Normal, Nonce}}, key_lines.specs.Canon.is_canonical, secret_file.specs.Opens.{LockedKey, IsLocked, OpensTo}}
use Rattle.{secret_file.specs.Protects.{ocb_protection, protected_file}, session_client.specs.{Asking.Asked, declared.refusal.Refusal.TheVariants.{Agent, Pinentry}}, session_options.specs.OptionValues.OptionValues}
use Rattle.{session_options.specs.declared.rules.Rules.Rules, sexp_canonical.specs.Tree.Tree, sexp_keys.specs.{Key.Key, Lists.{key_list_of, grip_of}, declared.algorithm.Algorithm.Algorithm}}
use Rattle.key_commands.specs.{Events.{Event, called, read, drew}, Exchanges.{KeyExchange, key_reply, ImportKeyReplies, ExportKeyReplies, PasswdReplies, VerifyReplies, RewritesFile, DeleteKeyReplies}, Files.{FileSays, canonical_file}}
use Rattle.key_commands.specs.KeyActions.{file_in, tells, short, made, named, asked, is_wrapped, ReadsFile, Unwraps, LooksOver, Replaces, Removes}
use Rattle.key_commands.specs.{Lines.{grip_text, described, old_description, new_description, delete_description, field_text, nonce_line, max_key_data}, Actions.{found, absent, drawn}}
use Rattle.key_commands.specs.{Passphrases.{ask_key, seat_for, is_locked, opens, OpensBy, OpensLocked, IsOpened, opens_by}, Wrapping.{wrapped_key, WrappedSays}}
use Rattle.key_commands.specs.declared.{request.KeyRequest.TheVariants.{ImportKey, ExportKey, Passwd, DeleteKey}, went.KeyWent.TheVariants.On, keywrap_key.WrapKeys.WrapKeys, wrapping.TheConstants.MAX_LIST_LEN}
use Rattle.agent_ask.specs.ConsentActions as consent
use Rattle.agent_ask.specs.declared.prompt.consent.Agreed.TheVariants as agreed
use Rattle.agent_ask.specs.declared.prompt.prompter.Consent.TheVariants as consented
use Rattle.agent_ask.specs.declared.prompt.prompter.Opened.TheVariants as opening
use Rattle.cache_policy.specs.declared.mark.Way.TheVariants as way
use Rattle.session_client.specs.declared.code.Code.TheVariants as code
use Rattle.session_options.specs.declared.options.PinMode.TheVariants as mode

-- a new passphrase has eight bytes at least, one of which is no letter
weak_is : ¬ MeetsCheck (Some (8, 1)) (codes "abcdefgh")
weak_is met = omega (arith, met.1)

good_is : MeetsCheck (Some (8, 1)) (codes "abcdefg1")
good_is = (omega arith, omega arith)

-- three tries, each of which says what failed the one before
abbrev third_pin : List ℕ → List ℕ → List ℕ → List Call
third_pin first second third =
    GetPin [] (Pin first) ∷ GetPin (codes "Bad passphrase (try 2 of 3)") (Pin second) ∷ GetPin (codes "Bad passphrase (try 3 of 3)") (Pin third) ∷ []

-- a new one, of which the first is too weak
abbrev second_pin : List Call
second_pin =
    GetPin [] (Pin (codes "abcdefgh"))
    ∷ GetPin (codes "This passphrase is too weak (try 2 of 3)") (Pin (codes "abcdefg1")) ∷ GetPin (codes "Please repeat the passphrase") (Pin (codes "abcdefg1")) ∷ []

-- calls of the prompter as a session's events
abbrev shown : List Call → List Event
shown = shown_by session_lines

-- typed, and repeated once
abbrev new_pin : List Call
new_pin = GetPin [] (Pin (codes "abcdefg1")) ∷ GetPin (codes "Please repeat the passphrase") (Pin (codes "abcdefg1")) ∷ []

module _ (any_rules : Rules) (any_options : OptionValues) (wraps : WrapKeys) (grip : Grip) (wrap : List ℕ) (spec : PromptSpec) (ticket pid : ℕ) where
  abbrev rules : Rules
  rules = record any_rules { min_len = 8; min_nonalpha = 1 }

  -- a user who is asked, and a client that isn't told of it
  abbrev options : OptionValues
  options = record any_options { mode = mode.Ask; notify = false }

  abbrev exporting : WrapKeys
  exporting = record { import = wraps.import; export = Some wrap }

  abbrev importing : WrapKeys
  importing = record { import = Some wrap; export = wraps.export }

  abbrev start : PromptSpec → Call
  start which = Start which (opening.Pid pid)

  -- the request closes its prompts, and keeps nothing
  abbrev given_up : Event
  given_up = cache_turn (Close ticket None) Done

  abbrev kept : List ℕ → Event
  kept pass = cache_turn (Close ticket (Some pass)) Done

  -- a key's passphrase isn't cached, and a prompt is opened
  abbrev opened : Event
  opened = cache_turn (ask_key grip way.Prompt) (Open ticket)

  -- ---- a protected key

  module _ (algorithm : Algorithm) (public private further : List Tree) (file : List ℕ) (clear : Key) (locked : LockedKey) (answer : KeyRead) (is : file_in answer ≡ Some file)
      (says : FileSays file (Ok (record { algorithm = algorithm; is_clear = false; public = public; private = private; further = further })))
      (key_is : locked.key ≡ record { algorithm = algorithm; is_clear = false; public = public; private = private; further = further }) (locked_is : IsLocked locked)
      (is_old : IsSpec rules options (text (described options.description (old_description grip))) (text field_text) false spec) where
    -- EXPORT_KEY: the third passphrase opens the key, and is kept
    third_opens : {first second third text : List ℕ} → ¬ OpensBy locked first → ¬ OpensBy locked second → OpensTo locked third clear → IsDataAnswer (wrapped_key wrap clear) text
        → KeyExchange rules options exporting (ExportKey grip None)
        (read grip answer ∷ opened ∷ (shown (start spec ∷ (third_pin first second third ++ Shut ∷ [])) ++ kept third ∷ Sent text ∷ [])) exporting On
    unfolding ExportKeyReplies OpensLocked
    third_opens {first} {second} {third} {text} not_first not_second opens_to data_is =
        answered (read grip answer ∷ opened ∷ (shown (start spec ∷ (third_pin first second third ++ Shut ∷ [])) ++ kept third ∷ [])) None (key_reply exporting text)
        (goes_on returns (goes_on (ReadsFile.is_key is says)
        (goes_on {first = opened ∷ shown (start spec ∷ (third_pin first second third ++ Shut ∷ []))}
        (goes_on (is_locked key_is locked_is) (goes_on returns (goes_on returns (goes_on (Asks.opened tt) (goes_on returns
        (goes_on returns (prompted spec is_old (prompts session_lines pid (third_pin first second third) refl
        (Tries.again {events = typed [] first ∷ []} {tests = test_of first No ∷ []} first_try (IsTry.bad tt not_first)
        (Tries.again {events = typed (codes "Bad passphrase (try 2 of 3)") second ∷ []} {tests = test_of second No ∷ []} second_try (IsTry.bad tt not_second)
        (Tries.good third_try (IsTry.accepted tt (clear, opens_to) Repeats.same))))) (opens_by opens_to))))))))
        (goes_on (closed Done tt) (goes_on is_wrapped (goes_on (tells data_is) returns)))))) unheld

    -- three that don't are the last, and nothing is kept
    none_opens : {first second third : List ℕ} → ¬ OpensBy locked first → ¬ OpensBy locked second → ¬ OpensBy locked third
        → KeyExchange rules options exporting (ExportKey grip None)
        (read grip answer ∷ opened ∷ (shown (start spec ∷ (third_pin first second third ++ Shut ∷ [])) ++ given_up ∷ Sent (failed code.BadPass) ∷ [])) exporting On
    unfolding ExportKeyReplies OpensLocked
    none_opens {first} {second} {third} not_first not_second not_third =
        refused (read grip answer ∷ opened ∷ shown (start spec ∷ (third_pin first second third ++ Shut ∷ []))) (Some ticket) (Agent code.BadPass)
        (goes_on returns (goes_on (ReadsFile.is_key is says)
        (stops (goes_on (is_locked key_is locked_is) (goes_on returns (goes_on returns (goes_on (Asks.opened tt) (goes_on returns
        (goes_on returns (prompted spec is_old (prompts session_lines pid (third_pin first second third) refl
        (Tries.again {events = typed [] first ∷ []} {tests = test_of first No ∷ []} first_try (IsTry.bad tt not_first)
        (Tries.again {events = typed (codes "Bad passphrase (try 2 of 3)") second ∷ []} {tests = test_of second No ∷ []} second_try (IsTry.bad tt not_second)
        (Tries.again {events = typed (codes "Bad passphrase (try 3 of 3)") third ∷ []} {tests = test_of third No ∷ []} third_try (IsTry.bad tt not_third) (Tries.bad (omega arith)))))) (IsOpened.refused refl))))))))))) (closed Done tt)

    -- PASSWD --verify: whatever is cached, the user is asked
    verified : {pass : List ℕ} → OpensTo locked pass clear
        → KeyExchange rules options wraps (Passwd grip None None true)
        (read grip answer ∷ cache_turn (seat_for grip) (Open ticket) ∷ (shown (start spec ∷ GetPin [] (Pin pass) ∷ Shut ∷ []) ++ kept pass ∷ Sent ok ∷ [])) wraps On
    unfolding VerifyReplies
    verified {pass} opens_to =
        answered (read grip answer ∷ cache_turn (seat_for grip) (Open ticket) ∷ (shown (start spec ∷ GetPin [] (Pin pass) ∷ Shut ∷ []) ++ kept pass ∷ [])) None (key_reply wraps ok)
        (goes_on (ReadsFile.is_key is says)
        (goes_on {first = cache_turn (seat_for grip) (Open ticket) ∷ shown (start spec ∷ GetPin [] (Pin pass) ∷ Shut ∷ [])}
        (goes_on (is_locked key_is locked_is) (goes_on (Seats.opened tt)
        (prompted spec is_old (prompts session_lines pid (GetPin [] (Pin pass) ∷ []) refl (Tries.good first_try (IsTry.accepted tt (clear, opens_to) Repeats.same))) (opens_by opens_to))))
        (goes_on (closed Done tt) returns))) unheld

    -- ---- PASSWD of a canonical file

    module _ (drawn_bytes : List ℕ) (other : PromptSpec) (is_new : IsSpec rules options (text (new_description grip)) (text field_text) true other) (in_form : is_canonical file ≡ true)
        (within : length (key_list_of clear) ≤ MAX_LIST_LEN) (twenty : length drawn_bytes ≡ 20) where
      abbrev replaced : Event
      replaced = called (Replaced grip (protected_file clear (ocb_protection clear (codes "abcdefg1") (take 8 drawn_bytes) (drop 8 drawn_bytes) options.s2k_count None) None) IsDone)

      -- The old passphrase is cached. The seat is taken for the new one, and it is kept as the ticket is given back.
      changed_by_user : {grant : Grant} → FitsStep (ask_key grip way.Prompt) (Given grant) → OpensTo locked grant.entry.secret clear
          → KeyExchange rules options wraps (Passwd grip None None false)
          (read grip answer ∷ cache_turn (ask_key grip way.Prompt) (Given grant) ∷ cache_turn (seat_for grip) (Open ticket)
          ∷ (shown (start other ∷ (new_pin ++ Shut ∷ [])) ++ drew drawn_bytes ∷ replaced ∷ kept (codes "abcdefg1") ∷ Sent ok ∷ [])) wraps On
      unfolding PasswdReplies OpensLocked RewritesFile
      changed_by_user {grant} of_key opens_to =
          answered (read grip answer ∷ cache_turn (ask_key grip way.Prompt) (Given grant) ∷ cache_turn (seat_for grip) (Open ticket)
          ∷ (shown (start other ∷ (new_pin ++ Shut ∷ [])) ++ drew drawn_bytes ∷ replaced ∷ kept (codes "abcdefg1") ∷ [])) None (key_reply wraps ok)
          (goes_on (ReadsFile.is_key is says)
          (goes_on {first = cache_turn (ask_key grip way.Prompt) (Given grant) ∷ []}
          (goes_on (is_locked key_is locked_is) (goes_on returns (goes_on returns (goes_on (Asks.given of_key) (goes_on (opens opens_to) returns)))))
          (goes_on {first = cache_turn (seat_for grip) (Open ticket) ∷ (shown (start other ∷ (new_pin ++ Shut ∷ [])) ++ drew drawn_bytes ∷ replaced ∷ kept (codes "abcdefg1") ∷ [])}
          (goes_on {first = []} {value = tt} {mid = None} (short within)
          (goes_on {first = cache_turn (seat_for grip) (Open ticket) ∷ shown (start other ∷ (new_pin ++ Shut ∷ []))}
          (goes_on returns (goes_on (Seats.opened tt)
          (prompted other is_new (prompts session_lines pid new_pin refl (Tries.good {tests = test_of (codes "abcdefg1") Yes ∷ []} first_try (IsTry.accepted good_is tt Repeats.same))) any_given)))
          (goes_on (drawn twenty) (goes_on made (goes_on (canonical_file in_form) (goes_on Replaces.done (closed Done tt)))))))
          returns))) unheld

      -- Nothing is cached: the old one and the new one are asked for by two prompts under one ticket.
      changed_by_two_prompts : {old : List ℕ} → OpensTo locked old clear
          → KeyExchange rules options wraps (Passwd grip None None false)
          (read grip answer ∷ opened ∷ (shown (start spec ∷ GetPin [] (Pin old) ∷ Shut ∷ start other ∷ (new_pin ++ Shut ∷ []))
          ++ drew drawn_bytes ∷ replaced ∷ kept (codes "abcdefg1") ∷ Sent ok ∷ [])) wraps On
      unfolding PasswdReplies OpensLocked RewritesFile
      changed_by_two_prompts {old} opens_to =
          answered (read grip answer ∷ opened ∷ (shown (start spec ∷ GetPin [] (Pin old) ∷ Shut ∷ start other ∷ (new_pin ++ Shut ∷ [])) ++ drew drawn_bytes ∷ replaced ∷ kept (codes "abcdefg1") ∷ [])) None
          (key_reply wraps ok)
          (goes_on (ReadsFile.is_key is says)
          (goes_on {first = opened ∷ shown (start spec ∷ GetPin [] (Pin old) ∷ Shut ∷ [])}
          (goes_on (is_locked key_is locked_is) (goes_on returns (goes_on returns (goes_on (Asks.opened tt) (goes_on returns
          (goes_on returns (prompted spec is_old (prompts session_lines pid (GetPin [] (Pin old) ∷ []) refl (Tries.good first_try (IsTry.accepted tt (clear, opens_to) Repeats.same))) (opens_by opens_to))))))))
          (goes_on {first = shown (start other ∷ (new_pin ++ Shut ∷ [])) ++ drew drawn_bytes ∷ replaced ∷ kept (codes "abcdefg1") ∷ []}
          (goes_on {first = []} {value = tt} {mid = Some ticket} (short within)
          (goes_on {first = shown (start other ∷ (new_pin ++ Shut ∷ []))}
          (goes_on returns (goes_on returns
          (prompted other is_new (prompts session_lines pid new_pin refl (Tries.good {tests = test_of (codes "abcdefg1") Yes ∷ []} first_try (IsTry.accepted good_is tt Repeats.same))) any_given)))
          (goes_on (drawn twenty) (goes_on made (goes_on (canonical_file in_form) (goes_on Replaces.done (closed Done tt)))))))
          returns))) unheld

  -- ---- IMPORT_KEY

  module _ (key : Key) (wrapped drawn_bytes : List ℕ) (says : WrappedSays wrap wrapped (Ok key)) (named_so : grip.0 ≡ grip_of key) (long : length drawn_bytes ≡ 32)
      (is_new : IsSpec rules options (text (new_description grip)) (text field_text) true spec) where
    -- The new passphrase is kept by the nonce, whose digits are told, before the file is there, and for the key by the return of the ticket behind it.
    imported : KeyExchange rules options importing (ImportKey false None)
        (Sent (limit_line max_key_data) ∷ Inquiry (codes "KEYDATA") [] max_key_data (Asked (Data wrapped)) ∷ read grip Absent ∷ cache_turn (seat_for grip) (Open ticket)
        ∷ (shown (start spec ∷ (second_pin ++ Shut ∷ [])) ++ drew drawn_bytes ∷ cache_turn (Put (hex_text (drop 20 drawn_bytes)) Nonce Default (codes "abcdefg1")) Done
        ∷ called (Replaced grip (protected_file key (ocb_protection key (codes "abcdefg1") (take 8 drawn_bytes) (take 12 (drop 8 drawn_bytes)) options.s2k_count None) None) IsDone)
        ∷ kept (codes "abcdefg1") ∷ Sent (nonce_line (hex_text (drop 20 drawn_bytes)) ++ ok) ∷ [])) importing On
    unfolding ImportKeyReplies
    imported =
        answered (Sent (limit_line max_key_data) ∷ Inquiry (codes "KEYDATA") [] max_key_data (Asked (Data wrapped)) ∷ read grip Absent ∷ cache_turn (seat_for grip) (Open ticket)
        ∷ (shown (start spec ∷ (second_pin ++ Shut ∷ [])) ++ drew drawn_bytes ∷ cache_turn (Put (hex_text (drop 20 drawn_bytes)) Nonce Default (codes "abcdefg1")) Done
        ∷ called (Replaced grip _ IsDone) ∷ kept (codes "abcdefg1") ∷ [])) None
        (key_reply importing (nonce_line (hex_text (drop 20 drawn_bytes)) ++ ok))
        (goes_on returns (goes_on (goes_on written (goes_on (asked (sent refl)) (Unwraps.is_key says))) (goes_on (named named_so) (goes_on (goes_on absent returns)
        (goes_on {first = cache_turn (seat_for grip) (Open ticket) ∷ shown (start spec ∷ (second_pin ++ Shut ∷ []))}
        (goes_on LooksOver.no_nonce (goes_on (Seats.opened tt) (prompted spec is_new (prompts session_lines pid second_pin refl
        (Tries.again {events = typed [] (codes "abcdefgh") ∷ []} {tests = []} first_try (IsTry.weak weak_is)
        (Tries.good {tests = test_of (codes "abcdefg1") Yes ∷ []} second_try (IsTry.accepted good_is tt Repeats.same)))) any_given)))
        (goes_on {first = drew drawn_bytes ∷ cache_turn (Put (hex_text (drop 20 drawn_bytes)) Nonce Default (codes "abcdefg1")) Done ∷ called (Replaced grip _ IsDone) ∷ kept (codes "abcdefg1") ∷ []}
        (goes_on (drawn long) (goes_on made (goes_on (done tt) (goes_on Replaces.done (goes_on (closed Done tt) returns))))) returns)))))) unheld

  -- ---- DELETE_KEY

  abbrev seated : Event
  seated = cache_turn (Seat None None) (Open ticket)

  module _ (is_question : consent.IsQuestion rules options (described options.description (delete_description grip)) spec) where
    deleted_by_consent : {file : _} → KeyExchange rules options wraps (DeleteKey grip false)
        (read grip (Found file) ∷ seated ∷ (shown (start spec ∷ Confirm consented.Yes ∷ Shut ∷ [])
        ++ called (Removed grip IsDone) ∷ cache_turn (Clear (grip_text grip) Normal) Done ∷ given_up ∷ Sent ok ∷ [])) wraps On
    unfolding DeleteKeyReplies
    deleted_by_consent =
        answered (read grip (Found _) ∷ seated ∷ (shown (start spec ∷ Confirm consented.Yes ∷ Shut ∷ []) ++ called (Removed grip IsDone) ∷ cache_turn (Clear (grip_text grip) Normal) Done ∷ [])) (Some ticket)
        (key_reply wraps ok)
        (goes_on found (goes_on returns
        (goes_on {first = seated ∷ shown (start spec ∷ Confirm consented.Yes ∷ Shut ∷ [])} (goes_on (Seats.opened tt) (consent.AgreesTo.consents spec is_question (asks_consent session_lines pid consented.Yes)))
        (goes_on Removes.done (goes_on (done tt) returns))))) (closed Done tt)

    -- the user says no, and the file stays
    not_deleted : {file : _} → KeyExchange rules options wraps (DeleteKey grip false)
        (read grip (Found file) ∷ seated ∷ (shown (start spec ∷ Confirm consented.No ∷ Shut ∷ []) ++ given_up ∷ Sent (failed_at_pinentry code.NotConfirmed) ∷ [])) wraps On
    unfolding DeleteKeyReplies
    not_deleted =
        refused (read grip (Found _) ∷ seated ∷ shown (start spec ∷ Confirm consented.No ∷ Shut ∷ [])) (Some ticket) (Pinentry code.NotConfirmed)
        (goes_on found (goes_on returns
        (stops (goes_on (Seats.opened tt) (consent.AgreesTo.refused {answer = agreed.No} spec is_question (asks_consent session_lines pid consented.No) refl))))) (closed Done tt)
