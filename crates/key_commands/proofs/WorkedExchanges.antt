-- A row of each request on keys that prompts nobody: what is done and written for it.
use Rattle.std.{specs.Prelude.{◌≡◌, ◌≤◌, ◌==◌, not, ℕ, true, false, List, [], ◌∷◌, ◌++◌, length, take, drop, replicate, codes, Some, None, Ok, refl}, proofs.{Common.{sym, subst}, lemmas.List.Elements.All-nil}}
use Rattle.agent_ask.specs.Session.{ClientActions.{written, given as sent}, PortCalls.{Listed, Replaced, Removed}, SessionEvents.{Sent, Inquiry, cache_turn}, ActionExchanges.{answered, refused}, Actions.{goes_on, stops, returns, refuses, wanted}}
use Rattle.{agent_ask.specs.Session.TurnActions.{given, empty, peeked, unheld, done}, agent_ports.specs.declared.{grip.Grip.Grip, keys.{KeyDone.TheVariants.Done as IsDone, KeyRead.{KeyRead, TheVariants.{Found, Absent}}, KeyNames.{KeyNames, TheVariants.Failed}}}}
use Rattle.{assuan_server.specs.{Inquiries.Data, Written.{failed, ok, limit_line, IsDataAnswer}}, session_client.specs.declared.{code.Code.TheVariants.{NoSecKey, Parameter, General, FileExists, BadPass}, refusal.Refusal.TheVariants.Agent}}
use Rattle.{assuan_escape.specs.DataLines.IsPiece, session_client.specs.Asking.Asked, cache_policy.specs.declared.{grant.Grant.Grant, mark.{MarkStep.TheVariants.{Peek, Put, Clear}, Way.TheVariants.Quiet}, mode.Mode.TheVariants.{Normal, Nonce}, life.Life.TheVariants.Default}}
use Rattle.{cache_policy.specs.{declared.secret.TheConstants.MAX_SECRET_LEN, Turns.{Given, Empty, Held, Done, FitsStep}}, assuan_escape.specs.Escapes.hex_text, secret_file.specs.Opens.{LockedKey, IsLocked, OpensTo}}
use Rattle.{secret_file.specs.Protects.{ocb_protection, protected_file}, session_options.specs.{OptionValues.OptionValues, declared.rules.Rules.Rules}, key_lines.specs.Canon.is_canonical, sexp_canonical.specs.Tree.Tree}
use Rattle.sexp_keys.specs.{Key.Key, Lists.{key_list_of, grip_of}, declared.algorithm.Algorithm.Algorithm}
use Rattle.key_commands.specs.{Wrapping.{wrapped_key, WrappedSays}, Events.{Event, called, read, drew, not_drawn}}
use Rattle.key_commands.specs.Exchanges.{KeyExchange, key_reply, with_wrap_key, HaveKeyReplies, ListGripsReplies, KeyInfoReplies, ListKeysReplies, KeyWrapReplies, ImportKeyReplies, ExportKeyReplies, PasswdReplies, RewritesFile, DeleteKeyReplies}
use Rattle.key_commands.specs.{Files.{FileSays, canonical_file}, KeyActions.{is_key, file_in, grips_in, tells, short, made, done as replaced, listed, named, asked, is_wrapped, joined, ListsGrips, ReadsListed, LooksOver, Unwraps, Removes}}
use Rattle.key_commands.specs.{Lines.{info_line, grip_text, nonce_line, max_key_data}, Actions.{found, absent, drawn, faulted}, Passphrases.{ask_nonce, ask_key, put_key, is_locked, opens, OpensLocked, ClientOld, ClientNew}}
use Rattle.key_commands.specs.declared.{request.{Direction.TheVariants.Import, KeyRequest.TheVariants.{HaveKey, ListGrips, KeyInfo, ListKeys, KeyWrap, ImportKey, ExportKey, Passwd, DeleteKey}}, wrapping.TheConstants.MAX_LIST_LEN}
use Rattle.key_commands.specs.declared.{went.KeyWent.TheVariants.On, keywrap_key.WrapKeys.WrapKeys}
use Rattle.session_options.specs.declared.options.PinMode.TheVariants as mode

-- the line of a clear key that isn't cached
clear_line : info_line (record { 0 = 0 ∷ replicate 18 170 ++ 255 ∷ [] }) false true ≡ codes "S KEYINFO 00" ++ replicate 36 65 ++ codes "FF D - - - C - - -" ++ 10 ∷ []
clear_line = refl

-- and of a protected one that is
protected_line : info_line (record { 0 = replicate 20 0 }) true false ≡ codes "S KEYINFO " ++ replicate 40 48 ++ codes " D - - 1 P - - -" ++ 10 ∷ []
protected_line = refl

module _ (rules : Rules) (options : OptionValues) (wraps : WrapKeys) (grip : Grip) where
  -- a key is exported before there is a wrapping key
  no_export_key : KeyExchange rules options (record { import = wraps.import; export = None }) (ExportKey grip None) (Sent (failed Parameter) ∷ [])
      (record { import = wraps.import; export = None }) On
  unfolding ExportKeyReplies
  no_export_key = refused [] None (Agent Parameter) (stops refuses) unheld

  -- what is known of a clear key
  clear_info : {algorithm : Algorithm} {public private further : List Tree} {file : List ℕ} (answer : KeyRead) → file_in answer ≡ Some file
      → FileSays file (Ok (record { algorithm = algorithm; is_clear = true; public = public; private = private; further = further }))
      → KeyExchange rules options wraps (KeyInfo grip) (read grip answer ∷ cache_turn (Peek (grip_text grip) Normal) (Held false) ∷ Sent (info_line grip false true ++ ok) ∷ []) wraps On
  unfolding KeyInfoReplies
  clear_info answer file says =
      answered (read grip answer ∷ cache_turn (Peek (grip_text grip) Normal) (Held false) ∷ []) None (key_reply wraps (info_line grip false true ++ ok))
      (goes_on (is_key file says) (goes_on (goes_on peeked returns) returns)) unheld

  -- of two keys the second is there, and no further one is looked for
  second_is_there : (other : Grip) {file : _} → KeyExchange rules options wraps (HaveKey (other ∷ grip ∷ grip ∷ [])) (read other Absent ∷ read grip (Found file) ∷ Sent ok ∷ []) wraps On
  unfolding HaveKeyReplies
  second_is_there other = answered (read other Absent ∷ read grip (Found _) ∷ []) None (key_reply wraps ok)
      (goes_on (goes_on absent (goes_on found returns)) returns) unheld

  -- none is there
  none_is_there : KeyExchange rules options wraps (HaveKey (grip ∷ [])) (read grip Absent ∷ Sent (failed NoSecKey) ∷ []) wraps On
  unfolding HaveKeyReplies
  none_is_there = refused (read grip Absent ∷ []) None (Agent NoSecKey) (stops (goes_on absent refuses)) unheld

  -- the grips of two keys
  two_grips : (other : Grip) (names : KeyNames) (text : List ℕ) → grips_in names ≡ Some (other ∷ grip ∷ []) → IsDataAnswer (other.0 ++ (grip.0 ++ [])) text
      → KeyExchange rules options wraps ListGrips (called (Listed names) ∷ Sent text ∷ []) wraps On
  unfolding ListGripsReplies
  two_grips other names text are data_is = answered (called (Listed names) ∷ []) None (key_reply wraps text) (goes_on (listed are) (goes_on joined (goes_on (tells data_is) returns))) unheld

  -- of none
  no_grips : (names : KeyNames) → grips_in names ≡ Some [] → KeyExchange rules options wraps ListGrips (called (Listed names) ∷ Sent ok ∷ []) wraps On
  unfolding ListGripsReplies
  no_grips names are =
      let nothing : IsDataAnswer [] ok = record { pieces = []; are_data = record { joined = refl; each = All-nil IsPiece; full = tt }; text_is = refl } in
      answered (called (Listed names) ∷ []) None (key_reply wraps ok) (goes_on (listed are) (goes_on joined (goes_on (tells nothing) returns))) unheld

  -- the folder couldn't be read
  unlisted_grips : KeyExchange rules options wraps ListGrips (called (Listed Failed) ∷ Sent (failed General) ∷ []) wraps On
  unfolding ListGripsReplies
  unlisted_grips = refused (called (Listed Failed) ∷ []) None (Agent General) (stops ListsGrips.faulted) unheld

  -- the keys that there are, of which one went meanwhile
  listed_keys : (other : Grip) {algorithm : Algorithm} {public private further : List Tree} {file : List ℕ} (names : KeyNames) (answer : KeyRead) → grips_in names ≡ Some (other ∷ grip ∷ [])
      → file_in answer ≡ Some file → FileSays file (Ok (record { algorithm = algorithm; is_clear = true; public = public; private = private; further = further }))
      → KeyExchange rules options wraps ListKeys
      (called (Listed names) ∷ read other Absent ∷ read grip answer ∷ cache_turn (Peek (grip_text grip) Normal) (Held true) ∷ Sent (info_line grip true true) ∷ Sent ok ∷ []) wraps On
  unfolding ListKeysReplies
  listed_keys other names answer are is says =
      answered (called (Listed names) ∷ read other Absent ∷ read grip answer ∷ cache_turn (Peek (grip_text grip) Normal) (Held true) ∷ Sent (info_line grip true true) ∷ []) None (key_reply wraps ok)
      (goes_on (listed are)
      (goes_on {first = read other Absent ∷ read grip answer ∷ cache_turn (Peek (grip_text grip) Normal) (Held true) ∷ Sent (info_line grip true true) ∷ []}
      (goes_on (goes_on ReadsListed.absent returns)
      (goes_on {first = read grip answer ∷ cache_turn (Peek (grip_text grip) Normal) (Held true) ∷ Sent (info_line grip true true) ∷ []}
      (goes_on (ReadsListed.is_key is says) (goes_on (goes_on peeked returns) written)) returns)) returns)) unheld

  -- a key that isn't there is deleted
  nothing_to_delete : KeyExchange rules options wraps (DeleteKey grip true) (read grip Absent ∷ Sent (failed NoSecKey) ∷ []) wraps On
  unfolding DeleteKeyReplies
  nothing_to_delete = refused (read grip Absent ∷ []) None (Agent NoSecKey) (goes_on absent (stops refuses)) unheld

  -- the session's key for a direction is the same each time
  same_wrap_key : (key text : List ℕ) → IsDataAnswer key text
      → KeyExchange rules options (with_wrap_key Import key wraps) (KeyWrap Import) (Sent text ∷ []) (with_wrap_key Import key wraps) On
  unfolding KeyWrapReplies
  same_wrap_key key text data_is = answered [] None (key_reply (with_wrap_key Import key wraps) text) (goes_on returns (goes_on (tells data_is) returns)) unheld

  -- and the first request for it draws one of 16 bytes
  new_wrap_key : (key text : List ℕ) → length key ≡ 16 → IsDataAnswer key text
      → KeyExchange rules options (record { import = None; export = wraps.export }) (KeyWrap Import) (drew key ∷ Sent text ∷ []) (record { import = Some key; export = wraps.export }) On
  unfolding KeyWrapReplies
  new_wrap_key key text long data_is = answered (drew key ∷ []) None (key_reply (record { import = Some key; export = wraps.export }) text) (goes_on (drawn long) (goes_on (tells data_is) returns)) unheld

  -- no key could be drawn
  no_wrap_key : KeyExchange rules options (record { import = None; export = wraps.export }) (KeyWrap Import) (not_drawn 16 ∷ Sent (failed General) ∷ [])
      (record { import = None; export = wraps.export }) On
  unfolding KeyWrapReplies
  no_wrap_key = refused (not_drawn 16 ∷ []) None (Agent General) (stops faulted) unheld

  -- A protected key's passphrase, in a canonical file, is changed by two nonces of which the one gives the old and the other the new one. Nobody is asked, and the new one is
  -- kept.
  changed_by_nonces : {algorithm : Algorithm} {public private further : List Tree} {old new drawn_bytes : List ℕ} {clear : Key} {locked : LockedKey} {file : List ℕ} {first second : Grant}
      (answer : KeyRead)
      → let key : Key = record { algorithm = algorithm; is_clear = false; public = public; private = private; further = further } in
      let made_file : List ℕ = protected_file clear (ocb_protection clear second.entry.secret (take 8 drawn_bytes) (drop 8 drawn_bytes) options.s2k_count None) None in
      file_in answer ≡ Some file → FileSays file (Ok key) → is_canonical file ≡ true → locked.key ≡ key → IsLocked locked → OpensTo locked first.entry.secret clear
      → length (key_list_of clear) ≤ MAX_LIST_LEN → length drawn_bytes ≡ 20
      → FitsStep (ask_nonce old) (Given first) → FitsStep (ask_nonce new) (Given second)
      → KeyExchange rules options wraps (Passwd grip (Some old) (Some new) false)
      (read grip answer ∷ cache_turn (ask_nonce old) (Given first) ∷ cache_turn (ask_nonce new) (Given second) ∷ drew drawn_bytes ∷ called (Replaced grip made_file IsDone)
      ∷ cache_turn (put_key grip second.entry.secret) Done ∷ Sent ok ∷ []) wraps On
  unfolding PasswdReplies OpensLocked RewritesFile
  changed_by_nonces {old} {new} {drawn_bytes} {clear} {first} {second} answer is says in_form key_is locked_is opens_to within twenty of_old of_new =
      answered (read grip answer ∷ cache_turn (ask_nonce old) (Given first) ∷ cache_turn (ask_nonce new) (Given second) ∷ drew drawn_bytes ∷ called (Replaced grip _ IsDone)
      ∷ cache_turn (put_key grip second.entry.secret) Done ∷ []) None (key_reply wraps ok)
      (goes_on (is_key is says)
      (goes_on {first = cache_turn (ask_nonce old) (Given first) ∷ []} (goes_on (is_locked key_is locked_is) (goes_on (given of_old) (goes_on (opens opens_to) returns)))
      (goes_on
      (goes_on {first = []} {value = tt} {mid = None} (short within)
      (goes_on {first = cache_turn (ask_nonce new) (Given second) ∷ []} (goes_on (given of_new) returns)
      (goes_on (drawn twenty)
      (goes_on made
      (goes_on (canonical_file in_form)
      (goes_on replaced (done tt)))))))
      returns))) unheld

-- ---- keys go out and come in

module _ (rules : Rules) (options : OptionValues) (wraps : WrapKeys) (grip : Grip) (wrap : List ℕ) where
  -- a session that has drawn a key for what goes out, and one for what comes in
  abbrev exporting : WrapKeys
  exporting = record { import = wraps.import; export = Some wrap }

  abbrev importing : WrapKeys
  importing = record { import = Some wrap; export = wraps.export }

  -- a client that gives passphrases itself
  abbrev by_client : OptionValues
  by_client = record options { mode = mode.Loopback }

  module _ (algorithm : Algorithm) (public private further : List Tree) (file : List ℕ) (answer : KeyRead) (is : file_in answer ≡ Some file) where
    abbrev clear : Key
    clear = record { algorithm = algorithm; is_clear = true; public = public; private = private; further = further }

    abbrev protected : Key
    protected = record { algorithm = algorithm; is_clear = false; public = public; private = private; further = further }

    -- a clear key goes out as it is, and no passphrase is wanted
    clear_goes_out : {text : List ℕ} → FileSays file (Ok clear) → IsDataAnswer (wrapped_key wrap clear) text
        → KeyExchange rules options exporting (ExportKey grip None) (read grip answer ∷ Sent text ∷ []) exporting On
    unfolding ExportKeyReplies
    clear_goes_out {text} says data_is = answered (read grip answer ∷ []) None (key_reply exporting text)
        (goes_on returns (goes_on (is_key is says) (goes_on returns (goes_on unheld (goes_on is_wrapped (goes_on (tells data_is) returns)))))) unheld

    -- a protected one is opened by the passphrase that the client gives, which is kept
    opened_by_client : {key : Key} {locked : LockedKey} {pass text : List ℕ} → FileSays file (Ok protected) → locked.key ≡ protected → IsLocked locked → OpensTo locked pass key
        → IsDataAnswer (wrapped_key wrap key) text
        → KeyExchange rules by_client exporting (ExportKey grip None)
        (read grip answer ∷ cache_turn (ask_key grip Quiet) Empty ∷ Sent (limit_line MAX_SECRET_LEN) ∷ Inquiry (codes "PASSPHRASE") [] MAX_SECRET_LEN (Asked (Data pass))
        ∷ cache_turn (put_key grip pass) Done ∷ Sent text ∷ []) exporting On
    unfolding ExportKeyReplies OpensLocked ClientOld
    opened_by_client {pass} {text} says key_is locked_is opens_to data_is =
        answered (read grip answer ∷ cache_turn (ask_key grip Quiet) Empty ∷ Sent (limit_line MAX_SECRET_LEN) ∷ Inquiry (codes "PASSPHRASE") [] MAX_SECRET_LEN (Asked (Data pass))
        ∷ cache_turn (put_key grip pass) Done ∷ []) None (key_reply exporting text)
        (goes_on returns (goes_on (is_key is says)
        (goes_on {first = cache_turn (ask_key grip Quiet) Empty ∷ Sent (limit_line MAX_SECRET_LEN) ∷ Inquiry (codes "PASSPHRASE") [] MAX_SECRET_LEN (Asked (Data pass)) ∷ cache_turn (put_key grip pass) Done ∷ []}
        (goes_on (is_locked key_is locked_is) (goes_on returns (goes_on returns
        (goes_on (empty tt) (goes_on returns
        (goes_on (goes_on written (sent refl)) (goes_on (opens opens_to) (goes_on returns (goes_on (done tt) returns)))))))))
        (goes_on unheld (goes_on is_wrapped (goes_on (tells data_is) returns)))))) unheld

  module _ (key : Key) (wrapped drawn_bytes : List ℕ) (says : WrappedSays wrap wrapped (Ok key)) (named_so : grip.0 ≡ grip_of key) where
    -- a file that is there isn't replaced
    file_exists : {file : _} → KeyExchange rules options importing (ImportKey false None)
        (Sent (limit_line max_key_data) ∷ Inquiry (codes "KEYDATA") [] max_key_data (Asked (Data wrapped)) ∷ read grip (Found file) ∷ Sent (failed FileExists) ∷ []) importing On
    unfolding ImportKeyReplies
    file_exists = refused (Sent (limit_line max_key_data) ∷ Inquiry (codes "KEYDATA") [] max_key_data (Asked (Data wrapped)) ∷ read grip (Found _) ∷ []) None (Agent FileExists)
        (goes_on returns (goes_on (goes_on written (goes_on (asked (sent refl)) (Unwraps.is_key says))) (goes_on (named named_so) (stops (goes_on found refuses))))) unheld

    -- The client gives the new passphrase itself. It is kept by the nonce before the file is there, and for the key behind it.
    named_by_client : {pass : List ℕ} → not (length pass == 0) ≡ true → length drawn_bytes ≡ 32
        → KeyExchange rules by_client importing (ImportKey true None)
        (Sent (limit_line max_key_data) ∷ Inquiry (codes "KEYDATA") [] max_key_data (Asked (Data wrapped))
        ∷ Sent (limit_line MAX_SECRET_LEN) ∷ Inquiry (codes "NEW_PASSPHRASE") [] MAX_SECRET_LEN (Asked (Data pass))
        ∷ drew drawn_bytes ∷ cache_turn (Put (hex_text (drop 20 drawn_bytes)) Nonce Default pass) Done
        ∷ called (Replaced grip (protected_file key (ocb_protection key pass (take 8 drawn_bytes) (take 12 (drop 8 drawn_bytes)) options.s2k_count None) None) IsDone)
        ∷ cache_turn (put_key grip pass) Done ∷ Sent (nonce_line (hex_text (drop 20 drawn_bytes)) ++ ok) ∷ []) importing On
    unfolding ImportKeyReplies ClientNew
    named_by_client {pass} some long =
        answered (Sent (limit_line max_key_data) ∷ Inquiry (codes "KEYDATA") [] max_key_data (Asked (Data wrapped))
        ∷ Sent (limit_line MAX_SECRET_LEN) ∷ Inquiry (codes "NEW_PASSPHRASE") [] MAX_SECRET_LEN (Asked (Data pass))
        ∷ drew drawn_bytes ∷ cache_turn (Put (hex_text (drop 20 drawn_bytes)) Nonce Default pass) Done ∷ called (Replaced grip _ IsDone) ∷ cache_turn (put_key grip pass) Done ∷ []) None
        (key_reply importing (nonce_line (hex_text (drop 20 drawn_bytes)) ++ ok))
        (goes_on returns (goes_on (goes_on written (goes_on (asked (sent refl)) (Unwraps.is_key says))) (goes_on (named named_so) (goes_on returns
        (goes_on {first = Sent (limit_line MAX_SECRET_LEN) ∷ Inquiry (codes "NEW_PASSPHRASE") [] MAX_SECRET_LEN (Asked (Data pass)) ∷ []}
        (goes_on LooksOver.no_nonce (goes_on (goes_on written (sent refl)) (goes_on (subst (λ so. wanted {E = Event} BadPass so None [] (Ok tt) None) (sym some) returns) returns)))
        (goes_on {first = drew drawn_bytes ∷ cache_turn (Put (hex_text (drop 20 drawn_bytes)) Nonce Default pass) Done ∷ called (Replaced grip _ IsDone) ∷ cache_turn (put_key grip pass) Done ∷ []}
        (goes_on (drawn long) (goes_on made (goes_on (done tt) (goes_on replaced (goes_on (done tt) returns))))) returns)))))) unheld

  -- a key is deleted without a word, where that is wanted
  deleted : {file : _} → KeyExchange rules options wraps (DeleteKey grip true)
      (read grip (Found file) ∷ called (Removed grip IsDone) ∷ cache_turn (Clear (grip_text grip) Normal) Done ∷ Sent ok ∷ []) wraps On
  unfolding DeleteKeyReplies
  deleted = answered (read grip (Found _) ∷ called (Removed grip IsDone) ∷ cache_turn (Clear (grip_text grip) Normal) Done ∷ []) None (key_reply wraps ok)
      (goes_on found (goes_on returns (goes_on returns (goes_on Removes.done (goes_on (done tt) returns))))) unheld
