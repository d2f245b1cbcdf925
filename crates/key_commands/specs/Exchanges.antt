-- Requests on keys and what is done for them, as the GnuPG manual has them ("Agent's Assuan protocol"). The codes, the texts and the order of
-- what is done are this project's own. A row of each stands in proofs/WorkedExchanges, or where it prompts in proofs/WorkedPrompts.
use Rattle.std.specs.Prelude.{◌++◌, ℕ, Bool, true, false, List, take, drop, Option, Some}
use Rattle.{agent_ask.specs.Session.{ActionExchanges.{AnyReply, AnyExchange}, Actions.{◌>>=◌, Returns, Refuses, needed, wanted, or_else}, TurnActions.{Changes, Closes}}, agent_ports.specs.declared.grip.Grip.Grip}
use Rattle.{cache_policy.specs.declared.{life.Life.TheVariants.Default, mark.MarkStep.TheVariants.{Put, Clear}, mode.Mode.TheVariants.{Normal, Nonce}}, assuan_escape.specs.Escapes.hex_text, assuan_server.specs.Written.{refusal_line, ok}}
use Rattle.{session_options.specs.{OptionValues.OptionValues, declared.rules.Rules.Rules}, sexp_keys.specs.Key.Key, session_client.specs.declared.refusal.Refusal.TheVariants.Agent}
use Rattle.key_commands.specs.{Events.Event, Files.Rewrites, Lines.{grip_text, nonce_line}, Actions.{Action, Finds, Draws, key_went_after}, Passphrases.{OldPassphrase, NewPassphrase, VerifiesPassphrase, LooksForNonce}}
use Rattle.key_commands.specs.declared.request.{Direction.{Direction, TheVariants.{Import, Export}}, KeyRequest.{KeyRequest, TheVariants.{HaveKey, ListGrips, KeyInfo, ListKeys, KeyWrap, ImportKey, ExportKey, Passwd, DeleteKey, Bad}}}
use Rattle.key_commands.specs.declared.{went.KeyWent.{KeyWent, TheVariants.On}, keywrap_key.WrapKeys.WrapKeys}
use Rattle.key_commands.specs.KeyActions.{Tells, ReadsFile, Replaces, Removes, Protects, IsShort, KeepsNew, HasOne, ListsGrips, JoinsGrips, TellsKeyInfo, WritesInfos, ReceivesKey, NamesKey, IsFree, LooksOver, WrapsKey, Consents}
use Rattle.session_client.specs.declared.code.Code.TheVariants as code

-- what a request is answered where it isn't refused, the wrapping keys after it, and how the session goes on
abbrev pub KeyReply : Type 0
KeyReply = AnyReply WrapKeys KeyWent

abbrev pub key_reply : WrapKeys → List ℕ → KeyReply
key_reply wraps text = record { text = text; kept = wraps; went = On }

-- ---- KEYWRAP_KEY

abbrev pub wrap_key : Direction → WrapKeys → Option (List ℕ)
wrap_key Import wraps = wraps.import
wrap_key Export wraps = wraps.export

abbrev pub with_wrap_key : Direction → List ℕ → WrapKeys → WrapKeys
with_wrap_key Import key wraps = record { import = Some key; export = wraps.export }
with_wrap_key Export key wraps = record { import = wraps.import; export = Some key }

-- ---- IMPORT_KEY

-- A key that came in is written to its file, protected by a passphrase, which is cached under a new nonce before.
abbrev pub StoresKey : (count : ℕ) → Key → Grip → (pass : List ℕ) → Action (List ℕ)
StoresKey count key grip pass = do
  -- a salt of 8 bytes, an initialization vector of 12, and a nonce of 12
  drawn ← Draws 32
  file ← Protects key pass (take 8 drawn) (take 12 (drop 8 drawn)) count
  cached ← Changes (Put (hex_text (drop 20 drawn)) Nonce Default pass)
  replaced ← Replaces grip file
  kept ← KeepsNew grip pass
  Returns (drop 20 drawn)

module _ (rules : Rules) (options : OptionValues) where
  -- the passphrase that protects a key that comes in: what is cached under the nonce, or else a new one
  abbrev pub FoundOrNew : Option (List ℕ) → Grip → Action (List ℕ)
  FoundOrNew nonce grip = do
    found ← LooksOver nonce
    or_else found (NewPassphrase rules options grip)

  -- ---- PASSWD, once the key is open

  -- a new passphrase: what is cached under the nonce, or else as the client wants it
  abbrev pub RenewsPassphrase : Grip → Option (List ℕ) → Action (List ℕ)
  RenewsPassphrase grip nonce = do
    found ← LooksForNonce nonce
    or_else found (NewPassphrase rules options grip)

  -- a clear key's file is protected by a passphrase, which is kept
  unfoldable pub RewritesFile : Grip → (file : List ℕ) → Key → (pass : List ℕ) → Action (Unit {0})
  RewritesFile grip file key pass = do
    -- a salt of 8 bytes, and an initialization vector of 12
    drawn ← Draws 20
    list ← Protects key pass (take 8 drawn) (drop 8 drawn) options.s2k_count
    new ← Rewrites file list
    replaced ← Replaces grip new
    KeepsNew grip pass

  abbrev pub ChangesOpened : Grip → Option (List ℕ) → (file : List ℕ) → Key → Action (Unit {0})
  ChangesOpened grip nonce file key = do
    short ← IsShort key
    pass ← RenewsPassphrase grip nonce
    RewritesFile grip file key pass

  -- ---- what is done for each request

  module _ (wraps : WrapKeys) where
    unfoldable pub HaveKeyReplies : List Grip → Action KeyReply
    HaveKeyReplies grips = do
      one ← HasOne grips
      Returns (key_reply wraps ok)

    -- HAVEKEY --list
    unfoldable pub ListGripsReplies : Action KeyReply
    ListGripsReplies = do
      grips ← ListsGrips
      bytes ← JoinsGrips grips
      text ← Tells bytes
      Returns (key_reply wraps text)

    unfoldable pub KeyInfoReplies : Grip → Action KeyReply
    KeyInfoReplies grip = do
      file ← ReadsFile grip
      line ← TellsKeyInfo grip file.key
      Returns (key_reply wraps (line ++ ok))

    unfoldable pub ListKeysReplies : Action KeyReply
    ListKeysReplies = do
      grips ← ListsGrips
      written ← WritesInfos grips
      Returns (key_reply wraps ok)

    -- the first request of a session for a direction draws its key
    unfoldable pub KeyWrapReplies : Direction → Action KeyReply
    KeyWrapReplies way = do
      key ← or_else (wrap_key way wraps) (Draws 16)
      text ← Tells key
      Returns (key_reply (with_wrap_key way key wraps) text)

    unfoldable pub ImportKeyReplies : Bool → Option (List ℕ) → Action KeyReply
    ImportKeyReplies force nonce = do
      wrap ← needed code.Parameter wraps.import
      key ← ReceivesKey wrap
      grip ← NamesKey key
      free ← IsFree force grip
      pass ← FoundOrNew nonce grip
      cache_nonce ← StoresKey options.s2k_count key grip pass
      Returns (key_reply wraps (nonce_line (hex_text cache_nonce) ++ ok))

    unfoldable pub ExportKeyReplies : Grip → Option (List ℕ) → Action KeyReply
    ExportKeyReplies grip nonce = do
      wrap ← needed code.Parameter wraps.export
      file ← ReadsFile grip
      opened ← OldPassphrase rules options grip nonce file.key
      closed ← Closes opened.by
      wrapped ← WrapsKey wrap opened.key
      text ← Tells wrapped
      Returns (key_reply wraps text)

    unfoldable pub PasswdReplies : Grip → (nonce new_nonce : Option (List ℕ)) → Action KeyReply
    PasswdReplies grip nonce new_nonce = do
      file ← ReadsFile grip
      opened ← OldPassphrase rules options grip nonce file.key
      changed ← ChangesOpened grip new_nonce file.bytes opened.key
      Returns (key_reply wraps ok)

    -- PASSWD --verify
    unfoldable pub VerifyReplies : Grip → Action KeyReply
    VerifyReplies grip = do
      file ← ReadsFile grip
      opened ← VerifiesPassphrase rules options grip file.key
      closed ← Closes opened.by
      Returns (key_reply wraps ok)

    unfoldable pub DeleteKeyReplies : Bool → Grip → Action KeyReply
    DeleteKeyReplies force grip = do
      there ← Finds grip
      some ← wanted code.NoSecKey there
      agreed ← Consents rules options force grip
      removed ← Removes grip
      cleared ← Changes (Clear (grip_text grip) Normal)
      Returns (key_reply wraps ok)

    -- what is done for a request, up to its reply
    abbrev pub KeyReplies : KeyRequest → Action KeyReply
    KeyReplies (HaveKey grips) = HaveKeyReplies grips
    KeyReplies ListGrips = ListGripsReplies
    KeyReplies (KeyInfo grip) = KeyInfoReplies grip
    KeyReplies ListKeys = ListKeysReplies
    KeyReplies (KeyWrap way) = KeyWrapReplies way
    KeyReplies (ImportKey force nonce) = ImportKeyReplies force nonce
    KeyReplies (ExportKey grip nonce) = ExportKeyReplies grip nonce
    KeyReplies (Passwd grip old new true) = VerifyReplies grip
    KeyReplies (Passwd grip old new false) = PasswdReplies grip old new
    KeyReplies (DeleteKey grip force) = DeleteKeyReplies force grip
    KeyReplies (Bad code) = Refuses (Agent code)

  -- A request: the wrapping keys before it, what the session does for it, the wrapping keys after it, and how the session goes on.
  abbrev pub KeyExchange : WrapKeys → KeyRequest → List Event → WrapKeys → KeyWent → Type 0
  KeyExchange before request = AnyExchange refusal_line key_went_after (KeyReplies before request) before
