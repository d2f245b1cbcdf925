-- Keys that are wrapped under a session's wrapping key (RFC 3394), as EXPORT_KEY sends them and IMPORT_KEY takes them. That zero bytes fill the
-- last block, the limits, and which fault comes first, are this project's own.
use Rattle.std.specs.{Prelude.{◌≡◌, ◌≤◌, ◌<◌, ◌-◌, ◌%◌, ℕ, true, false, List, ◌++◌, length, replicate, Result, Ok, Err, IsTrue}, List.concat}
use Rattle.{session_client.specs.declared.code.Code.Code, key_wrap.specs.KeyWrap.{initial_value, is_wrapped_length, unwrapped_of, wrapped_of}, sexp_canonical.specs.{Spelling.IsReadable, View.tree_of, declared.tree.Sexp.Sexp}}
use Rattle.sexp_keys.specs.{Faults.IsFirstKeyFault, Key.{Key, IsKey}, Lists.key_list_of, declared.fault.KeyFault.KeyFault}
use Rattle.key_commands.specs.{Faults.fault_code, declared.wrapping.TheConstants.MAX_LIST_LEN}
use Rattle.session_client.specs.declared.code.Code.TheVariants as code

-- with the fewest zero bytes that fill its last block of 8
abbrev pub zero_padded : List ℕ → List ℕ
zero_padded bytes = bytes ++ replicate ((8 - length bytes % 8) % 8) 0

-- the whole clear key as it is wrapped
abbrev pub wrapped_key : (wrap : List ℕ) → Key → List ℕ
wrapped_key wrap key = wrapped_of wrap (zero_padded (key_list_of key))

-- the bytes are one expression, and 0 to 7 zero bytes
pub record ArePadded (bytes : List ℕ) (tree : Sexp) : Type 0 where
  pub expression : List ℕ
  pub zeros : ℕ
  pub few : zeros ≤ 7
  pub parts : bytes ≡ expression ++ replicate zeros 0
  pub read : IsReadable expression tree

-- what the bytes of a key say that comes in: a clear key whose list isn't too long, or how they are refused
pub data PlainSays (bytes : List ℕ) : Result Key Code → Type 0 where
  no_expression : ((tree : Sexp) → ArePadded bytes tree → ⊥) → PlainSays bytes (Err code.InvSexp)
  no_key : {tree : Sexp} {fault : KeyFault} → ArePadded bytes tree → IsFirstKeyFault (tree_of tree) fault → PlainSays bytes (Err (fault_code fault))
  protected : {tree : Sexp} {key : Key} → ArePadded bytes tree → IsKey (tree_of tree) key → key.is_clear ≡ false → PlainSays bytes (Err code.BadSecKey)
  long : {tree : Sexp} {key : Key} → ArePadded bytes tree → IsKey (tree_of tree) key → key.is_clear ≡ true → MAX_LIST_LEN < length (key_list_of key)
      → PlainSays bytes (Err code.BadSecKey)
  key : {tree : Sexp} {key : Key} → ArePadded bytes tree → IsKey (tree_of tree) key → key.is_clear ≡ true → length (key_list_of key) ≤ MAX_LIST_LEN
      → PlainSays bytes (Ok key)

-- they were wrapped under this key
pub record AreWrapped (wrap wrapped : List ℕ) : Type 0 where
  pub fits : IsTrue (is_wrapped_length (length wrapped))
  pub check : (unwrapped_of wrap wrapped).check ≡ initial_value

-- what they were before
abbrev pub unwrapped : (wrap wrapped : List ℕ) → List ℕ
unwrapped wrap wrapped = concat (unwrapped_of wrap wrapped).blocks

-- what wrapped bytes say: the check comes before all else
pub data WrappedSays (wrap wrapped : List ℕ) : Result Key Code → Type 0 where
  unchecked : ¬ AreWrapped wrap wrapped → WrappedSays wrap wrapped (Err code.Checksum)
  checked : {answer : Result Key Code} → AreWrapped wrap wrapped → PlainSays (unwrapped wrap wrapped) answer → WrappedSays wrap wrapped answer
