-- Private: what the steps of reading a protection and of opening know.
use Rattle.std.specs.{Prelude.{◌≡◌, ◌≤◌, ℕ, List, length, Option, Some, None, Result, Ok, Err, IsTrue}, List.flat_map}
use Rattle.{sha1.specs.Sha1.sha1, sexp_canonical.specs.{Tree.Tree, Spelling.spelling}, sexp_keys.specs.{Parameters.are_secret, Key.{Key, clear_with}, Lists.hashed_list_of, declared.fault.KeyFault.KeyFault}}
use Rattle.secret_file.specs.{declared.{locked.Opened.Opened, cipher.Cipher.Cipher}, Protection.{protection_name, iv_of, iv_len}, Opens.{secret_tree, hash_tree, time_of, AreSpelled, LockedKey, OpensTo}}
use Rattle.secret_file.specs.declared.locked.Opened.TheVariants as openings

-- what is decrypted by CBC is the secret parameters of the locked key and the digest of the clear one
pub record AreSecrets (locked : Key) (bytes : List ℕ) (key : Key) : Type 0 where
  pub secret : List Tree
  pub names : IsTrue (are_secret locked.algorithm secret)
  pub clear : key ≡ clear_with locked secret
  pub spelled : AreSpelled bytes (secret_tree secret (hash_tree (sha1 (hashed_list_of key (time_of locked.private)))))

-- the clear key to which the locked one opens, whose secret parameters are no longer than the octets; or there is none
abbrev pub IsOpening : LockedKey → List ℕ → Option Key → Type 0
IsOpening locked pass None = (key : Key) → OpensTo locked pass key → ⊥
IsOpening locked pass (Some key) = OpensTo locked pass key × (length (flat_map spelling key.private) ≤ length locked.protection.encrypted)

-- what an opening answers
abbrev pub opening_of : Result (Option Key) KeyFault → Opened
opening_of (Ok (Some key)) = openings.Key key
opening_of (Ok None) = openings.BadPassphrase
opening_of (Err fault) = openings.NoMemory

-- the cipher has this name and this initialization vector
pub record IsCipher (name iv : List ℕ) (cipher : Cipher) : Type 0 where
  pub named : name ≡ protection_name cipher
  pub iv_is : iv ≡ iv_of cipher
  pub len : length iv ≡ iv_len cipher
