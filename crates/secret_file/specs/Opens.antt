-- A protected key file opens by a passphrase to a key (GnuPG's notes on the format of private keys, agent/keyformat.txt).
use Rattle.std.specs.Prelude.{◌≡◌, ℕ, ◌≤◌, List, [], ◌∷◌, ◌++◌, length, false, Option, Some, None, IsTrue, codes}
use Rattle.{sha1.specs.Sha1.sha1, sexp_canonical.specs.{Tree.{Tree, leaf, list_of, items}, View.tree_of, Spelling.{IsReadable, most_bytes, most_depth, depth, spelling}, declared.tree.Sexp.Sexp}, s2k_derive.specs.S2k.derived_key}
use Rattle.{aes_block.specs.Aes.IsBytes, aes_modes.specs.{Cbc.cbc_decrypted, Ocb.{ocb_tag, ocb_sealed}}, sexp_keys.specs.{Parameters.are_secret, Key.{Key, IsKey, clear_with, key_tree}}}
use Rattle.sexp_keys.specs.Lists.{associated_list_of, hashed_list_of, key_list_of}
use Rattle.secret_file.specs.{Protection.{Protection, hash_name, IsProtection}, declared.cipher.Cipher.{Cipher, TheVariants.{Cbc, Ocb}}}

-- the key of a passphrase
abbrev pub key_by : List ℕ → Protection → List ℕ
key_by pass p = derived_key pass p.salt p.count

-- `(hash sha1 digest)`
abbrev pub hash_tree : List ℕ → Tree
hash_tree digest = list_of (leaf (codes "hash") ∷ leaf hash_name ∷ leaf digest ∷ [])

-- `((secret..)(hash ..))`
abbrev pub secret_tree : List Tree → Tree → Tree
secret_tree secret hash = list_of (list_of secret ∷ hash ∷ [])

-- `((secret..))`
abbrev pub sealed_tree : List Tree → Tree
sealed_tree secret = list_of (list_of secret ∷ [])

-- the list `protected` of a protected key, which is the first
abbrev pub first_of : List Tree → Tree
first_of [] = leaf []
first_of (t ∷ more) = t

-- the time of the protection, where there is one
abbrev pub time_in : List Tree → Option (List ℕ)
time_in (name ∷ leaf time ∷ more) = Some time
time_in ts = None

abbrev pub time_of : List Tree → Option (List ℕ)
time_of (p ∷ t ∷ more) = time_in (items t)
time_of ts = None

-- the whole file is this key
pub record IsFile (file : List ℕ) (key : Key) : Type 0 where
  pub tree : Sexp
  pub read : IsReadable file tree
  pub is : IsKey (tree_of tree) key

-- the list of the key is within the limits of a file that is read
pub record FitsFile (key : Key) : Type 0 where
  pub short : length (key_list_of key) ≤ most_bytes
  pub shallow : depth (key_tree key) ≤ most_depth

-- a protected key, and how it is protected
pub record LockedKey : Type 0 where
  pub key : Key
  pub protection : Protection

-- the key is protected so
pub record IsLocked (locked : LockedKey) : Type 0 where
  pub protected : locked.key.is_clear ≡ false
  pub protection : IsProtection (first_of locked.key.private) locked.protection

-- These bytes are this expression, and at most 16 bytes more. The notes on the format say only that random bytes follow;
-- GnuPG fills the last block with them, and writes one block more of them where it is full.
pub record AreSpelled (bytes : List ℕ) (tree : Tree) : Type 0 where
  pub more : List ℕ
  pub parts : bytes ≡ spelling tree ++ more
  pub few : length more ≤ 16

-- the octets are the encryption of this text of bytes by OCB, with its tag of 16 bytes after it (RFC 7253, 4.2)
pub record AreSealed (key nonce assoc octets plain : List ℕ) : Type 0 where
  pub bytes : IsBytes (length plain) plain
  pub parts : octets ≡ ocb_sealed key nonce assoc plain
  pub tag_len : length (ocb_tag key nonce assoc plain) ≡ 16

-- The octets hold these secret parameters of the clear key. Decrypted by CBC they are the parameters and the digest of the
-- hashed list; or else they are the encryption of the parameters by OCB, with the list of the public ones as associated data.
abbrev pub Hold : Cipher → LockedKey → List ℕ → Key → List Tree → Type 0
Hold (Cbc iv) locked pass key secret =
    AreSpelled (cbc_decrypted (key_by pass locked.protection) iv locked.protection.encrypted)
    (secret_tree secret (hash_tree (sha1 (hashed_list_of key (time_of locked.key.private)))))
Hold (Ocb iv) locked pass key secret =
    AreSealed (key_by pass locked.protection) iv (associated_list_of locked.key (time_of locked.key.private)) locked.protection.encrypted
    (spelling (sealed_tree secret))

-- the locked key opens by the passphrase to the key: to the clear one with the secret parameters of its algorithm
pub record OpensTo (locked : LockedKey) (pass : List ℕ) (key : Key) : Type 0 where
  pub secret : List Tree
  pub names : IsTrue (are_secret locked.key.algorithm secret)
  pub clear : key ≡ clear_with locked.key secret
  pub held : Hold locked.protection.cipher locked pass key secret

-- the file opens by the passphrase to the key
pub record Opens (file pass : List ℕ) (key : Key) : Type 0 where
  pub locked : LockedKey
  pub is_file : IsFile file locked.key
  pub is_locked : IsLocked locked
  pub secrets : OpensTo locked pass key
