-- How a protected key is protected (GnuPG's notes on the format of private keys, agent/keyformat.txt, "Protected Private Key
-- Format"), under the two names that are known.
use Rattle.std.specs.Prelude.{◌≡◌, ℕ, ◌<◌, ◌≤◌, ◌%◌, ◌⊎◌, Bool, true, false, not, ◌&&◌, ◌||◌, List, [], ◌∷◌, length, drop, codes, bytes_eq}
use Rattle.{sexp_canonical.specs.{Tree.{Tree, leaf, branch, list_of, items}, Spelling.numeral}, s2k_derive.specs.S2k.{octets, IsAccepted}, sexp_keys.specs.{Names.protected_name, declared.fault.KeyFault.KeyFault}}
use Rattle.sexp_keys.specs.declared.fault.KeyFault.TheVariants.{BadSecKey, NotSupported}
use Rattle.secret_file.specs.declared.cipher.Cipher.{Cipher, TheVariants.{Cbc, Ocb}}

-- the name of the protection, by its cipher, and that of its hash
abbrev pub protection_name : Cipher → List ℕ
protection_name (Cbc iv) = codes "openpgp-s2k3-sha1-aes-cbc"
protection_name (Ocb iv) = codes "openpgp-s2k3-ocb-aes"

abbrev pub hash_name : List ℕ
hash_name = codes "sha1"

-- the initialization vector, and how many bytes it has
abbrev pub iv_of : Cipher → List ℕ
iv_of (Cbc iv) = iv
iv_of (Ocb iv) = iv

abbrev pub iv_len : Cipher → ℕ
iv_len (Cbc iv) = 16
iv_len (Ocb iv) = 12

-- what is encrypted has a length of the cipher: whole blocks, and not none; or more bytes than a tag
abbrev pub AreOctets : Cipher → List ℕ → Type 0
AreOctets (Cbc iv) bytes = (length bytes % 16 ≡ 0) × (0 < length bytes)
AreOctets (Ocb iv) bytes = 16 < length bytes

-- the parts of a protection: the salt, how many bytes are hashed, the cipher, and what is encrypted
pub record Protection : Type 0 where
  pub salt : List ℕ
  pub count : ℕ
  pub cipher : Cipher
  pub encrypted : List ℕ

-- `(sha1 salt count)`
abbrev pub hashing_tree : (salt digits : List ℕ) → Tree
hashing_tree salt digits = list_of (leaf hash_name ∷ leaf salt ∷ leaf digits ∷ [])

-- `(hashing iv)`
abbrev pub derivation_tree : Tree → List ℕ → Tree
derivation_tree hashing iv = list_of (hashing ∷ leaf iv ∷ [])

-- `(protected NAME (hashing iv) octets)`
abbrev pub protection_tree : Tree → Cipher → List ℕ → Tree
protection_tree hashing cipher encrypted =
    list_of (leaf protected_name ∷ leaf (protection_name cipher) ∷ derivation_tree hashing (iv_of cipher) ∷ leaf encrypted ∷ [])

-- the count as it is written: 1 to 10 digits without leading zeros, one octet coded (RFC 4880, 3.7.1.3)
pub record IsCount (digits : List ℕ) (count : ℕ) : Type 0 where
  pub written : ℕ
  pub spelled : digits ≡ numeral written
  pub short : length digits ≤ 10
  pub value : count ≡ octets written
  pub accepted : IsAccepted count

-- the list is this salt and count
pub record IsHashing (tree : Tree) (salt : List ℕ) (count : ℕ) : Type 0 where
  pub digits : List ℕ
  pub parts : tree ≡ hashing_tree salt digits
  pub is_count : IsCount digits count
  pub salt_len : length salt ≡ 8

-- the list is this protection
pub record IsProtection (tree : Tree) (p : Protection) : Type 0 where
  pub hashing : Tree
  pub parts : tree ≡ protection_tree hashing p.cipher p.encrypted
  pub is_hashing : IsHashing hashing p.salt p.count
  pub length_of_iv : length (iv_of p.cipher) ≡ iv_len p.cipher
  pub octets : AreOctets p.cipher p.encrypted

-- ---- faults

-- the first of these is an atom, and another one than the name
abbrev pub is_other : List ℕ → List Tree → Bool
is_other name [] = false
is_other name (leaf bytes ∷ more) = not (bytes_eq bytes name)
is_other name (branch row ∷ more) = false

-- the items of the first of these
abbrev pub first_items : List Tree → List Tree
first_items [] = []
first_items (t ∷ more) = items t

-- the first of these is an atom, and the name of no protection
abbrev pub is_unknown : List Tree → Bool
is_unknown ts = is_other (protection_name (Cbc [])) ts && is_other (protection_name (Ocb [])) ts

-- the protection, or its hash, has another name, wherever that stands
abbrev pub has_other_name : Tree → Bool
has_other_name t = is_unknown (drop 1 (items t)) || is_other hash_name (first_items (first_items (drop 2 (items t))))

-- Another name comes first. Where there is none, all that is no protection is a bad key.
abbrev pub IsProtectionFault : Tree → KeyFault → Type 0
IsProtectionFault tree fault =
    ((has_other_name tree ≡ true) × (fault ≡ NotSupported))
    ⊎ ((has_other_name tree ≡ false) × ((p : Protection) → IsProtection tree p → ⊥) × (fault ≡ BadSecKey))
