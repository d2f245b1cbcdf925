-- The protected file that is made of a clear key.
use Rattle.std.specs.Prelude.{ℕ, ◌-◌, ◌%◌, List, ◌∷◌, ◌++◌, length, take, Option}
use Rattle.{sha1.specs.Sha1.sha1, sexp_canonical.specs.{Tree.Tree, Spelling.{numeral, spelling}}, s2k_derive.specs.S2k.derived_key, aes_modes.specs.{Cbc.cbc_encrypted, Ocb.ocb_sealed}, sexp_keys.specs.Key.{Key, protected_with}}
use Rattle.sexp_keys.specs.Lists.{key_list_of, associated_list_of, hashed_list_of, time_lists}
use Rattle.secret_file.specs.{Protection.{Protection, hashing_tree, protection_tree}, Opens.{hash_tree, secret_tree, sealed_tree}, declared.cipher.Cipher.TheVariants.{Cbc, Ocb}}

-- the text and the fewest first bytes of the padding with which it is whole blocks
abbrev pub padded : List ℕ → List ℕ → List ℕ
padded text padding = text ++ take ((16 - length text % 16) % 16) padding

-- the secret parameters and the digest, as they are encrypted
abbrev pub secret_text : Key → Option (List ℕ) → List ℕ
secret_text key time = spelling (secret_tree key.private (hash_tree (sha1 (hashed_list_of key time))))

-- the secret parameters alone
abbrev pub sealed_text : Key → List ℕ
sealed_text key = spelling (sealed_tree key.private)

-- the list of the protection, with the count in decimal
abbrev pub written_protection : Protection → Tree
written_protection p = protection_tree (hashing_tree p.salt (numeral p.count)) p.cipher p.encrypted

-- how a clear key is protected by CBC
abbrev pub cbc_protection : Key → (pass salt iv padding : List ℕ) → ℕ → Option (List ℕ) → Protection
cbc_protection key pass salt iv padding count time = record {
  salt = salt;
  count = count;
  cipher = Cbc iv;
  encrypted = cbc_encrypted (derived_key pass salt count) iv (padded (secret_text key time) padding);
}

-- how it is protected by OCB
abbrev pub ocb_protection : Key → (pass salt iv : List ℕ) → ℕ → Option (List ℕ) → Protection
ocb_protection key pass salt iv count time = record {
  salt = salt;
  count = count;
  cipher = Ocb iv;
  encrypted = ocb_sealed (derived_key pass salt count) iv (associated_list_of key time) (sealed_text key);
}

-- the protected key
abbrev pub locked_by : Key → Protection → Option (List ℕ) → Key
locked_by key p time = protected_with key (written_protection p ∷ time_lists time)

-- the whole file
abbrev pub protected_file : Key → Protection → Option (List ℕ) → List ℕ
protected_file key p time = key_list_of (locked_by key p time)
