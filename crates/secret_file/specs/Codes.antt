-- Private: codes for locked keys, by which proofs tell them apart.
use Rattle.std.{specs.{Prelude.{◌≡◌, ◌⊎◌, ℕ, List, refl}, Coded.{Coded, code_by, coded×, coded⊎, coded_ℕ, coded_list}}, proofs.Common.{inl, inr}}
use Rattle.sexp_keys.specs.Key.{Key, key_code}
use Rattle.secret_file.specs.{declared.cipher.Cipher.{Cipher, TheVariants.{Cbc, Ocb}}, Protection.Protection, Opens.LockedKey}

abbrev pub cipher_sum : Cipher → List ℕ ⊎ List ℕ
cipher_sum (Cbc iv) = inl iv
cipher_sum (Ocb iv) = inr iv

abbrev pub summed : List ℕ ⊎ List ℕ → Cipher
summed (inl iv) = Cbc iv
summed (inr iv) = Ocb iv

pub resummed : (c : Cipher) → summed (cipher_sum c) ≡ c
resummed (Cbc iv) = refl
resummed (Ocb iv) = refl

abbrev bytes_code : Coded (List ℕ)
bytes_code = coded_list coded_ℕ

abbrev cipher_code : Coded Cipher
cipher_code = code_by (List ℕ ⊎ List ℕ) (coded⊎ bytes_code bytes_code) cipher_sum summed resummed

-- the parts as a pair of pairs
abbrev protection_code : Coded Protection
protection_code =
    code_by (List ℕ × (ℕ × (Cipher × List ℕ))) (coded× bytes_code (coded× coded_ℕ (coded× cipher_code bytes_code)))
    (λ p. (p.salt, (p.count, (p.cipher, p.encrypted))))
    (λ q. record { salt = q.0; count = q.1.0; cipher = q.1.1.0; encrypted = q.1.1.1 })
    (λ _. refl)

abbrev pub locked_code : Coded LockedKey
locked_code =
    code_by (Key × Protection) (coded× key_code protection_code) (λ l. (l.key, l.protection)) (λ p. record { key = p.0; protection = p.1 }) (λ _. refl)
