-- What is made of a key opens to it.
use Rattle.std.proofs.Common.{◌≡◌, ℕ, ◌+◌, ◌-◌, ◌%◌, ◌<◌, ◌≤◌, Bool, true, false, List, [], ◌∷◌, ◌++◌, length, take, Result, Ok, Err, IfOk, IfSome, Option, Some, None, refl, sym, ap, subst, ◌∙◌, arith, length-append}
use Rattle.std.{proofs.lemmas.{List.length-take, Bool.le-ltb}, specs.List.flat_map}
use Rattle.{s2k_derive.specs.{S2k.{octets, derived_key}, declared.TheConstants.{MIN_COUNT, MAX_COUNT}}, sha1.specs.Sha1.sha1, sexp_canonical.specs.{Tree.{leaf, list_of}, Spelling.{numeral, spelling, depth}}}
use Rattle.{sexp_canonical.{specs.declared.tree.Sexp.TheVariants.List as Listed, proofs.Numerals.length_numeral}, sexp_keys.specs.{Names.{algorithm_name, form_name}, Parameters.{are_protection, are_private}}}
use Rattle.{sexp_keys.specs.{Key.{Key, IsFormed, key_tree, algorithm_list, clear_with}, Lists.{associated_list_of, hashed_list_of, time_lists}}, aes_modes.specs.Cbc.cbc_decrypted}
use Rattle.secret_file.specs.{Protection.{Protection, iv_of, iv_len, AreOctets, IsCount, IsProtection}, Opens.{time_of, hash_tree, AreSealed, Hold, Opens}}
use Rattle.secret_file.{specs.{Protects.{padded, secret_text, sealed_text, written_protection, locked_by, protected_file}, declared.cipher.Cipher.TheVariants.{Cbc, Ocb}}, proofs.Within.sealed_size}
use Rattle.secret_file.proofs.Fits.{list_len, size_cons, size_append, key_len, FitsLocked, list_some, times_len, locked_len, locked_depth}

large_count : (n : ℕ) → 256 ≤ n → octets n ≡ n
large_count n h = let no = le-ltb n 256 h in rw no refl

count_written : (count : ℕ) → MIN_COUNT ≤ count → count ≤ MAX_COUNT → IsCount (numeral count) count
count_written count low high = record {
  written = count;
  spelled = refl;
  short = length_numeral 9 count (omega arith);
  value = let large : octets count ≡ count = large_count count (omega arith) in sym large;
  accepted = record { least = low; greatest = high };
}

-- what is known of a protection that is made
pub record IsMade (key : Key) (p : Protection) (time : Option (List ℕ)) (pass : List ℕ) : Type 0 where
  pub fits : FitsLocked key p time
  pub low : MIN_COUNT ≤ p.count
  pub high : p.count ≤ MAX_COUNT
  pub length_of_iv : length (iv_of p.cipher) ≡ iv_len p.cipher
  pub octets : AreOctets p.cipher p.encrypted
  pub held : Hold p.cipher (record { key = locked_by key p time; protection = p }) pass key key.private

made_protection : (key : Key) (p : Protection) (time : Option (List ℕ)) (pass : List ℕ) → IsMade key p time pass → IsProtection (written_protection p) p
made_protection key p time pass h = record {
  hashing = _;
  parts = refl;
  is_hashing = record { digits = numeral p.count; parts = refl; is_count = count_written p.count h.low h.high; salt_len = h.fits.salt_len };
  length_of_iv = h.length_of_iv;
  octets = h.octets;
}

times_formed : (p : Protection) (time : Option (List ℕ)) → are_protection (written_protection p ∷ time_lists time) ≡ true
times_formed p None = refl
times_formed p (Some t) = refl

times_read : (p : Protection) (time : Option (List ℕ)) → time_of (written_protection p ∷ time_lists time) ≡ time
times_read p None = refl
times_read p (Some t) = refl

same_key : (key : Key) → key.is_clear ≡ true → key ≡ clear_with key key.private
same_key key e = λ i. record { algorithm = key.algorithm; is_clear = e i; public = key.public; private = key.private; further = key.further }

few_more : (n : ℕ) (padding : List ℕ) → length (take ((16 - n % 16) % 16) padding) ≤ 15
few_more n padding = omega (arith, length-take ((16 - n % 16) % 16) padding)

made_opens : (key : Key) (p : Protection) (time : Option (List ℕ)) (pass : List ℕ) → IsFormed key → key.is_clear ≡ true → length (spelling (key_tree key)) ≤ 65000 → depth (key_tree key) ≤ 64 → IsMade key p time pass
    → Opens (protected_file key p time) pass key
made_opens key p time pass formed clear short shallow h =
    let locked = locked_by key p time in
    record {
      locked = record { key = locked; protection = p };
      is_file = record {
        tree = Listed (leaf (form_name false) ∷ algorithm_list locked locked.private ∷ locked.further);
        read = record { spelled = refl; shallow = locked_depth key p time shallow; short = locked_len key p time clear h.fits short };
        is = record { parts = refl; formed = record { public = formed.public; private = times_formed p time; further = formed.further } };
      };
      is_locked = record { protected = refl; protection = made_protection key p time pass h };
      secrets = record {
        secret = key.private;
        names = sym (ap (λ (c : Bool). are_private c key.algorithm key.private) clear) ∙ formed.private;
        clear = same_key key clear;
        held = h.held;
      };
    }

pub file_opens : (key : Key) (p : Protection) (time : Option (List ℕ)) (pass file : List ℕ) → IsFormed key → key.is_clear ≡ true → length (spelling (key_tree key)) ≤ 65000 → depth (key_tree key) ≤ 64 → IsMade key p time pass
    → file ≡ protected_file key p time → Opens file pass key
file_opens key p time pass file formed clear short shallow h e = subst (λ (s : List ℕ). Opens s pass key) (sym e) (made_opens key p time pass formed clear short shallow h)

pub ok_more : {A E : Type 0} (r : Result A E) (P Q : A → Type 0) → ((x : A) → P x → Q x) → IfOk r P → IfOk r Q
ok_more (Ok x) P Q f h = f x h
ok_more (Err e) P Q f h = tt

-- ---- by CBC

pub text_some : (key : Key) (time : Option (List ℕ)) (text : List ℕ) → text ≡ secret_text key time → 0 < length text
text_some key time text e = omega (arith, ap length e, list_some (list_of key.private ∷ hash_tree (sha1 (hashed_list_of key time)) ∷ []))

abbrev pub chained : List ℕ → ℕ → (iv encrypted : List ℕ) → Protection
chained salt count iv encrypted = record { salt = salt; count = count; cipher = Cbc iv; encrypted = encrypted }

pub cbc_made : (key : Key) (salt : List ℕ) (count : ℕ) (iv encrypted : List ℕ) (time : Option (List ℕ)) (pass plain text padding : List ℕ) → length salt ≡ 8 → length iv ≡ 16 → MIN_COUNT ≤ count → count ≤ MAX_COUNT
    → IfSome time (λ t. length t ≡ 15) → text ≡ secret_text key time → length text ≤ length (flat_map spelling key.private) + 52 → plain ≡ padded text padding → length plain % 16 ≡ 0 → length encrypted ≡ length plain
    → cbc_decrypted (derived_key pass salt count) iv encrypted ≡ plain → IsMade key (chained salt count iv encrypted) time pass
cbc_made key salt count iv encrypted time pass plain text padding salt-len iv-len low high times text-is text-len e whole len opens =
    let p = chained salt count iv encrypted in
    let more = take ((16 - length text % 16) % 16) padding in
    let n : length plain ≡ length text + length more = ap length e ∙ length-append text more in
    let few = few_more (length text) padding in
    let some = text_some key time text text-is in
    record {
      fits = record { salt_len = salt-len; digits_len = length_numeral 9 count (omega arith); iv_short = omega arith; encrypted_len = omega arith; times = times_len time times };
      low = low;
      high = high;
      length_of_iv = iv-len;
      octets = (ap (λ (k : ℕ). k % 16) len ∙ whole, omega arith);
      held = record {
        more = more;
        parts = opens ∙ e ∙ ap (λ (t : List ℕ). t ++ more) (text-is ∙ ap (secret_text key) (sym (times_read p time)));
        few = omega arith;
      };
    }

-- ---- by OCB

abbrev pub sealed : List ℕ → ℕ → (iv encrypted : List ℕ) → Protection
sealed salt count iv encrypted = record { salt = salt; count = count; cipher = Ocb iv; encrypted = encrypted }

-- what is encrypted and what is authenticated is short
pub sealed_short : (key : Key) → length (sealed_text key) ≤ length (spelling (key_tree key))
sealed_short key = omega (arith, key_len key, sealed_size key.private)

pub associated_within : (key : Key) (time : Option (List ℕ)) → IfSome time (λ t. length t ≡ 15) → length (associated_list_of key time) ≤ length (spelling (key_tree key)) + 41
associated_within key time h =
    omega (
      arith,
      key_len key,
      times_len time h,
      list_len (leaf (algorithm_name key.algorithm) ∷ key.public ++ time_lists time),
      size_cons (leaf (algorithm_name key.algorithm)) (key.public ++ time_lists time),
      size_append key.public (time_lists time),
    )

pub ocb_made : (key : Key) (salt : List ℕ) (count : ℕ) (iv encrypted : List ℕ) (time : Option (List ℕ)) (pass assoc plain : List ℕ) → length salt ≡ 8 → length iv ≡ 12 → MIN_COUNT ≤ count → count ≤ MAX_COUNT
    → IfSome time (λ t. length t ≡ 15) → assoc ≡ associated_list_of key time → plain ≡ sealed_text key → length encrypted ≡ length plain + 16
    → AreSealed (derived_key pass salt count) iv assoc encrypted plain → IsMade key (sealed salt count iv encrypted) time pass
ocb_made key salt count iv encrypted time pass assoc plain salt-len iv-len low high times assoc-is plain-is len is =
    let p = sealed salt count iv encrypted in
    let plain-len : length plain ≡ length (flat_map spelling key.private) + 4 = ap length plain-is ∙ sealed_size key.private in
    record {
      fits = record { salt_len = salt-len; digits_len = length_numeral 9 count (omega arith); iv_short = omega arith; encrypted_len = omega arith; times = times_len time times };
      low = low;
      high = high;
      length_of_iv = iv-len;
      octets = omega arith;
      held = subst (λ (a : List ℕ). AreSealed (derived_key pass salt count) iv a encrypted (sealed_text key)) (assoc-is ∙ ap (associated_list_of key) (sym (times_read p time)))
          (subst (AreSealed (derived_key pass salt count) iv assoc encrypted) plain-is is);
    }
