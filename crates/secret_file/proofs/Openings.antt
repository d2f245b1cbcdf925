-- The steps of opening.
use Rattle.std.proofs.{Common.{◌≡◌, ◌⊎◌, inl, inr, ℕ, false, List, [], length, Option, Some, None, Result, Ok, Err, IfOk, IfSome, IfNone, refl, sym, ap, subst, ◌∙◌, arith}, lemmas.List.append-nil}
use Rattle.{sexp_canonical.specs.{Spelling.{IsReadable, spelling_of}, declared.tree.Sexp.Sexp}, sexp_keys.specs.{Key.Key, declared.fault.KeyFault.KeyFault, Lists.hashed_list_of}, sha1.specs.Sha1.sha1, s2k_derive.specs.S2k.derived_key}
use Rattle.aes_modes.specs.Cbc.{cbc_decrypted}
use Rattle.secret_file.specs.{Protection.Protection, Opens.{hash_tree, secret_tree, time_of, AreSpelled, FitsFile, LockedKey, IsLocked, OpensTo}, Steps.{AreSecrets, IsOpening, opening_of}, declared.cipher.Cipher.TheVariants.Cbc}
use Rattle.secret_file.{specs.{declared.{locked.Opened.Opened, unlocked.Unlocked.{Unlocked, TheVariants.NoMemory}}, Answers.{refused, unlocked, IsLockedFault, AnswersOpening, AnswersKey}}, proofs.Within.{secret_size, fits_opened}}
use Rattle.secret_file.proofs.Decrypted.{ReadsFront}
use Rattle.sexp_keys.specs.declared.fault.KeyFault.TheVariants as faults
use Rattle.secret_file.specs.declared.locked.Opened.TheVariants as openings

pub not_whole : (file : List ℕ) (read : Option (Sexp × ℕ)) (t : Sexp) (n : ℕ) → ReadsFront file read → read ≡ Some (t, n) → (n ≡ length file → ⊥) → (tree : Sexp) → IsReadable file tree → ⊥
not_whole file read t n again e other tree h =
    let long : length (spelling_of tree) ≡ length file = ap length (sym h.spelled) in
    let f : read ≡ Some (tree, length (spelling_of tree)) =
    again tree [] (record { spelled = refl; shallow = h.shallow; short = omega (arith, h.short) }) (h.spelled ∙ sym (append-nil (spelling_of tree))) in
    let pair : (t, n) ≡ (tree, length (spelling_of tree)) = cc in
    other (ap (λ (x : Sexp × ℕ). x.1) pair ∙ long)

pub key_answer : (key : Key) (pass : List ℕ) (locked : LockedKey) (opening : Opened) (r : Unlocked) → key.is_clear ≡ false → (locked.key ≡ key) × IsLocked locked → (opening ≡ openings.NoMemory) ⊎ AnswersOpening locked pass opening
    → r ≡ unlocked opening → (r ≡ NoMemory) ⊎ AnswersKey key pass r
key_answer key pass locked opening r e h (inl n) f = inl (f ∙ ap unlocked n)
key_answer key pass locked opening r e h (inr a) f = inr (inr (e, inr (locked, h.0, h.1, (opening, a, f))))

pub fault_answer : (key : Key) (pass : List ℕ) (fault : KeyFault) (r : Unlocked) → key.is_clear ≡ false → (fault ≡ faults.NoMemory) ⊎ IsLockedFault key fault → r ≡ refused fault → (r ≡ NoMemory) ⊎ AnswersKey key pass r
fault_answer key pass fault r e (inl n) f = inl (f ∙ ap refused n)
fault_answer key pass fault r e (inr (inl x)) f = absurd (let clear = x.0 in cc)
fault_answer key pass fault r e (inr (inr x)) f = inr (inr (x.0, inl (fault, x.1, f)))

pub opening_answers : (locked : LockedKey) (pass : List ℕ) (r : Result (Option Key) KeyFault) → IfOk r (IsOpening locked pass) → (opening_of r ≡ openings.NoMemory) ⊎ AnswersOpening locked pass (opening_of r)
opening_answers locked pass (Ok (Some key)) h = inr (inl (key, h.0, refl))
opening_answers locked pass (Ok None) h = inr (inr (h, refl))
opening_answers locked pass (Err fault) h = inl refl

pub opening_fits : (locked : LockedKey) (pass : List ℕ) (r : Result (Option Key) KeyFault) → IsLocked locked → FitsFile locked.key → IfOk r (IsOpening locked pass) → (clear : Key) → opening_of r ≡ openings.Key clear → FitsFile clear
opening_fits locked pass (Ok (Some key)) is fits h clear e = let same : key ≡ clear = cc in subst FitsFile same (fits_opened locked pass key is fits h.0 h.1)
opening_fits locked pass (Ok None) is fits h clear e = absurd cc
opening_fits locked pass (Err fault) is fits h clear e = absurd cc

-- the same of the parts of a locked key
pub opening_at : (locked : LockedKey) (key : Key) (p : Protection) (pass : List ℕ) (r : Result (Option Key) KeyFault) → key ≡ locked.key → locked.protection ≡ p → IfOk r (IsOpening (record { key = key; protection = p }) pass)
    → IfOk r (IsOpening locked pass)
opening_at locked key p pass r e f h =
    let g = sym f in
    let same : record { key = key; protection = p } ≡ locked = λ i. record { key = e i; protection = g i } in
    subst (λ (l : LockedKey). IfOk r (IsOpening l pass)) same h

-- ---- what is decrypted by CBC

abbrev pub chained_locked : Key → List ℕ → ℕ → (iv encrypted : List ℕ) → LockedKey
chained_locked key salt count iv encrypted = record { key = key; protection = record { salt = salt; count = count; cipher = Cbc iv; encrypted = encrypted } }

chained_opens : (key : Key) (salt : List ℕ) (count : ℕ) (iv encrypted pass bytes : List ℕ) (clear : Key) → bytes ≡ cbc_decrypted (derived_key pass salt count) iv encrypted → AreSecrets key bytes clear
    → OpensTo (chained_locked key salt count iv encrypted) pass clear
chained_opens key salt count iv encrypted pass bytes clear e h = record {
  secret = h.secret;
  names = h.names;
  clear = h.clear;
  held = subst (λ (bs : List ℕ). AreSpelled bs (secret_tree h.secret (hash_tree (sha1 (hashed_list_of clear (time_of key.private)))))) e h.spelled;
}

chained_secrets : (key : Key) (salt : List ℕ) (count : ℕ) (iv encrypted pass bytes : List ℕ) (clear : Key) → bytes ≡ cbc_decrypted (derived_key pass salt count) iv encrypted → OpensTo (chained_locked key salt count iv encrypted) pass clear
    → AreSecrets key bytes clear
chained_secrets key salt count iv encrypted pass bytes clear e h = record {
  secret = h.secret;
  names = h.names;
  clear = h.clear;
  spelled = subst (λ (bs : List ℕ). AreSpelled bs (secret_tree h.secret (hash_tree (sha1 (hashed_list_of clear (time_of key.private)))))) (sym e) h.held;
}

pub chained_opening : (key : Key) (salt : List ℕ) (count : ℕ) (iv encrypted pass bytes : List ℕ) (r : Result (Option Key) KeyFault) → bytes ≡ cbc_decrypted (derived_key pass salt count) iv encrypted → length bytes ≡ length encrypted
    → IfOk r (λ found. IfSome found (AreSecrets key bytes)) → IfOk r (λ found. IfNone found ((clear : Key) → AreSecrets key bytes clear → ⊥)) → IfOk r (IsOpening (chained_locked key salt count iv encrypted) pass)
chained_opening key salt count iv encrypted pass bytes (Ok (Some clear)) e len found none =
    (chained_opens key salt count iv encrypted pass bytes clear e found, omega (arith, secret_size key clear bytes found))
chained_opening key salt count iv encrypted pass bytes (Ok None) e len found none = λ clear h. none clear (chained_secrets key salt count iv encrypted pass bytes clear e h)
chained_opening key salt count iv encrypted pass bytes (Err fault) e len found none = tt
