-- One block of a chain, and the rest.
use Rattle.std.proofs.Common.{◌≡◌, ℕ, suc, ◌+◌, ◌*◌, ◌/◌, ◌<◌, ◌≤◌, List, [], ◌∷◌, ◌++◌, length, take, drop, ap, ap₂, ◌∙◌, sym, arith, append_assoc, length-append, length-drop}
use Rattle.std.{proofs.lemmas.List.{take_at, drop_at, drop-drop, append-nil, take_all}, specs.{List.concat, Simd.first_chunks}}
use Rattle.aes_block.specs.Aes.{xor_of, encrypted, decrypted}
use Rattle.aes_modes.specs.Cbc.{blocks_of, encrypted_blocks, decrypted_blocks, cbc_encrypted, cbc_decrypted}

pub blocks_of_next : (s : List ℕ) → 16 ≤ length s → blocks_of s ≡ take 16 s ∷ blocks_of (drop 16 s)
blocks_of_next s h =
    let e : length s / 16 ≡ suc (length (drop 16 s) / 16) = omega (arith, length-drop 16 s) in
    ap (λ n. first_chunks 16 n s) e

pub blocks_of_none : (s : List ℕ) → length s < 16 → blocks_of s ≡ []
blocks_of_none s h =
    let e : length s / 16 ≡ 0 = omega arith in
    ap (λ n. first_chunks 16 n s) e

pub cbc_encrypted_next : (key before s : List ℕ) → 16 ≤ length s → let c = encrypted key (xor_of (take 16 s) before) in
    cbc_encrypted key before s ≡ c ++ cbc_encrypted key c (drop 16 s)
unfolding cbc_encrypted encrypted_blocks
cbc_encrypted_next key before s h = ap (λ bs. concat (encrypted_blocks key before bs)) (blocks_of_next s h)

pub cbc_decrypted_next : (key before s : List ℕ) → 16 ≤ length s
    → cbc_decrypted key before s ≡ xor_of (decrypted key (take 16 s)) before ++ cbc_decrypted key (take 16 s) (drop 16 s)
unfolding cbc_decrypted decrypted_blocks
cbc_decrypted_next key before s h = ap (λ bs. concat (decrypted_blocks key before bs)) (blocks_of_next s h)

cbc_encrypted_none : (key before s : List ℕ) → length s < 16 → cbc_encrypted key before s ≡ []
unfolding cbc_encrypted encrypted_blocks
cbc_encrypted_none key before s h = ap (λ bs. concat (encrypted_blocks key before bs)) (blocks_of_none s h)

cbc_decrypted_none : (key before s : List ℕ) → length s < 16 → cbc_decrypted key before s ≡ []
unfolding cbc_decrypted decrypted_blocks
cbc_decrypted_none key before s h = ap (λ bs. concat (decrypted_blocks key before bs)) (blocks_of_none s h)

-- ---- a loop that replaces one block after another

-- the block at a place is replaced by c
pub record IsPut (s c now : List ℕ) (start : ℕ) : Type 0 where
  pub fits : start + 16 ≤ length s
  pub kept : length now ≡ length s
  pub put : now ≡ take start s ++ c ++ drop (start + 16) s

length_front : (s c now : List ℕ) (start : ℕ) → IsPut s c now start → length (take start s ++ c) ≡ start + 16
length_front s c now start h =
    let whole = ap length h.put ∙ length-append (take start s ++ c) (drop (start + 16) s) in
    omega (arith, whole, length-drop (start + 16) s, h.fits, h.kept)

done : (s c now : List ℕ) (start : ℕ) → IsPut s c now start → take (start + 16) now ≡ take start s ++ c
done s c now start h =
    ap (take (start + 16)) h.put
    ∙ take_at (take start s ++ c) (drop (start + 16) s) (start + 16) (length_front s c now start h)

left : (s c now : List ℕ) (start : ℕ) → IsPut s c now start → drop (start + 16) now ≡ drop 16 (drop start s)
left s c now start h =
    ap (drop (start + 16)) h.put
    ∙ drop_at (take start s ++ c) (drop (start + 16) s) (start + 16) (length_front s c now start h)
    ∙ sym (drop-drop 16 start s)

-- what is done so far, and what the rest will be, make the whole
pub chain_more : (f g : List ℕ → List ℕ) (s c now whole : List ℕ) (i : ℕ) → IsPut s c now (16 * i)
    → f (drop (16 * i) s) ≡ c ++ g (drop 16 (drop (16 * i) s))
    → take (16 * i) s ++ f (drop (16 * i) s) ≡ whole
    → take (16 * (i + 1)) now ++ g (drop (16 * (i + 1)) now) ≡ whole
chain_more f g s c now whole i h step e =
    let there : 16 * (i + 1) ≡ 16 * i + 16 = omega arith in
    rw there
    (ap₂ (λ a b. a ++ g b) (done s c now (16 * i) h) (left s c now (16 * i) h)
    ∙ append_assoc (take (16 * i) s) c (g (drop 16 (drop (16 * i) s)))
    ∙ ap (λ t. take (16 * i) s ++ t) (sym step)
    ∙ e)

chain_at_end : (s whole rest : List ℕ) (i : ℕ) → length s ≤ 16 * i → rest ≡ [] → take (16 * i) s ++ rest ≡ whole → s ≡ whole
chain_at_end s whole rest i h r e =
    sym (append-nil s) ∙ ap₂ ◌++◌ (sym (take_all (16 * i) s h)) (sym r) ∙ e

pub encrypt_more : (key before s c now whole : List ℕ) (i : ℕ) → IsPut s c now (16 * i)
    → c ≡ encrypted key (xor_of (take 16 (drop (16 * i) s)) before)
    → take (16 * i) s ++ cbc_encrypted key before (drop (16 * i) s) ≡ whole
    → take (16 * (i + 1)) now ++ cbc_encrypted key c (drop (16 * (i + 1)) now) ≡ whole
encrypt_more key before s c now whole i h e =
    let room : 16 ≤ length (drop (16 * i) s) = omega (arith, length-drop (16 * i) s, h.fits) in
    chain_more (cbc_encrypted key before) (cbc_encrypted key c) s c now whole i h
    (cbc_encrypted_next key before (drop (16 * i) s) room ∙ ap (λ x. x ++ cbc_encrypted key x (drop 16 (drop (16 * i) s))) (sym e))

pub decrypt_more : (key before s c now whole : List ℕ) (i : ℕ) → IsPut s c now (16 * i)
    → c ≡ xor_of (decrypted key (take 16 (drop (16 * i) s))) before
    → take (16 * i) s ++ cbc_decrypted key before (drop (16 * i) s) ≡ whole
    → take (16 * (i + 1)) now ++ cbc_decrypted key (take 16 (drop (16 * i) s)) (drop (16 * (i + 1)) now) ≡ whole
decrypt_more key before s c now whole i h e =
    let room : 16 ≤ length (drop (16 * i) s) = omega (arith, length-drop (16 * i) s, h.fits) in
    chain_more (cbc_decrypted key before) (cbc_decrypted key (take 16 (drop (16 * i) s))) s c now whole i h
    (cbc_decrypted_next key before (drop (16 * i) s) room ∙ ap (λ x. x ++ cbc_decrypted key (take 16 (drop (16 * i) s)) (drop 16 (drop (16 * i) s))) (sym e))

pub encrypted_at_end : (key before s whole : List ℕ) (i : ℕ) → length s ≤ 16 * i
    → take (16 * i) s ++ cbc_encrypted key before (drop (16 * i) s) ≡ whole → s ≡ whole
encrypted_at_end key before s whole i h =
    chain_at_end s whole _ i h (cbc_encrypted_none key before (drop (16 * i) s) (omega (arith, length-drop (16 * i) s)))

pub decrypted_at_end : (key before s whole : List ℕ) (i : ℕ) → length s ≤ 16 * i
    → take (16 * i) s ++ cbc_decrypted key before (drop (16 * i) s) ≡ whole → s ≡ whole
decrypted_at_end key before s whole i h =
    chain_at_end s whole _ i h (cbc_decrypted_none key before (drop (16 * i) s) (omega (arith, length-drop (16 * i) s)))
