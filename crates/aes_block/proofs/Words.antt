-- The words of the key schedule, and the keys of the rounds.
use Rattle.std.proofs.{Common.{◌≡◌, ℕ, zero, suc, ◌+◌, ◌-◌, ◌*◌, ◌/◌, ◌%◌, ◌≤◌, List, [], ◌∷◌, ◌++◌, length, slice_index, drop, refl, ap, ◌∙◌, sym, subst, arith, Bool, true, false, length-take, length-drop}, lemmas.Bool.ne_eqb}
use Rattle.std.specs.Prelude.{◌==◌, if◌then◌else◌}
use Rattle.aes_block.{specs.Aes.{xor_of, turned_word, added_word, word, round_key}, proofs.{Lists.literal, XorLemmas.length_xor_of}}

length_added_word : (w : List ℕ) (i : ℕ) → length w ≡ 4 → length (added_word w i) ≡ 4
length_added_word w i h = by_test (i % 4 == 0) where
  by_test : (b : Bool) → length (if b then turned_word w (i / 4) else w) ≡ 4
  by_test true = refl
  by_test false = h

pub length_word : (key : List ℕ) → length key ≡ 16 → (n : ℕ) → length (word key n) ≡ 4
unfolding word
length_word key h zero = omega (arith, length-take 4 key, length-drop 0 key)
length_word key h (suc zero) = omega (arith, length-take 4 (drop 4 key), length-drop 4 key)
length_word key h (suc (suc zero)) = omega (arith, length-take 4 (drop 8 key), length-drop 8 key)
length_word key h (suc (suc (suc zero))) = omega (arith, length-take 4 (drop 12 key), length-drop 12 key)
length_word key h (suc (suc (suc (suc n)))) =
    let last = length_added_word (word key (suc (suc (suc n)))) (n + 4) (length_word key h (suc (suc (suc n)))) in
    length_xor_of (word key n) (added_word (word key (suc (suc (suc n)))) (n + 4)) (length_word key h n ∙ sym last) ∙ last

-- the rule of the schedule
word_next : (key : List ℕ) (n m k : ℕ) → m ≡ n + 3 → k ≡ n + 4 → word key k ≡ xor_of (word key n) (added_word (word key m) (n + 4))
unfolding word
word_next key n m k p q =
    let e : m ≡ suc (suc (suc n)) = omega arith in
    let f : k ≡ suc (suc (suc (suc n))) = omega arith in
    rw (e, f) refl

-- the first round's key is the key
pub round_key_zero : (key : List ℕ) → length key ≡ 16 → round_key key 0 ≡ key
unfolding round_key word
round_key_zero key h = subst (λ (k : List ℕ). round_key k 0 ≡ k) (sym (literal 16 key h)) refl

added_word_first : (w : List ℕ) (i r : ℕ) → i ≡ 4 * r → added_word w i ≡ turned_word w r
added_word_first w i r e =
    let m : i % 4 ≡ 0 = omega arith in
    let d : i / 4 ≡ r = omega arith in
    rw (m, d) refl

added_word_other : (w : List ℕ) (i k : ℕ) → i % 4 ≡ suc k → added_word w i ≡ w
added_word_other w i k e = let f : (i % 4 == 0) ≡ false = ne_eqb (i % 4) 0 (λ z. absurd (omega arith)) in rw f refl

-- the words w, x, y, z of which a list consists
parts : (w x y z : List ℕ) → length w ≡ 4 → length x ≡ 4 → length y ≡ 4 → length z ≡ 4
    → let p = w ++ x ++ y ++ z in
    (slice_index p 0 ∷ slice_index p 1 ∷ slice_index p 2 ∷ slice_index p 3 ∷ [] ≡ w)
    × (slice_index p 4 ∷ slice_index p 5 ∷ slice_index p 6 ∷ slice_index p 7 ∷ [] ≡ x)
    × (slice_index p 8 ∷ slice_index p 9 ∷ slice_index p 10 ∷ slice_index p 11 ∷ [] ≡ y)
    × (slice_index p 12 ∷ slice_index p 13 ∷ slice_index p 14 ∷ slice_index p 15 ∷ [] ≡ z)
parts w x y z hw hx hy hz =
    rw (literal 4 w hw) (rw (literal 4 x hx) (rw (literal 4 y hy) (rw (literal 4 z hz) (refl, refl, refl, refl))))

-- the four words that follow the words w, x, y, z with round r
unfoldable pub next_words : List ℕ → List ℕ → List ℕ → List ℕ → ℕ → List ℕ
next_words w x y z r =
    let a = xor_of w (turned_word z r) in
    let b = xor_of x a in
    let c = xor_of y b in
    a ++ b ++ c ++ xor_of z c

round_key_suc : (key : List ℕ) (n : ℕ)
    → next_words (word key (4 * n)) (word key (4 * n + 1)) (word key (4 * n + 2)) (word key (4 * n + 3)) (suc n) ≡ round_key key (suc n)
unfolding round_key next_words
round_key_suc key n =
    let a = word_next key (4 * n) (4 * n + 3) (4 * suc n) refl (omega arith)
    ∙ ap (xor_of (word key (4 * n))) (added_word_first (word key (4 * n + 3)) (4 * n + 4) (suc n) (omega arith)) in
    let b = word_next key (4 * n + 1) (4 * suc n) (4 * suc n + 1) (omega arith) (omega arith)
    ∙ ap (xor_of (word key (4 * n + 1))) (added_word_other (word key (4 * suc n)) (4 * n + 1 + 4) 0 (omega arith)) in
    let c = word_next key (4 * n + 2) (4 * suc n + 1) (4 * suc n + 2) (omega arith) (omega arith)
    ∙ ap (xor_of (word key (4 * n + 2))) (added_word_other (word key (4 * suc n + 1)) (4 * n + 2 + 4) 1 (omega arith)) in
    let d = word_next key (4 * n + 3) (4 * suc n + 2) (4 * suc n + 3) (omega arith) (omega arith)
    ∙ ap (xor_of (word key (4 * n + 3))) (added_word_other (word key (4 * suc n + 2)) (4 * n + 3 + 4) 2 (omega arith)) in
    cc (a, b, c, d)

-- the same from the bytes of the key before
pub round_key_from : (key p : List ℕ) (r : ℕ) → length key ≡ 16 → 1 ≤ r → p ≡ round_key key (r - 1)
    → next_words (slice_index p 0 ∷ slice_index p 1 ∷ slice_index p 2 ∷ slice_index p 3 ∷ [])
    (slice_index p 4 ∷ slice_index p 5 ∷ slice_index p 6 ∷ slice_index p 7 ∷ [])
    (slice_index p 8 ∷ slice_index p 9 ∷ slice_index p 10 ∷ slice_index p 11 ∷ [])
    (slice_index p 12 ∷ slice_index p 13 ∷ slice_index p 14 ∷ slice_index p 15 ∷ []) r ≡ round_key key r
unfolding round_key
round_key_from key p zero h low e = absurd (omega arith)
round_key_from key p (suc n) h low e =
    let q = parts (word key (4 * n)) (word key (4 * n + 1)) (word key (4 * n + 2)) (word key (4 * n + 3))
    (length_word key h (4 * n)) (length_word key h (4 * n + 1)) (length_word key h (4 * n + 2)) (length_word key h (4 * n + 3)) in
    let m : suc n - 1 ≡ n = omega arith in
    rw (e ∙ ap (round_key key) m) (rw (q.0, q.1, q.2, q.3) (round_key_suc key n))
