-- A text copies_of without end.
use native.Mathlib.Nat.{div-add-mod', mul-mod_left, mul_assoc, mul-add-mod_self_left}
use Rattle.std.proofs.{Common.{◌≡◌, ℕ, zero, suc, ◌+◌, ◌-◌, ◌*◌, ◌/◌, ◌%◌, ◌<◌, ◌≤◌, List, [], ◌∷◌, ◌++◌, length, get_or, slice_index, take, refl, ap, ap₂, ◌∙◌, sym, arith, append_assoc, add-zero}, lemmas.List.{append-nil, length-append}}
use Rattle.std.proofs.lemmas.List.FromFn.{take-map-range_with_len, map-range_with_len_more, fill_by_all, length-map-range_with_len}
use Rattle.s2k_derive.specs.S2k.{copies_of}

-- one place
abbrev pub at : List ℕ → ℕ → ℕ
at text i = slice_index text (i % length text)

pub take_repeated : (text : List ℕ) (m n : ℕ) → n ≤ m → take n (copies_of text m) ≡ copies_of text n
unfolding copies_of
take_repeated text m n h = take-map-range_with_len (at text) 0 m n h

copies_of_suc : (text : List ℕ) (n : ℕ) → copies_of text (n + 1) ≡ copies_of text n ++ at text n ∷ []
unfolding copies_of
copies_of_suc text n = map-range_with_len_more (at text) 0 n n (omega arith)

pub copies_of_zero : (text : List ℕ) → copies_of text 0 ≡ []
unfolding copies_of
copies_of_zero text = refl

pub length_repeated : (text : List ℕ) (n : ℕ) → length (copies_of text n) ≡ n
unfolding copies_of
length_repeated text n = length-map-range_with_len (at text) 0 n

-- whole copies, and what follows
pub copies_of_add : (text : List ℕ) (a n : ℕ) → ((i : ℕ) → (a + i) % length text ≡ i % length text)
    → copies_of text (a + n) ≡ copies_of text a ++ copies_of text n
copies_of_add text a zero h = ap (copies_of text) (add-zero a) ∙ sym (append-nil (copies_of text a)) ∙ ap (λ t. copies_of text a ++ t) (sym (copies_of_zero text))
copies_of_add text a (suc n) h =
    let e : a + suc n ≡ a + n + 1 = omega arith in
    let f : suc n ≡ n + 1 = omega arith in
    ap (copies_of text) e
    ∙ copies_of_suc text (a + n)
    ∙ ap₂ (λ t b. t ++ b ∷ []) (copies_of_add text a n h) (ap (slice_index text) (h n))
    ∙ append_assoc (copies_of text a) (copies_of text n) (at text n ∷ [])
    ∙ ap (λ t. copies_of text a ++ t) (sym (copies_of_suc text n) ∙ ap (copies_of text) (sym f))

-- what the loop has written
pub written : (text s : List ℕ) (n : ℕ) → length s ≡ n → ((k : ℕ) → k < n → get_or s k 0 ≡ at text k) → s ≡ copies_of text n
unfolding copies_of
written text s n h each = fill_by_all (at text) s n 0 h each

-- ---- what is fed to the hash

-- the part of the copies that ends with a whole one
whole : (size len : ℕ) → (size - size % len) % len ≡ 0
whole size len =
    let e : size - size % len ≡ size / len * len = omega (arith, div-add-mod' size len) in
    rw e (mul-mod_left (size / len) len)

repeated_more : (text : List ℕ) (p k n : ℕ) → p % length text ≡ 0
    → copies_of text (p * k + n) ≡ copies_of text (p * k) ++ copies_of text n
repeated_more text p k n h =
    let len = length text in
    let q = p / len in
    let e : p ≡ len * q = omega (arith, div-add-mod' p len) in
    let f : p * k ≡ len * (q * k) = ap (λ x. x * k) e ∙ mul_assoc len q k in
    copies_of_add text (p * k) n (λ i. ap (λ x. (x + i) % len) f ∙ mul-add-mod_self_left len (q * k) i)

-- a piece is the text over and over, and it ends with a whole copy of it
pub record IsPiece (text piece : List ℕ) : Type 0 where
  pub same : piece ≡ copies_of text (length piece)
  pub ends : length piece % length text ≡ 0

pub piece_of : (text : List ℕ) (size : ℕ) → IsPiece text (take (size - size % length text) (copies_of text size))
piece_of text size =
    let n = size - size % length text in
    let less : n ≤ size = omega arith in
    let e = take_repeated text size n less in
    let long = ap length e ∙ length_repeated text n in
    record { same = e ∙ ap (copies_of text) (sym long); ends = ap (λ k. k % length text) long ∙ whole size (length text) }

pub piece_more : (text piece : List ℕ) (k : ℕ) → IsPiece text piece
    → copies_of text (length piece * k) ++ piece ≡ copies_of text (length piece * (k + 1))
piece_more text piece k h =
    let e : length piece * (k + 1) ≡ length piece * k + length piece = omega arith in
    ap (λ t. copies_of text (length piece * k) ++ t) h.same
    ∙ sym (repeated_more text (length piece) k (length piece) h.ends)
    ∙ ap (copies_of text) (sym e)

-- the last piece makes the total up
pub piece_last : (text piece : List ℕ) (total k : ℕ) → IsPiece text piece → 0 < length piece → k ≡ total / length piece
    → copies_of text (length piece * k) ++ take (total % length piece) piece ≡ copies_of text total
piece_last text piece total k h pos e =
    let p = length piece in
    let part : total % p ≤ p = omega arith in
    let sum : p * k + total % p ≡ total = ap (λ x. p * x + total % p) e ∙ omega (arith, div-add-mod' total p) in
    ap (λ t. copies_of text (p * k) ++ t) (ap (take (total % p)) h.same ∙ take_repeated text p (total % p) part)
    ∙ sym (repeated_more text p k (total % p) h.ends)
    ∙ ap (copies_of text) sum

-- the piece that is cut from the copies of a salt and a passphrase
pub piece_cut : (pass salt copies : List ℕ) → length salt ≡ 8 → copies ≡ copies_of (salt ++ pass) 2048
    → IsPiece (salt ++ pass) (take (2048 - 2048 % (8 + length pass)) copies)
piece_cut pass salt copies h e =
    let long : length (salt ++ pass) ≡ 8 + length pass = length-append salt pass ∙ ap (λ n. n + length pass) h in
    rw (e, ← long) (piece_of (salt ++ pass) 2048)
