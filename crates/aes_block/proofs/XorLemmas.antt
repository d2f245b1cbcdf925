-- The laws of the exclusive or, of numbers and of lists of bytes.
use native.Mathlib.Nat.{zero-mul, one-mul}
use Rattle.std.proofs.Common.{◌≡◌, ℕ, zero, suc, ◌+◌, ◌*◌, ◌%◌, ◌^◌, ◌<◌, List, [], ◌∷◌, length, get_or, refl, ap, ap₂, ◌∙◌, sym, arith, ◌⊎◌, inl, inr, add-zero, ◌≤◌, set, below_more}
use Rattle.std.{proofs.lemmas.{List.{get_or-set_same, get_or-set_other, length-set}, Nat.{xor_comm, xor_block, pow_pos}}, specs.{Prelude.bit_xor, Int.Bits.{xor_assoc, xor_self, xor_zero_r}}}
use Rattle.aes_block.specs.Aes.{xor_of}

-- adding one number twice
pub xor_twice : (a b : ℕ) → bit_xor (bit_xor a b) b ≡ a
xor_twice a b = xor_assoc a b b ∙ ap (bit_xor a) (xor_self b) ∙ xor_zero_r a

-- two sums of two, added place by place
pub xor_swap : (a b c d : ℕ) → bit_xor (bit_xor a b) (bit_xor c d) ≡ bit_xor (bit_xor a c) (bit_xor b d)
xor_swap a b c d =
    xor_assoc a b (bit_xor c d)
    ∙ ap (bit_xor a) (sym (xor_assoc b c d) ∙ ap (λ x. bit_xor x d) (xor_comm b c) ∙ xor_assoc c b d)
    ∙ sym (xor_assoc a c (bit_xor b d))

pub mul_pow_xor : (a b n : ℕ) → bit_xor a b * 2 ^ n ≡ bit_xor (a * 2 ^ n) (b * 2 ^ n)
mul_pow_xor a b n = sym (simp add-zero at (xor_block n a b 0 0 (pow_pos n) (pow_pos n)))

bit_cases : (m : ℕ) → m < 2 → (m ≡ 0) ⊎ (m ≡ 1)
bit_cases zero h = inl refl
bit_cases (suc zero) h = inr refl
bit_cases (suc (suc m)) h = absurd (omega arith)

pub bit_mul_xor : (m a b : ℕ) → m < 2 → m * bit_xor a b ≡ bit_xor (m * a) (m * b)
bit_mul_xor m a b h = elim (bit_cases m h) [
  | inl e ↦ rw e (simp zero-mul refl)
  | inr e ↦ rw e (simp one-mul refl)
]

pub xor_bit_mul : (m n a : ℕ) → m < 2 → n < 2 → ((m + n) % 2) * a ≡ bit_xor (m * a) (n * a)
xor_bit_mul m n a h k = elim (bit_cases m h) [
  | inl e ↦ rw e (elim (bit_cases n k) [
    | inl f ↦ rw f (simp zero-mul refl)
    | inr f ↦ rw f (simp (zero-mul, one-mul) refl)
  ])
  | inr e ↦ rw e (elim (bit_cases n k) [
    | inl f ↦ rw f (simp (zero-mul, one-mul) (sym (xor_zero_r a)))
    | inr f ↦ rw f (simp (zero-mul, one-mul) (sym (xor_self a)))
  ])
]

-- ---- lists

pub length_xor_of : (a b : List ℕ) → length a ≡ length b → length (xor_of a b) ≡ length b
length_xor_of [] [] h = refl
length_xor_of [] (y ∷ ys) h = h
length_xor_of (x ∷ xs) [] h = refl
length_xor_of (x ∷ xs) (y ∷ ys) h = ap suc (length_xor_of xs ys (cc))

-- the sum, from its bytes
pub xor_of_from : (s a b : List ℕ) → length s ≡ length a → length a ≡ length b
    → ((k : ℕ) → k < length a → get_or s k 0 ≡ bit_xor (get_or a k 0) (get_or b k 0)) → s ≡ xor_of a b
xor_of_from [] [] b h k each = refl
xor_of_from (z ∷ zs) [] b h k each = absurd (omega arith)
xor_of_from [] (x ∷ xs) b h k each = absurd (omega arith)
xor_of_from (z ∷ zs) (x ∷ xs) [] h k each = absurd (omega arith)
xor_of_from (z ∷ zs) (x ∷ xs) (y ∷ ys) h k each =
    ap₂ ◌∷◌ (each 0 (omega arith)) (xor_of_from zs xs ys (cc) (cc) (λ i lt. each (suc i) (omega arith)))

-- adding one list twice
pub xor_of_twice : (a b : List ℕ) → length a ≡ length b → xor_of (xor_of a b) b ≡ a
xor_of_twice [] b h = refl
xor_of_twice (x ∷ xs) [] h = absurd (omega arith)
xor_of_twice (x ∷ xs) (y ∷ ys) h = ap₂ ◌∷◌ (xor_twice x y) (xor_of_twice xs ys (cc))

-- the first i bytes of right are added to left
pub record Added (left right sum : List ℕ) (i : ℕ) : Type 0 where
  pub len : length sum ≡ length left
  pub done : (k : ℕ) → k < i → get_or sum k 0 ≡ bit_xor (get_or left k 0) (get_or right k 0)
  pub rest : (k : ℕ) → i ≤ k → get_or sum k 0 ≡ get_or left k 0

pub added_more : (l r s : List ℕ) (i : ℕ) → i < length s → Added l r s i
    → Added l r (set s i (bit_xor (get_or s i 0) (get_or r i 0))) (i + 1)
added_more l r s i lt h = record {
  len = length-set s i _ ∙ h.len;
  done = below_more _ _
      (λ k below. get_or-set_other s i k _ 0 (omega arith) ∙ h.done k below)
      (get_or-set_same s i _ 0 lt ∙ ap (λ x. bit_xor x (get_or r i 0)) (h.rest i (omega arith)));
  rest = λ k above. get_or-set_other s i k _ 0 (omega arith) ∙ h.rest k (omega arith);
}
