-- Two tags compared through their sum.
use Rattle.std.{proofs.{Common.{◌≡◌, ℕ, zero, suc, ◌+◌, ◌<◌, ◌≤◌, List, [], ◌∷◌, length, get_or, refl, ap, ap₂, ◌∙◌, sym, arith, below_more}, lemmas.Nat.{le_or_l, le_or_r}}, specs.Prelude.{bit_xor, bit_or}}
use Rattle.std.specs.Int.Bits.{xor_self, xor_zero_l, or_zero_l}
use Rattle.aes_block.{specs.Aes.xor_of, proofs.XorLemmas.xor_twice}

-- the first i bytes of a sum are within the bits that were seen
pub record Seen (sum : List ℕ) (bits i : ℕ) : Type 0 where
  pub within : (k : ℕ) → k < i → get_or sum k 0 ≤ bits
  pub none : ((k : ℕ) → get_or sum k 0 ≡ 0) → bits ≡ 0

pub seen_more : (sum : List ℕ) (bits i : ℕ) → Seen sum bits i → Seen sum (bit_or bits (get_or sum i 0)) (i + 1)
seen_more sum bits i h = record {
  within = below_more _ _
      (λ k lt. omega (arith, h.within k lt, le_or_l bits (get_or sum i 0)))
      (le_or_r bits (get_or sum i 0));
  none = λ all. ap₂ bit_or (h.none all) (all i) ∙ or_zero_l 0;
}

from_no_sum : (x y : ℕ) → bit_xor x y ≡ 0 → x ≡ y
from_no_sum x y h = sym (xor_twice x y) ∙ ap (λ z. bit_xor z y) h ∙ xor_zero_l y

equal_from : (a b : List ℕ) → length a ≡ length b → ((k : ℕ) → k < length a → get_or (xor_of a b) k 0 ≡ 0) → a ≡ b
equal_from [] [] h all = refl
equal_from [] (y ∷ ys) h all = absurd (omega arith)
equal_from (x ∷ xs) [] h all = absurd (omega arith)
equal_from (x ∷ xs) (y ∷ ys) h all =
    ap₂ ◌∷◌ (from_no_sum x y (all 0 (omega arith))) (equal_from xs ys (cc) (λ k lt. all (suc k) (omega arith)))

no_sum : (a : List ℕ) (k : ℕ) → get_or (xor_of a a) k 0 ≡ 0
no_sum [] k = refl
no_sum (x ∷ xs) zero = xor_self x
no_sum (x ∷ xs) (suc k) = no_sum xs k

pub seen_none : (a b sum : List ℕ) (bits : ℕ) → length a ≡ length b → sum ≡ xor_of a b → Seen sum bits (length a) → bits ≡ 0 → a ≡ b
seen_none a b sum bits h e s z =
    equal_from a b h (λ k lt. ap (λ t. get_or t k 0) (sym e) ∙ omega (arith, s.within k lt))

pub seen_some : (a b sum : List ℕ) (bits i : ℕ) → sum ≡ xor_of a b → Seen sum bits i → a ≡ b → bits ≡ 0
seen_some a b sum bits i e s same =
    s.none (λ k. ap (λ t. get_or t k 0) (e ∙ ap (xor_of a) (sym same)) ∙ no_sum a k)
