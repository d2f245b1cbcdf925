-- The field's product is linear in its second factor.
use Rattle.std.{proofs.{Common.{◌≡◌, ℕ, zero, suc, ◌+◌, ◌*◌, ◌^◌, refl, ap, ap₂, ◌∙◌}, lemmas.Nat.Bits.{bit_at_xor, bit_at-lt}}, specs.{Prelude.bit_xor, Int.bit_at}}
use Rattle.aes_block.{specs.Field.{modulus, product, product_below, remainder}, proofs.XorLemmas.{xor_swap, mul_pow_xor, bit_mul_xor, xor_bit_mul}}

product_below_xor : (a b c n : ℕ) → product_below a (bit_xor b c) n ≡ bit_xor (product_below a b n) (product_below a c n)
unfolding product_below
product_below_xor a b c zero = refl
product_below_xor a b c (suc n) =
    ap₂ bit_xor (product_below_xor a b c n)
    (ap (λ x. bit_at a n * x) (mul_pow_xor b c n) ∙ bit_mul_xor (bit_at a n) (b * 2 ^ n) (c * 2 ^ n) (bit_at-lt a n))
    ∙ xor_swap (product_below a b n) (product_below a c n) (bit_at a n * (b * 2 ^ n)) (bit_at a n * (c * 2 ^ n))

-- clearing one coefficient of a sum
cleared : ℕ → ℕ → ℕ
cleared p n = bit_xor p (bit_at p (n + 8) * (modulus * 2 ^ n))

cleared_xor : (p q n : ℕ) → cleared (bit_xor p q) n ≡ bit_xor (cleared p n) (cleared q n)
unfolding cleared
cleared_xor p q n =
    ap (bit_xor (bit_xor p q))
    (ap (λ b. b * (modulus * 2 ^ n)) (bit_at_xor p q (n + 8))
    ∙ xor_bit_mul (bit_at p (n + 8)) (bit_at q (n + 8)) (modulus * 2 ^ n) (bit_at-lt p (n + 8)) (bit_at-lt q (n + 8)))
    ∙ xor_swap p q (bit_at p (n + 8) * (modulus * 2 ^ n)) (bit_at q (n + 8) * (modulus * 2 ^ n))

remainder_xor : (n p q : ℕ) → remainder (bit_xor p q) n ≡ bit_xor (remainder p n) (remainder q n)
unfolding remainder cleared
remainder_xor zero p q = refl
remainder_xor (suc n) p q = ap (λ x. remainder x n) (cleared_xor p q n) ∙ remainder_xor n (cleared p n) (cleared q n)

pub product_xor : (a b c : ℕ) → product a (bit_xor b c) ≡ bit_xor (product a b) (product a c)
unfolding product
product_xor a b c = ap (λ p. remainder p 7) (product_below_xor a b c 8) ∙ remainder_xor 7 (product_below a b 8) (product_below a c 8)
