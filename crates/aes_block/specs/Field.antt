-- The field of FIPS 197 (2023), 4. A byte is a polynomial over the two elements 0 and 1: its bit i is the
-- coefficient of x ^ i. The sum of two polynomials is the exclusive or of their bits, `bit_xor`.
use Rattle.std.specs.{Prelude.{ℕ, zero, suc, ◌+◌, ◌*◌, ◌%◌, ◌^◌, List, ◌==◌, bit_xor, map, unwrap_or, position}, Int.bit_at, List.range_with_len}

-- x^8 + x^4 + x^3 + x + 1 (4.2)
abbrev pub modulus : ℕ
modulus = 0x11B

-- the product of the polynomial b and the part of a below degree n: the sum of x ^ i * b over the
-- bits i of a that are 1
unfoldable pub product_below : ℕ → ℕ → ℕ → ℕ
product_below a b zero = 0
product_below a b (suc n) = bit_xor (product_below a b n) (bit_at a n * (b * 2 ^ n))

-- what is left of p, a polynomial below degree n + 8, modulo the modulus: where the coefficient of
-- the highest degree is 1, a multiple of the modulus clears it
unfoldable pub remainder : ℕ → ℕ → ℕ
remainder p zero = p
remainder p (suc n) = remainder (bit_xor p (bit_at p (n + 8) * (modulus * 2 ^ n))) n

-- the product of two bytes (4.2)
unfoldable pub product : ℕ → ℕ → ℕ
product a b = remainder (product_below a b 8) 7

unfoldable pub power : ℕ → ℕ → ℕ
power a zero = 1
power a (suc n) = product a (power a n)

-- the inverse of a byte; 0 stays 0 (4.4)
unfoldable pub inverse : ℕ → ℕ
inverse a = power a 254

-- the number with the bits f 0 to f (n - 1)
unfoldable pub from_bits : (ℕ → ℕ) → ℕ → ℕ
from_bits f zero = 0
from_bits f (suc n) = from_bits f n + f n * 2 ^ n

-- bit i of the affine sum of the byte b (5.1.1)
abbrev pub affine_bit : ℕ → ℕ → ℕ
affine_bit b i =
    (bit_at b i + bit_at b ((i + 4) % 8) + bit_at b ((i + 5) % 8) + bit_at b ((i + 6) % 8)
    + bit_at b ((i + 7) % 8) + bit_at 0x63 i) % 2

-- the byte that SubBytes puts in place of the byte a (5.1.1)
unfoldable pub sub_byte : ℕ → ℕ
sub_byte a = from_bits (affine_bit (inverse a)) 8

-- what SubBytes puts in place of the bytes 0 to 255
unfoldable pub substitutes : List ℕ
substitutes = map sub_byte (range_with_len 0 256)

-- the byte whose substitute is b (5.3.2)
unfoldable pub inv_sub_byte : ℕ → ℕ
inv_sub_byte b = unwrap_or (position (λ s. s == b) substitutes) 0
