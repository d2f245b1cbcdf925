-- The rule of each table, computed over all 256 bytes.
use Rattle.std.{proofs.{Common.{◌≡◌, ℕ, ◌<◌, refl, ap, ◌∙◌, sym, arith, List, slice_index, get_or, map, [], ◌∷◌, ◌%◌}, lemmas.List.FromFn.get_or-map-range_with_len}, specs.{Prelude.{◌==◌, unwrap_or, position, bit_xor}, List.range_with_len}}
use Rattle.aes_block.specs.{Field.{product, product_below, remainder, power, inverse, from_bits, sub_byte, inv_sub_byte, substitutes}, Aes.{mix_column, inv_mix_column}, declared.tables.TheConstants.{SUBSTITUTES, ORIGINALS, ROUND_CONSTANTS}}

pub substitutes_are : substitutes ≡ SUBSTITUTES
unfolding substitutes product product_below remainder power inverse from_bits sub_byte
substitutes_are = refl

abbrev place_in : List ℕ → ℕ → ℕ
place_in table b = unwrap_or (position (λ s. s == b) table) 0

originals_in : map (place_in SUBSTITUTES) (range_with_len 0 256) ≡ ORIGINALS
originals_in = refl

inv_sub_byte_is : (b : ℕ) → inv_sub_byte b ≡ place_in SUBSTITUTES b
unfolding inv_sub_byte
inv_sub_byte_is b = ap (λ t. place_in t b) substitutes_are

-- ---- the tables at one byte

pub substitute_is : (b : ℕ) → b < 256 → slice_index SUBSTITUTES b ≡ sub_byte b
unfolding substitutes
substitute_is b h =
    ap (λ t. slice_index t b) (sym substitutes_are) ∙ get_or-map-range_with_len sub_byte 0 256 b b 0 h (omega arith)

pub original_is : (b : ℕ) → b < 256 → slice_index ORIGINALS b ≡ inv_sub_byte b
original_is b h =
    ap (λ t. slice_index t b) (sym originals_in)
    ∙ get_or-map-range_with_len (place_in SUBSTITUTES) 0 256 b b 0 h (omega arith)
    ∙ sym (inv_sub_byte_is b)

-- ---- products with small constants, and the round constants

-- two functions that agree on the list of all bytes
pub on_bytes : {X : Type 0} → (f g : ℕ → X) → map f (range_with_len 0 256) ≡ map g (range_with_len 0 256) → (b : ℕ) → b < 256 → f b ≡ g b
on_bytes f g e b h =
    sym (get_or-map-range_with_len f 0 256 b b (f b) h (omega arith))
    ∙ ap (λ t. get_or t b (f b)) e
    ∙ get_or-map-range_with_len g 0 256 b b (f b) h (omega arith)

pub product_1 : (b : ℕ) → b < 256 → product 1 b ≡ b
unfolding product product_below remainder
product_1 = on_bytes (product 1) (λ b. b) refl

pub product_3 : (b : ℕ) → b < 256 → product 3 b ≡ bit_xor (product 2 b) b
unfolding product product_below remainder
product_3 = on_bytes (product 3) (λ b. bit_xor (product 2 b) b) refl

round_constants_in : map (power 2) (range_with_len 0 10) ≡ ROUND_CONSTANTS
unfolding power product product_below remainder
round_constants_in = refl

pub round_constant_is : (r : ℕ) → r < 10 → slice_index ROUND_CONSTANTS r ≡ power 2 r
round_constant_is r h =
    ap (λ t. slice_index t r) (sym round_constants_in) ∙ get_or-map-range_with_len (power 2) 0 10 r r 0 h (omega arith)

reduced_lt : (n m : ℕ) → m % 256 ≡ n → n < 256
reduced_lt n m e = omega arith

-- ---- what the inverses undo

pub inv_sub_byte_sub_byte : (b : ℕ) → b < 256 → inv_sub_byte (sub_byte b) ≡ b
inv_sub_byte_sub_byte b h =
    inv_sub_byte_is (sub_byte b)
    ∙ ap (place_in SUBSTITUTES) (sym (substitute_is b h))
    ∙ on_bytes (λ b. place_in SUBSTITUTES (slice_index SUBSTITUTES b)) (λ b. b) refl b h

pub sub_byte_inv_sub_byte : (b : ℕ) → b < 256 → sub_byte (inv_sub_byte b) ≡ b
sub_byte_inv_sub_byte b h =
    ap sub_byte (sym (original_is b h))
    ∙ sym (substitute_is (slice_index ORIGINALS b) (reduced_lt _ _ (on_bytes (λ b. slice_index ORIGINALS b % 256) (slice_index ORIGINALS) refl b h)))
    ∙ on_bytes (λ b. slice_index SUBSTITUTES (slice_index ORIGINALS b)) (λ b. b) refl b h

-- each byte's part in a mixed column, unmixed
pub unmixed_first : (x : ℕ) → x < 256 → inv_mix_column (product 2 x) (product 1 x) (product 1 x) (product 3 x) ≡ x ∷ 0 ∷ 0 ∷ 0 ∷ []
unfolding inv_mix_column product product_below remainder
unmixed_first = on_bytes (λ x. inv_mix_column (product 2 x) (product 1 x) (product 1 x) (product 3 x)) (λ x. x ∷ 0 ∷ 0 ∷ 0 ∷ []) refl

pub unmixed_second : (x : ℕ) → x < 256 → inv_mix_column (product 3 x) (product 2 x) (product 1 x) (product 1 x) ≡ 0 ∷ x ∷ 0 ∷ 0 ∷ []
unfolding inv_mix_column product product_below remainder
unmixed_second = on_bytes (λ x. inv_mix_column (product 3 x) (product 2 x) (product 1 x) (product 1 x)) (λ x. 0 ∷ x ∷ 0 ∷ 0 ∷ []) refl

pub unmixed_third : (x : ℕ) → x < 256 → inv_mix_column (product 1 x) (product 3 x) (product 2 x) (product 1 x) ≡ 0 ∷ 0 ∷ x ∷ 0 ∷ []
unfolding inv_mix_column product product_below remainder
unmixed_third = on_bytes (λ x. inv_mix_column (product 1 x) (product 3 x) (product 2 x) (product 1 x)) (λ x. 0 ∷ 0 ∷ x ∷ 0 ∷ []) refl

pub unmixed_fourth : (x : ℕ) → x < 256 → inv_mix_column (product 1 x) (product 1 x) (product 3 x) (product 2 x) ≡ 0 ∷ 0 ∷ 0 ∷ x ∷ []
unfolding inv_mix_column product product_below remainder
unmixed_fourth = on_bytes (λ x. inv_mix_column (product 1 x) (product 1 x) (product 3 x) (product 2 x)) (λ x. 0 ∷ 0 ∷ 0 ∷ x ∷ []) refl

-- each byte's part in an unmixed column, mixed
pub mixed_first : (x : ℕ) → x < 256 → mix_column (product 14 x) (product 9 x) (product 13 x) (product 11 x) ≡ x ∷ 0 ∷ 0 ∷ 0 ∷ []
unfolding mix_column product product_below remainder
mixed_first = on_bytes (λ x. mix_column (product 14 x) (product 9 x) (product 13 x) (product 11 x)) (λ x. x ∷ 0 ∷ 0 ∷ 0 ∷ []) refl

pub mixed_second : (x : ℕ) → x < 256 → mix_column (product 11 x) (product 14 x) (product 9 x) (product 13 x) ≡ 0 ∷ x ∷ 0 ∷ 0 ∷ []
unfolding mix_column product product_below remainder
mixed_second = on_bytes (λ x. mix_column (product 11 x) (product 14 x) (product 9 x) (product 13 x)) (λ x. 0 ∷ x ∷ 0 ∷ 0 ∷ []) refl

pub mixed_third : (x : ℕ) → x < 256 → mix_column (product 13 x) (product 11 x) (product 14 x) (product 9 x) ≡ 0 ∷ 0 ∷ x ∷ 0 ∷ []
unfolding mix_column product product_below remainder
mixed_third = on_bytes (λ x. mix_column (product 13 x) (product 11 x) (product 14 x) (product 9 x)) (λ x. 0 ∷ 0 ∷ x ∷ 0 ∷ []) refl

pub mixed_fourth : (x : ℕ) → x < 256 → mix_column (product 9 x) (product 13 x) (product 11 x) (product 14 x) ≡ 0 ∷ 0 ∷ 0 ∷ x ∷ []
unfolding mix_column product product_below remainder
mixed_fourth = on_bytes (λ x. mix_column (product 9 x) (product 13 x) (product 11 x) (product 14 x)) (λ x. 0 ∷ 0 ∷ 0 ∷ x ∷ []) refl

-- ---- bounds

pub sub_byte_lt : (b : ℕ) → b < 256 → sub_byte b < 256
sub_byte_lt b h = reduced_lt (sub_byte b) (slice_index SUBSTITUTES b)
    (on_bytes (λ b. slice_index SUBSTITUTES b % 256) (slice_index SUBSTITUTES) refl b h ∙ substitute_is b h)

pub inv_sub_byte_lt : (b : ℕ) → b < 256 → inv_sub_byte b < 256
inv_sub_byte_lt b h = reduced_lt (inv_sub_byte b) (slice_index ORIGINALS b)
    (on_bytes (λ b. slice_index ORIGINALS b % 256) (slice_index ORIGINALS) refl b h ∙ original_is b h)

product_lt : (a : ℕ) → map (λ b. product a b % 256) (range_with_len 0 256) ≡ map (product a) (range_with_len 0 256) → (b : ℕ) → b < 256 → product a b < 256
product_lt a e b h = reduced_lt (product a b) (product a b) (on_bytes (λ b. product a b % 256) (product a) e b h)

pub product_2_lt : (b : ℕ) → b < 256 → product 2 b < 256
unfolding product product_below remainder
product_2_lt = product_lt 2 refl

pub product_9_lt : (b : ℕ) → b < 256 → product 9 b < 256
unfolding product product_below remainder
product_9_lt = product_lt 9 refl

pub product_11_lt : (b : ℕ) → b < 256 → product 11 b < 256
unfolding product product_below remainder
product_11_lt = product_lt 11 refl

pub product_13_lt : (b : ℕ) → b < 256 → product 13 b < 256
unfolding product product_below remainder
product_13_lt = product_lt 13 refl

pub product_14_lt : (b : ℕ) → b < 256 → product 14 b < 256
unfolding product product_below remainder
product_14_lt = product_lt 14 refl
