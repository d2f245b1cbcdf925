-- MixColumns and its inverse undo each other: both are linear, so it is enough to look at one byte.
use Rattle.std.{proofs.Common.{◌≡◌, ℕ, ◌+◌, ◌<◌, List, [], ◌∷◌, ◌++◌, length, slice_index, refl, ap₂, ◌∙◌, sym}, specs.{Prelude.bit_xor, Int.Bits.xor_zero_r}}
use Rattle.aes_block.{specs.{Field.product, Aes.{xor_of, dot, mix_column, inv_mix_column, mix_columns, inv_mix_columns}}, proofs.{Lists.literal, XorLemmas.xor_swap, Products.product_xor}}
use Rattle.aes_block.proofs.Computed.{unmixed_first, unmixed_second, unmixed_third, unmixed_fourth, mixed_first, mixed_second, mixed_third, mixed_fourth}

dot_xor : (p q r s a b c d e f g h : ℕ)
    → dot p q r s (bit_xor a e) (bit_xor b f) (bit_xor c g) (bit_xor d h) ≡ bit_xor (dot p q r s a b c d) (dot p q r s e f g h)
dot_xor p q r s a b c d e f g h =
    ap₂ bit_xor
    (ap₂ bit_xor
    (ap₂ bit_xor (product_xor p a e) (product_xor q b f) ∙ xor_swap (product p a) (product p e) (product q b) (product q f))
    (product_xor r c g)
    ∙ xor_swap (bit_xor (product p a) (product q b)) (bit_xor (product p e) (product q f)) (product r c) (product r g))
    (product_xor s d h)
    ∙ xor_swap (bit_xor (bit_xor (product p a) (product q b)) (product r c)) (bit_xor (bit_xor (product p e) (product q f)) (product r g)) (product s d) (product s h)

inv_mix_column_xor : (a b c d e f g h : ℕ)
    → inv_mix_column (bit_xor a e) (bit_xor b f) (bit_xor c g) (bit_xor d h) ≡ xor_of (inv_mix_column a b c d) (inv_mix_column e f g h)
unfolding inv_mix_column
inv_mix_column_xor a b c d e f g h =
    rw (dot_xor 14 11 13 9 a b c d e f g h, dot_xor 9 14 11 13 a b c d e f g h, dot_xor 13 9 14 11 a b c d e f g h, dot_xor 11 13 9 14 a b c d e f g h) refl

-- a sum of four columns
pub inv_mix_column_mix_column : (a b c d : ℕ) → a < 256 → b < 256 → c < 256 → d < 256
    → inv_mix_column (dot 2 3 1 1 a b c d) (dot 1 2 3 1 a b c d) (dot 1 1 2 3 a b c d) (dot 3 1 1 2 a b c d) ≡ a ∷ b ∷ c ∷ d ∷ []
inv_mix_column_mix_column a b c d ha hb hc hd =
    inv_mix_column_xor _ _ _ _ (product 1 d) (product 1 d) (product 3 d) (product 2 d)
    ∙ ap₂ xor_of
    (inv_mix_column_xor _ _ _ _ (product 1 c) (product 3 c) (product 2 c) (product 1 c)
    ∙ ap₂ xor_of
    (inv_mix_column_xor _ _ _ _ (product 3 b) (product 2 b) (product 1 b) (product 1 b)
    ∙ ap₂ xor_of (unmixed_first a ha) (unmixed_second b hb))
    (unmixed_third c hc))
    (unmixed_fourth d hd)
    ∙ simp xor_zero_r refl

pub inv_mix_columns_mix_columns : (s : List ℕ) → length s ≡ 16 → ((k : ℕ) → slice_index s k < 256) → inv_mix_columns (mix_columns s) ≡ s
unfolding mix_columns inv_mix_columns mix_column
inv_mix_columns_mix_columns s h small =
    rw (
      inv_mix_column_mix_column (slice_index s 0) (slice_index s 1) (slice_index s 2) (slice_index s 3) (small 0) (small 1) (small 2) (small 3),
      inv_mix_column_mix_column (slice_index s 4) (slice_index s 5) (slice_index s 6) (slice_index s 7) (small 4) (small 5) (small 6) (small 7),
      inv_mix_column_mix_column (slice_index s 8) (slice_index s 9) (slice_index s 10) (slice_index s 11) (small 8) (small 9) (small 10) (small 11),
      inv_mix_column_mix_column (slice_index s 12) (slice_index s 13) (slice_index s 14) (slice_index s 15) (small 12) (small 13) (small 14) (small 15),
    )
    (sym (literal 16 s h))

abbrev column_of : (ℕ → ℕ) → ℕ → List ℕ
column_of x i = inv_mix_column (x i) (x (i + 1)) (x (i + 2)) (x (i + 3))

split : (x y : ℕ → ℕ)
    → xor_of (column_of x 0) (column_of y 0) ++ xor_of (column_of x 4) (column_of y 4)
    ++ xor_of (column_of x 8) (column_of y 8) ++ xor_of (column_of x 12) (column_of y 12)
    ≡ xor_of (column_of x 0 ++ column_of x 4 ++ column_of x 8 ++ column_of x 12)
    (column_of y 0 ++ column_of y 4 ++ column_of y 8 ++ column_of y 12)
unfolding inv_mix_column
split x y = refl

-- the same of whole states
pub inv_mix_columns_xor : (s k : List ℕ) → length s ≡ 16 → length k ≡ 16
    → inv_mix_columns (xor_of s k) ≡ xor_of (inv_mix_columns s) (inv_mix_columns k)
unfolding inv_mix_columns
inv_mix_columns_xor s k hs hk =
    let x = slice_index s in
    let y = slice_index k in
    let column = λ (a b c d : ℕ). inv_mix_column_xor (x a) (x b) (x c) (x d) (y a) (y b) (y c) (y d) in
    rw (literal 16 s hs) (rw (literal 16 k hk) (rw (column 0 1 2 3, column 4 5 6 7, column 8 9 10 11, column 12 13 14 15) (split x y)))

-- ---- and the other way round

mix_column_xor : (a b c d e f g h : ℕ)
    → mix_column (bit_xor a e) (bit_xor b f) (bit_xor c g) (bit_xor d h) ≡ xor_of (mix_column a b c d) (mix_column e f g h)
unfolding mix_column
mix_column_xor a b c d e f g h =
    rw (dot_xor 2 3 1 1 a b c d e f g h, dot_xor 1 2 3 1 a b c d e f g h, dot_xor 1 1 2 3 a b c d e f g h, dot_xor 3 1 1 2 a b c d e f g h) refl

pub mix_column_inv_mix_column : (a b c d : ℕ) → a < 256 → b < 256 → c < 256 → d < 256
    → mix_column (dot 14 11 13 9 a b c d) (dot 9 14 11 13 a b c d) (dot 13 9 14 11 a b c d) (dot 11 13 9 14 a b c d) ≡ a ∷ b ∷ c ∷ d ∷ []
mix_column_inv_mix_column a b c d ha hb hc hd =
    mix_column_xor _ _ _ _ (product 9 d) (product 13 d) (product 11 d) (product 14 d)
    ∙ ap₂ xor_of
    (mix_column_xor _ _ _ _ (product 13 c) (product 11 c) (product 14 c) (product 9 c)
    ∙ ap₂ xor_of
    (mix_column_xor _ _ _ _ (product 11 b) (product 14 b) (product 9 b) (product 13 b)
    ∙ ap₂ xor_of (mixed_first a ha) (mixed_second b hb))
    (mixed_third c hc))
    (mixed_fourth d hd)
    ∙ simp xor_zero_r refl

pub mix_columns_inv_mix_columns : (s : List ℕ) → length s ≡ 16 → ((k : ℕ) → slice_index s k < 256) → mix_columns (inv_mix_columns s) ≡ s
unfolding mix_columns inv_mix_columns inv_mix_column
mix_columns_inv_mix_columns s h small =
    rw (
      mix_column_inv_mix_column (slice_index s 0) (slice_index s 1) (slice_index s 2) (slice_index s 3) (small 0) (small 1) (small 2) (small 3),
      mix_column_inv_mix_column (slice_index s 4) (slice_index s 5) (slice_index s 6) (slice_index s 7) (small 4) (small 5) (small 6) (small 7),
      mix_column_inv_mix_column (slice_index s 8) (slice_index s 9) (slice_index s 10) (slice_index s 11) (small 8) (small 9) (small 10) (small 11),
      mix_column_inv_mix_column (slice_index s 12) (slice_index s 13) (slice_index s 14) (slice_index s 15) (small 12) (small 13) (small 14) (small 15),
    )
    (sym (literal 16 s h))
