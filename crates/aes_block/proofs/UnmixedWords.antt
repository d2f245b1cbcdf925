-- The rule of each table of unmixed words, computed over all 256 bytes.
use Rattle.std.{proofs.Common.{◌≡◌, ℕ, ◌<◌, List, [], ◌∷◌, slice_index, map, refl, ap, ◌∙◌}, specs.{Int.{w32, to_le_bytes}, List.range_with_len}}
use Rattle.aes_block.{specs.{Field.{product, product_below, remainder, inv_sub_byte}, Columns.products, declared.{tables.TheConstants.ORIGINALS, unmixed.TheConstants.{FIRST, SECOND, THIRD, FOURTH}}}, proofs.Computed.{on_bytes, original_is}}

-- a table of words, from its rule at every byte
table_is : (table ks : List ℕ)
    → map (λ b. to_le_bytes w32 (slice_index table b)) (range_with_len 0 256) ≡ map (λ b. products ks (slice_index ORIGINALS b)) (range_with_len 0 256)
    → (b : ℕ) → b < 256 → to_le_bytes w32 (slice_index table b) ≡ products ks (inv_sub_byte b)
table_is table ks e b h =
    on_bytes (λ b. to_le_bytes w32 (slice_index table b)) (λ b. products ks (slice_index ORIGINALS b)) e b h
    ∙ ap (products ks) (original_is b h)

pub first_is : (b : ℕ) → b < 256 → to_le_bytes w32 (slice_index FIRST b) ≡ products (14 ∷ 9 ∷ 13 ∷ 11 ∷ []) (inv_sub_byte b)
unfolding product product_below remainder
first_is = table_is FIRST (14 ∷ 9 ∷ 13 ∷ 11 ∷ []) refl

pub second_is : (b : ℕ) → b < 256 → to_le_bytes w32 (slice_index SECOND b) ≡ products (11 ∷ 14 ∷ 9 ∷ 13 ∷ []) (inv_sub_byte b)
unfolding product product_below remainder
second_is = table_is SECOND (11 ∷ 14 ∷ 9 ∷ 13 ∷ []) refl

pub third_is : (b : ℕ) → b < 256 → to_le_bytes w32 (slice_index THIRD b) ≡ products (13 ∷ 11 ∷ 14 ∷ 9 ∷ []) (inv_sub_byte b)
unfolding product product_below remainder
third_is = table_is THIRD (13 ∷ 11 ∷ 14 ∷ 9 ∷ []) refl

pub fourth_is : (b : ℕ) → b < 256 → to_le_bytes w32 (slice_index FOURTH b) ≡ products (9 ∷ 13 ∷ 11 ∷ 14 ∷ []) (inv_sub_byte b)
unfolding product product_below remainder
fourth_is = table_is FOURTH (9 ∷ 13 ∷ 11 ∷ 14 ∷ []) refl
