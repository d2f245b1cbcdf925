-- The rule of each table of mixed words, computed over all 256 bytes.
use Rattle.std.{proofs.Common.{◌≡◌, ℕ, ◌<◌, List, [], ◌∷◌, slice_index, map, refl, ap, ◌∙◌}, specs.{Int.{w32, to_le_bytes}, List.range_with_len}}
use Rattle.aes_block.{specs.{Field.{product, product_below, remainder, sub_byte}, Columns.products, declared.{tables.TheConstants.SUBSTITUTES, mixed.TheConstants.{FIRST, SECOND, THIRD, FOURTH}}}, proofs.Computed.{on_bytes, substitute_is}}

-- a table of words, from its rule at every byte
table_is : (table ks : List ℕ)
    → map (λ b. to_le_bytes w32 (slice_index table b)) (range_with_len 0 256) ≡ map (λ b. products ks (slice_index SUBSTITUTES b)) (range_with_len 0 256)
    → (b : ℕ) → b < 256 → to_le_bytes w32 (slice_index table b) ≡ products ks (sub_byte b)
table_is table ks e b h =
    on_bytes (λ b. to_le_bytes w32 (slice_index table b)) (λ b. products ks (slice_index SUBSTITUTES b)) e b h
    ∙ ap (products ks) (substitute_is b h)

pub first_is : (b : ℕ) → b < 256 → to_le_bytes w32 (slice_index FIRST b) ≡ products (2 ∷ 1 ∷ 1 ∷ 3 ∷ []) (sub_byte b)
unfolding product product_below remainder
first_is = table_is FIRST (2 ∷ 1 ∷ 1 ∷ 3 ∷ []) refl

pub second_is : (b : ℕ) → b < 256 → to_le_bytes w32 (slice_index SECOND b) ≡ products (3 ∷ 2 ∷ 1 ∷ 1 ∷ []) (sub_byte b)
unfolding product product_below remainder
second_is = table_is SECOND (3 ∷ 2 ∷ 1 ∷ 1 ∷ []) refl

pub third_is : (b : ℕ) → b < 256 → to_le_bytes w32 (slice_index THIRD b) ≡ products (1 ∷ 3 ∷ 2 ∷ 1 ∷ []) (sub_byte b)
unfolding product product_below remainder
third_is = table_is THIRD (1 ∷ 3 ∷ 2 ∷ 1 ∷ []) refl

pub fourth_is : (b : ℕ) → b < 256 → to_le_bytes w32 (slice_index FOURTH b) ≡ products (1 ∷ 1 ∷ 3 ∷ 2 ∷ []) (sub_byte b)
unfolding product product_below remainder
fourth_is = table_is FOURTH (1 ∷ 1 ∷ 3 ∷ 2 ∷ []) refl
