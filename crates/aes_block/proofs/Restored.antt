-- Encryption undoes decryption: each block is the encryption of a block.
use Rattle.std.{proofs.{Common.{◌≡◌, ℕ, zero, suc, ◌+◌, ◌-◌, ◌*◌, ◌%◌, ◌<◌, List, [], ◌∷◌, length, slice_index, refl, ap, ap₂, ◌∙◌, sym}, lemmas.List.length-map}, specs.List.range_with_len}
use Rattle.aes_block.specs.Aes.{IsBytes, xor_of, sub_bytes, inv_sub_bytes, shift_rows, inv_shift_rows, mix_columns, inv_mix_column, inv_mix_columns, round_key, rounds, encrypted, inv_rounds, decrypted}
use Rattle.aes_block.proofs.{Lists.shift_rows_inv_shift_rows, XorLemmas.xor_of_twice, Computed.{sub_byte_inv_sub_byte, inv_sub_byte_lt, product_9_lt, product_11_lt, product_13_lt, product_14_lt}, Columns.mix_columns_inv_mix_columns}
use Rattle.aes_block.proofs.Undone.{Small, IsState, is_bytes, is_state, small_append, small_map, small_at, xor_of_four, xor_of_state, round_key_state}

sub_bytes_inv_sub_bytes : (s : List ℕ) → Small s → sub_bytes (inv_sub_bytes s) ≡ s
sub_bytes_inv_sub_bytes [] h = refl
sub_bytes_inv_sub_bytes (x ∷ xs) h = ap₂ ◌∷◌ (sub_byte_inv_sub_byte x h.0) (sub_bytes_inv_sub_bytes xs h.1)

-- ---- states

small_inv_sub_bytes : (s : List ℕ) → Small s → Small (inv_sub_bytes s)
small_inv_sub_bytes [] h = tt
small_inv_sub_bytes (x ∷ xs) h = (inv_sub_byte_lt x h.0, small_inv_sub_bytes xs h.1)

inv_shift_rows_state : (s : List ℕ) → Small s → IsState (inv_shift_rows s)
unfolding inv_shift_rows
inv_shift_rows_state s h = record {
  len = refl;
  small = small_map (λ i. slice_index s ((i + 16 - 4 * (i % 4)) % 16)) (λ i. small_at s h ((i + 16 - 4 * (i % 4)) % 16)) (range_with_len 0 16);
}

small_inv_mix_column : (a b c d : ℕ) → a < 256 → b < 256 → c < 256 → d < 256 → Small (inv_mix_column a b c d)
unfolding inv_mix_column
small_inv_mix_column a b c d ha hb hc hd = (
  xor_of_four _ _ _ _ (product_14_lt a ha) (product_11_lt b hb) (product_13_lt c hc) (product_9_lt d hd),
  (
    xor_of_four _ _ _ _ (product_9_lt a ha) (product_14_lt b hb) (product_11_lt c hc) (product_13_lt d hd),
    (
      xor_of_four _ _ _ _ (product_13_lt a ha) (product_9_lt b hb) (product_14_lt c hc) (product_11_lt d hd),
      (xor_of_four _ _ _ _ (product_11_lt a ha) (product_13_lt b hb) (product_9_lt c hc) (product_14_lt d hd), tt),
    ),
  ),
)

small_inv_mix_columns : (s : List ℕ) → Small s → Small (inv_mix_columns s)
unfolding inv_mix_columns
small_inv_mix_columns s h =
    let b = small_at s h in
    small_append _ _
    (small_append _ _
    (small_append _ _ (small_inv_mix_column _ _ _ _ (b 0) (b 1) (b 2) (b 3)) (small_inv_mix_column _ _ _ _ (b 4) (b 5) (b 6) (b 7)))
    (small_inv_mix_column _ _ _ _ (b 8) (b 9) (b 10) (b 11)))
    (small_inv_mix_column _ _ _ _ (b 12) (b 13) (b 14) (b 15))

restored_state : (s : List ℕ) → Small s → IsState (inv_sub_bytes (inv_shift_rows s))
restored_state s h =
    let t = inv_shift_rows_state s h in
    record { len = length-map (inv_shift_rows s) _ ∙ t.len; small = small_inv_sub_bytes _ t.small }

-- ---- the rounds

-- SubBytes and ShiftRows after their inverses
substituted : (s : List ℕ) → IsState s → shift_rows (sub_bytes (inv_sub_bytes (inv_shift_rows s))) ≡ s
substituted s h =
    let t = inv_shift_rows_state s h.small in
    ap shift_rows (sub_bytes_inv_sub_bytes (inv_shift_rows s) t.small) ∙ shift_rows_inv_shift_rows s h.len

-- the state before a round that led to s
abbrev before : List ℕ → List ℕ → ℕ → List ℕ
before key s r = inv_sub_bytes (inv_shift_rows (inv_mix_columns (xor_of s (round_key key r))))

length_inv_mix_columns : (s : List ℕ) → length (inv_mix_columns s) ≡ 16
unfolding inv_mix_columns inv_mix_column
length_inv_mix_columns s = refl

before_state : (key s : List ℕ) → IsState key → IsState s → (r : ℕ) → IsState (before key s r)
before_state key s h k r = restored_state _ (small_inv_mix_columns _ (xor_of_state s (round_key key r) k (round_key_state key h r)).small)

round_again : (key s : List ℕ) → IsState key → IsState s → (r : ℕ) → xor_of (mix_columns (shift_rows (sub_bytes (before key s r)))) (round_key key r) ≡ s
round_again key s h k r =
    let added = xor_of_state s (round_key key r) k (round_key_state key h r) in
    let unmixed : IsState (inv_mix_columns (xor_of s (round_key key r))) =
    record { len = length_inv_mix_columns (xor_of s (round_key key r)); small = small_inv_mix_columns _ added.small } in
    ap (λ t. xor_of (mix_columns t) (round_key key r)) (substituted _ unmixed)
    ∙ ap (λ t. xor_of t (round_key key r)) (mix_columns_inv_mix_columns _ added.len (small_at _ added.small))
    ∙ xor_of_twice s (round_key key r) (k.len ∙ sym (round_key_state key h r).len)

inv_rounds_state : (key s : List ℕ) → IsState key → IsState s → (n : ℕ) → IsState (inv_rounds key s n)
unfolding inv_rounds
inv_rounds_state key s h k zero = xor_of_state s (round_key key 0) k (round_key_state key h 0)
inv_rounds_state key s h k (suc n) = inv_rounds_state key (before key s (suc n)) h (before_state key s h k (suc n)) n

rounds_inv_rounds : (key s : List ℕ) → IsState key → IsState s → (n : ℕ) → rounds key (inv_rounds key s n) n ≡ s
unfolding rounds inv_rounds
rounds_inv_rounds key s h k zero = xor_of_twice s (round_key key 0) (k.len ∙ sym (round_key_state key h 0).len)
rounds_inv_rounds key s h k (suc n) =
    ap (λ t. xor_of (mix_columns (shift_rows (sub_bytes t))) (round_key key (suc n)))
    (rounds_inv_rounds key (before key s (suc n)) h (before_state key s h k (suc n)) n)
    ∙ round_again key s h k (suc n)

-- ---- the cipher

pub encrypted_decrypted : (key block : List ℕ) → IsBytes 16 key → IsBytes 16 block → encrypted key (decrypted key block) ≡ block
unfolding decrypted encrypted
encrypted_decrypted key block h k =
    let hs = is_state key h in
    let last = round_key_state key hs 10 in
    let added = xor_of_state block (round_key key 10) (is_state block k) last in
    ap (λ t. xor_of (shift_rows (sub_bytes t)) (round_key key 10)) (rounds_inv_rounds key _ hs (restored_state _ added.small) 9)
    ∙ ap (λ t. xor_of t (round_key key 10)) (substituted _ added)
    ∙ xor_of_twice block (round_key key 10) (k.len ∙ sym last.len)

pub decrypted_bytes : (key block : List ℕ) → IsBytes 16 key → IsBytes 16 block → IsBytes 16 (decrypted key block)
unfolding decrypted
decrypted_bytes key block h k =
    let hs = is_state key h in
    let added = xor_of_state block (round_key key 10) (is_state block k) (round_key_state key hs 10) in
    is_bytes _ (inv_rounds_state key _ hs (restored_state _ added.small) 9)
