-- Decryption undoes encryption.
use Rattle.std.proofs.{Common.{◌≡◌, ℕ, zero, suc, ◌+◌, ◌-◌, ◌*◌, ◌/◌, ◌%◌, ◌<◌, List, [], ◌∷◌, ◌++◌, length, slice_index, map, take, drop, refl, ap, ap₂, ◌∙◌, sym, arith, Bool, true, false, length-append}, lemmas.List.length-map}
use Rattle.std.{proofs.lemmas.Nat.xor_of_8, specs.{Prelude.{bit_xor, ◌==◌, if◌then◌else◌}, List.range_with_len}}
use Rattle.aes_block.specs.Field.{product, power, sub_byte}
use Rattle.aes_block.specs.Aes.{IsBytes, xor_of, sub_bytes, inv_sub_bytes, shift_rows, inv_shift_rows, mix_column, mix_columns, inv_mix_columns, turned_word, added_word, word, round_key, rounds, encrypted, inv_rounds, decrypted}
use Rattle.aes_block.proofs.{Lists.inv_shift_rows_shift_rows, XorLemmas.{length_xor_of, xor_of_twice}, Computed.{product_1, product_3, product_2_lt, sub_byte_lt, inv_sub_byte_sub_byte}, Words.length_word}
use Rattle.aes_block.proofs.Columns.{inv_mix_columns_mix_columns}

-- each element is a byte
abbrev pub Small : List ℕ → Type 0
Small [] = Unit {0}
Small (x ∷ xs) = (x < 256) × Small xs

small_from : (s : List ℕ) → ((k : ℕ) → slice_index s k < 256) → Small s
small_from [] h = tt
small_from (x ∷ xs) h = (h 0, small_from xs (λ k. h (suc k)))

pub small_at : (s : List ℕ) → Small s → (k : ℕ) → slice_index s k < 256
small_at [] h k = omega arith
small_at (x ∷ xs) h zero = h.0
small_at (x ∷ xs) h (suc k) = small_at xs h.1 k

pub small_map : (f : ℕ → ℕ) → ((x : ℕ) → f x < 256) → (xs : List ℕ) → Small (map f xs)
small_map f h [] = tt
small_map f h (x ∷ xs) = (h x, small_map f h xs)

pub small_append : (a b : List ℕ) → Small a → Small b → Small (a ++ b)
small_append [] b h k = k
small_append (x ∷ xs) b h k = (h.0, small_append xs b h.1 k)

small_xor_of : (a b : List ℕ) → Small a → Small b → Small (xor_of a b)
small_xor_of [] b h k = tt
small_xor_of (x ∷ xs) [] h k = tt
small_xor_of (x ∷ xs) (y ∷ ys) h k = (xor_of_8 x y h.0 k.0, small_xor_of xs ys h.1 k.1)

small_sub_bytes : (s : List ℕ) → Small s → Small (sub_bytes s)
small_sub_bytes [] h = tt
small_sub_bytes (x ∷ xs) h = (sub_byte_lt x h.0, small_sub_bytes xs h.1)

small_shift_rows : (s : List ℕ) → Small s → Small (shift_rows s)
unfolding shift_rows
small_shift_rows s h = small_map (λ i. slice_index s ((i + 4 * (i % 4)) % 16)) (λ i. small_at s h ((i + 4 * (i % 4)) % 16)) (range_with_len 0 16)

one_lt : (x : ℕ) → x < 256 → product 1 x < 256
one_lt x h = rw (product_1 x h) h

three_lt : (x : ℕ) → x < 256 → product 3 x < 256
three_lt x h = rw (product_3 x h) (xor_of_8 (product 2 x) x (product_2_lt x h) h)

pub xor_of_four : (a b c d : ℕ) → a < 256 → b < 256 → c < 256 → d < 256 → bit_xor (bit_xor (bit_xor a b) c) d < 256
xor_of_four a b c d ha hb hc hd = xor_of_8 _ d (xor_of_8 _ c (xor_of_8 a b ha hb) hc) hd

small_mix_column : (a b c d : ℕ) → a < 256 → b < 256 → c < 256 → d < 256 → Small (mix_column a b c d)
unfolding mix_column
small_mix_column a b c d ha hb hc hd = (
  xor_of_four _ _ _ _ (product_2_lt a ha) (three_lt b hb) (one_lt c hc) (one_lt d hd),
  (
    xor_of_four _ _ _ _ (one_lt a ha) (product_2_lt b hb) (three_lt c hc) (one_lt d hd),
    (
      xor_of_four _ _ _ _ (one_lt a ha) (one_lt b hb) (product_2_lt c hc) (three_lt d hd),
      (xor_of_four _ _ _ _ (three_lt a ha) (one_lt b hb) (one_lt c hc) (product_2_lt d hd), tt),
    ),
  ),
)

small_mix_columns : (s : List ℕ) → Small s → Small (mix_columns s)
unfolding mix_columns
small_mix_columns s h =
    let b = small_at s h in
    small_append _ _
    (small_append _ _
    (small_append _ _ (small_mix_column _ _ _ _ (b 0) (b 1) (b 2) (b 3)) (small_mix_column _ _ _ _ (b 4) (b 5) (b 6) (b 7)))
    (small_mix_column _ _ _ _ (b 8) (b 9) (b 10) (b 11)))
    (small_mix_column _ _ _ _ (b 12) (b 13) (b 14) (b 15))

length_mix_columns : (s : List ℕ) → length (mix_columns s) ≡ 16
unfolding mix_columns mix_column
length_mix_columns s = refl

length_shift_rows : (s : List ℕ) → length (shift_rows s) ≡ 16
unfolding shift_rows
length_shift_rows s = refl

-- ---- the keys

small_power : (n : ℕ) → power 2 n < 256
unfolding power
small_power zero = omega arith
small_power (suc n) = product_2_lt (power 2 n) (small_power n)

small_added_word : (w : List ℕ) (i : ℕ) → Small w → Small (added_word w i)
small_added_word w i h = by_test (i % 4 == 0) where
  b : (k : ℕ) → sub_byte (slice_index w k) < 256
  b k = sub_byte_lt (slice_index w k) (small_at w h k)

  by_test : (t : Bool) → Small (if t then turned_word w (i / 4) else w)
  by_test true = (xor_of_8 _ _ (b 1) (small_power (i / 4 - 1)), (b 2, (b 3, (b 0, tt))))
  by_test false = h

small_take : (n : ℕ) (s : List ℕ) → Small s → Small (take n s)
small_take zero s h = tt
small_take (suc n) [] h = tt
small_take (suc n) (x ∷ xs) h = (h.0, small_take n xs h.1)

small_drop : (n : ℕ) (s : List ℕ) → Small s → Small (drop n s)
small_drop zero s h = h
small_drop (suc n) [] h = tt
small_drop (suc n) (x ∷ xs) h = small_drop n xs h.1

small_word : (key : List ℕ) → Small key → (n : ℕ) → Small (word key n)
unfolding word
small_word key h zero = small_take 4 key h
small_word key h (suc zero) = small_take 4 (drop 4 key) (small_drop 4 key h)
small_word key h (suc (suc zero)) = small_take 4 (drop 8 key) (small_drop 8 key h)
small_word key h (suc (suc (suc zero))) = small_take 4 (drop 12 key) (small_drop 12 key h)
small_word key h (suc (suc (suc (suc n)))) =
    small_xor_of _ _ (small_word key h n)
    (small_added_word (word key (suc (suc (suc n)))) (n + 4) (small_word key h (suc (suc (suc n)))))

small_round_key : (key : List ℕ) → Small key → (r : ℕ) → Small (round_key key r)
unfolding round_key
small_round_key key h r =
    let w = small_word key h in
    small_append _ _ (small_append _ _ (small_append _ _ (w (4 * r)) (w (4 * r + 1))) (w (4 * r + 2))) (w (4 * r + 3))

pub length_round_key : (key : List ℕ) → length key ≡ 16 → (r : ℕ) → length (round_key key r) ≡ 16
unfolding round_key
length_round_key key h r =
    simp length-append
    (omega (arith, length_word key h (4 * r), length_word key h (4 * r + 1), length_word key h (4 * r + 2), length_word key h (4 * r + 3)))

-- ---- the rounds

pub record IsState (s : List ℕ) : Type 0 where
  pub len : length s ≡ 16
  pub small : Small s

pub is_bytes : (s : List ℕ) → IsState s → IsBytes 16 s
is_bytes s h = record { len = h.len; small = small_at s h.small }

pub is_state : (s : List ℕ) → IsBytes 16 s → IsState s
is_state s h = record { len = h.len; small = small_from s h.small }

pub xor_of_state : (a b : List ℕ) → IsState a → IsState b → IsState (xor_of a b)
xor_of_state a b h k = record { len = length_xor_of a b (h.len ∙ sym k.len) ∙ k.len; small = small_xor_of a b h.small k.small }

pub round_key_state : (key : List ℕ) → IsState key → (r : ℕ) → IsState (round_key key r)
round_key_state key h r = record { len = length_round_key key h.len r; small = small_round_key key h.small r }

pub rounds_state : (key block : List ℕ) → IsState key → IsState block → (n : ℕ) → IsState (rounds key block n)
unfolding rounds
rounds_state key block h k zero = xor_of_state _ _ k (round_key_state key h 0)
rounds_state key block h k (suc n) =
    let s = rounds_state key block h k n in
    xor_of_state _ _
    (record {
      len = length_mix_columns (shift_rows (sub_bytes (rounds key block n)));
      small = small_mix_columns _ (small_shift_rows _ (small_sub_bytes _ s.small));
    })
    (round_key_state key h (suc n))

inv_sub_bytes_sub_bytes : (s : List ℕ) → Small s → inv_sub_bytes (sub_bytes s) ≡ s
inv_sub_bytes_sub_bytes [] h = refl
inv_sub_bytes_sub_bytes (x ∷ xs) h = ap₂ ◌∷◌ (inv_sub_byte_sub_byte x h.0) (inv_sub_bytes_sub_bytes xs h.1)

-- SubBytes and ShiftRows, undone
restored : (s : List ℕ) → IsState s → inv_sub_bytes (inv_shift_rows (shift_rows (sub_bytes s))) ≡ s
restored s h =
    ap inv_sub_bytes (inv_shift_rows_shift_rows (sub_bytes s) (length-map s sub_byte ∙ h.len)) ∙ inv_sub_bytes_sub_bytes s h.small

inv_rounds_rounds : (key block : List ℕ) → IsState key → IsState block → (n : ℕ) → inv_rounds key (rounds key block n) n ≡ block
unfolding rounds inv_rounds
inv_rounds_rounds key block h k zero = xor_of_twice block (round_key key 0) (k.len ∙ sym (length_round_key key h.len 0))
inv_rounds_rounds key block h k (suc n) =
    let s = rounds_state key block h k n in
    let shifted = small_shift_rows _ (small_sub_bytes _ s.small) in
    ap (λ x. inv_rounds key x n)
    (ap (λ x. inv_sub_bytes (inv_shift_rows (inv_mix_columns x)))
    (xor_of_twice (mix_columns (shift_rows (sub_bytes (rounds key block n)))) (round_key key (suc n))
    (length_mix_columns _ ∙ sym (length_round_key key h.len (suc n))))
    ∙ ap (λ x. inv_sub_bytes (inv_shift_rows x))
    (inv_mix_columns_mix_columns (shift_rows (sub_bytes (rounds key block n))) (length_shift_rows _) (small_at _ shifted))
    ∙ restored (rounds key block n) s)
    ∙ inv_rounds_rounds key block h k n

pub decrypted_encrypted : (key block : List ℕ) → IsBytes 16 key → IsBytes 16 block → decrypted key (encrypted key block) ≡ block
unfolding decrypted encrypted
decrypted_encrypted key block h k =
    let hs = is_state key h in
    let ks = is_state block k in
    ap (λ x. inv_rounds key (inv_sub_bytes (inv_shift_rows x)) 9)
    (xor_of_twice (shift_rows (sub_bytes (rounds key block 9))) (round_key key 10)
    (length_shift_rows _ ∙ sym (length_round_key key h.len 10)))
    ∙ ap (λ x. inv_rounds key x 9) (restored (rounds key block 9) (rounds_state key block hs ks 9))
    ∙ inv_rounds_rounds key block hs ks 9

-- ---- what the layers above use

pub encrypted_bytes : (key block : List ℕ) → IsBytes 16 key → IsBytes 16 block → IsBytes 16 (encrypted key block)
unfolding encrypted
encrypted_bytes key block h k =
    let s = rounds_state key block (is_state key h) (is_state block k) 9 in
    is_bytes _ (xor_of_state _ _
    (record {
      len = length_shift_rows (sub_bytes (rounds key block 9));
      small = small_shift_rows _ (small_sub_bytes _ s.small);
    })
    (round_key_state key (is_state key h) 10))

pub xor_of_bytes : (n : ℕ) (a b : List ℕ) → IsBytes n a → IsBytes n b → IsBytes n (xor_of a b)
xor_of_bytes n a b h k = record {
  len = length_xor_of a b (h.len ∙ sym k.len) ∙ k.len;
  small = small_at _ (small_xor_of a b (small_from a h.small) (small_from b k.small));
}
