-- AES-128 (FIPS 197) on lists of bytes. A block and the state are 16 bytes: the four columns one
-- after another, each with its byte of the first row first (3.4). A word of the key schedule is 4 bytes.
use Rattle.std.specs.{Prelude.{◌≡◌, ℕ, zero, suc, ◌+◌, ◌-◌, ◌*◌, ◌/◌, ◌%◌, ◌<◌, List, [], ◌∷◌, ◌++◌, length, slice_index, map, bit_xor, ◌==◌, if◌then◌else◌, take, drop}, List.range_with_len}
use Rattle.aes_block.specs.Field.{product, power, sub_byte, inv_sub_byte}

-- s is a list of n bytes
pub record IsBytes (n : ℕ) (s : List ℕ) : Type 0 where
  pub len : length s ≡ n
  pub small : (k : ℕ) → slice_index s k < 256

-- the sum of two lists of bytes, byte by byte
abbrev pub xor_of : List ℕ → List ℕ → List ℕ
xor_of (x ∷ xs) (y ∷ ys) = bit_xor x y ∷ xor_of xs ys
xor_of (x ∷ xs) [] = []
xor_of [] ys = []

-- SubBytes, and its inverse (5.1.1, 5.3.2)
abbrev pub sub_bytes : List ℕ → List ℕ
sub_bytes s = map sub_byte s

abbrev pub inv_sub_bytes : List ℕ → List ℕ
inv_sub_bytes s = map inv_sub_byte s

-- ShiftRows: row r is turned left by r, and in the inverse right by r (5.1.2, 5.3.1)
unfoldable pub shift_rows : List ℕ → List ℕ
shift_rows s = map (λ i. slice_index s ((i + 4 * (i % 4)) % 16)) (range_with_len 0 16)

unfoldable pub inv_shift_rows : List ℕ → List ℕ
inv_shift_rows s = map (λ i. slice_index s ((i + 16 - 4 * (i % 4)) % 16)) (range_with_len 0 16)

-- the sum of four products
abbrev pub dot : ℕ → ℕ → ℕ → ℕ → ℕ → ℕ → ℕ → ℕ → ℕ
dot p q r s a b c d = bit_xor (bit_xor (bit_xor (product p a) (product q b)) (product r c)) (product s d)

-- the column a, b, c, d times the matrix whose first row is p, q, r, s, and each next row the one
-- before turned right by one
abbrev pub matrix_product : ℕ → ℕ → ℕ → ℕ → ℕ → ℕ → ℕ → ℕ → List ℕ
matrix_product p q r s a b c d =
    dot p q r s a b c d ∷ dot s p q r a b c d ∷ dot r s p q a b c d ∷ dot q r s p a b c d ∷ []

-- MixColumns of one column, and its inverse (5.1.3, 5.3.3)
unfoldable pub mix_column : ℕ → ℕ → ℕ → ℕ → List ℕ
mix_column a b c d = matrix_product 0x02 0x03 0x01 0x01 a b c d

unfoldable pub inv_mix_column : ℕ → ℕ → ℕ → ℕ → List ℕ
inv_mix_column a b c d = matrix_product 0x0E 0x0B 0x0D 0x09 a b c d

-- a function of columns on each of the four
abbrev pub each_column : (ℕ → ℕ → ℕ → ℕ → List ℕ) → List ℕ → List ℕ
each_column f s =
    f (slice_index s 0) (slice_index s 1) (slice_index s 2) (slice_index s 3)
    ++ f (slice_index s 4) (slice_index s 5) (slice_index s 6) (slice_index s 7)
    ++ f (slice_index s 8) (slice_index s 9) (slice_index s 10) (slice_index s 11)
    ++ f (slice_index s 12) (slice_index s 13) (slice_index s 14) (slice_index s 15)

unfoldable pub mix_columns : List ℕ → List ℕ
mix_columns s = each_column mix_column s

unfoldable pub inv_mix_columns : List ℕ → List ℕ
inv_mix_columns s = each_column inv_mix_column s

-- ---- the key schedule (5.2)

-- the word, turned left by one byte and substituted, with the round constant of round r added to
-- its first byte: x to the power r - 1
abbrev pub turned_word : List ℕ → ℕ → List ℕ
turned_word w r =
    bit_xor (sub_byte (slice_index w 1)) (power 2 (r - 1)) ∷ sub_byte (slice_index w 2)
    ∷ sub_byte (slice_index w 3) ∷ sub_byte (slice_index w 0) ∷ []

-- what is added to word i - 4 to give word i, from word i - 1
abbrev pub added_word : List ℕ → ℕ → List ℕ
added_word w i = if i % 4 == 0 then turned_word w (i / 4) else w

-- word i of the schedule
unfoldable pub word : List ℕ → ℕ → List ℕ
word key zero = take 4 key
word key (suc zero) = take 4 (drop 4 key)
word key (suc (suc zero)) = take 4 (drop 8 key)
word key (suc (suc (suc zero))) = take 4 (drop 12 key)
word key (suc (suc (suc (suc n)))) = xor_of (word key n) (added_word (word key (suc (suc (suc n)))) (n + 4))

-- the key of round r: words 4 r to 4 r + 3
unfoldable pub round_key : List ℕ → ℕ → List ℕ
round_key key r = word key (4 * r) ++ word key (4 * r + 1) ++ word key (4 * r + 2) ++ word key (4 * r + 3)

-- ---- the cipher (5.1) and its inverse (5.3)

-- the state after the first key addition and n whole rounds
unfoldable pub rounds : List ℕ → List ℕ → ℕ → List ℕ
rounds key s zero = xor_of s (round_key key 0)
rounds key s (suc n) = xor_of (mix_columns (shift_rows (sub_bytes (rounds key s n)))) (round_key key (suc n))

unfoldable pub encrypted : List ℕ → List ℕ → List ℕ
encrypted key block = xor_of (shift_rows (sub_bytes (rounds key block 9))) (round_key key 10)

-- the state before the first key addition and n whole rounds that led to s
unfoldable pub inv_rounds : List ℕ → List ℕ → ℕ → List ℕ
inv_rounds key s zero = xor_of s (round_key key 0)
inv_rounds key s (suc n) = inv_rounds key (inv_sub_bytes (inv_shift_rows (inv_mix_columns (xor_of s (round_key key (suc n)))))) n

unfoldable pub decrypted : List ℕ → List ℕ → List ℕ
decrypted key block = inv_rounds key (inv_sub_bytes (inv_shift_rows (xor_of block (round_key key 10)))) 9
