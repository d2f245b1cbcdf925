-- Words and their bytes: sums of words, and states of four.
use Rattle.std.proofs.{Common.{◌≡◌, ℕ, zero, suc, ◌+◌, ◌/◌, ◌%◌, ◌^◌, ◌<◌, List, [], ◌∷◌, ◌++◌, length, slice_index, refl, ap, ap₂, ◌∙◌, sym, arith, get_or, set, below_more}, lemmas.List.{get_or-set_same, get_or-set_other, length-set}}
use Rattle.std.{proofs.lemmas.Nat.{xor_mod, xor_shr, le_bytes_4}, specs.{Prelude.bit_xor, Int.{w32, to_le_bytes, from_le_bytes}}}
use Rattle.aes_block.{specs.{Columns.bytes_of, Aes.xor_of, Field.{sub_byte, inv_sub_byte}}, proofs.{Lists.literal, Computed.inv_sub_byte_sub_byte}}

-- the bytes of a sum are the sums of the bytes
pub to_le_bytes_xor : (a b : ℕ) → to_le_bytes w32 (bit_xor a b) ≡ xor_of (to_le_bytes w32 a) (to_le_bytes w32 b)
to_le_bytes_xor a b =
    ap₂ ◌∷◌ (xor_mod a b 8)
    (ap₂ ◌∷◌ (above 8)
    (ap₂ ◌∷◌ (above 16)
    (ap₂ ◌∷◌ (above 24) refl))) where
      above : (k : ℕ) → bit_xor a b / 2 ^ k % 256 ≡ bit_xor (a / 2 ^ k % 256) (b / 2 ^ k % 256)
      above k = ap (λ x. x % 256) (xor_shr a b k) ∙ xor_mod (a / 2 ^ k) (b / 2 ^ k) 8

-- a column is the sum of four words of the tables
pub column_sum : (p q r s : ℕ) (a b c d : List ℕ)
    → to_le_bytes w32 p ≡ a → to_le_bytes w32 q ≡ b → to_le_bytes w32 r ≡ c → to_le_bytes w32 s ≡ d
    → to_le_bytes w32 (bit_xor (bit_xor (bit_xor p q) r) s) ≡ xor_of (xor_of (xor_of a b) c) d
column_sum p q r s a b c d hp hq hr hs =
    to_le_bytes_xor (bit_xor (bit_xor p q) r) s
    ∙ ap₂ xor_of
    (to_le_bytes_xor (bit_xor p q) r
    ∙ ap₂ xor_of (to_le_bytes_xor p q ∙ ap₂ xor_of hp hq) hr)
    hs

more_words : (a b : ℕ) (s l r : List ℕ) → bytes_of s ≡ xor_of (bytes_of l) (bytes_of r)
    → bytes_of (bit_xor a b ∷ s) ≡ xor_of (bytes_of (a ∷ l)) (bytes_of (b ∷ r))
more_words a b s l r h = ap₂ ◌++◌ (to_le_bytes_xor a b) h

-- the sum of two states
pub state_sum : (s k : List ℕ) → length s ≡ 4 → length k ≡ 4
    → bytes_of (bit_xor (slice_index s 0) (slice_index k 0) ∷ bit_xor (slice_index s 1) (slice_index k 1)
    ∷ bit_xor (slice_index s 2) (slice_index k 2) ∷ bit_xor (slice_index s 3) (slice_index k 3) ∷ [])
    ≡ xor_of (bytes_of s) (bytes_of k)
state_sum s k hs hk =
    let x = λ (i : ℕ). bit_xor (slice_index s i) (slice_index k i) in
    more_words _ _ (x 1 ∷ x 2 ∷ x 3 ∷ []) (slice_index s 1 ∷ slice_index s 2 ∷ slice_index s 3 ∷ []) (slice_index k 1 ∷ slice_index k 2 ∷ slice_index k 3 ∷ [])
    (more_words _ _ (x 2 ∷ x 3 ∷ []) (slice_index s 2 ∷ slice_index s 3 ∷ []) (slice_index k 2 ∷ slice_index k 3 ∷ [])
    (more_words _ _ (x 3 ∷ []) (slice_index s 3 ∷ []) (slice_index k 3 ∷ [])
    (more_words _ _ [] [] [] refl)))
    ∙ ap₂ (λ a b. xor_of (bytes_of a) (bytes_of b)) (sym (literal 4 s hs)) (sym (literal 4 k hk))

-- the word of four bytes
pub word_of : (n a b c d : ℕ) → a < 256 → b < 256 → c < 256 → d < 256 → n ≡ from_le_bytes w32 (a ∷ b ∷ c ∷ d ∷ [])
    → to_le_bytes w32 n ≡ a ∷ b ∷ c ∷ d ∷ []
word_of n a b c d ha hb hc hd e = le_bytes_4 (a ∷ b ∷ c ∷ d ∷ []) n refl small e where
  small : (i : ℕ) → get_or (a ∷ b ∷ c ∷ d ∷ []) i 0 < 256
  small zero = ha
  small (suc zero) = hb
  small (suc (suc zero)) = hc
  small (suc (suc (suc zero))) = hd
  small (suc (suc (suc (suc i)))) = omega arith

-- ---- four words

pub four_words : (p q r s : ℕ) (a b c d : List ℕ)
    → to_le_bytes w32 p ≡ a → to_le_bytes w32 q ≡ b → to_le_bytes w32 r ≡ c → to_le_bytes w32 s ≡ d
    → bytes_of (p ∷ q ∷ r ∷ s ∷ []) ≡ a ++ (b ++ (c ++ d))
four_words p q r s a b c d hp hq hr hs = ap₂ ◌++◌ hp (ap₂ ◌++◌ hq (ap₂ ◌++◌ hr hs))

pub state_bytes : (s : List ℕ) → length s ≡ 4
    → bytes_of (slice_index s 0 ∷ slice_index s 1 ∷ slice_index s 2 ∷ slice_index s 3 ∷ []) ≡ bytes_of s
state_bytes s h = ap bytes_of (sym (literal 4 s h))

-- a byte, substituted and restored
pub restored_byte : (n : ℕ) → inv_sub_byte (sub_byte (n % 256)) ≡ n % 256
restored_byte n = inv_sub_byte_sub_byte (n % 256) (omega arith)

-- a byte as a word
pub byte_word : (n : ℕ) → n < 256 → to_le_bytes w32 n ≡ n ∷ 0 ∷ 0 ∷ 0 ∷ []
byte_word n h =
    let a : n % 256 ≡ n = omega arith in
    let b : n / 256 % 256 ≡ 0 = omega arith in
    let c : n / 65536 % 256 ≡ 0 = omega arith in
    let d : n / 16777216 % 256 ≡ 0 = omega arith in
    ap₂ ◌∷◌ a (ap₂ ◌∷◌ b (ap₂ ◌∷◌ c (ap₂ ◌∷◌ d refl)))

-- the first i of n keys are written
pub record Written (f : ℕ → List ℕ) (n : ℕ) (keys : List (List ℕ)) (i : ℕ) : Type 0 where
  pub len : length keys ≡ n
  pub done : (k : ℕ) → k < i → bytes_of (get_or keys k []) ≡ f k

pub written_more : (f : ℕ → List ℕ) (n : ℕ) (keys : List (List ℕ)) (key : List ℕ) (i : ℕ) → i < n → Written f n keys i
    → bytes_of key ≡ f i → Written f n (set keys i key) (i + 1)
written_more f n keys key i lt h e = record {
  len = length-set keys i key ∙ h.len;
  done = below_more _ _
      (λ k below. ap bytes_of (get_or-set_other keys i k key [] (omega arith)) ∙ h.done k below)
      (ap bytes_of (get_or-set_same keys i key [] (omega (arith, h.len))) ∙ e);
}
