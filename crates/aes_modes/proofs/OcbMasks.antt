-- Doubling, and the first offset, as the code makes them.
use Rattle.std.proofs.{Common.{◌≡◌, ℕ, zero, suc, ◌+◌, ◌-◌, ◌*◌, ◌/◌, ◌%◌, ◌^◌, ◌<◌, List, [], ◌∷◌, ◌++◌, length, get_or, set, map, take, drop, refl, ap, ap₂, ◌∙◌, sym, arith, inl, inr}, lemmas.Bool.cases_lt}
use Rattle.std.{proofs.lemmas.List.{get_or_append_left, get_or-append_right, get_or_past, FromFn.{fill_by_all, get_or-map-range_with_len}}, specs.{Prelude.{bit_xor, replicate}, Int.{bit_at, Bits.xor_zero_r}, List.range_with_len}}
use Rattle.aes_block.{specs.Aes.{xor_of, encrypted}, proofs.Lists.literal}
use Rattle.aes_modes.specs.Ocb.{eight_bits, block_from, double, k_top, stretch, first_offset}

-- ---- zeros at the end change no bits

zeros_at : (n k : ℕ) → get_or {A = ℕ} (replicate n 0) k 0 ≡ 0
zeros_at zero k = refl
zeros_at (suc n) zero = refl
zeros_at (suc n) (suc k) = zeros_at n k

get_or_zeros : (s : List ℕ) (n k : ℕ) → get_or (s ++ replicate n 0) k 0 ≡ get_or s k 0
get_or_zeros s n k = elim (cases_lt k (length s)) [
  | inl below ↦ get_or_append_left s (replicate n 0) 0 k below
  | inr past ↦ get_or-append_right s (replicate n 0) (length s) k 0 refl past ∙ zeros_at n (k - length s) ∙ sym (get_or_past s k 0 past)
]

block_from_zeros : (s : List ℕ) (n i : ℕ) → block_from (s ++ replicate n 0) i ≡ block_from s i
unfolding block_from
block_from_zeros s n i =
    let f : ℕ → ℕ = λ k. eight_bits (s ++ replicate n 0) (i + 8 * k) in
    fill_by_all (λ k. eight_bits s (i + 8 * k)) (map f (range_with_len 0 16)) 16 0 refl
    (λ k lt. get_or-map-range_with_len f 0 16 k k 0 lt (omega arith)
    ∙ ap₂ (λ x y. (256 * x + y) / 2 ^ (8 - (i + 8 * k) % 8) % 256) (get_or_zeros s n ((i + 8 * k) / 8)) (get_or_zeros s n ((i + 8 * k) / 8 + 1)))

-- ---- doubling

add_last : (n v : ℕ) (s : List ℕ) → length s ≡ suc n → set s n (bit_xor (get_or s n 0) v) ≡ xor_of s (replicate n 0 ++ v ∷ [])
add_last n v [] h = absurd (omega arith)
add_last zero v (x ∷ []) h = refl
add_last zero v (x ∷ y ∷ ys) h = absurd (omega arith)
add_last (suc n) v (x ∷ xs) h = ap₂ ◌∷◌ (sym (xor_zero_r x)) (add_last n v xs (omega arith))

bit_seven : (x : ℕ) → x < 256 → x / 128 ≡ bit_at x 7
bit_seven x h = omega arith

length_block_from : (s : List ℕ) (i : ℕ) → length (block_from s i) ≡ 16
unfolding block_from
length_block_from s i = refl

pub doubled : (block shifted : List ℕ) → get_or block 0 0 < 256 → shifted ≡ block_from (block ++ replicate 8 0) 1
    → set shifted 15 (bit_xor (get_or shifted 15 0) (get_or block 0 0 / 128 * 0x87)) ≡ double block
unfolding double
doubled block shifted h e =
    let same = e ∙ block_from_zeros block 8 1 in
    add_last 15 (get_or block 0 0 / 128 * 0x87) shifted (ap length same ∙ length_block_from block 1)
    ∙ ap₂ (λ s b. xor_of s (replicate 15 0 ++ b * 0x87 ∷ [])) same (bit_seven (get_or block 0 0) h)

-- ---- the first offset

pub stretch_from : (top a b all : List ℕ) → length top ≡ 16 → a ≡ take 8 top → b ≡ take 8 (drop 1 top) → all ≡ xor_of a b
    → take 16 (top ++ replicate 8 0) ++ (all ++ drop 8 (drop 16 (top ++ replicate 8 0))) ≡ stretch top
unfolding stretch
stretch_from top a b all h e f g = rw (g, e, f) (rw (literal 16 top h) refl)

-- the nonce as the end of a block, with another last byte
last_set : (nonce : List ℕ) (v : ℕ) → length nonce ≡ 12 → set (nonce ++ []) 11 v ≡ take 11 nonce ++ v ∷ []
last_set nonce v h = rw (literal 12 nonce h) refl

last_get : (nonce : List ℕ) → length nonce ≡ 12 → get_or (nonce ++ []) 11 0 ≡ get_or nonce 11 0
last_get nonce h = rw (literal 12 nonce h) refl

pub first_from : (key nonce copy top wide first : List ℕ) → length nonce ≡ 12 → copy ≡ nonce
    → top ≡ encrypted key (0 ∷ 0 ∷ 0 ∷ 1 ∷ set (copy ++ []) 11 (get_or (copy ++ []) 11 0 - get_or (copy ++ []) 11 0 % 64))
    → wide ≡ stretch top → first ≡ block_from wide (get_or (copy ++ []) 11 0 % 64) → first ≡ first_offset key nonce
unfolding first_offset k_top
first_from key nonce copy top wide first h e t w f =
    let last = get_or nonce 11 0 in
    let whole : last - last % 64 ≡ last / 64 * 64 = omega arith in
    let get : get_or (copy ++ []) 11 0 ≡ last = ap (λ c. get_or (c ++ []) 11 0) e ∙ last_get nonce h in
    let block : set (copy ++ []) 11 (get_or (copy ++ []) 11 0 - get_or (copy ++ []) 11 0 % 64) ≡ take 11 nonce ++ last / 64 * 64 ∷ [] =
    ap₂ (λ c v. set (c ++ []) 11 (v - v % 64)) e get ∙ last_set nonce (last - last % 64) h ∙ ap (λ v. take 11 nonce ++ v ∷ []) whole in
    f ∙ ap₂ (λ s n. block_from s (n % 64)) (w ∙ ap stretch (t ∙ ap (λ b. encrypted key (0 ∷ 0 ∷ 0 ∷ 1 ∷ b)) block)) get
