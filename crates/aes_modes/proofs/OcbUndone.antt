-- Decryption and encryption by OCB undo each other.
use Rattle.std.proofs.Common.{◌≡◌, ℕ, zero, suc, ◌+◌, ◌-◌, ◌*◌, ◌/◌, ◌<◌, ◌≤◌, List, [], ◌∷◌, ◌++◌, length, slice_index, take, drop, refl, ap, ap₂, ◌∙◌, sym, arith, append_assoc, length-append, length-drop, lit<}
use Rattle.std.{proofs.lemmas.{List.{take_at, drop_at, take-append-drop, drop-drop}, Nat.{xor_of_8, Bits.bit_at-lt}}, specs.{Prelude.replicate, Int.bit_at, List.{concat, range_with_len}, Simd.first_chunks}}
use Rattle.aes_block.{specs.Aes.{IsBytes, xor_of, encrypted, decrypted}, proofs.{Blocks.{AreBlocks, length_concat, length_first_chunks, IsBytes_take, IsBytes_drop, IsBytes_append}, XorLemmas.{xor_twice, xor_of_twice}}}
use Rattle.aes_block.proofs.{Undone.{Small, small_at, small_map, small_append, decrypted_encrypted, encrypted_bytes, xor_of_bytes}, Restored.{encrypted_decrypted, decrypted_bytes}}
use Rattle.aes_modes.{proofs.OcbSteps.last_offset_length, specs.Cbc.blocks_of}
use Rattle.aes_modes.specs.Ocb.{zeros, eight_bits, block_from, double, l_star, l_dollar, l_mask, first_offset, offset, partial_block, offset_after, last_offset, masked_blocks, masked, ocb_encrypted, ocb_decrypted}

-- ---- offsets are blocks

pub small_zeros : (n : ℕ) → Small (replicate n 0)
small_zeros zero = tt
small_zeros (suc n) = (lit< tt, small_zeros n)

pub zeros_bytes : IsBytes 16 zeros
zeros_bytes = record { len = refl; small = small_at zeros (small_zeros 16) }

block_from_bytes : (s : List ℕ) (i : ℕ) → IsBytes 16 (block_from s i)
unfolding block_from
block_from_bytes s i = record {
  len = refl;
  small = small_at (block_from s i) (small_map (λ k. eight_bits s (i + 8 * k)) (λ k. omega arith) (range_with_len 0 16));
}

pub double_bytes : (s : List ℕ) → IsBytes 16 (double s)
unfolding double
double_bytes s =
    let last = bit_at (slice_index s 0) 7 * 0x87 in
    let low : last < 256 = omega (arith, bit_at-lt (slice_index s 0) 7) in
    let end : Small (replicate 15 0 ++ last ∷ []) = small_append (replicate 15 0) (last ∷ []) (small_zeros 15) (low, tt) in
    xor_of_bytes 16 (block_from s 1) (replicate 15 0 ++ last ∷ []) (block_from_bytes s 1) (record { len = refl; small = small_at (replicate 15 0 ++ last ∷ []) end })

pub l_star_bytes : (key : List ℕ) → IsBytes 16 key → IsBytes 16 (l_star key)
unfolding l_star
l_star_bytes key h = encrypted_bytes key zeros h zeros_bytes

l_mask_bytes : (key : List ℕ) (i : ℕ) → IsBytes 16 (l_mask key i)
unfolding l_mask
l_mask_bytes key zero = double_bytes (l_dollar key)
l_mask_bytes key (suc i) = double_bytes (l_mask key i)

pub first_offset_bytes : (key nonce : List ℕ) → IsBytes 16 (first_offset key nonce)
unfolding first_offset
first_offset_bytes key nonce = block_from_bytes _ _

pub offset_bytes : (key first : List ℕ) (i : ℕ) → IsBytes 16 first → IsBytes 16 (offset key first i)
unfolding offset
offset_bytes key first zero h = h
offset_bytes key first (suc i) h = xor_of_bytes 16 _ _ (offset_bytes key first i h) (l_mask_bytes key _)

pub offset_after_bytes : (key before rest : List ℕ) → IsBytes 16 key → IsBytes 16 before → IsBytes 16 (offset_after key before rest)
unfolding offset_after
offset_after_bytes key before [] h k = k
offset_after_bytes key before (x ∷ xs) h k = xor_of_bytes 16 _ _ k (l_star_bytes key h)

-- ---- whole blocks

-- g undoes f on blocks
pub record Undoes (f g : List ℕ → List ℕ) : Type 0 where
  pub block : (b : List ℕ) → IsBytes 16 b → IsBytes 16 (f b)
  pub undone : (b : List ℕ) → IsBytes 16 b → g (f b) ≡ b

block_undone : (f g : List ℕ → List ℕ) (b o : List ℕ) → Undoes f g → IsBytes 16 b → IsBytes 16 o
    → xor_of (g (xor_of (xor_of (f (xor_of b o)) o) o)) o ≡ b
block_undone f g b o u h k =
    let sum = xor_of_bytes 16 b o h k in
    let c = u.block (xor_of b o) sum in
    ap (λ x. xor_of (g x) o) (xor_of_twice (f (xor_of b o)) o (c.len ∙ sym k.len))
    ∙ ap (λ x. xor_of x o) (u.undone (xor_of b o) sum)
    ∙ xor_of_twice b o (h.len ∙ sym k.len)

masked_blocks_blocks : (f g : List ℕ → List ℕ) (key first : List ℕ) (i : ℕ) (bs : List (List ℕ)) → Undoes f g → IsBytes 16 first
    → AreBlocks 16 bs → AreBlocks 16 (masked_blocks f key first i bs)
unfolding masked_blocks
masked_blocks_blocks f g key first i [] u k h = tt
masked_blocks_blocks f g key first i (b ∷ bs) u k h =
    let o = offset_bytes key first (i + 1) k in
    let c = u.block (xor_of b (offset key first (i + 1))) (xor_of_bytes 16 b (offset key first (i + 1)) h.0 o) in
    (xor_of_bytes 16 _ _ c o, masked_blocks_blocks f g key first (i + 1) bs u k h.1)

masked_blocks_length : (f : List ℕ → List ℕ) (key first : List ℕ) (i : ℕ) (bs : List (List ℕ)) → length (masked_blocks f key first i bs) ≡ length bs
unfolding masked_blocks
masked_blocks_length f key first i [] = refl
masked_blocks_length f key first i (b ∷ bs) = ap suc (masked_blocks_length f key first (i + 1) bs)

masked_blocks_undone : (f g : List ℕ → List ℕ) (key first : List ℕ) (i : ℕ) (bs : List (List ℕ)) → Undoes f g → IsBytes 16 first
    → AreBlocks 16 bs → masked_blocks g key first i (masked_blocks f key first i bs) ≡ bs
unfolding masked_blocks
masked_blocks_undone f g key first i [] u k h = refl
masked_blocks_undone f g key first i (b ∷ bs) u k h =
    ap₂ ◌∷◌
    (block_undone f g b (offset key first (i + 1)) u h.0 (offset_bytes key first (i + 1) k))
    (masked_blocks_undone f g key first (i + 1) bs u k h.1)

-- ---- blocks and what follows them

first_chunks_append : (size : ℕ) (bs : List (List ℕ)) (r : List ℕ) → AreBlocks size bs → first_chunks size (length bs) (concat bs ++ r) ≡ bs
first_chunks_append size [] r h = refl
first_chunks_append size (b ∷ bs) r h =
    let e = append_assoc b (concat bs) r in
    ap₂ ◌∷◌ (ap (take size) e ∙ take_at b (concat bs ++ r) size h.0.len)
    (ap (λ t. first_chunks size (length bs) (drop size t)) e
    ∙ ap (first_chunks size (length bs)) (drop_at b (concat bs ++ r) size h.0.len)
    ∙ first_chunks_append size bs r h.1)

pub first_chunks_front : (size n m : ℕ) (s : List ℕ) → size * n ≤ m → IsBytes m s → AreBlocks size (first_chunks size n s)
first_chunks_front size zero m s le h = tt
first_chunks_front size (suc n) m s le h = (
  IsBytes_take size m s (omega arith) h,
  first_chunks_front size n (m - size) (drop size s) (omega arith) (IsBytes_drop size m (m - size) s (omega arith) h),
)

concat_bytes : (bs : List (List ℕ)) → AreBlocks 16 bs → IsBytes (16 * length bs) (concat bs)
concat_bytes [] h = record { len = refl; small = λ k. lit< tt }
concat_bytes (b ∷ bs) h =
    let e : 16 * length (b ∷ bs) ≡ 16 + 16 * length bs = omega arith in
    rw e (IsBytes_append 16 (16 * length bs) b (concat bs) h.0 (concat_bytes bs h.1))

first_chunks_rest : (size n : ℕ) (s : List ℕ) → concat (first_chunks size n s) ++ drop (size * n) s ≡ s
first_chunks_rest size zero s = let e : size * 0 ≡ 0 = omega arith in rw e refl
first_chunks_rest size (suc n) s =
    let e : size * suc n ≡ size + size * n = omega arith in
    append_assoc (take size s) (concat (first_chunks size n (drop size s))) (drop (size * suc n) s)
    ∙ ap (λ t. take size s ++ (concat (first_chunks size n (drop size s)) ++ t)) (ap (λ k. drop k s) e ∙ sym (drop-drop (size * n) size s))
    ∙ ap (λ t. take size s ++ t) (first_chunks_rest size n (drop size s))
    ∙ take-append-drop size s

-- ---- the rest

length_xor_of_longer : (a b : List ℕ) → length a ≤ length b → length (xor_of a b) ≡ length a
length_xor_of_longer [] b h = refl
length_xor_of_longer (x ∷ xs) [] h = absurd (omega arith)
length_xor_of_longer (x ∷ xs) (y ∷ ys) h = ap suc (length_xor_of_longer xs ys (omega arith))

xor_of_longer_twice : (a b : List ℕ) → length a ≤ length b → xor_of (xor_of a b) b ≡ a
xor_of_longer_twice [] b h = refl
xor_of_longer_twice (x ∷ xs) [] h = absurd (omega arith)
xor_of_longer_twice (x ∷ xs) (y ∷ ys) h = ap₂ ◌∷◌ (xor_twice x y) (xor_of_longer_twice xs ys (omega arith))

small_xor_of_longer : (a b : List ℕ) → ((k : ℕ) → slice_index a k < 256) → ((k : ℕ) → slice_index b k < 256)
    → (k : ℕ) → slice_index (xor_of a b) k < 256
small_xor_of_longer [] b h j k = lit< tt
small_xor_of_longer (x ∷ xs) [] h j k = lit< tt
small_xor_of_longer (x ∷ xs) (y ∷ ys) h j zero = xor_of_8 x y (h 0) (j 0)
small_xor_of_longer (x ∷ xs) (y ∷ ys) h j (suc k) = small_xor_of_longer xs ys (λ i. h (suc i)) (λ i. j (suc i)) k

-- ---- all bytes

-- the parts of masked bytes
record Parts (f : List ℕ → List ℕ) (key first s : List ℕ) : Type 0 where
  whole : length (concat (masked_blocks f key first 0 (blocks_of s))) ≡ 16 * (length s / 16)
  count : length (masked_blocks f key first 0 (blocks_of s)) ≡ length s / 16
  blocks : AreBlocks 16 (masked_blocks f key first 0 (blocks_of s))
  pad : IsBytes 16 (encrypted key (last_offset key first s))
  rest : length (partial_block s) + 16 * (length s / 16) ≡ length s
  short : length (partial_block s) < 16
  last : length (xor_of (partial_block s) (encrypted key (last_offset key first s))) ≡ length (partial_block s)

parts : (f g : List ℕ → List ℕ) (key first s : List ℕ) → Undoes f g → IsBytes 16 key → IsBytes 16 first → IsBytes (length s) s → Parts f key first s
unfolding last_offset
parts f g key first s u h k b =
    let n = length s / 16 in
    let cs = masked_blocks f key first 0 (blocks_of s) in
    let are : AreBlocks 16 (blocks_of s) = first_chunks_front 16 n (length s) s (omega arith) b in
    let bs : AreBlocks 16 cs = masked_blocks_blocks f g key first 0 (blocks_of s) u k are in
    let count : length cs ≡ n = masked_blocks_length f key first 0 (blocks_of s) ∙ length_first_chunks 16 n s in
    let pad : IsBytes 16 (encrypted key (last_offset key first s)) =
    encrypted_bytes key (last_offset key first s) h (offset_after_bytes key (offset key first n) (partial_block s) h (offset_bytes key first n k)) in
    let rest : length (partial_block s) + 16 * n ≡ length s = omega (arith, length-drop (16 * n) s) in
    let short : length (partial_block s) < 16 = omega arith in
    record {
      whole = length_concat 16 cs bs ∙ ap (λ m. 16 * m) count;
      count = count;
      blocks = bs;
      pad = pad;
      rest = rest;
      short = short;
      last = length_xor_of_longer (partial_block s) (encrypted key (last_offset key first s)) (omega (arith, pad.len));
    }

pub masked_length : (f g : List ℕ → List ℕ) (key first s : List ℕ) → Undoes f g → IsBytes 16 key → IsBytes 16 first → IsBytes (length s) s
    → length (masked f key first s) ≡ length s
unfolding masked
masked_length f g key first s u h k b =
    let p = parts f g key first s u h k b in
    omega (arith, length-append (concat (masked_blocks f key first 0 (blocks_of s))) (xor_of (partial_block s) (encrypted key (last_offset key first s))), p.whole, p.last, p.rest)

masked_bytes : (f g : List ℕ → List ℕ) (key first s : List ℕ) → Undoes f g → IsBytes 16 key → IsBytes 16 first → IsBytes (length s) s
    → IsBytes (length s) (masked f key first s)
unfolding masked
masked_bytes f g key first s u h k b =
    let p = parts f g key first s u h k b in
    let cs = masked_blocks f key first 0 (blocks_of s) in
    let r = xor_of (partial_block s) (encrypted key (last_offset key first s)) in
    let e : length s ≡ 16 * length cs + length (partial_block s) = omega (arith, p.count, p.rest) in
    let tail = (IsBytes_drop (16 * (length s / 16)) (length s) (length (partial_block s)) s (omega (arith, p.rest)) b).small in
    let small = small_xor_of_longer (partial_block s) (encrypted key (last_offset key first s)) tail p.pad.small in
    let all = IsBytes_append (16 * length cs) (length (partial_block s)) (concat cs) r (concat_bytes cs p.blocks) (record { len = p.last; small = small }) in
    record { len = all.len ∙ sym e; small = all.small }

masked_undone : (f g : List ℕ → List ℕ) (key first s : List ℕ) → Undoes f g → IsBytes 16 key → IsBytes 16 first → IsBytes (length s) s
    → masked g key first (masked f key first s) ≡ s
unfolding masked
masked_undone f g key first s u h k b =
    let p = parts f g key first s u h k b in
    let n = length s / 16 in
    let cs = masked_blocks f key first 0 (blocks_of s) in
    let r = xor_of (partial_block s) (encrypted key (last_offset key first s)) in
    let t = concat cs ++ r in
    let len : length t ≡ length s = masked_length f g key first s u h k b in
    let count : length t / 16 ≡ n = ap (λ m. m / 16) len in
    let blocks : blocks_of t ≡ cs = ap (λ m. first_chunks 16 m t) (count ∙ sym p.count) ∙ first_chunks_append 16 cs r p.blocks in
    let rest : partial_block t ≡ r = drop_at (concat cs) r (16 * (length t / 16)) (p.whole ∙ ap (λ m. 16 * m) (sym count)) in
    let last = last_offset_length key first t s len in
    ap₂ ◌++◌
    (ap (λ bs. concat (masked_blocks g key first 0 bs)) blocks
    ∙ ap concat (masked_blocks_undone f g key first 0 (blocks_of s) u k (first_chunks_front 16 n (length s) s (omega arith) b)))
    (ap₂ (λ x o. xor_of x (encrypted key o)) rest last
    ∙ xor_of_longer_twice (partial_block s) (encrypted key (last_offset key first s)) (omega (arith, p.pad.len, p.short)))
    ∙ first_chunks_rest 16 n s

-- ---- encryption and decryption

decrypts : (key : List ℕ) → IsBytes 16 key → Undoes (encrypted key) (decrypted key)
decrypts key h = record { block = λ b k. encrypted_bytes key b h k; undone = λ b k. decrypted_encrypted key b h k }

encrypts : (key : List ℕ) → IsBytes 16 key → Undoes (decrypted key) (encrypted key)
encrypts key h = record { block = λ b k. decrypted_bytes key b h k; undone = λ b k. encrypted_decrypted key b h k }

pub ocb_encrypted_bytes : (key nonce plain : List ℕ) → IsBytes 16 key → IsBytes (length plain) plain → IsBytes (length plain) (ocb_encrypted key nonce plain)
unfolding ocb_encrypted
ocb_encrypted_bytes key nonce plain h b =
    masked_bytes (encrypted key) (decrypted key) key (first_offset key nonce) plain (decrypts key h) h (first_offset_bytes key nonce) b

pub ocb_decrypted_bytes : (key nonce bytes : List ℕ) → IsBytes 16 key → IsBytes (length bytes) bytes → IsBytes (length bytes) (ocb_decrypted key nonce bytes)
unfolding ocb_decrypted
ocb_decrypted_bytes key nonce bytes h b =
    masked_bytes (decrypted key) (encrypted key) key (first_offset key nonce) bytes (encrypts key h) h (first_offset_bytes key nonce) b

pub ocb_decrypted_ocb_encrypted : (key nonce plain : List ℕ) → IsBytes 16 key → IsBytes (length plain) plain → ocb_decrypted key nonce (ocb_encrypted key nonce plain) ≡ plain
unfolding ocb_encrypted ocb_decrypted
ocb_decrypted_ocb_encrypted key nonce plain h b =
    masked_undone (encrypted key) (decrypted key) key (first_offset key nonce) plain (decrypts key h) h (first_offset_bytes key nonce) b

pub ocb_encrypted_ocb_decrypted : (key nonce bytes : List ℕ) → IsBytes 16 key → IsBytes (length bytes) bytes → ocb_encrypted key nonce (ocb_decrypted key nonce bytes) ≡ bytes
unfolding ocb_encrypted ocb_decrypted
ocb_encrypted_ocb_decrypted key nonce bytes h b =
    masked_undone (decrypted key) (encrypted key) key (first_offset key nonce) bytes (encrypts key h) h (first_offset_bytes key nonce) b
