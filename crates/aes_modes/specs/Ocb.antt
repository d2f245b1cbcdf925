-- The authenticated encryption OCB of RFC 7253 with AES-128, a nonce of 12 bytes and a tag of 16 (3.1:
-- AEAD_AES_128_OCB_TAGLEN128), on lists of blocks of 16 bytes. The bits of a string of bytes are counted from 0, the
-- highest bit of its first byte.
use Rattle.std.specs.{Prelude.{ℕ, zero, suc, ◌+◌, ◌-◌, ◌*◌, ◌/◌, ◌%◌, ◌^◌, List, [], ◌∷◌, ◌++◌, length, slice_index, map, take, drop, replicate}, Int.{w64, trailing_zeros, bit_at}, List.{concat, range_with_len}}
use Rattle.aes_block.specs.Aes.{xor_of, encrypted, decrypted}
use Rattle.aes_modes.specs.Cbc.{blocks_of}

-- the eight bits of s from bit i on, which lie in two of its bytes; past its end are zeros
abbrev pub eight_bits : List ℕ → ℕ → ℕ
eight_bits s i = (256 * slice_index s (i / 8) + slice_index s (i / 8 + 1)) / 2 ^ (8 - i % 8) % 256

-- the 128 bits of s from bit i on
unfoldable pub block_from : List ℕ → ℕ → List ℕ
block_from s i = map (λ k. eight_bits s (i + 8 * k)) (range_with_len 0 16)

abbrev pub zeros : List ℕ
zeros = replicate 16 0

-- double(S): S shifted left by one bit, with 0x87 added to its last byte where the bit that falls off is 1 (2)
unfoldable pub double : List ℕ → List ℕ
double s = xor_of (block_from s 1) (replicate 15 0 ++ bit_at (slice_index s 0) 7 * 0x87 ∷ [])

-- L_*, L_$ and L_i (4.1)
unfoldable pub l_star : List ℕ → List ℕ
l_star key = encrypted key zeros

unfoldable pub l_dollar : List ℕ → List ℕ
l_dollar key = double (l_star key)

unfoldable pub l_mask : List ℕ → ℕ → List ℕ
l_mask key zero = double (l_dollar key)
l_mask key (suc i) = double (l_mask key i)

-- ---- the first offset, from the nonce (4.2)

-- Ktop: the encryption of the nonce in a block, without its last six bits
unfoldable pub k_top : List ℕ → List ℕ → List ℕ
k_top key nonce = encrypted key (0 ∷ 0 ∷ 0 ∷ 1 ∷ take 11 nonce ++ slice_index nonce 11 / 64 * 64 ∷ [])

-- Stretch: Ktop, and its bits 0 to 63 added to its bits 8 to 71
unfoldable pub stretch : List ℕ → List ℕ
stretch top = top ++ xor_of (take 8 top) (take 8 (drop 1 top))

-- Offset_0: the bits of Stretch from the number in the last six bits of the nonce on
unfoldable pub first_offset : List ℕ → List ℕ → List ℕ
first_offset key nonce = block_from (stretch (k_top key nonce)) (slice_index nonce 11 % 64)

-- ---- blocks with their offsets (4.1 to 4.3)

-- Offset_i, where Offset_0 is first. `trailing_zeros` is ntz
unfoldable pub offset : List ℕ → List ℕ → ℕ → List ℕ
offset key first zero = first
offset key first (suc i) = xor_of (offset key first i) (l_mask key (trailing_zeros w64 (i + 1)))

-- P_*, C_* and A_*: what follows the whole blocks
abbrev pub partial_block : List ℕ → List ℕ
partial_block s = drop (16 * (length s / 16)) s

-- such a rest with a bit 1 and zeros appended, as a block; no block where nothing is left
unfoldable pub padded : List ℕ → List (List ℕ)
padded [] = []
padded (x ∷ xs) = ((x ∷ xs) ++ 0x80 ∷ replicate (15 - length (x ∷ xs)) 0) ∷ []

-- Offset_*, from the offset before it; that offset itself where nothing is left
unfoldable pub offset_after : List ℕ → List ℕ → List ℕ → List ℕ
offset_after key before [] = before
offset_after key before (x ∷ xs) = xor_of before (l_star key)

-- the offset that bytes end with
unfoldable pub last_offset : List ℕ → List ℕ → List ℕ → List ℕ
last_offset key first s = offset_after key (offset key first (length s / 16)) (partial_block s)

-- the blocks after the first i: each is added its offset, enciphered or deciphered by f, and added its offset again
unfoldable pub masked_blocks : (List ℕ → List ℕ) → List ℕ → List ℕ → ℕ → List (List ℕ) → List (List ℕ)
masked_blocks f key first i [] = []
masked_blocks f key first i (b ∷ bs) =
    let o = offset key first (i + 1) in
    xor_of (f (xor_of b o)) o ∷ masked_blocks f key first (i + 1) bs

-- the blocks, and the rest added the encryption of its offset
unfoldable pub masked : (List ℕ → List ℕ) → List ℕ → List ℕ → List ℕ → List ℕ
masked f key first s =
    concat (masked_blocks f key first 0 (blocks_of s)) ++ xor_of (partial_block s) (encrypted key (last_offset key first s))

-- ---- sums

-- s with blocks added
unfoldable pub sum_from : List ℕ → List (List ℕ) → List ℕ
sum_from s [] = s
sum_from s (b ∷ bs) = sum_from (xor_of s b) bs

-- Checksum_m, or Checksum_* where there is a rest (4.2)
unfoldable pub checksum : List ℕ → List ℕ
checksum plain = sum_from zeros (blocks_of plain ++ padded (partial_block plain))

-- the blocks after the first i, each added its offset and enciphered
unfoldable pub hashed_blocks : List ℕ → ℕ → List (List ℕ) → List (List ℕ)
hashed_blocks key i [] = []
hashed_blocks key i (b ∷ bs) = encrypted key (xor_of b (offset key zeros (i + 1))) ∷ hashed_blocks key (i + 1) bs

-- HASH (4.1)
unfoldable pub hash : List ℕ → List ℕ → List ℕ
hash key assoc =
    let last = last_offset key zeros assoc in
    sum_from zeros (hashed_blocks key 0 (blocks_of assoc) ++ map (λ b. encrypted key (xor_of b last)) (padded (partial_block assoc)))

-- ---- OCB-ENCRYPT and OCB-DECRYPT (4.2, 4.3)

-- the ciphertext without its tag
unfoldable pub ocb_encrypted : List ℕ → List ℕ → List ℕ → List ℕ
ocb_encrypted key nonce plain = masked (encrypted key) key (first_offset key nonce) plain

-- the plaintext of a ciphertext without its tag
unfoldable pub ocb_decrypted : List ℕ → List ℕ → List ℕ → List ℕ
ocb_decrypted key nonce cipher = masked (decrypted key) key (first_offset key nonce) cipher

-- Tag, of a plaintext and its associated data
unfoldable pub ocb_tag : List ℕ → List ℕ → List ℕ → List ℕ → List ℕ
ocb_tag key nonce assoc plain =
    let last = last_offset key (first_offset key nonce) plain in
    xor_of (encrypted key (xor_of (xor_of (checksum plain) last) (l_dollar key))) (hash key assoc)

-- the ciphertext with its tag after it
abbrev pub ocb_sealed : List ℕ → List ℕ → List ℕ → List ℕ → List ℕ
ocb_sealed key nonce assoc plain = ocb_encrypted key nonce plain ++ ocb_tag key nonce assoc plain
