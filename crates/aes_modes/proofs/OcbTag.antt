-- A tag is a block.
use Rattle.std.{proofs.{Common.{◌≡◌, ℕ, ◌+◌, ◌-◌, ◌*◌, ◌/◌, ◌<◌, List, [], ◌∷◌, ◌++◌, length, map, arith, length-drop, lit<, subst}, lemmas.List.length-replicate}, specs.Prelude.replicate}
use Rattle.aes_block.{specs.Aes.{IsBytes, xor_of, encrypted}, proofs.{Blocks.{AreBlocks, IsBytes_append, IsBytes_drop}, Undone.{small_at, encrypted_bytes, xor_of_bytes}}}
use Rattle.aes_modes.specs.{Cbc.blocks_of, Ocb.{zeros, l_dollar, first_offset, offset, partial_block, padded, last_offset, sum_from, checksum, hashed_blocks, hash, ocb_tag}}
use Rattle.aes_modes.proofs.OcbUndone.{small_zeros, zeros_bytes, double_bytes, first_offset_bytes, offset_bytes, offset_after_bytes, first_chunks_front}

sum_from_bytes : (s : List ℕ) (bs : List (List ℕ)) → IsBytes 16 s → AreBlocks 16 bs → IsBytes 16 (sum_from s bs)
unfolding sum_from
sum_from_bytes s [] h k = h
sum_from_bytes s (b ∷ bs) h k = sum_from_bytes (xor_of s b) bs (xor_of_bytes 16 s b h k.0) k.1

append_blocks : (a b : List (List ℕ)) → AreBlocks 16 a → AreBlocks 16 b → AreBlocks 16 (a ++ b)
append_blocks [] b h k = k
append_blocks (x ∷ xs) b h k = (h.0, append_blocks xs b h.1 k)

map_blocks : (f : List ℕ → List ℕ) (bs : List (List ℕ)) → ((b : List ℕ) → IsBytes 16 b → IsBytes 16 (f b)) → AreBlocks 16 bs → AreBlocks 16 (map f bs)
map_blocks f [] h k = tt
map_blocks f (b ∷ bs) h k = (h b k.0, map_blocks f bs h k.1)

padded_blocks : (rest : List ℕ) → length rest < 16 → IsBytes (length rest) rest → AreBlocks 16 (padded rest)
unfolding padded
padded_blocks [] fits h = tt
padded_blocks (x ∷ xs) fits h =
    let rest = x ∷ xs in
    let n = length (x ∷ xs) in
    let more : List ℕ = 0x80 ∷ replicate (15 - n) 0 in
    let len : length more ≡ 16 - n = omega (arith, length-replicate {A = ℕ} (15 - n) 0) in
    let end : IsBytes (16 - n) more = record { len = len; small = small_at more (lit< tt, small_zeros (15 - n)) } in
    let whole : n + (16 - n) ≡ 16 = omega arith in
    (subst (λ m. IsBytes m (rest ++ more)) whole (IsBytes_append n (16 - n) rest more h end), tt)

rest_blocks : (s : List ℕ) → IsBytes (length s) s → AreBlocks 16 (padded (partial_block s))
rest_blocks s h =
    let n = 16 * (length s / 16) in
    let len = length-drop n s in
    padded_blocks (partial_block s) (omega arith) (IsBytes_drop n (length s) (length (partial_block s)) s (omega arith) h)

whole_blocks : (s : List ℕ) → IsBytes (length s) s → AreBlocks 16 (blocks_of s)
whole_blocks s h = first_chunks_front 16 (length s / 16) (length s) s (omega arith) h

hashed_blocks_blocks : (key : List ℕ) (i : ℕ) (bs : List (List ℕ)) → IsBytes 16 key → AreBlocks 16 bs → AreBlocks 16 (hashed_blocks key i bs)
unfolding hashed_blocks
hashed_blocks_blocks key i [] h k = tt
hashed_blocks_blocks key i (b ∷ bs) h k =
    let o = offset_bytes key zeros (i + 1) zeros_bytes in
    (encrypted_bytes key (xor_of b (offset key zeros (i + 1))) h (xor_of_bytes 16 b (offset key zeros (i + 1)) k.0 o), hashed_blocks_blocks key (i + 1) bs h k.1)

last_offset_bytes : (key first s : List ℕ) → IsBytes 16 key → IsBytes 16 first → IsBytes 16 (last_offset key first s)
unfolding last_offset
last_offset_bytes key first s h k =
    offset_after_bytes key (offset key first (length s / 16)) (partial_block s) h (offset_bytes key first (length s / 16) k)

checksum_bytes : (plain : List ℕ) → IsBytes (length plain) plain → IsBytes 16 (checksum plain)
unfolding checksum
checksum_bytes plain h =
    sum_from_bytes zeros (blocks_of plain ++ padded (partial_block plain)) zeros_bytes
    (append_blocks (blocks_of plain) (padded (partial_block plain)) (whole_blocks plain h) (rest_blocks plain h))

hash_bytes : (key assoc : List ℕ) → IsBytes 16 key → IsBytes (length assoc) assoc → IsBytes 16 (hash key assoc)
unfolding hash
hash_bytes key assoc h k =
    let last = last_offset key zeros assoc in
    let o = last_offset_bytes key zeros assoc h zeros_bytes in
    let f : List ℕ → List ℕ = λ b. encrypted key (xor_of b last) in
    sum_from_bytes zeros (hashed_blocks key 0 (blocks_of assoc) ++ map f (padded (partial_block assoc))) zeros_bytes
    (append_blocks (hashed_blocks key 0 (blocks_of assoc)) (map f (padded (partial_block assoc)))
    (hashed_blocks_blocks key 0 (blocks_of assoc) h (whole_blocks assoc k))
    (map_blocks f (padded (partial_block assoc)) (λ b p. encrypted_bytes key (xor_of b last) h (xor_of_bytes 16 b last p o)) (rest_blocks assoc k)))

pub ocb_tag_bytes : (key nonce assoc plain : List ℕ) → IsBytes 16 key → IsBytes (length assoc) assoc → IsBytes (length plain) plain
    → IsBytes 16 (ocb_tag key nonce assoc plain)
unfolding ocb_tag l_dollar
ocb_tag_bytes key nonce assoc plain h k p =
    let last = last_offset key (first_offset key nonce) plain in
    let o = last_offset_bytes key (first_offset key nonce) plain h (first_offset_bytes key nonce) in
    let sum = xor_of_bytes 16 (checksum plain) last (checksum_bytes plain p) o in
    let all = xor_of_bytes 16 (xor_of (checksum plain) last) (l_dollar key) sum (double_bytes _) in
    xor_of_bytes 16 (encrypted key (xor_of (xor_of (checksum plain) last) (l_dollar key))) (hash key assoc) (encrypted_bytes key _ h all) (hash_bytes key assoc h k)
