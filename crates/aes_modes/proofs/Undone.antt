-- Decryption of a chain undoes its encryption.
use Rattle.std.{proofs.Common.{◌≡◌, ℕ, ◌*◌, ◌/◌, ◌%◌, List, [], ◌∷◌, length, refl, ap, ap₂, ◌∙◌, sym, arith}, specs.{List.concat, Simd.first_chunks}}
use Rattle.aes_block.{specs.Aes.{IsBytes, xor_of, encrypted}, proofs.{Blocks.{AreBlocks, concat_first_chunks, first_chunks_concat, length_concat, first_chunks_blocks}, XorLemmas.xor_of_twice}}
use Rattle.aes_block.proofs.Undone.{decrypted_encrypted, encrypted_bytes, xor_of_bytes}
use Rattle.aes_modes.specs.Cbc.{blocks_of, encrypted_blocks, decrypted_blocks, cbc_encrypted, cbc_decrypted}

blocks_of_concat : (bs : List (List ℕ)) → AreBlocks 16 bs → blocks_of (concat bs) ≡ bs
blocks_of_concat bs h =
    let e : length (concat bs) / 16 ≡ length bs = omega (arith, length_concat 16 bs h) in
    ap (λ n. first_chunks 16 n (concat bs)) e ∙ first_chunks_concat 16 bs h

encrypted_blocks_blocks : (key before : List ℕ) (ps : List (List ℕ)) → IsBytes 16 key → IsBytes 16 before → AreBlocks 16 ps
    → AreBlocks 16 (encrypted_blocks key before ps)
unfolding encrypted_blocks
encrypted_blocks_blocks key before [] h k b = tt
encrypted_blocks_blocks key before (p ∷ ps) h k b =
    let c = encrypted_bytes key (xor_of p before) h (xor_of_bytes 16 p before b.0 k) in
    (c, encrypted_blocks_blocks key (encrypted key (xor_of p before)) ps h c b.1)

decrypted_blocks_encrypted_blocks : (key before : List ℕ) (ps : List (List ℕ)) → IsBytes 16 key → IsBytes 16 before → AreBlocks 16 ps
    → decrypted_blocks key before (encrypted_blocks key before ps) ≡ ps
unfolding encrypted_blocks decrypted_blocks
decrypted_blocks_encrypted_blocks key before [] h k b = refl
decrypted_blocks_encrypted_blocks key before (p ∷ ps) h k b =
    let sum = xor_of_bytes 16 p before b.0 k in
    let c = encrypted_bytes key (xor_of p before) h sum in
    ap₂ ◌∷◌
    (ap (λ x. xor_of x before) (decrypted_encrypted key (xor_of p before) h sum) ∙ xor_of_twice p before (b.0.len ∙ sym k.len))
    (decrypted_blocks_encrypted_blocks key (encrypted key (xor_of p before)) ps h c b.1)

pub cbc_decrypted_cbc_encrypted : (key iv plain : List ℕ) → IsBytes 16 key → IsBytes 16 iv
    → IsBytes (length plain) plain → length plain % 16 ≡ 0 → cbc_decrypted key iv (cbc_encrypted key iv plain) ≡ plain
unfolding cbc_encrypted cbc_decrypted
cbc_decrypted_cbc_encrypted key iv plain h k p whole =
    let n = length plain / 16 in
    let long : length plain ≡ 16 * n = omega arith in
    let b = first_chunks_blocks 16 n plain (record { len = long; small = p.small }) in
    ap (λ bs. concat (decrypted_blocks key iv bs))
    (blocks_of_concat (encrypted_blocks key iv (blocks_of plain)) (encrypted_blocks_blocks key iv (blocks_of plain) h k b))
    ∙ ap concat (decrypted_blocks_encrypted_blocks key iv (blocks_of plain) h k b)
    ∙ concat_first_chunks 16 n plain long
