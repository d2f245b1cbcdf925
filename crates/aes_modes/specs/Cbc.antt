-- Cipher block chaining (SP 800-38A, 6.2) with AES-128, on lists of blocks of 16 bytes.
use Rattle.std.specs.{Prelude.{ℕ, ◌/◌, List, [], ◌∷◌, length}, List.concat, Simd.first_chunks}
use Rattle.aes_block.specs.Aes.{xor_of, encrypted, decrypted}

-- the blocks of a list of bytes
abbrev pub blocks_of : List ℕ → List (List ℕ)
blocks_of bytes = first_chunks 16 (length bytes / 16) bytes

-- each block is added to the encrypted block before it, at first to the initialization vector, and
-- encrypted
unfoldable pub encrypted_blocks : List ℕ → List ℕ → List (List ℕ) → List (List ℕ)
encrypted_blocks key before [] = []
encrypted_blocks key before (p ∷ ps) =
    let c = encrypted key (xor_of p before) in
    c ∷ encrypted_blocks key c ps

-- each block is decrypted, and the encrypted block before it is added
unfoldable pub decrypted_blocks : List ℕ → List ℕ → List (List ℕ) → List (List ℕ)
decrypted_blocks key before [] = []
decrypted_blocks key before (c ∷ cs) = xor_of (decrypted key c) before ∷ decrypted_blocks key c cs

-- the same of bytes
unfoldable pub cbc_encrypted : List ℕ → List ℕ → List ℕ → List ℕ
cbc_encrypted key iv bytes = concat (encrypted_blocks key iv (blocks_of bytes))

unfoldable pub cbc_decrypted : List ℕ → List ℕ → List ℕ → List ℕ
cbc_decrypted key iv bytes = concat (decrypted_blocks key iv (blocks_of bytes))
