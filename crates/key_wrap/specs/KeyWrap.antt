-- The key wrap of RFC 3394, 2.2, with AES-128, on lists of blocks of 8 bytes.
use Rattle.std.specs.{Prelude.{ℕ, zero, suc, ◌+◌, ◌-◌, ◌*◌, ◌/◌, ◌%◌, Bool, ◌&&◌, ◌==◌, nat_le, List, [], ◌∷◌, ◌++◌, length, take, drop, replicate}, Int.{w64, to_be_bytes}, List.concat, Simd.first_chunks}
use Rattle.aes_block.specs.Aes.{xor_of, encrypted, decrypted}

-- the integrity check register A, and the registers R1 to Rn
pub record Registers : Type 0 where
  pub check : List ℕ
  pub blocks : List (List ℕ)

-- the initial value of A (2.2.3.1)
abbrev pub initial_value : List ℕ
initial_value = replicate 8 0xA6

-- one pass over the registers R from the first to the last (2.2.1): t is the number of the step
unfoldable pub wrap_pass : List ℕ → List ℕ → ℕ → List (List ℕ) → Registers
wrap_pass key a t [] = record { check = a; blocks = [] }
wrap_pass key a t (r ∷ rs) =
    let b = encrypted key (a ++ r) in
    let rest = wrap_pass key (xor_of (take 8 b) (to_be_bytes w64 t)) (t + 1) rs in
    record { check = rest.check; blocks = drop 8 b ∷ rest.blocks }

-- one pass over the registers R from the last to the first (2.2.2): t is the number of the step
-- that is undone at the first
unfoldable pub unwrap_pass : List ℕ → List ℕ → ℕ → List (List ℕ) → Registers
unwrap_pass key a t [] = record { check = a; blocks = [] }
unwrap_pass key a t (r ∷ rs) =
    let rest = unwrap_pass key a (t + 1) rs in
    let b = decrypted key (xor_of rest.check (to_be_bytes w64 t) ++ r) in
    record { check = take 8 b; blocks = drop 8 b ∷ rest.blocks }

-- the first k passes over n registers R, whose steps are numbered from 1
unfoldable pub wrap_passes : List ℕ → ℕ → ℕ → Registers → Registers
wrap_passes key n zero s = s
wrap_passes key n (suc j) s = let before = wrap_passes key n j s in wrap_pass key before.check (n * j + 1) before.blocks

-- the first k passes undone, the last of them first
unfoldable pub unwrap_passes : List ℕ → ℕ → ℕ → Registers → Registers
unwrap_passes key n zero s = s
unwrap_passes key n (suc j) s = unwrap_passes key n j (unwrap_pass key s.check (n * j + 1) s.blocks)

-- the bytes that wrap the bytes of a key
unfoldable pub wrapped_of : List ℕ → List ℕ → List ℕ
wrapped_of key bytes =
    let n = length bytes / 8 in
    let s = wrap_passes key n 6 (record { check = initial_value; blocks = first_chunks 8 n bytes }) in
    s.check ++ concat s.blocks

-- the registers that the unwrapping of bytes ends with
unfoldable pub unwrapped_of : List ℕ → List ℕ → Registers
unwrapped_of key bytes =
    let n = length bytes / 8 - 1 in
    unwrap_passes key n 6 (record { check = take 8 bytes; blocks = first_chunks 8 n (drop 8 bytes) })

-- a length of wrapped bytes; that no more than 65,536 bytes are wrapped is this project's own limit
abbrev pub is_wrapped_length : ℕ → Bool
is_wrapped_length n = (n % 8 == 0) && nat_le 24 n && nat_le n 65544
