-- The state as the code keeps it: a word for each column, its byte of the first row lowest.
use Rattle.std.specs.{Prelude.{ℕ, List, [], ◌∷◌, ◌++◌, map}, Int.{w32, to_le_bytes}}
use Rattle.aes_block.specs.Field.{product}

-- the bytes of so many words
abbrev pub bytes_of : List ℕ → List ℕ
bytes_of [] = []
bytes_of (w ∷ ws) = to_le_bytes w32 w ++ bytes_of ws

-- a byte times each of some bytes
abbrev pub products : List ℕ → ℕ → List ℕ
products ks b = map (λ k. product k b) ks
