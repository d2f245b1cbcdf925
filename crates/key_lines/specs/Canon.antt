-- The canonical spelling of the key that a file has, in whichever of the two formats. A file whose first byte is `(` is one
-- canonical expression, and any other is in the extended format (GnuPG's notes on the format of private keys, agent/keyformat.txt).
use Rattle.std.specs.Prelude.{◌≡◌, ℕ, ◌==◌, Bool, true, false, List, slice_index, Option, Some, None, ◌⊎◌}
use Rattle.sexp_canonical.specs.Spelling.{spelling_of}
use Rattle.key_lines.specs.{KeyFile.{KeyFile, IsKeyFile, IsFault}, declared.fault.LinesFault.LinesFault}

abbrev pub is_canonical : List ℕ → Bool
is_canonical file = slice_index file 0 == 40

-- an extended file with a key of this spelling
pub record IsSpelledIn (file bytes : List ℕ) : Type 0 where
  pub extended : is_canonical file ≡ false
  pub key : KeyFile
  pub has : IsKeyFile file key
  pub spelled : bytes ≡ spelling_of key.tree

-- an extended file with a fault
pub record IsFaulty (file : List ℕ) : Type 0 where
  pub extended : is_canonical file ≡ false
  pub fault : LinesFault
  pub is : IsFault file fault

-- the bytes of the canonical file that a file stands for: its own, or the spelling of its key, and none where it has a fault
abbrev pub Canon : List ℕ → Option (List ℕ) → Type 0
Canon file (Some bytes) = ((is_canonical file ≡ true) × (bytes ≡ file)) ⊎ IsSpelledIn file bytes
Canon file None = IsFaulty file
