-- The advanced form of an expression as this crate writes it: one line, with one blank between two items.
use Rattle.std.specs.Prelude.{◌≡◌, ℕ, ◌+◌, ◌-◌, ◌/◌, ◌%◌, Bool, true, false, List, [], ◌∷◌, ◌++◌, ◌&&◌, nat_lt, if◌then◌else◌}
use Rattle.sexp_canonical.specs.{Tree.{Tree, Row, leaf, branch, end, item}, View.tree_of, declared.tree.Sexp.Sexp}
use Rattle.sexp_advanced.specs.Bytes.{is_token_start, is_token_byte}

abbrev pub are_token_bytes : List ℕ → Bool
are_token_bytes [] = true
are_token_bytes (b ∷ more) = is_token_byte b && are_token_bytes more

abbrev pub is_token : List ℕ → Bool
is_token [] = false
is_token (b ∷ more) = is_token_start b && are_token_bytes more

-- an upper-case hexadecimal digit
abbrev pub hex_glyph : ℕ → ℕ
hex_glyph n = if nat_lt n 10 then 48 + n else 65 + (n - 10)

abbrev pub hex_pairs : List ℕ → List ℕ
hex_pairs [] = []
hex_pairs (b ∷ more) = hex_glyph (b / 16) ∷ hex_glyph (b % 16) ∷ hex_pairs more

abbrev mutual
  -- a token as it stands, any other atom in hexadecimal; a list is its items in parentheses
  pub advanced : Tree → List ℕ
  advanced (leaf bytes) = if is_token bytes then bytes else 35 ∷ hex_pairs bytes ++ 35 ∷ []
  advanced (branch items) = 40 ∷ row_text items ++ 41 ∷ []

  pub row_text : Row → List ℕ
  row_text end = []
  row_text (item t more) = advanced t ++ spaced_row more

  -- items behind another
  pub spaced_row : Row → List ℕ
  spaced_row end = []
  spaced_row (item t more) = 32 ∷ advanced t ++ spaced_row more

abbrev pub advanced_of : Sexp → List ℕ
advanced_of tree = advanced (tree_of tree)

-- a token that stands before these bytes is at its end
abbrev pub EndsToken : List ℕ → Type 0
EndsToken [] = Unit {0}
EndsToken (b ∷ more) = is_token_byte b ≡ false
