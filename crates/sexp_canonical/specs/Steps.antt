-- Private: what the steps of reading know of a text.
use Rattle.std.specs.Prelude.{◌≡◌, ℕ, ◌<◌, ◌≤◌, List, ◌∷◌, ◌++◌, length, take, drop, slice_index}
use Rattle.sexp_canonical.specs.{View.tree_of, Spelling.{most_bytes, most_depth, colon, numeral, spelling_of, depth}, declared.tree.Sexp.Sexp}

-- a digit stands at the place
pub record IsDigit (text : List ℕ) (place : ℕ) : Type 0 where
  pub within : place < length text
  pub low : 48 ≤ slice_index text place
  pub high : slice_index text place ≤ 57

-- at the place stands this length, and its bytes begin at the second number
pub record HasLength (text : List ℕ) (place : ℕ) (read : ℕ × ℕ) : Type 0 where
  pub small : read.0 ≤ most_bytes
  pub within : read.1 ≤ length text
  pub further : place < read.1
  pub parts : drop place text ≡ numeral read.0 ++ colon ∷ drop read.1 text

-- at the place stands this atom, up to the second number
pub record HasAtom (text : List ℕ) (place : ℕ) (read : Sexp × ℕ) : Type 0 where
  pub within : read.1 ≤ length text
  pub further : place < read.1
  pub flat : depth (tree_of read.0) ≡ 0
  pub parts : drop place text ≡ spelling_of read.0 ++ drop read.1 text

-- the text begins with this expression, up to the second number
pub record HasExpression (text : List ℕ) (read : Sexp × ℕ) : Type 0 where
  pub within : read.1 ≤ length text
  pub shallow : depth (tree_of read.0) ≤ most_depth
  pub spelled : take read.1 text ≡ spelling_of read.0
