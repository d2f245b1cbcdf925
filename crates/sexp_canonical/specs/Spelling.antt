-- The canonical form of an expression, as libgcrypt has it (GCRYSEXP_FMT_CANON): the canonical representation of Rivest's
-- "S-Expressions" (1997), without display hints. The empty atom is `0:`, as Rivest has it; libgcrypt's own reader refuses it.
use Rattle.std.specs.Prelude.{◌≡◌, ℕ, zero, suc, ◌+◌, ◌≤◌, ◌/◌, ◌%◌, max, List, [], ◌∷◌, ◌++◌, length, nat_lt, if◌then◌else◌}
use Rattle.sexp_canonical.specs.{Tree.{Tree, Row, leaf, branch, end, item}, View.tree_of, declared.tree.Sexp.Sexp}

-- n in decimal, for a number of no more digits than steps + 1
abbrev pub numeral_within : ℕ → ℕ → List ℕ
numeral_within zero n = (48 + n) ∷ []
numeral_within (suc steps) n = if nat_lt n 10 then (48 + n) ∷ [] else numeral_within steps (n / 10) ++ (48 + n % 10) ∷ []

-- n in decimal, without leading zeros: `0` for none
unfoldable pub numeral : ℕ → List ℕ
numeral n = numeral_within n n

-- `(`, `)` and `:`
abbrev pub left_paren : ℕ
left_paren = 40

abbrev pub right_paren : ℕ
right_paren = 41

abbrev pub colon : ℕ
colon = 58

abbrev mutual
  -- an atom is its length, a colon and its bytes; a list is its items in parentheses
  pub spelling : Tree → List ℕ
  spelling (leaf bytes) = numeral (length bytes) ++ colon ∷ bytes
  spelling (branch items) = left_paren ∷ spellings items ++ right_paren ∷ []

  pub spellings : Row → List ℕ
  spellings end = []
  spellings (item t more) = spelling t ++ spellings more

abbrev mutual
  -- how many lists are open at the deepest place of a tree
  pub depth : Tree → ℕ
  depth (leaf bytes) = 0
  depth (branch items) = depths items + 1

  pub depths : Row → ℕ
  depths end = 0
  depths (item t more) = max (depth t) (depths more)

-- the one spelling of an expression
abbrev pub spelling_of : Sexp → List ℕ
spelling_of tree = spelling (tree_of tree)

-- the limits on a text that is read, which are this project's own
abbrev pub most_bytes : ℕ
most_bytes = 65536

abbrev pub most_depth : ℕ
most_depth = 64

-- the text spells the expression, within the limits
pub record IsReadable (text : List ℕ) (tree : Sexp) : Type 0 where
  pub spelled : text ≡ spelling_of tree
  pub shallow : depth (tree_of tree) ≤ most_depth
  pub short : length text ≤ most_bytes
