-- What an expression is, apart from where it lies in memory.
use Rattle.std.specs.Prelude.{ℕ, ◌+◌, List, [], ◌∷◌}

mutual
  -- an atom of bytes, or a list of items
  pub data Tree : Type 0 where
    leaf : List ℕ → Tree
    branch : Row → Tree

  -- the items of a list, one after another
  pub data Row : Type 0 where
    end : Row
    item : Tree → Row → Row

abbrev pub row : List Tree → Row
row [] = end
row (t ∷ ts) = item t (row ts)

-- a list of these items
abbrev pub list_of : List Tree → Tree
list_of ts = branch (row ts)

-- the items of a list
abbrev pub items_of : Row → List Tree
items_of end = []
items_of (item t more) = t ∷ items_of more

-- the items of a tree: none of an atom
abbrev pub items : Tree → List Tree
items (leaf bytes) = []
items (branch row) = items_of row

abbrev mutual
  tree_nodes : Tree → ℕ
  tree_nodes (leaf bytes) = 1
  tree_nodes (branch items) = row_nodes items + 1

  row_nodes : Row → ℕ
  row_nodes end = 0
  row_nodes (item t more) = tree_nodes t + row_nodes more

-- how many atoms and lists there are in these trees
abbrev pub node_count : List Tree → ℕ
node_count ts = row_nodes (row ts)
