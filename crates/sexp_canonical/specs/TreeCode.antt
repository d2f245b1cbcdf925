-- A code for trees, by which proofs tell them apart.
use base.Stored.{Gv, gnil, gnum, gcons}
use Rattle.std.{specs.{Prelude.{◌≡◌, List}, Coded.{Coded, coded_ℕ, coded_list}}, proofs.Common.ap}
use Rattle.sexp_canonical.specs.Tree.{Tree, Row, leaf, branch, end, item}

abbrev mutual
  tree_mark : Tree → Gv
  tree_mark (leaf bytes) = gcons (gnum 0) ((coded_list coded_ℕ).code bytes)
  tree_mark (branch items) = gcons (gnum 1) (row_mark items)

  row_mark : Row → Gv
  row_mark end = gnil
  row_mark (item t more) = gcons (tree_mark t) (row_mark more)

abbrev front : Gv → Gv
front gnil = gnil
front (gnum n) = gnil
front (gcons a b) = a

abbrev back : Gv → Gv
back gnil = gnil
back (gnum n) = gnil
back (gcons a b) = b

mutual
  pub tree_mark_inj : (t u : Tree) → tree_mark t ≡ tree_mark u → t ≡ u
  tree_mark_inj (leaf b) (leaf c) p = ap leaf ((coded_list coded_ℕ).inj b c (ap back p))
  tree_mark_inj (leaf b) (branch r) p = absurd cc
  tree_mark_inj (branch r) (leaf b) p = absurd cc
  tree_mark_inj (branch r) (branch s) p = ap branch (row_mark_inj r s (ap back p))

  pub row_mark_inj : (r s : Row) → row_mark r ≡ row_mark s → r ≡ s
  row_mark_inj end end p = λ i. end
  row_mark_inj end (item u s) p = absurd cc
  row_mark_inj (item t r) end p = absurd cc
  row_mark_inj (item t r) (item u s) p = λ i. item (tree_mark_inj t u (ap front p) i) (row_mark_inj r s (ap back p) i)

abbrev pub tree_code : Coded Tree
tree_code = record { code = tree_mark; inj = tree_mark_inj }

abbrev pub trees_code : Coded (List Tree)
trees_code = coded_list tree_code
