-- How deep open lists are.
use Rattle.std.proofs.Common.{◌≡◌, ◌+◌, ◌≤◌, max, List, [], ◌∷◌, ◌++◌, length, arith}
use Rattle.sexp_canonical.specs.{Tree.{Tree, row}, Spelling.{depth, depths}, Reading.{OpenLists, open_depth}}

depths_last : (items : List Tree) (t : Tree) → depths (row (items ++ t ∷ [])) ≡ max (depths (row items)) (depth t)
depths_last [] t = omega arith
depths_last (i ∷ items) t = omega (arith, depths_last items t)

pub deeper_more : (outer : OpenLists) (items : List Tree) (t : Tree) → open_depth (outer ++ (items ++ t ∷ []) ∷ []) ≤ max (open_depth (outer ++ items ∷ [])) (length outer + 1 + depth t)
deeper_more [] items t = omega (arith, depths_last items t)
deeper_more (o ∷ outer) items t = omega (arith, deeper_more outer items t)

pub deeper_new : (lists : OpenLists) → open_depth (lists ++ [] ∷ []) ≤ max (open_depth lists) (length lists + 1)
deeper_new [] = omega arith
deeper_new (o ∷ lists) = omega (arith, deeper_new lists)

pub deeper_outer : (outer : OpenLists) (items : List Tree) → open_depth outer ≤ open_depth (outer ++ items ∷ [])
deeper_outer [] items = omega arith
deeper_outer (o ∷ outer) items = omega (arith, deeper_outer outer items)

pub deeper_last : (outer : OpenLists) (items : List Tree) → length outer + 1 + depths (row items) ≤ open_depth (outer ++ items ∷ [])
deeper_last [] items = omega arith
deeper_last (o ∷ outer) items = omega (arith, deeper_last outer items)

pub length_le_open_depth : (lists : OpenLists) → length lists ≤ open_depth lists
length_le_open_depth [] = omega arith
length_le_open_depth (o ∷ lists) = omega (arith, length_le_open_depth lists)
