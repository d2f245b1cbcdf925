-- Each list within a list has fewer nodes than that list.
use denote.Param.Weighed.{most}
use Rattle.std.{specs.Prelude.{◌≤◌, max, List, [], ◌∷◌}, proofs.Common.arith}
use Rattle.sexp_canonical.specs.{Tree.node_count, View.trees, declared.tree.{Sexp.{Sexp, TheVariants.{Atom, List as Listed}}, Items.TheDeep.deep-Sexp}}

pub depth_le_node_count : (items : List Sexp) → max (most deep-Sexp items) 0 ≤ node_count (trees items)
depth_le_node_count [] = omega arith
depth_le_node_count (Atom bytes ∷ items) = omega (arith, depth_le_node_count items)
depth_le_node_count (Listed inner ∷ items) = omega (arith, depth_le_node_count items)
