-- Private: how long it takes to take trees apart in place.
use Rattle.std.specs.Prelude.{ℕ, ◌+◌, ◌*◌, ◌-◌, List, [], ◌∷◌}
use Rattle.sexp_canonical.specs.Tree.{Tree, node_count}

abbrev pub first_nodes : List Tree → ℕ
first_nodes [] = 0
first_nodes (t ∷ ts) = node_count (t ∷ [])

-- Each step takes a node away, or turns one round: what stood before it then hangs below the first tree.
abbrev pub drop_steps : List Tree → ℕ
drop_steps ts = let n = node_count ts in n * (n + 1) + (n - first_nodes ts)
