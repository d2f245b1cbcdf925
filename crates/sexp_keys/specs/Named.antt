-- Private: what the steps of reading know of a key.
use Rattle.std.specs.Prelude.{◌≡◌, ℕ, Bool, true, false, List, [], ◌∷◌, ◌++◌, length, IsTrue, if◌then◌else◌}
use Rattle.sexp_canonical.specs.Tree.{Tree, leaf, list_of}
use Rattle.sexp_keys.specs.{Names.{algorithm_name, form_name, secret_names, time_name}, Parameters.{has_name, are_public, are_private}, declared.algorithm.Algorithm.Algorithm}

-- the names are right: behind that of the algorithm stand these parameters, and behind their list these items
pub record HasNames (tree : Tree) (is_clear : Bool) (algorithm : Algorithm) (parameters further : List Tree) : Type 0 where
  pub parts : tree ≡ list_of (leaf (form_name is_clear) ∷ list_of (leaf (algorithm_name algorithm) ∷ parameters) ∷ further)

-- the last of these lists holds a time
abbrev pub ends_with_time : List Tree → Bool
ends_with_time [] = false
ends_with_time (t ∷ []) = has_name time_name t
ends_with_time (t ∷ u ∷ more) = ends_with_time (u ∷ more)

-- how many of the parameters stand behind the public ones
abbrev pub private_count : Bool → Algorithm → List Tree → ℕ
private_count true algorithm parameters = length (secret_names algorithm)
private_count false algorithm parameters = if ends_with_time parameters then 2 else 1

-- these parameters are the public ones and those behind them
pub record AreParts (is_clear : Bool) (algorithm : Algorithm) (parameters public private : List Tree) : Type 0 where
  pub joined : parameters ≡ public ++ private
  pub are_public : IsTrue (are_public algorithm public)
  pub are_private : IsTrue (are_private is_clear algorithm private)
