-- The parameters of a key: lists of atoms, the name first.
use Rattle.std.specs.{Prelude.{ℕ, Bool, true, false, not, ◌&&◌, ◌||◌, ◌==◌, nat_le, nat_lt, List, [], ◌∷◌, length, codes, bytes_eq, if◌then◌else◌}, List.list_all, Cmp.Lexicographic.pointwise}
use Rattle.sexp_canonical.specs.Tree.{Tree, leaf, branch, items}
use Rattle.sexp_keys.specs.{Names.{public_names, secret_names, protected_name, time_name}, declared.algorithm.Algorithm.{Algorithm, TheVariants.{Rsa, Dsa, Elg, Ecc}}}

abbrev pub is_atom : Tree → Bool
is_atom (leaf bytes) = true
is_atom (branch row) = false

abbrev pub is_list : Tree → Bool
is_list t = not (is_atom t)

-- items of which the first is this atom
abbrev pub begin_with : List ℕ → List Tree → Bool
begin_with name [] = false
begin_with name (leaf bytes ∷ more) = bytes_eq bytes name
begin_with name (branch row ∷ more) = false

abbrev pub has_name : List ℕ → Tree → Bool
has_name name t = begin_with name (items t)

-- a parameter has one value or, for `ecc`, one or more
abbrev pub is_parameter_len : Algorithm → ℕ → Bool
is_parameter_len Ecc n = nat_le 2 n
is_parameter_len Rsa n = n == 2
is_parameter_len Dsa n = n == 2
is_parameter_len Elg n = n == 2

abbrev pub is_parameter : Algorithm → Tree → Bool
is_parameter algorithm t = is_parameter_len algorithm (length (items t)) && list_all is_atom (items t)

-- the parameter of this name
abbrev pub is_named : Algorithm → List ℕ → Tree → Bool
is_named algorithm name t = is_parameter algorithm t && has_name name t

-- these parameters, one after another
abbrev pub are_named : Algorithm → List (List ℕ) → List Tree → Bool
are_named algorithm names ts = pointwise (is_named algorithm) names ts

-- a public parameter of `ecc` has any name but those of the lists that follow
abbrev pub is_curve_parameter : Tree → Bool
is_curve_parameter t =
    is_parameter Ecc t && not (has_name (codes "d") t || has_name protected_name t || has_name time_name t)

abbrev pub are_public : Algorithm → List Tree → Bool
are_public Ecc ts = nat_lt 0 (length ts) && list_all is_curve_parameter ts
are_public Rsa ts = are_named Rsa (public_names Rsa) ts
are_public Dsa ts = are_named Dsa (public_names Dsa) ts
are_public Elg ts = are_named Elg (public_names Elg) ts

abbrev pub are_secret : Algorithm → List Tree → Bool
are_secret algorithm ts = are_named algorithm (secret_names algorithm) ts

-- `(protected-at time)`, with an atom as time
abbrev pub is_time : Tree → Bool
is_time t = ((length (items t) == 2) && list_all is_atom (items t)) && has_name time_name t

-- a list that begins with `protected`, and maybe a time
abbrev pub are_protection : List Tree → Bool
are_protection [] = false
are_protection (p ∷ []) = has_name protected_name p
are_protection (p ∷ t ∷ []) = has_name protected_name p && is_time t
are_protection (p ∷ t ∷ u ∷ more) = false

-- what stands behind the public parameters
abbrev pub are_private : Bool → Algorithm → List Tree → Bool
are_private is_clear algorithm ts = if is_clear then are_secret algorithm ts else are_protection ts
