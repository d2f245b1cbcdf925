-- The algorithms and the names of their parameters, as GnuPG's notes on the format of private keys have them
-- (agent/keyformat.txt, "Private Key Format").
use Rattle.std.specs.Prelude.{ℕ, List, [], ◌∷◌, codes, bytes_eq, Option, Some, None, Bool, if◌then◌else◌}
use Rattle.sexp_keys.specs.declared.algorithm.Algorithm.{Algorithm, TheVariants.{Rsa, Dsa, Elg, Ecc}}

abbrev pub algorithm_name : Algorithm → List ℕ
algorithm_name Rsa = codes "rsa"
algorithm_name Dsa = codes "dsa"
algorithm_name Elg = codes "elg"
algorithm_name Ecc = codes "ecc"

-- the algorithm of this name
abbrev pub algorithm_of : List ℕ → Option Algorithm
algorithm_of name =
    if bytes_eq name (codes "rsa") then Some Rsa
    else (if bytes_eq name (codes "dsa") then Some Dsa
    else (if bytes_eq name (codes "elg") then Some Elg
    else (if bytes_eq name (codes "ecc") then Some Ecc
    else None)))

-- the public parameters in order; those of `ecc` have no fixed names
abbrev pub public_names : Algorithm → List (List ℕ)
public_names Rsa = codes "n" ∷ codes "e" ∷ []
public_names Dsa = codes "p" ∷ codes "q" ∷ codes "g" ∷ codes "y" ∷ []
public_names Elg = codes "p" ∷ codes "g" ∷ codes "y" ∷ []
public_names Ecc = []

-- the secret parameters in order
abbrev pub secret_names : Algorithm → List (List ℕ)
secret_names Rsa = codes "d" ∷ codes "p" ∷ codes "q" ∷ codes "u" ∷ []
secret_names Dsa = codes "x" ∷ []
secret_names Elg = codes "x" ∷ []
secret_names Ecc = codes "d" ∷ []

-- the lists of a protected key
abbrev pub protected_name : List ℕ
protected_name = codes "protected"

abbrev pub time_name : List ℕ
time_name = codes "protected-at"

-- the first atom of a clear and of a protected key
abbrev pub form_name : Bool → List ℕ
form_name is_clear = if is_clear then codes "private-key" else codes "protected-private-key"
