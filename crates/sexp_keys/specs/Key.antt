-- What a private key is, apart from where it lies in memory, and the expression that it is.
use Rattle.std.specs.{Prelude.{◌≡◌, ℕ, zero, suc, refl, Bool, true, false, IsTrue, List, ◌∷◌, ◌++◌}, List.list_all, Coded.{Coded, code_by, coded×, coded_ℕ, coded_bool}}
use Rattle.sexp_canonical.specs.{Tree.{Tree, leaf, list_of}, TreeCode.trees_code}
use Rattle.sexp_keys.specs.{Names.{algorithm_name, form_name}, Parameters.{is_list, are_public, are_private}, declared.algorithm.Algorithm.{Algorithm, TheVariants.{Rsa, Dsa, Elg, Ecc}}}

pub record Key : Type 0 where
  pub algorithm : Algorithm
  pub is_clear : Bool
  -- the public parameters, in order
  pub public : List Tree
  -- the secret parameters of a clear key, in order; of a protected one the list `protected` and maybe a time
  pub private : List Tree
  -- the further items of the top list
  pub further : List Tree

-- the list of the algorithm: its name, the public parameters, and what is behind them
abbrev pub algorithm_list : Key → List Tree → Tree
algorithm_list key behind = list_of (leaf (algorithm_name key.algorithm) ∷ key.public ++ behind)

-- the expression that the key is
abbrev pub key_tree : Key → Tree
key_tree key = list_of (leaf (form_name key.is_clear) ∷ algorithm_list key key.private ∷ key.further)

-- the clear key with these secret parameters
abbrev pub clear_with : Key → List Tree → Key
clear_with key secret = record { algorithm = key.algorithm; is_clear = true; public = key.public; private = secret; further = key.further }

-- the protected key with these lists in place of the secret parameters
abbrev pub protected_with : Key → List Tree → Key
protected_with key protection = record { algorithm = key.algorithm; is_clear = false; public = key.public; private = protection; further = key.further }

-- the parts are those of the algorithm and of the form
pub record IsFormed (key : Key) : Type 0 where
  pub public : IsTrue (are_public key.algorithm key.public)
  pub private : IsTrue (are_private key.is_clear key.algorithm key.private)
  pub further : IsTrue (list_all is_list key.further)

-- the expression is this key
pub record IsKey (tree : Tree) (key : Key) : Type 0 where
  pub parts : tree ≡ key_tree key
  pub formed : IsFormed key

-- ---- a code for keys, by which proofs tell them apart

abbrev pub algorithm_number : Algorithm → ℕ
algorithm_number Rsa = 0
algorithm_number Dsa = 1
algorithm_number Elg = 2
algorithm_number Ecc = 3

abbrev pub numbered : ℕ → Algorithm
numbered zero = Rsa
numbered (suc zero) = Dsa
numbered (suc (suc zero)) = Elg
numbered (suc (suc (suc n))) = Ecc

pub renumbered : (a : Algorithm) → numbered (algorithm_number a) ≡ a
renumbered Rsa = refl
renumbered Dsa = refl
renumbered Elg = refl
renumbered Ecc = refl

abbrev algorithm_code : Coded Algorithm
algorithm_code = code_by ℕ coded_ℕ algorithm_number numbered renumbered

-- the parts as a pair of pairs
abbrev Parts : Type 0
Parts = Algorithm × (Bool × (List Tree × (List Tree × List Tree)))

abbrev pub key_code : Coded Key
key_code =
    code_by Parts (coded× algorithm_code (coded× coded_bool (coded× trees_code (coded× trees_code trees_code))))
    (λ k. (k.algorithm, (k.is_clear, (k.public, (k.private, k.further)))))
    (λ p. record { algorithm = p.0; is_clear = p.1.0; public = p.1.1.0; private = p.1.1.1.0; further = p.1.1.1.1 })
    (λ _. refl)
