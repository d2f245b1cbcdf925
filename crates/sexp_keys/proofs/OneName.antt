-- The names of a key are in one place, and no two names are one.
use Rattle.std.{proofs.Common.{◌≡◌, ℕ, Bool, true, false, List, ◌∷◌, Some, None, refl, sym, ap, ◌∙◌}, specs.Prelude.bytes_eq}
use Rattle.sexp_canonical.{specs.Tree.{Tree, leaf, branch, row, list_of, items}, proofs.Trees.{row_injective, row_items_of}}
use Rattle.sexp_keys.specs.{Names.{algorithm_name, algorithm_of, form_name}, Faults.named_fault, Named.HasNames, declared.algorithm.Algorithm.{Algorithm, TheVariants.{Rsa, Dsa, Elg, Ecc}}}

form_of_name : (a : Bool) → bytes_eq (form_name a) (form_name true) ≡ a
form_of_name true = refl
form_of_name false = refl

form_name_injective : (a b : Bool) → form_name a ≡ form_name b → a ≡ b
form_name_injective a b e = sym (form_of_name a) ∙ ap (λ (name : List ℕ). bytes_eq name (form_name true)) e ∙ form_of_name b

algorithm_of_name : (a : Algorithm) → algorithm_of (algorithm_name a) ≡ Some a
algorithm_of_name Rsa = refl
algorithm_of_name Dsa = refl
algorithm_of_name Elg = refl
algorithm_of_name Ecc = refl

algorithm_name_injective : (a b : Algorithm) → algorithm_name a ≡ algorithm_name b → a ≡ b
algorithm_name_injective a b e =
    let same : Some a ≡ Some b = sym (algorithm_of_name a) ∙ ap algorithm_of e ∙ algorithm_of_name b in
    cc

-- a tree that has items is a list of them
pub listed : (t u : Tree) (us : List Tree) → items t ≡ u ∷ us → t ≡ list_of (u ∷ us)
listed (leaf b) u us e = absurd cc
listed (branch r) u us e = ap branch (sym (row_items_of r) ∙ ap row e)

pub has_names : (t s : Tree) (c : Bool) (a : Algorithm) (os ps fs : List Tree) → items t ≡ leaf (form_name c) ∷ os → os ≡ s ∷ fs → items s ≡ leaf (algorithm_name a) ∷ ps → HasNames t c a ps fs
has_names t s c a os ps fs e f g = record {
  parts = listed t (leaf (form_name c)) os e ∙ ap (λ (us : List Tree). list_of (leaf (form_name c) ∷ us)) (f ∙ ap (λ (u : Tree). u ∷ fs) (listed s (leaf (algorithm_name a)) ps g));
}

pub record SameNames (c d : Bool) (a b : Algorithm) (ps qs fs gs : List Tree) : Type 0 where
  pub form : c ≡ d
  pub algorithm : a ≡ b
  pub parameters : ps ≡ qs
  pub further : fs ≡ gs

-- the names and what is behind them are one by the expression
pub same_names : (t : Tree) (c d : Bool) (a b : Algorithm) (ps qs fs gs : List Tree) → HasNames t c a ps fs → HasNames t d b qs gs → SameNames c d a b ps qs fs gs
same_names t c d a b ps qs fs gs h k =
    let whole : list_of (leaf (form_name c) ∷ list_of (leaf (algorithm_name a) ∷ ps) ∷ fs) ≡ list_of (leaf (form_name d) ∷ list_of (leaf (algorithm_name b) ∷ qs) ∷ gs) = sym h.parts ∙ k.parts in
    let forms : form_name c ≡ form_name d = cc in
    let names : algorithm_name a ≡ algorithm_name b = cc in
    let parameters : row ps ≡ row qs = cc in
    let further : row fs ≡ row gs = cc in
    record {
      form = form_name_injective c d forms;
      algorithm = algorithm_name_injective a b names;
      parameters = row_injective ps qs parameters;
      further = row_injective fs gs further;
    }

no_fault : (c : Bool) (a : Algorithm) (ps fs : List Tree) → named_fault (list_of (leaf (form_name c) ∷ list_of (leaf (algorithm_name a) ∷ ps) ∷ fs)) ≡ None
no_fault true Rsa ps fs = refl
no_fault true Dsa ps fs = refl
no_fault true Elg ps fs = refl
no_fault true Ecc ps fs = refl
no_fault false Rsa ps fs = refl
no_fault false Dsa ps fs = refl
no_fault false Elg ps fs = refl
no_fault false Ecc ps fs = refl

-- where the names are right there is no fault of them
pub named_fault_names : (t : Tree) (c : Bool) (a : Algorithm) (ps fs : List Tree) → HasNames t c a ps fs → named_fault t ≡ None
named_fault_names t c a ps fs h = ap named_fault h.parts ∙ no_fault c a ps fs
