-- What the tests of parameters compute.
use Rattle.std.{proofs.{Common.{◌≡◌, Bool, false, eqb, ◌&&◌, List, [], ◌∷◌, length, refl, sym, ap, ap₂, ◌∙◌, arith}, lemmas.{List.length-map, Bool.lt-ltb}}, specs.List.list_all}
use Rattle.sexp_canonical.specs.{Tree.{Tree, items}, View.{tree_of, trees}, declared.tree.Sexp.Sexp}
use Rattle.sexp_keys.specs.{Parameters.{is_atom, is_parameter, is_parameter_len, is_curve_parameter, are_public}, declared.algorithm.Algorithm.{Algorithm, TheVariants.Ecc}}

pub list_all_trees : (f : Tree → Bool) (xs : List Sexp) → list_all f (trees xs) ≡ list_all (λ s. f (tree_of s)) xs
list_all_trees f [] = refl
list_all_trees f (x ∷ xs) = ap (λ (b : Bool). f (tree_of x) && b) (list_all_trees f xs)

pub parameter_is : (algorithm : Algorithm) (t : Tree) (xs : List Sexp) (a b : Bool) → trees xs ≡ items t → a ≡ is_parameter_len algorithm (length xs)
    → b ≡ list_all (λ s. is_atom (tree_of s)) xs → (a && b) ≡ is_parameter algorithm t
parameter_is algorithm t xs a b e f g =
    let long : length xs ≡ length (items t) = sym (length-map xs tree_of) ∙ ap length e in
    ap₂ ◌&&◌ (f ∙ ap (is_parameter_len algorithm) long) (g ∙ sym (list_all_trees is_atom xs) ∙ ap (list_all is_atom) e)

pub curve_is : (xs : List Sexp) (b : Bool) → eqb (length xs) 0 ≡ false → b ≡ list_all (λ s. is_curve_parameter (tree_of s)) xs → b ≡ are_public Ecc (trees xs)
curve_is [] b e h = absurd cc
curve_is (x ∷ xs) b e h =
    let all = h ∙ sym (list_all_trees is_curve_parameter (x ∷ xs)) in
    let some = lt-ltb 0 (length (trees (x ∷ xs))) (omega arith) in
    rw some all
