-- The parameters are cut in one place.
use Rattle.std.proofs.{Common.{◌≡◌, ℕ, zero, suc, ◌+◌, ◌-◌, ◌≤◌, Bool, true, false, ◌&&◌, List, [], ◌∷◌, ◌++◌, length, take, drop, refl, sym, ap, ◌∙◌, arith, length-append}, lemmas.List.{take_at, drop_at, length-map}}
use Rattle.std.{proofs.lemmas.Slice.Eq.bytes_eq-Decides, specs.{Cmp.Lexicographic.as_long, Prelude.bytes_eq}}
use Rattle.sexp_canonical.specs.{Tree.{Tree, leaf, branch, items}, View.{tree_of, trees}, declared.tree.Sexp.Sexp}
use Rattle.sexp_keys.specs.{Names.{secret_names, protected_name, time_name}, Parameters.{begin_with, has_name, is_named, is_time, are_protection, are_private}, Named.{ends_with_time, private_count, AreParts}}
use Rattle.sexp_keys.specs.declared.algorithm.Algorithm.{Algorithm, TheVariants.Rsa}

pub ends_append : (xs : List Tree) (y : Tree) (ys : List Tree) → ends_with_time (xs ++ y ∷ ys) ≡ ends_with_time (y ∷ ys)
ends_append [] y ys = refl
ends_append (x ∷ []) y ys = refl
ends_append (x ∷ z ∷ xs) y ys = ends_append (z ∷ xs) y ys

pub and_second : (a b : Bool) → (a && b) ≡ true → b ≡ true
and_second true b e = e
and_second false b e = absurd cc

-- no list has both names
not_both : (ts : List Tree) → begin_with protected_name ts ≡ true → begin_with time_name ts ≡ false
not_both [] e = refl
not_both (leaf b ∷ ts) e =
    let same : b ≡ protected_name = (bytes_eq-Decides b protected_name).0 e in
    ap (λ (name : List ℕ). bytes_eq name time_name) same ∙ refl
not_both (branch r ∷ ts) e = refl

counted_protection : (public private : List Tree) → are_protection private ≡ true → private_count false Rsa (public ++ private) ≡ length private
counted_protection public [] e = absurd cc
counted_protection public (p ∷ []) e =
    let other : ends_with_time (public ++ p ∷ []) ≡ false = ends_append public p [] ∙ not_both (items p) e in
    rw other refl
counted_protection public (p ∷ t ∷ []) e =
    let time : is_time t ≡ true = and_second (has_name protected_name p) (is_time t) e in
    let last : ends_with_time (public ++ p ∷ t ∷ []) ≡ true = ends_append public p (t ∷ []) ∙ and_second _ (has_name time_name t) time in
    rw last refl
counted_protection public (p ∷ t ∷ u ∷ more) e = absurd cc

-- how many private parameters there are is told by all of them
pub counted : (c : Bool) (a : Algorithm) (public private : List Tree) → are_private c a private ≡ true → private_count c a (public ++ private) ≡ length private
counted true a public private e = as_long (is_named a) (secret_names a) private e
counted false a public private e = counted_protection public private e

pub record Counted (count : ℕ) (parameters public private : List Tree) : Type 0 where
  pub fits : count ≤ length parameters
  pub front : take (length parameters - count) parameters ≡ public
  pub back : drop (length parameters - count) parameters ≡ private

-- so they are cut in one place
pub counted_parts : (c : Bool) (a : Algorithm) (ps public private : List Tree) → AreParts c a ps public private → Counted (private_count c a ps) ps public private
counted_parts c a ps public private h =
    let n = private_count c a ps in
    let count : n ≡ length private = ap (private_count c a) h.joined ∙ counted c a public private h.are_private in
    let whole : length ps ≡ length public + length private = ap length h.joined ∙ length-append public private in
    record {
      fits = omega arith;
      front = ap (take (length ps - n)) h.joined ∙ take_at public private (length ps - n) (omega arith);
      back = ap (drop (length ps - n)) h.joined ∙ drop_at public private (length ps - n) (omega arith);
    }

trees_take : (n : ℕ) (xs : List Sexp) → trees (take n xs) ≡ take n (trees xs)
trees_take zero xs = refl
trees_take (suc n) [] = refl
trees_take (suc n) (x ∷ xs) = ap (λ (ts : List Tree). tree_of x ∷ ts) (trees_take n xs)

trees_drop : (n : ℕ) (xs : List Sexp) → trees (drop n xs) ≡ drop n (trees xs)
trees_drop zero xs = refl
trees_drop (suc n) [] = refl
trees_drop (suc n) (x ∷ xs) = trees_drop n xs

-- a cut of the lists in memory is one of the trees
pub trees_cut : (xs front back : List Sexp) (n m : ℕ) (ps public private : List Tree) → Counted n ps public private → ps ≡ trees xs → n ≡ m → front ≡ take (length xs - m) xs → back ≡ drop (length xs - m) xs
    → (trees front ≡ public) × (trees back ≡ private)
trees_cut xs front back n m ps public private h all count front-is back-is =
    let place : length ps - n ≡ length xs - m = ap (λ (qs : List Tree). length qs - n) all ∙ ap (λ (k : ℕ). k - n) (length-map xs tree_of) ∙ ap (λ (k : ℕ). length xs - k) count in (
      ap trees front-is ∙ trees_take (length xs - m) xs ∙ ap (λ (qs : List Tree). take (length xs - m) qs) (sym all) ∙ ap (λ (k : ℕ). take k ps) (sym place) ∙ h.front,
      ap trees back-is ∙ trees_drop (length xs - m) xs ∙ ap (λ (qs : List Tree). drop (length xs - m) qs) (sym all) ∙ ap (λ (k : ℕ). drop k ps) (sym place) ∙ h.back,
    )
