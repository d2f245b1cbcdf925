-- A list's last item is changed in its place.
use Rattle.std.{proofs.{Common.{◌≡◌, ℕ, ◌+◌, ◌<◌, List, [], ◌∷◌, ◌++◌, length, get_or, take, drop, set, suc, sym, ap, ◌∙◌, arith, drop-cons}, lemmas.List.{map-append, take-append-drop, set_split, drop_all}}, specs.Global.Vec}
use Rattle.sexp_canonical.specs.{Tree.Tree, View.{tree_of, trees}, declared.tree.Sexp.Sexp, Adding.{lists_of, AddsItem}}

pub adds_last : (old : List (Vec Sexp)) (i : ℕ) (items more : Vec Sexp) (tree : Sexp) → i + 1 ≡ length old → items ≡ get_or old i items → more.items ≡ items.items ++ tree ∷ [] → AddsItem (lists_of old) (lists_of (set old i more)) (tree_of tree)
adds_last old i items more tree len at more-is =
    let within : i < length old = omega arith in
    let none : drop (suc i) old ≡ [] = drop_all (suc i) old (omega arith) in
    let last : drop i old ≡ items ∷ [] = drop-cons old i items within ∙ ap (λ (v : Vec Sexp). v ∷ drop (suc i) old) (sym at) ∙ ap (λ (vs : List (Vec Sexp)). items ∷ vs) none in
    let before : old ≡ take i old ++ items ∷ [] = sym (take-append-drop i old) ∙ ap (λ (vs : List (Vec Sexp)). take i old ++ vs) last in
    let after : set old i more ≡ take i old ++ more ∷ [] = set_split old i more within ∙ ap (λ (vs : List (Vec Sexp)). take i old ++ more ∷ vs) none in
    record {
      outer = lists_of (take i old);
      items = trees items.items;
      before = ap lists_of before ∙ map-append (λ (v : Vec Sexp). trees v.items) (take i old) (items ∷ []);
      after = ap lists_of after ∙ map-append (λ (v : Vec Sexp). trees v.items) (take i old) (more ∷ [])
          ∙ ap (λ (ts : List Tree). lists_of (take i old) ++ ts ∷ []) (ap trees more-is ∙ map-append tree_of items.items (tree ∷ []));
    }
