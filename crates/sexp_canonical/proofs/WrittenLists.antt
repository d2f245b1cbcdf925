-- A list is written item by item.
use Rattle.std.{proofs.{Common.{◌≡◌, ℕ, ◌+◌, ◌<◌, List, [], ◌∷◌, ◌++◌, length, get_or, take, sym, ap, ◌∙◌, append_assoc}, lemmas.{List.{append-nil, map-append, take_more, Concat.flat_map-cons}, Grind.flat_map-append}}, specs.List.flat_map}
use Rattle.sexp_canonical.{specs.{Tree.{Tree, list_of}, View.{tree_of, trees}, Spelling.{spelling, spelling_of}, declared.tree.Sexp.Sexp}, proofs.Trees.spelled_list}

abbrev pub Written : List ℕ → List ℕ → List Tree → Type 0
Written old new ts = new ≡ old ++ flat_map spelling ts

pub written_more : (t0 t1 t2 : List ℕ) (xs ys : List Tree) → Written t0 t1 xs → Written t1 t2 ys → Written t0 t2 (xs ++ ys)
written_more t0 t1 t2 xs ys e f =
    f ∙ ap (λ (s : List ℕ). s ++ flat_map spelling ys) e ∙ append_assoc t0 (flat_map spelling xs) (flat_map spelling ys)
    ∙ ap (λ (s : List ℕ). t0 ++ s) (sym (flat_map-append spelling xs ys))

pub written_one : (t0 t1 : List ℕ) (t : Tree) → t1 ≡ t0 ++ spelling t → t1 ≡ t0 ++ flat_map spelling (t ∷ [])
written_one t0 t1 t e = e ∙ ap (λ (s : List ℕ). t0 ++ s) (sym (flat_map-cons spelling t [] ∙ append-nil (spelling t)))

-- `(`, the items and `)`
pub list_written : (t0 t1 t2 t3 : List ℕ) (ts : List Tree) → t1 ≡ t0 ++ 40 ∷ [] → Written t1 t2 ts → t3 ≡ t2 ++ 41 ∷ [] → t3 ≡ t0 ++ spelling (list_of ts)
list_written t0 t1 t2 t3 ts begins items ends =
    ends ∙ ap (λ (s : List ℕ). s ++ 41 ∷ []) (items ∙ ap (λ (s : List ℕ). s ++ flat_map spelling ts) begins ∙ append_assoc t0 (40 ∷ []) (flat_map spelling ts))
    ∙ append_assoc t0 (40 ∷ flat_map spelling ts) (41 ∷ []) ∙ ap (λ (s : List ℕ). t0 ++ s) (sym (spelled_list ts))

pub all_more : (t0 t1 t2 : List ℕ) (xs : List Sexp) (d : Sexp) (i : ℕ) → i < length xs → t1 ≡ t0 ++ flat_map spelling (trees (take i xs)) → t2 ≡ t1 ++ spelling_of (get_or xs i d)
    → t2 ≡ t0 ++ flat_map spelling (trees (take (i + 1) xs))
all_more t0 t1 t2 xs d i lt e f =
    written_more t0 t1 t2 (trees (take i xs)) (tree_of (get_or xs i d) ∷ []) e (written_one t1 t2 (tree_of (get_or xs i d)) f)
    ∙ ap (λ (ts : List Tree). t0 ++ flat_map spelling ts) (sym (ap trees (take_more xs i d lt) ∙ map-append tree_of (take i xs) (get_or xs i d ∷ [])))
