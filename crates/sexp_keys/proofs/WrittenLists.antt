-- The lists of a key are written item by item.
use Rattle.std.{proofs.{Common.{◌≡◌, ℕ, List, [], ◌∷◌, ◌++◌, Some, sym}, lemmas.List.append-nil}, specs.List.flat_map}
use Rattle.sexp_canonical.{specs.{Tree.{Tree, leaf, list_of}, Spelling.spelling}, proofs.WrittenLists.{written_more, written_one, list_written}}
use Rattle.sexp_keys.specs.{Names.time_name, Lists.time_lists}

-- `(name (alg ..) further..)`
pub key_written : (t0 t1 t2 t3 t4 t5 : List ℕ) (name : List ℕ) (u : Tree) (fs : List Tree) → t1 ≡ t0 ++ 40 ∷ [] → t2 ≡ t1 ++ spelling (leaf name) → t3 ≡ t2 ++ spelling u
    → t4 ≡ t3 ++ flat_map spelling fs → t5 ≡ t4 ++ 41 ∷ [] → t5 ≡ t0 ++ spelling (list_of (leaf name ∷ u ∷ fs))
key_written t0 t1 t2 t3 t4 t5 name u fs e1 e2 e3 e4 e5 =
    list_written t0 t1 t4 t5 (leaf name ∷ u ∷ fs) e1
    (written_more t1 t2 t4 (leaf name ∷ []) (u ∷ fs) (written_one t1 t2 (leaf name) e2)
    (written_more t2 t3 t4 (u ∷ []) fs (written_one t2 t3 u e3) e4))
    e5

-- `(alg public.. behind.. time)`
pub algorithm_written : (t0 t1 t2 t3 t4 t5 t6 : List ℕ) (name : List ℕ) (ps bs ts : List Tree) → t1 ≡ t0 ++ 40 ∷ [] → t2 ≡ t1 ++ spelling (leaf name) → t3 ≡ t2 ++ flat_map spelling ps
    → t4 ≡ t3 ++ flat_map spelling bs → t5 ≡ t4 ++ flat_map spelling ts → t6 ≡ t5 ++ 41 ∷ [] → t6 ≡ t0 ++ spelling (list_of (leaf name ∷ ps ++ (bs ++ ts)))
algorithm_written t0 t1 t2 t3 t4 t5 t6 name ps bs ts e1 e2 e3 e4 e5 e6 =
    list_written t0 t1 t5 t6 (leaf name ∷ ps ++ (bs ++ ts)) e1
    (written_more t1 t2 t5 (leaf name ∷ []) (ps ++ (bs ++ ts)) (written_one t1 t2 (leaf name) e2)
    (written_more t2 t3 t5 ps (bs ++ ts) e3 (written_more t3 t4 t5 bs ts e4 e5)))
    e6

-- `(protected-at time)`
pub time_written : (t0 t1 t2 t3 t4 time : List ℕ) → t1 ≡ t0 ++ 40 ∷ [] → t2 ≡ t1 ++ spelling (leaf time_name) → t3 ≡ t2 ++ spelling (leaf time) → t4 ≡ t3 ++ 41 ∷ []
    → t4 ≡ t0 ++ flat_map spelling (time_lists (Some time))
time_written t0 t1 t2 t3 t4 time e1 e2 e3 e4 =
    written_one t0 t4 (list_of (leaf time_name ∷ leaf time ∷ []))
    (key_written t0 t1 t2 t3 t3 t4 time_name (leaf time) [] e1 e2 e3 (sym (append-nil t3)) e4)
