-- Steps of writing.
use Rattle.std.proofs.{Common.{◌≡◌, ℕ, suc, ◌+◌, ◌*◌, ◌^◌, ◌<◌, ◌≤◌, List, [], ◌∷◌, ◌++◌, length, Bor, refl, sym, ap, ◌∙◌, append_assoc, arith}, lemmas.Fmt.{AppendsLastDigit, decimal_from_appends, length-decimal-le_succ}}
use Rattle.std.{proofs.lemmas.{Bool.{lt-ltb, le-ltb}, List.{map-append, Concat.flat_map-cons}}, specs.{List.flat_map, Fmt.decimal}}
use Rattle.sexp_canonical.specs.{Tree.{Tree, row, node_count}, View.{tree_of, trees}, Spelling.{numeral, numeral_within, spelling, spelling_of}, Writing.{rest_of, steps_of, begun_lists}, declared.tree.Sexp.Sexp}
use Rattle.sexp_canonical.{specs.declared.tree.Sexp.TheVariants.List as Listed, proofs.{Numerals.enough, Trees.{branch_then, spellings_row}}}

-- ---- numerals as they are printed

appends_last_digit : AppendsLastDigit numeral_within
appends_last_digit = record {
  one = λ k n h. let small = lt-ltb n 10 h in rw small refl;
  more = λ k n h. let large = le-ltb n 10 h in rw large refl;
}

pub decimal_is_numeral : (n : ℕ) → n < 2 ^ 64 → decimal n ≡ numeral n
unfolding numeral
decimal_is_numeral n h = sym (enough n (suc n) n (omega arith) (omega arith) ∙ decimal_from_appends numeral_within appends_last_digit (suc n) n h (omega (arith, length-decimal-le_succ n h)))

-- ---- what is left

rest_of_last : (outer : List (List Tree)) (items : List Tree) → rest_of (outer ++ items ∷ []) ≡ flat_map spelling items ++ 41 ∷ rest_of outer
rest_of_last [] items = refl
rest_of_last (o ∷ outer) items =
    ap (λ (s : List ℕ). s ++ (flat_map spelling o ++ 41 ∷ [])) (rest_of_last outer items) ∙ append_assoc (flat_map spelling items) (41 ∷ rest_of outer) (flat_map spelling o ++ 41 ∷ [])

steps_of_last : (outer : List (List Tree)) (items : List Tree) → steps_of (outer ++ items ∷ []) ≡ steps_of outer + (2 * node_count items + 1)
steps_of_last [] items = omega arith
steps_of_last (o ∷ outer) items = omega (arith, steps_of_last outer items)

pub begun_last : (outer : List (Bor (List Sexp))) (s : Bor (List Sexp)) → begun_lists (outer ++ s ∷ []) ≡ begun_lists outer ++ trees s.now ∷ []
begun_last outer s = map-append (λ (b : Bor (List Sexp)). trees b.now) outer (s ∷ [])

-- ---- the beginning of a list

pub list_begun : (old new : List ℕ) (before after : List (Bor (List Sexp))) (s : Bor (List Sexp)) (tree : Sexp) (items : List Tree) → new ≡ old ++ 40 ∷ [] → after ≡ before ++ s ∷ [] → trees s.now ≡ items → tree ≡ Listed items
    → new ++ rest_of (begun_lists after) ≡ old ++ (spelling_of tree ++ rest_of (begun_lists before))
list_begun old new before after s tree items new-is after-is items-is tree-is =
    let rest = rest_of (begun_lists before) in
    let lists : begun_lists after ≡ begun_lists before ++ items ∷ [] = ap begun_lists after-is ∙ begun_last before s ∙ ap (λ (ts : List Tree). begun_lists before ++ ts ∷ []) items-is in
    let left : rest_of (begun_lists after) ≡ flat_map spelling items ++ 41 ∷ rest = ap rest_of lists ∙ rest_of_last (begun_lists before) items in
    let spelled : spelling_of tree ++ rest ≡ 40 ∷ (flat_map spelling items ++ 41 ∷ rest) =
    ap (λ (t : Sexp). spelling_of t ++ rest) tree-is ∙ branch_then (row items) rest ∙ ap (λ (s : List ℕ). 40 ∷ (s ++ 41 ∷ rest)) (spellings_row items) in
    ap (λ (s : List ℕ). s ++ rest_of (begun_lists after)) new-is ∙ append_assoc old (40 ∷ []) (rest_of (begun_lists after)) ∙ ap (λ (s : List ℕ). old ++ 40 ∷ s) left ∙ ap (λ (s : List ℕ). old ++ s) (sym spelled)

pub list_steps : (before after : List (Bor (List Sexp))) (s : Bor (List Sexp)) (tree : Sexp) (items : List Tree) → after ≡ before ++ s ∷ [] → trees s.now ≡ items → tree ≡ Listed items
    → steps_of (begun_lists after) < steps_of (begun_lists before) + 2 * node_count (tree_of tree ∷ [])
list_steps before after s tree items after-is items-is tree-is =
    let lists : begun_lists after ≡ begun_lists before ++ items ∷ [] = ap begun_lists after-is ∙ begun_last before s ∙ ap (λ (ts : List Tree). begun_lists before ++ ts ∷ []) items-is in
    let nodes : node_count (tree_of tree ∷ []) ≡ node_count items + 1 = ap (λ (t : Sexp). node_count (tree_of t ∷ [])) tree-is ∙ omega arith in
    omega (arith, ap steps_of lists, steps_of_last (begun_lists before) items)

-- ---- the next item of a list

pub item_begun : (old new : List ℕ) (before between after : List (Bor (List Sexp))) (items : List Sexp) (item : Sexp) (others : Bor (List Sexp)) → items ≡ item ∷ others.now → between ≡ before ++ others ∷ []
    → new ++ rest_of (begun_lists after) ≡ old ++ (spelling_of item ++ rest_of (begun_lists between))
    → new ++ rest_of (begun_lists after) ≡ old ++ (flat_map spelling (trees items) ++ 41 ∷ rest_of (begun_lists before))
item_begun old new before between after items item others items-is between-is written =
    let rest = rest_of (begun_lists before) in
    let left : rest_of (begun_lists between) ≡ flat_map spelling (trees others.now) ++ 41 ∷ rest = ap rest_of (ap begun_lists between-is ∙ begun_last before others) ∙ rest_of_last (begun_lists before) (trees others.now) in
    let cut : flat_map spelling (trees items) ≡ spelling_of item ++ flat_map spelling (trees others.now) = ap (λ (xs : List Sexp). flat_map spelling (trees xs)) items-is ∙ flat_map-cons spelling (tree_of item) (trees others.now) in
    written ∙ ap (λ (s : List ℕ). old ++ (spelling_of item ++ s)) left
    ∙ ap (λ (s : List ℕ). old ++ s) (sym (append_assoc (spelling_of item) (flat_map spelling (trees others.now)) (41 ∷ rest)) ∙ ap (λ (s : List ℕ). s ++ 41 ∷ rest) (sym cut))

pub item_steps : (before between after : List (Bor (List Sexp))) (items : List Sexp) (item : Sexp) (others : Bor (List Sexp)) → items ≡ item ∷ others.now → between ≡ before ++ others ∷ []
    → steps_of (begun_lists after) < steps_of (begun_lists between) + 2 * node_count (tree_of item ∷ [])
    → steps_of (begun_lists after) ≤ steps_of (begun_lists before) + 2 * node_count (trees items)
item_steps before between after items item others items-is between-is fewer =
    let lists : begun_lists between ≡ begun_lists before ++ trees others.now ∷ [] = ap begun_lists between-is ∙ begun_last before others in
    let nodes : node_count (trees items) ≡ node_count (tree_of item ∷ []) + node_count (trees others.now) = ap (λ (xs : List Sexp). node_count (trees xs)) items-is ∙ omega arith in
    omega (arith, ap steps_of lists, steps_of_last (begun_lists before) (trees others.now))

-- ---- one step of the loop

pub loop_step : (old new : List ℕ) (all before after : List (Bor (List Sexp))) (s : Bor (List Sexp)) (whole : List ℕ) → all ≡ before ++ s ∷ [] → old ++ rest_of (begun_lists all) ≡ whole
    → new ++ rest_of (begun_lists after) ≡ old ++ (flat_map spelling (trees s.now) ++ 41 ∷ rest_of (begun_lists before)) → new ++ rest_of (begun_lists after) ≡ whole
loop_step old new all before after s whole all-is so_far written =
    written ∙ ap (λ (r : List ℕ). old ++ r) (sym (ap rest_of (ap begun_lists all-is ∙ begun_last before s) ∙ rest_of_last (begun_lists before) (trees s.now))) ∙ so_far

pub loop_falls : (all before after : List (Bor (List Sexp))) (s : Bor (List Sexp)) → all ≡ before ++ s ∷ [] → steps_of (begun_lists after) ≤ steps_of (begun_lists before) + 2 * node_count (trees s.now)
    → steps_of (begun_lists after) < steps_of (begun_lists all)
loop_falls all before after s all-is fewer = omega (arith, ap steps_of (ap begun_lists all-is ∙ begun_last before s), steps_of_last (begun_lists before) (trees s.now))

-- ---- an atom

pub atom_put : (t0 t1 t2 t3 digits bytes : List ℕ) → digits ≡ decimal (length bytes) → length bytes < 2 ^ 64 → t1 ≡ t0 ++ digits → t2 ≡ t1 ++ 58 ∷ [] → t3 ≡ t2 ++ bytes → t3 ≡ t0 ++ (numeral (length bytes) ++ 58 ∷ bytes)
atom_put t0 t1 t2 t3 digits bytes digits-is small e1 e2 e3 =
    let n : digits ≡ numeral (length bytes) = digits-is ∙ decimal_is_numeral (length bytes) small in
    e3 ∙ ap (λ (s : List ℕ). s ++ bytes) (e2 ∙ ap (λ (s : List ℕ). s ++ 58 ∷ []) (e1 ∙ ap (λ (s : List ℕ). t0 ++ s) n))
    ∙ append_assoc (t0 ++ numeral (length bytes)) (58 ∷ []) bytes ∙ append_assoc t0 (numeral (length bytes)) (58 ∷ bytes)
