use Rattle.std.{proofs.Common.{◌≡◌, ◌≤◌, ◌∷◌, ◌++◌, false, ℕ, List, length, Some, Result, Ok, Err, sym, ap, subst, ◌∙◌}, specs.Prelude.{codes, IfOk}}
use Rattle.{sexp_canonical.specs.{View.tree_of, Spelling.{most_bytes, most_depth, spelling_of, depth}, declared.tree.Sexp.Sexp}, sexp_advanced.specs.{Reading.ReadsAdvanced, Writing.advanced_of}}
use Rattle.key_lines.{specs.{KeyFile.{KeyFile, IsKeyFile}, Canon.{is_canonical, Canon}}, proofs.Replaced.{IsReadAgain, replaced, replaced_canon}}
use Rattle.key_lines.proofs.key_file.KeyLines.with_key.Goals as goal

-- the file with a text as the value of its key
abbrev put : KeyFile → List ℕ → List ℕ
put key text = key.before ++ codes "Key: " ++ text ++ 10 ∷ key.after

again_of : {V E : Type 0} (r : Result V E) (items : V → List ℕ) (key : KeyFile) (tree : Sexp) (text : List ℕ) → IfOk r (λ v. items v ≡ put key text) → text ≡ advanced_of tree
    → (depth (tree_of tree) ≤ most_depth → IsReadAgain tree)
    → IfOk r (λ v. (file : List ℕ) → IsKeyFile file key → depth (tree_of tree) ≤ most_depth → length (spelling_of tree) ≤ most_bytes
    → IsKeyFile (items v) (record { before = key.before; tree = tree; after = key.after }))
again_of (Ok v) items key tree text is same again = λ file has shallow short.
    subst (λ (f : List ℕ). IsKeyFile f (record { before = key.before; tree = tree; after = key.after })) (sym (is ∙ ap (put key) same))
    (replaced file key tree has (again shallow) short)
again_of (Err e) items key tree text is same again = is

canon_of : {V E : Type 0} (r : Result V E) (items : V → List ℕ) (key : KeyFile) (tree : Sexp) (text : List ℕ) → IfOk r (λ v. items v ≡ put key text) → text ≡ advanced_of tree
    → (depth (tree_of tree) ≤ most_depth → IsReadAgain tree)
    → IfOk r (λ v. (file : List ℕ) → is_canonical file ≡ false → IsKeyFile file key → depth (tree_of tree) ≤ most_depth → length (spelling_of tree) ≤ most_bytes
    → Canon (items v) (Some (spelling_of tree)))
canon_of (Ok v) items key tree text is same again = λ file extended has shallow short.
    subst (λ (f : List ℕ). Canon f (Some (spelling_of tree))) (sym (is ∙ ap (put key) same))
    (replaced_canon file key tree extended has (again shallow) short)
canon_of (Err e) items key tree text is same again = is

read_again : (tree : Sexp) (text : List ℕ) → text ≡ advanced_of tree → ReadsAdvanced text (Ok (tree, length text)) → IsReadAgain tree
read_again tree text is reads = subst (λ (t : List ℕ). ReadsAdvanced t (Ok (tree, length t))) is reads

pub returns-clause-again : goal.returns-clause-again
returns-clause-again c =
    let tree = c.args.tree.now in
    let written = c.in_ok-write_advanced.ensures.written in
    let reads = c.in_ok-write_advanced.ensures.again in
    again_of c.with_text.result (λ v. v.items) c.args.self.now tree c.as_slice.result.now c.with_text.ensures
    (c.as_slice.ensures ∙ c.from-text.ensures ∙ written)
    (λ shallow. read_again tree c.in_ok-write_advanced.field-0.items written (reads shallow))

pub returns-clause-canon : goal.returns-clause-canon
returns-clause-canon c =
    let tree = c.args.tree.now in
    let written = c.in_ok-write_advanced.ensures.written in
    let reads = c.in_ok-write_advanced.ensures.again in
    canon_of c.with_text.result (λ v. v.items) c.args.self.now tree c.as_slice.result.now c.with_text.ensures
    (c.as_slice.ensures ∙ c.from-text.ensures ∙ written)
    (λ shallow. read_again tree c.in_ok-write_advanced.field-0.items written (reads shallow))
