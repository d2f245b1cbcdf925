-- Private: a code for keys in files, by which proofs tell them apart.
use Rattle.std.{specs.{Prelude.{◌≡◌, ℕ, List, [], ◌∷◌, refl}, Coded.{Coded, code_by, coded×, coded_ℕ, coded_list}}, proofs.Common.ap}
use Rattle.sexp_canonical.specs.{Tree.{Tree, leaf, branch, row, items_of}, TreeCode.tree_code, View.tree_of, declared.tree.Sexp.{Sexp, TheVariants.{Atom, List as Listed}}}
use Rattle.key_lines.specs.KeyFile.{KeyFile}

abbrev pub sexp_of : Tree → Sexp
sexp_of (leaf bytes) = Atom bytes
sexp_of (branch items) = Listed (items_of items)

pub items_again : (items : List Tree) → items_of (row items) ≡ items
items_again [] = refl
items_again (t ∷ items) = ap (λ (rest : List Tree). t ∷ rest) (items_again items)

pub sexp_again : (s : Sexp) → sexp_of (tree_of s) ≡ s
sexp_again (Atom bytes) = refl
sexp_again (Listed items) = ap Listed (items_again items)

abbrev sexp_code : Coded Sexp
sexp_code = code_by Tree tree_code tree_of sexp_of sexp_again

abbrev bytes_code : Coded (List ℕ)
bytes_code = coded_list coded_ℕ

abbrev pub key_code : Coded KeyFile
key_code =
    code_by (List ℕ × (Sexp × List ℕ)) (coded× bytes_code (coded× sexp_code bytes_code))
    (λ k. (k.before, (k.tree, k.after)))
    (λ p. record { before = p.0; tree = p.1.0; after = p.1.1 })
    (λ _. refl)
