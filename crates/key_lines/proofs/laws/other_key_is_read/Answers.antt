use Rattle.std.proofs.Common.{◌++◌, [], ℕ, List, length, Ok, subst, append-nil, refl}
use Rattle.{sexp_canonical.specs.declared.tree.Sexp.Sexp, sexp_advanced.specs.{Reading.ReadsAdvanced, Writing.advanced_of}}
use Rattle.key_lines.proofs.Replaced.{IsReadAgain, replaced, replaced_canon}
use Rattle.key_lines.proofs.laws.other_key_is_read.Goals as goal

-- what is written is read again, with nothing behind it
again : (tree : Sexp) → ReadsAdvanced (advanced_of tree ++ []) (Ok (tree, length (advanced_of tree))) → IsReadAgain tree
again tree h = subst (λ (text : List ℕ). ReadsAdvanced text (Ok (tree, length (advanced_of tree)))) (append-nil (advanced_of tree)) h

pub returns-clause-key : goal.returns-clause-key
returns-clause-key c file key tree has octets shallow short =
    replaced file key tree has (again tree (c.written_is_read.ensures tree [] [] refl octets shallow tt)) short

pub returns-clause-canon : goal.returns-clause-canon
returns-clause-canon c file key tree extended has octets shallow short =
    replaced_canon file key tree extended has (again tree (c.written_is_read.ensures tree [] [] refl octets shallow tt)) short
