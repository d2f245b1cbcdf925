use Rattle.std.proofs.Common.{[], ◌∷◌, ◌∙◌}
use Rattle.sexp_canonical.specs.Tree.{list_of}
use Rattle.secret_file.proofs.Decrypted.{items_are}
use Rattle.secret_file.proofs.secrets.two_lists.Goals as goal

pub returns-in_err-first-clause-none : goal.returns-in_err-first-clause-none
returns-in_err-first-clause-none c =
    rw c.from_residual.ensures (λ secret hash e.
    c.in_err-first.ensures.none (list_of secret) hash (c.into_vec.ensures ∙ items_are c.args.tree c.in-List.items (list_of secret ∷ hash ∷ []) c.in-List.is e))
