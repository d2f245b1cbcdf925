use Rattle.std.proofs.Common.{[], ◌∷◌, ◌∙◌}
use Rattle.sexp_canonical.specs.Tree.{list_of}
use Rattle.secret_file.proofs.Decrypted.{items_are}
use Rattle.secret_file.proofs.sealed.one_list.Goals as goal

pub returns-in_err-secret-clause-none : goal.returns-in_err-secret-clause-none
returns-in_err-secret-clause-none c =
    rw c.from_residual.ensures (λ secret e.
    c.in_err-secret.ensures.none (list_of secret) (c.into_vec.ensures ∙ items_are c.args.tree c.in-List.items (list_of secret ∷ []) c.in-List.is e))
