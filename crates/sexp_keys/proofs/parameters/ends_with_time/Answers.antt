use Rattle.std.proofs.{Common.{[], ◌∷◌, sym, ap, ◌∙◌}, lemmas.List.map-append}
use Rattle.sexp_canonical.specs.View.{tree_of, trees}
use Rattle.sexp_keys.{specs.Named.ends_with_time, proofs.Parts.ends_append}
use Rattle.sexp_keys.proofs.parameters.ends_with_time.Goals as goal

pub returns-in-Some : goal.returns-in-Some
returns-in-Some c =
    let front = c.in-Some.field-0-1.now in
    let last = c.in-Some.last.now in
    c.has_name.ensures
    ∙ sym (ap (λ xs. ends_with_time (trees xs)) c.in-Some.ensures.cases.0 ∙ ap ends_with_time (map-append tree_of front (last ∷ [])) ∙ ends_append (trees front) (tree_of last) [])
