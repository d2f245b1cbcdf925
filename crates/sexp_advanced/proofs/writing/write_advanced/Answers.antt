use Rattle.std.proofs.Common.{ℕ, List, ◌++◌, ap, ◌∙◌}
use Rattle.sexp_advanced.{specs.Writing.advanced_of, proofs.Again.whole_again}
use Rattle.sexp_advanced.proofs.writing.write_advanced.Goals as goal

pub returns-clause-again : goal.returns-clause-again
returns-clause-again c =
    λ shallow.
    whole_again c.into_vec.result.items c.args.tree.now
    (c.into_vec.ensures ∙ c.in_ok-append_tree.ensures.written ∙ ap (λ (s : List ℕ). s ++ advanced_of c.args.tree.now) c.new-text.ensures) c.in_ok-append_tree.ensures.octets shallow
