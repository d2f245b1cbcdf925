use Rattle.std.proofs.{Common.{ap, ◌∙◌, ◌++◌, List}, lemmas.List.append-nil}
use Rattle.sexp_canonical.specs.{Tree.Tree, View.trees, Spelling.spelling}
use Rattle.sexp_keys.{specs.Key.algorithm_list, proofs.WrittenLists.key_written}
use Rattle.sexp_keys.proofs.spelled.append_key.Goals as goal

pub returns : goal.returns
returns c =
    key_written c.args.text.now c.extend_from_slice.new.self c.append_atom.new.text c.append_algorithm.new.text c.append_all.new.text c.extend_from_slice-2.new.self
    c.args.name.now (algorithm_list c.args.key.now (trees c.args.behind.now)) (trees c.args.further.now)
    c.in_ok-extend_from_slice.ensures.ok c.in_ok-append_atom.ensures
    (c.in_ok-append_algorithm.ensures ∙ ap (λ (bs : List Tree). c.append_atom.new.text ++ spelling (algorithm_list c.args.key.now bs)) (append-nil (trees c.args.behind.now)))
    c.in_ok-append_all.ensures c.in_ok-extend_from_slice-2.ensures.ok
