use Rattle.std.{proofs.Common.{ap, ◌∙◌, ◌++◌, ℕ, List}, specs.{List.flat_map, Option.option_copied}}
use Rattle.sexp_canonical.specs.{Tree.{Tree, leaf}, View.trees, Spelling.spelling}
use Rattle.sexp_keys.{specs.{Names.algorithm_name, Lists.time_lists}, proofs.WrittenLists.algorithm_written}
use Rattle.sexp_keys.proofs.spelled.append_algorithm.Goals as goal

pub returns : goal.returns
returns c =
    let view = c.key.view_is in
    algorithm_written c.args.text.now c.extend_from_slice.new.self c.append_atom.new.text c.append_all.new.text c.append_all-2.new.text c.append_time.new.text c.extend_from_slice-2.new.self
    (algorithm_name c.args.key.now.algorithm) c.args.key.now.public (trees c.args.behind.now) (time_lists (option_copied c.args.time))
    c.in_ok-extend_from_slice.ensures.ok
    (c.in_ok-append_atom.ensures ∙ ap (λ (name : List ℕ). c.extend_from_slice.new.self ++ spelling (leaf name)) (c.name.ensures ∙ ap (λ k. algorithm_name k.algorithm) view))
    (c.in_ok-append_all.ensures ∙ ap (λ (ts : List Tree). c.append_atom.new.text ++ flat_map spelling ts) (c.as_slice.ensures ∙ ap (λ k. k.public) view))
    c.in_ok-append_all-2.ensures c.in_ok-append_time.ensures c.in_ok-extend_from_slice-2.ensures.ok
