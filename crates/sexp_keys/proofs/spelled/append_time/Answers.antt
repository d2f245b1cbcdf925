use Rattle.std.{proofs.Common.{◌++◌, sym, ap, ◌∙◌}, specs.{List.flat_map, Option.option_copied}}
use Rattle.sexp_canonical.specs.Spelling.{spelling}
use Rattle.sexp_keys.{specs.Lists.time_lists, proofs.WrittenLists.time_written}
use Rattle.sexp_keys.proofs.spelled.append_time.Goals as goal

pub returns : goal.returns
returns c =
    time_written c.args.text.now c.extend_from_slice.new.self c.append_atom.new.text c.append_atom-2.new.text c.extend_from_slice-2.new.self c.in-Some.time.now
    c.in_ok-extend_from_slice.ensures.ok c.in_ok-append_atom.ensures c.in_ok-append_atom-2.ensures c.in_ok-extend_from_slice-2.ensures.ok
    ∙ ap (λ o. c.args.text.now ++ flat_map spelling (time_lists (option_copied o))) (sym c.in-Some.is)
