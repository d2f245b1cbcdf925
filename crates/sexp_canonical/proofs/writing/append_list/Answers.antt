use Rattle.sexp_canonical.{specs.View.trees, proofs.WrittenLists.list_written}
use Rattle.sexp_canonical.proofs.writing.append_list.Goals as goal

pub returns : goal.returns
returns c =
    list_written c.args.text.now c.extend_from_slice.new.self c.append_all.new.text c.extend_from_slice-2.new.self (trees c.args.items.now)
    c.in_ok-extend_from_slice.ensures.ok c.in_ok-append_all.ensures c.in_ok-extend_from_slice-2.ensures.ok
