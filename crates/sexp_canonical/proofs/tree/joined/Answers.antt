use Rattle.std.proofs.{Common.{ap, sym, ◌∙◌, arith, length, vec_len}, lemmas.{Bool.eqb-false, List.nil_from_length}}
use Rattle.sexp_canonical.proofs.Dropped.{none_inside, turned_lists}
use Rattle.sexp_canonical.proofs.tree.joined.Goals as goal

pub returns-in_default : goal.returns-in_default
returns-in_default c =
    let empty = c.in_default.ensures.cases.0 in
    let o = c.args.inner.ok in
    none_inside c.args.outer.items c.args.inner.items (nil_from_length c.args.inner.items (omega arith))

pub returns : goal.returns
returns c =
    turned_lists c.args.outer.items c.args.inner.items c.pop.new.self.items c.push_reserved.new.self.items c.insert.new.self.items c.in-Some.last c.list.result
    (λ none. let len = ap length none in let o = c.args.outer.ok in eqb-false (vec_len c.args.outer) 0 (sym c.is_empty.ensures ∙ c.if-is_empty.false) (omega arith))
    c.in-Some.ensures.items c.push_reserved.ensures.items c.list.ensures (rw c.unwrap.ensures at c.insert.ensures.items)
