use Rattle.std.{specs.{Prelude.◌<◌, declared.cmp.Reverse.Reverse, BinaryHeap.heap_items}, proofs.Common.{sym, subst}}
use Rattle.cache_book.{specs.declared.deadlines.Place.Place, proofs.Holding.{among_later, among_others}}
use Rattle.cache_book.proofs.deadlines.pop_past_in.Goals as goal

pub returns-clause-later : goal.returns-clause-later
returns-clause-later c =
    among_later (heap_items c.args.places.now) (heap_items c.pop.new.self) c.in-Some.front c.in-Some.ensures.permutation c.args.now
    (subst (λ (first : Reverse Place). first.0.moment < c.args.now) (sym c.in-Some.ensures.top) ((c.front_is_past.ensures.past c.if-not-front_is_past.false).1 c.in-Some.front))

pub returns-clause-others : goal.returns-clause-others
returns-clause-others c = among_others (heap_items c.args.places.now) (heap_items c.pop.new.self) c.in-Some.front c.in-Some.ensures.permutation
