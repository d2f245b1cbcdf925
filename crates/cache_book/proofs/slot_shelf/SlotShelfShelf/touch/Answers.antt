use Rattle.std.proofs.Common.{ap, sym, ◌∙◌, subst, rules}
use Rattle.cache_book.{specs.{Shelves.{AtShelf, touched}, SlotOrders.{by_number, AreKept}}, proofs.Ordered.{kept_touched, by_number_touched}}
use Rattle.cache_book.proofs.slot_shelf.SlotShelfShelf.touch.Goals as goal

pub invariant_of-self : goal.invariant_of-self
invariant_of-self c = record {
  kept = subst AreKept (sym c.touch_in.ensures.items) (kept_touched c.args.number c.args.now c.self.inside.slots.items c.self.invariant.kept);
  places = c.touch_in.ensures.held;
  room = search rules;
}

pub returns-clause-slots : goal.returns-clause-slots
returns-clause-slots c =
    ap by_number c.touch_in.ensures.items
    ∙ (by_number_touched c.args.number c.args.now c.self.inside.slots.items ∙ ap (λ (at : AtShelf). touched c.args.number c.args.now at.slots) c.self.view_is)
