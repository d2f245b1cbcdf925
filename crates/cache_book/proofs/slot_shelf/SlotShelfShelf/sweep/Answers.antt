use Rattle.std.proofs.Common.{ap, sym, ◌∙◌, subst, rules}
use Rattle.cache_book.{specs.{Shelves.{AtShelf, swept}, SlotOrders.{by_number, AreKept}}, proofs.Ordered.{kept_filter, by_number_filter}}
use Rattle.cache_book.proofs.slot_shelf.SlotShelfShelf.sweep.Goals as goal

pub invariant_of-self : goal.invariant_of-self
invariant_of-self c = record {
  kept = subst AreKept (sym c.sweep_in.ensures.items) (kept_filter _ c.self.inside.slots.items c.self.invariant.kept);
  places = c.sweep_in.ensures.held;
  room = search rules;
}

pub returns-clause-slots : goal.returns-clause-slots
returns-clause-slots c =
    ap by_number c.sweep_in.ensures.items
    ∙ (by_number_filter _ c.self.inside.slots.items ∙ ap (λ (at : AtShelf). swept c.args.now at.slots) c.self.view_is)
