use Rattle.std.{specs.Prelude.{◌≡◌, true}, proofs.Common.{ap, sym, ◌∙◌, subst, rules}}
use Rattle.cache_book.{specs.{Shelves.{AtShelf, cleared}, SlotOrders.{by_number, AreKept}, Deadlines.{place_of, is_among, HavePlaces}}, proofs.{Kept.all_filter, Ordered.{kept_filter, by_number_filter}}}
use Rattle.cache_book.proofs.slot_shelf.SlotShelfShelf.clear.Goals as goal

pub invariant_of-self : goal.invariant_of-self
invariant_of-self c = record {
  kept = subst AreKept (sym c.clear_in.ensures.items) (kept_filter _ c.self.inside.slots.items c.self.invariant.kept);
  places = subst (HavePlaces c.self.inside.deadlines.places) (sym c.clear_in.ensures.items)
      (all_filter (λ slot. is_among (place_of slot) c.self.inside.deadlines.places ≡ true) _ c.self.inside.slots.items c.self.invariant.places);
  room = search rules;
}

pub returns-clause-slots : goal.returns-clause-slots
returns-clause-slots c =
    ap by_number c.clear_in.ensures.items
    ∙ (by_number_filter _ c.self.inside.slots.items ∙ ap (λ (at : AtShelf). cleared c.args.id.now c.args.mode at.slots) c.self.view_is)
