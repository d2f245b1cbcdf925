use Rattle.std.proofs.Common.{ap, sym, ◌∙◌, subst}
use Rattle.cache_book.{specs.{Shelves.{AtShelf, AreBelow, with_entry}, SlotOrders.is_older}, proofs.Arranging.all_unarranged}
use Rattle.cache_book.proofs.slot_shelf.SlotShelfShelf.store.Goals as goal

pub store_in-requires-clause-newest : goal.store_in-requires-clause-newest
store_in-requires-clause-newest c =
    all_unarranged is_older _ c.self.inside.slots.items (subst (λ (at : AtShelf). AreBelow c.args.entry.number at.slots) (sym c.self.view_is) c.requires.newest)

pub returns-clause-slots : goal.returns-clause-slots
returns-clause-slots c = c.store_in.ensures.items ∙ ap (λ (at : AtShelf). with_entry c.args.entry at.slots) c.self.view_is
