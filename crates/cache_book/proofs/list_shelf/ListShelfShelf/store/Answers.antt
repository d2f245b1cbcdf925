use Rattle.std.{specs.Prelude.{◌≡◌, List, [], ◌∷◌, ◌++◌, filter}, proofs.{Common.{ap, sym, ◌∙◌, subst, rules}, lemmas.Fn.filter_same}}
use Rattle.cache_book.{specs.{declared.slot.Slot.Slot, Modes.has_some, Shelves.{AtShelf, hidden, with_entry, AreWithinMode}}, proofs.Kept.within_with_entry}
use Rattle.cache_book.proofs.list_shelf.ListShelfShelf.store.Goals as goal

stored : (c : goal.After-push_reserved) → c.push_reserved.new.self.items ≡ with_entry c.args.entry c.self.inside.slots.items
stored c =
    c.push_reserved.ensures.items
    ∙ (ap (λ (list : List Slot). list ++ c.of.result ∷ []) (filter_same _ _ _ (λ x b f' k. search rules) _ _ c.retain.ensures.filtered
    ∙ ap (filter (λ (slot : Slot). has_some slot.modes)) c.hide_all.ensures.items)
    ∙ ap (λ (slot : Slot). hidden c.args.entry c.self.inside.slots.items ++ slot ∷ []) c.of.ensures)

pub invariant_of-self : goal.invariant_of-self
invariant_of-self c = subst AreWithinMode (sym (stored c)) (within_with_entry c.args.entry c.self.inside.slots.items c.self.invariant)

pub returns-clause-slots : goal.returns-clause-slots
returns-clause-slots c = stored c ∙ ap (λ (at : AtShelf). with_entry c.args.entry at.slots) c.self.view_is
