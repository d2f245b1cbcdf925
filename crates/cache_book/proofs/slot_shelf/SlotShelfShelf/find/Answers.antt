use Rattle.std.{specs.Prelude.{List, IfSome, IfNone}, proofs.Common.subst}
use Rattle.cache_book.{specs.{declared.slot.Slot.Slot, Shelves.{AtShelf, IsGrantFrom, ServesNone}, SlotOrders.{is_older, by_number}}, proofs.{Arranging.all_arranged, Ordered.one_by_number, Finding.{granted_again, none_again}}}
use Rattle.cache_book.proofs.slot_shelf.SlotShelfShelf.find.Goals as goal

pub returns-clause-found : goal.returns-clause-found
returns-clause-found c =
    subst (λ (at : AtShelf). IfSome c.grant_from.result (IsGrantFrom at.slots c.args.id.now c.args.mode c.args.now)) c.self.view_is
    (granted_again c.self.inside.slots.items (by_number c.self.inside.slots.items) c.args.id.now c.args.mode c.args.now c.grant_from.result
    (λ slot on. one_by_number slot c.self.inside.slots.items on)
    (subst (λ (list : List Slot). IfSome c.grant_from.result (IsGrantFrom list c.args.id.now c.args.mode c.args.now)) c.as_slice.ensures.value c.grant_from.ensures.found))

pub returns-clause-none : goal.returns-clause-none
returns-clause-none c =
    subst (λ (at : AtShelf). IfNone c.grant_from.result (ServesNone at.slots c.args.id.now c.args.mode c.args.now)) c.self.view_is
    (none_again c.grant_from.result (ServesNone c.self.inside.slots.items c.args.id.now c.args.mode c.args.now) (ServesNone (by_number c.self.inside.slots.items) c.args.id.now c.args.mode c.args.now)
    (λ h. all_arranged is_older _ c.self.inside.slots.items h)
    (subst (λ (list : List Slot). IfNone c.grant_from.result (ServesNone list c.args.id.now c.args.mode c.args.now)) c.as_slice.ensures.value c.grant_from.ensures.none))
