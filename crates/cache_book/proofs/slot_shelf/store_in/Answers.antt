use Rattle.std.{specs.{Prelude.{◌≡◌, ℕ, ◌||◌, List, [], ◌∷◌, ◌++◌, true, false, take, drop}, List.{AllByRecursion, insert}}, proofs.Common.{ap, sym, ◌∙◌, subst}}
use Rattle.cache_policy.specs.declared.entry.Entry.{Entry}
use Rattle.cache_book.specs.{declared.slot.Slot.Slot, Shelves.{hidden, new_slot}, SlotOrders.{is_upto, by_number, AreById, AreKept}, Deadlines.{place_of, is_place, is_among}}
use Rattle.cache_book.proofs.{Arranging.{all_insert, all_take_within, all_drop_within}, Ordered.{kept_hidden, kept_stored, by_number_stored, by_number_hidden, below_hidden}, Holding.{held_or, held_new, held_hidden}}
use Rattle.cache_book.proofs.slot_shelf.store_in.Goals as goal

pub end_of-end-requires : goal.end_of-end-requires
end_of-end-requires c =
    subst AreById (sym (c.as_slice.ensures.value ∙ c.hide_in.ensures.items)) (kept_hidden c.args.entry c.args.slots.now.items c.requires.kept).by_id

-- the slots behind the insertion
stored : (entry : Entry) (list left after : List Slot) (end : ℕ) (slot : Slot) → after ≡ insert left end slot → left ≡ hidden entry list → slot ≡ new_slot entry
    → after ≡ insert (hidden entry list) end (new_slot entry)
stored entry list left after end slot inserted hides fills =
    inserted ∙ (ap (λ (l : List Slot). insert l end slot) hides ∙ ap (insert (hidden entry list) end) fills)

pub add_place-requires-clause-held : goal.add_place-requires-clause-held
add_place-requires-clause-held c =
    subst (AllByRecursion (λ slot. (is_place c.place-place.result (place_of slot) || is_among (place_of slot) c.args.deadlines.now.places) ≡ true))
    (sym (c.as_slice-2.ensures.value ∙ stored c.args.entry c.args.slots.now.items _ _ c.end_of-end.result _ c.insert_at.ensures.items c.hide_in.ensures.items c.filled-slot.ensures))
    (all_insert _ c.end_of-end.result (new_slot c.args.entry) (hidden c.args.entry c.args.slots.now.items)
    (held_new c.args.deadlines.now.places c.place-place.result (new_slot c.args.entry) (c.place-place.ensures ∙ ap place_of c.filled-slot.ensures))
    (held_or c.args.deadlines.now.places c.place-place.result (hidden c.args.entry c.args.slots.now.items)
    (held_hidden c.args.deadlines.now.places c.args.entry c.args.slots.now.items c.requires.held)))

slots_are : (c : goal.After-add_place) → c.as_slice.result.now ≡ hidden c.args.entry c.args.slots.now.items
slots_are c = c.as_slice.ensures.value ∙ c.hide_in.ensures.items

inserted : (c : goal.After-add_place) → c.insert_at.new.slots.items ≡ insert (hidden c.args.entry c.args.slots.now.items) c.end_of-end.result (new_slot c.args.entry)
inserted c = stored c.args.entry c.args.slots.now.items _ _ c.end_of-end.result _ c.insert_at.ensures.items c.hide_in.ensures.items c.filled-slot.ensures

pub returns-clause-kept : goal.returns-clause-kept
returns-clause-kept c =
    subst AreKept (sym (inserted c))
    (kept_stored c.args.entry c.end_of-end.result (hidden c.args.entry c.args.slots.now.items) (below_hidden c.args.entry c.args.entry.number c.args.slots.now.items c.requires.newest)
    (kept_hidden c.args.entry c.args.slots.now.items c.requires.kept)
    (subst (λ (list : List Slot). AllByRecursion (λ slot. is_upto c.args.entry.id slot ≡ true) (take c.end_of-end.result list)) (slots_are c)
    (all_take_within _ c.end_of-end.result c.as_slice.result.now c.end_of-end.ensures.within c.end_of-end.ensures.parts.0))
    (subst (λ (list : List Slot). AllByRecursion (λ slot. is_upto c.args.entry.id slot ≡ false) (drop c.end_of-end.result list)) (slots_are c)
    (all_drop_within _ c.end_of-end.result c.as_slice.result.now c.end_of-end.ensures.parts.1)))

pub returns-clause-items : goal.returns-clause-items
returns-clause-items c =
    ap by_number (inserted c)
    ∙ (by_number_stored c.args.entry c.end_of-end.result (hidden c.args.entry c.args.slots.now.items) (below_hidden c.args.entry c.args.entry.number c.args.slots.now.items c.requires.newest)
    ∙ ap (λ (list : List Slot). list ++ new_slot c.args.entry ∷ []) (by_number_hidden c.args.entry c.args.slots.now.items))
