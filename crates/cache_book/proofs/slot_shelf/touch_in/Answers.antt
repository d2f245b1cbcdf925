use Rattle.std.{specs.{Prelude.{◌≡◌, ◌==◌, ◌||◌, true, false}, List.AllByRecursion}, proofs.Common.{sym, subst}}
use Rattle.cache_book.{specs.Deadlines.{place_of, is_place, is_among}, proofs.{Holding.held_set, Searching.{touched_none, touched_at}}}
use Rattle.cache_book.proofs.slot_shelf.touch_in.Goals as goal

pub returns-in_default-clause-items : goal.returns-in_default-clause-items
returns-in_default-clause-items c =
    sym (touched_none c.args.number c.args.now c.args.slots.now.items
    (subst (AllByRecursion (λ slot. (c.args.number == slot.entry.number) ≡ false)) c.as_slice.ensures.value c.in_default.ensures.none))

pub returns-in-Some-touch-clause-items : goal.returns-in-Some-touch-clause-items
returns-in-Some-touch-clause-items c =
    touched_at c.args.number c.args.now c.in-Some.i c.args.slots.now.items c.as_slice.result.now c.index_mut.result.now c.touch.new.self c.requires.kept.own_numbers c.as_slice.ensures.value
    c.in-Some.ensures.found.0 c.in-Some.ensures.found.1 c.index_mut.ensures.value c.touch.ensures.touched

pub returns-in_default-touch-clause-items : goal.returns-in_default-touch-clause-items
returns-in_default-touch-clause-items c =
    touched_at c.args.number c.args.now c.in-Some.i c.args.slots.now.items c.as_slice.result.now c.index_mut.result.now c.touch.new.self c.requires.kept.own_numbers c.as_slice.ensures.value
    c.in-Some.ensures.found.0 c.in-Some.ensures.found.1 c.index_mut.ensures.value c.touch.ensures.touched

pub add_place-requires-clause-held : goal.add_place-requires-clause-held
add_place-requires-clause-held c =
    subst (AllByRecursion (λ slot. (is_place c.in-Some-touch.place (place_of slot) || is_among (place_of slot) c.args.deadlines.now.places) ≡ true)) (sym c.as_slice-in-Some-touch.ensures.value)
    (held_set c.args.deadlines.now.places c.in-Some-touch.place c.in-Some.i c.args.slots.now.items c.touch.new.self c.in-Some-touch.ensures.moved c.requires.held)
