use Rattle.std.{specs.Prelude.{◌≡◌, ◌-◌, true, nat_lt}, proofs.Common.{arith, sym, subst}}
use Rattle.cache_book.{specs.{declared.slot.Slot.Slot, SlotOrders.has_lower_hash}, proofs.Searching.lower_before}
use Rattle.cache_book.proofs.search.are_lower_before.Goals as goal

pub returns-else-end-eq0 : goal.returns-else-end-eq0
returns-else-end-eq0 c =
    let last : Slot = c.index-slots-end.result in (
      λ lower k d from lt. lower_before c.args.hash c.args.slots.now c.requires.by_id (c.args.end - 1) last (omega arith) c.index-slots-end.is
          (subst (λ n. nat_lt n c.args.hash ≡ true) c.hash.ensures lower) k d (omega arith),
      λ all. subst (λ n. nat_lt n c.args.hash ≡ true) (sym c.hash.ensures)
          (subst (λ (slot : Slot). has_lower_hash c.args.hash slot ≡ true) (sym c.index-slots-end.is) (all (c.args.end - 1) last (omega arith) (omega arith))),
    )
