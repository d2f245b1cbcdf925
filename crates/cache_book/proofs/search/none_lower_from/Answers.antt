use Rattle.std.{specs.Prelude.{◌≡◌, ℕ, false, true, nat_lt, nat_le}, proofs.{Common.{arith, sym, subst}, lemmas.Bool.Decides.nat_tests}}
use Rattle.cache_book.{specs.{declared.slot.Slot.Slot, SlotOrders.has_lower_hash}, proofs.Searching.none_behind}
use Rattle.cache_book.proofs.search.none_lower_from.Goals as goal

not_lower : (m n : ℕ) → nat_le n m ≡ true → nat_lt m n ≡ false
not_lower m n h = grind (arith, nat_tests)

as_high : (m n : ℕ) → nat_lt m n ≡ false → nat_le n m ≡ true
as_high m n h = grind (arith, nat_tests)

pub returns-else-start-slots : goal.returns-else-start-slots
returns-else-start-slots c =
    let first : Slot = c.index-slots-start.result in (
      λ upto k d from lt. none_behind c.args.hash c.args.slots.now c.requires.by_id c.args.start first (omega arith) c.index-slots-start.is
          (subst (λ n. nat_lt n c.args.hash ≡ false) c.hash.ensures (not_lower c.hash.result c.args.hash upto)) k d from lt,
      λ none. as_high c.hash.result c.args.hash (subst (λ n. nat_lt n c.args.hash ≡ false) (sym c.hash.ensures)
          (subst (λ (slot : Slot). has_lower_hash c.args.hash slot ≡ false) (sym c.index-slots-start.is) (none c.args.start first (omega arith) (omega arith)))),
    )
