use Rattle.std.{specs.Prelude.{◌≡◌, ℕ, true, false, nat_lt, nat_le}, proofs.{Common.{arith, rules}, lemmas.{Bool.Decides.nat_tests, List.Elements.{AllWithin-more, at_read}}}}
use Rattle.cache_book.{specs.{Shelves.serves_at, Hashes.id_hash, declared.slot.Slot.Slot}, proofs.Searching.{none_serving, none_past}}
use Rattle.cache_book.proofs.search.serving.Goals as goal

higher : (m n : ℕ) → nat_lt m n ≡ true → nat_le n m ≡ false
higher m n h = grind (arith, nat_tests)

pub returns-then-hash-clause-none : goal.returns-then-hash-clause-none
returns-then-hash-clause-none c =
    let start = c.behind_lower_near-start in
    none_past c.args.id.now c.args.mode c.args.now c.args.slots.now c.hash_of-hash.result c.hash_of-hash.ensures start.result c.loop-i.i start.ensures.parts c.loop-i.invariant c.requires
    c.index-slots-i.result c.loop-i-test.true c.index-slots-i.is (higher c.hash_of-hash.result (id_hash c.index-slots-i.result.entry.id) (search rules))

pub loop-i-preserved : goal.loop-i-preserved
loop-i-preserved c =
    let none : serves_at c.args.id.now c.args.mode c.args.now c.index-slots-i-in-loop-i.result ≡ false = search rules in
    AllWithin-more (λ (slot : Slot). serves_at c.args.id.now c.args.mode c.args.now slot ≡ false) c.args.slots.now c.behind_lower_near-start.result c.loop-i.i c.loop-i.invariant
    (at_read c.args.slots.now (λ (slot : Slot). serves_at c.args.id.now c.args.mode c.args.now slot ≡ false) c.loop-i.i c.index-slots-i-in-loop-i.result c.loop-i-test.true
    c.index-slots-i-in-loop-i.is none)

pub returns-clause-none : goal.returns-clause-none
returns-clause-none c =
    let start = c.behind_lower_near-start in
    none_serving c.args.id.now c.args.mode c.args.now c.args.slots.now c.hash_of-hash.result c.hash_of-hash.ensures start.result c.loop-i.i start.ensures.parts c.loop-i.invariant c.loop-i-test.false
