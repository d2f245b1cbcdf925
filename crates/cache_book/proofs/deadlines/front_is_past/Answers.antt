use Rattle.std.{specs.{Prelude.{◌≡◌, ℕ, ◌≤◌, nat_lt, false}, BinaryHeap.heap_items}, proofs.{Common.arith, lemmas.Bool.Decides.nat_tests}}
use Rattle.cache_book.proofs.Holding.{all_later}
use Rattle.cache_book.proofs.deadlines.front_is_past.Goals as goal

no_less : (m n : ℕ) → nat_lt m n ≡ false → n ≤ m
no_less m n h = grind (arith, nat_tests)

pub returns-in-Some-clause-yet : goal.returns-in-Some-clause-yet
returns-in-Some-clause-yet c = λ later.
    all_later c.args.now c.in-Some.front.now (heap_items c.args.places.now) (c.in-Some.ensures.greatest c.requires) (no_less c.in-Some.front.now.0.moment c.args.now later)
