use Rattle.std.specs.Prelude.{◌≡◌, ◌≤◌, false}
use Rattle.cache_book.specs.{declared.deadlines.Place.Place, Deadlines.is_among}
use Rattle.cache_book.proofs.deadlines.Deadlines.drop_past.Given as goal

abbrev pub invariant-loop-some : goal.invariant-loop-some
invariant-loop-some l = record {
  later : (place : Place) → l.now ≤ place.moment → is_among place l.self.places ≡ is_among place l.fn.self.places;
  unchanged : l.some ≡ false → l.self.places ≡ l.fn.self.places;
  capacity : l.self.capacity ≡ l.fn.self.capacity;
}

abbrev pub decreases-loop-some : goal.decreases-loop-some
decreases-loop-some l = l.self.len
