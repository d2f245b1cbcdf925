use Rattle.std.specs.Prelude.{◌≡◌, ◌≤◌, ◌-◌, [], vec_len, vec_capacity}
use Rattle.counted_lock.specs.{declared.board.Stage.TheVariants.Idle, Rule.{doing, blank_claims}, Passes.AreNewPasses}
use Rattle.counted_lock.proofs.counted.Counted.new.Given as goal

abbrev pub invariant-loop-number : goal.invariant-loop-number
invariant-loop-number l = record {
  own : l.place.table_id ≡ l.table.shared.table_id;
  place : l.place.me ≡ (doing Idle (blank_claims l.fn.limits l.number (l.passes - l.number)), []);
  new : AreNewPasses record { table = l.table.shared.table_id; limits = l.fn.limits; passes = l.passes } 0 l.all.items;
  count : vec_len l.all ≡ l.number;
  room : l.passes ≤ vec_capacity l.all;
}
