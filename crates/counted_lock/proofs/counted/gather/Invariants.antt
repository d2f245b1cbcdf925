use Rattle.std.specs.Prelude.{◌≡◌, ◌+◌, ℕ, List, [], vec_len, length}
use Rattle.cache_policy.specs.declared.mark.Mark.{Mark}
use Rattle.counted_lock.specs.{declared.board.{About.About, Stage.TheVariants.Idle}, Rule.{AllFit, times}, Passes.{AreOf, numbered}, Keeping.PassesFit}
use Rattle.counted_lock.proofs.counted.gather.Given as goal

abbrev pub invariant-loop-pass : goal.invariant-loop-pass
invariant-loop-pass l = record {
  own : l.place.table_id ≡ l.board.shared.table_id;
  theirs : AreOf l.board.shared.table_id l.passes.items;
  idle : l.place.me.0.stage ≡ Idle;
  empty : l.place.me.1 ≡ [];
  all : length l.place.me.0.claims + vec_len l.passes ≡ vec_len l.fn.passes;
  numbers : (k : ℕ) → times k l.place.me.0.claims + length (numbered k l.passes.items) ≡ length (numbered k l.fn.passes.items);
  fits : (about : About) (log : List Mark) → AllFit about log l.place.me.0.claims → PassesFit about log l.passes.items → PassesFit about log l.fn.passes.items;
}

abbrev pub decreases-loop-pass : goal.decreases-loop-pass
decreases-loop-pass l = vec_len l.passes
