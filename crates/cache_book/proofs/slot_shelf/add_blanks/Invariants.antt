use Rattle.std.specs.Prelude.{◌≤◌, ◌-◌, vec_len}
use Rattle.cache_book.proofs.slot_shelf.add_blanks.Given as goal

abbrev pub invariant-loop-alloc : goal.invariant-loop-alloc
invariant-loop-alloc l = vec_len l.fn.blanks ≤ vec_len l.blanks

abbrev pub decreases-loop-alloc : goal.decreases-loop-alloc
decreases-loop-alloc l = l.n - vec_len l.blanks
