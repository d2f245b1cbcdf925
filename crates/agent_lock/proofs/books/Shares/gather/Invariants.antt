use Rattle.std.specs.Prelude.{vec_len}
use Rattle.agent_lock.specs.Shares.{AreShares}
use Rattle.agent_lock.proofs.books.Shares.gather.Given as goal

abbrev pub invariant-loop-calls : goal.invariant-loop-calls
invariant-loop-calls g l = AreShares l.all l.passes.items l.fn.passes.items

abbrev pub decreases-loop-calls : goal.decreases-loop-calls
decreases-loop-calls g l = vec_len l.passes
