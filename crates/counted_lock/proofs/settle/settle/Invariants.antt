use Rattle.std.specs.Prelude.{Ok}
use Rattle.{cache_policy.specs.Turns.{mark_step, turn_of}, agent_core.specs.{Cores.mark_of, Recording.reply_of}}
use Rattle.counted_lock.proofs.settle.settle.Given as goal

abbrev pub ghosts-count : goal.ghosts-count
ghosts-count a = record { mark = mark_of a.session (mark_step a.session a.asked.now.value) (reply_of (turn_of (Ok a.reply.now))) a.moment }
