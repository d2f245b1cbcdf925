use Rattle.agent_top.proofs.RunLaws.{daemon_alone}
use Rattle.agent_top.proofs.completeness.a_daemon_wants_no_memory_for_the_cache_alone.Goals as goal

pub returns : goal.returns
returns c door rules kept now line events went supply before after exchange allows is leads still = daemon_alone exchange allows is leads still
