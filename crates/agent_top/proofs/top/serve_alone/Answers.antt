use Rattle.agent_top.specs.Top.{no_memory}
use Rattle.agent_top.proofs.top.serve_alone.Goals as goal

pub returns-in_default : goal.returns-in_default
returns-in_default g c = record { runs = no_memory }
