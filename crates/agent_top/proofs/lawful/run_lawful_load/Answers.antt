use Rattle.agent_top.proofs.LawfulRuns.{lawful_load}
use Rattle.agent_top.proofs.lawful.run_lawful_load.Goals as goal

pub returns-clause-lawful : goal.returns-clause-lawful
returns-clause-lawful g c = lawful_load c.run_load.ensures.runs
