use Rattle.agent_top.proofs.LawfulRuns.{lawful_daemon}
use Rattle.agent_top.proofs.lawful.run_lawful_daemon.Goals as goal

pub returns-clause-lawful : goal.returns-clause-lawful
returns-clause-lawful g c = lawful_daemon _ c.args.rules.now c.run_daemon.ensures.runs
