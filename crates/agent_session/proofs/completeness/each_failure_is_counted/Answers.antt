use Rattle.agent_session.proofs.Counts.Counting.{counts_failures}
use Rattle.agent_session.proofs.completeness.each_failure_is_counted.Goals as goal

pub returns : goal.returns
returns g c supply before after events leads = counts_failures g.D.Desk.turned g.P.Prompter.prompted g.P.Prompter.at g.met.P.Prompter.promise before after events leads
