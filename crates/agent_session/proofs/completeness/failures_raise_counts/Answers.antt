use Rattle.agent_session.proofs.Counts.Completing.{failures_rise}
use Rattle.agent_session.proofs.completeness.failures_raise_counts.Goals as goal

pub returns : goal.returns
returns g c supply before after events leads = failures_rise g.D.Desk.turned g.P.Prompter.prompted g.P.Prompter.at g.met.P.Prompter.promise leads
