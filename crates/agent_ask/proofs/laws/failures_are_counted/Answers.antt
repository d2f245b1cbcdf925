use Rattle.agent_ask.proofs.Counting.{failures}
use Rattle.agent_ask.proofs.laws.failures_are_counted.Goals as goal

pub returns : goal.returns
returns g c before after calls leads = failures g.P.Prompter.at g.P.Prompter.prompted g.met.P.Prompter.promise before after calls leads
