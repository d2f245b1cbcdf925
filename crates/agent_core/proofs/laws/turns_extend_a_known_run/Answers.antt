use Rattle.agent_core.proofs.laws.turns_extend_a_known_run.Goals as goal

pub returns : goal.returns
returns g c = λ before after turns leads. c.turns_extend_a_run.ensures before after turns leads
