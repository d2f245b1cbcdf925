use Rattle.agent_serve.proofs.Pairs.{popped}
use Rattle.agent_serve.proofs.each.pop_pair.Goals as goal

pub returns-in-Some-Some-clause-some : goal.returns-in-Some-Some-clause-some
returns-in-Some-Some-clause-some g c =
    popped _ _ _ _ _ _ _ _ c.requires.other c.requires.last c.in-Some-Some.ensures.items c.in-Some-Some.ensures'.items
