use Rattle.agent_origin.proofs.{Outer.line_leaves, OuterKeys.key_leaves, OuterTrust.trust_leaves}
use Rattle.agent_origin.proofs.laws.the_outer_door_leaves_the_cache.Goals as goal

pub returns-clause-cache : goal.returns-clause-cache
returns-clause-cache c = λ rules before after line events went allows exchanged. line_leaves rules before after line events went allows exchanged

pub returns-clause-trust : goal.returns-clause-trust
returns-clause-trust c = λ rules options line events went allows exchanged. trust_leaves rules options line allows exchanged

pub returns-clause-keys : goal.returns-clause-keys
returns-clause-keys c = λ rules options before after line handed events went allows key exchanged. key_leaves rules options before line allows exchanged
