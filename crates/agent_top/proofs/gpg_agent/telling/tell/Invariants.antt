use Rattle.std.proofs.Common.{map, take}
use Rattle.agent_conf.specs.Told.{told_by}
use Rattle.agent_top.specs.GpgAgent.{Tells}
use Rattle.agent_top.proofs.gpg_agent.telling.tell.Given as goal

-- those so far were told
abbrev pub invariant-loop-one : goal.invariant-loop-one
invariant-loop-one g l = Tells l.place (g.E.Sink.output l.fn.errors) (map told_by (take l.one-index l.told)) (g.E.Sink.output l.errors)
