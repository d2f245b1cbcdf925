use Rattle.std.proofs.Common.{◌≡◌, drop, map}
use Rattle.agent_conf.specs.{Told.told_by, Verdicts.has_refusal}
use Rattle.agent_conf.proofs.told.has_refusal.Given as goal

-- those that are left decide
abbrev pub invariant-loop-one : goal.invariant-loop-one
invariant-loop-one l = has_refusal (map told_by (drop l.one-index l.told)) ≡ has_refusal (map told_by l.told)
