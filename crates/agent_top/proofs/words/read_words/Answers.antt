use Rattle.std.{proofs.Common.{rules, map}, specs.Prelude.string_bytes}
use Rattle.agent_top.proofs.{OptionReading.{fault_is, no_rules}, UsualVersion.usual_version}
use Rattle.agent_top.proofs.words.read_words.Goals as goal

pub returns-in_err-given-clause-bad : goal.returns-in_err-given-clause-bad
returns-in_err-given-clause-bad c =
    fault_is c.from_residual.result _ _ c.from_residual.ensures.1 (λ bad. no_rules (map string_bytes c.args.words.now) (c.in_err-given.ensures.bad bad))

pub returns-clause-version : goal.returns-clause-version
returns-clause-version c = usual_version (map string_bytes c.args.words.now) _ (search rules)
