use Rattle.std.proofs.{Common.{length, sym}, lemmas.Bool.eqb-true}
use Rattle.agent_ports.proofs.Writing.{writes_as}
use Rattle.pinentry_script.proofs.Saying.{gives_nothing, gave_then, gave_part}
use Rattle.pinentry_script.proofs.response.give.Goals as goal

pub returns-then-is_empty-clause-said : goal.returns-then-is_empty-clause-said
returns-then-is_empty-clause-said g c =
    writes_as (sym (gives_nothing c.args.text.now (eqb-true (length c.args.text.now) 0 (sym c.if-is_empty.ensures)))) c.say.ensures.said

pub returns-clause-said : goal.returns-clause-said
returns-clause-said g c = gave_then c.args.text.now c.if-is_empty.ensures c.in_ok-say.ensures.said c.say-3.ensures.said

pub returns-in_err-say-clause-said : goal.returns-in_err-say-clause-said
returns-in_err-say-clause-said g c = gave_part c.args.text.now c.from_residual.result c.from_residual.ensures.0 c.if-is_empty.ensures c.in_err-say.ensures.said
