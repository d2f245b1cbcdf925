use Rattle.std.proofs.Common.{◌∙◌}
use Rattle.std.proofs.lemmas.Result.{err_from_is_err_and}
use Rattle.agent_top.{specs.GpgAgent.nothing, proofs.GpgAgent.{puts_as, tells_first, tells_one_more}}
use Rattle.agent_top.proofs.gpg_agent.telling.tell.Goals as goal

pub loop-one-init : goal.loop-one-init
loop-one-init g c = nothing

pub returns-in_err-line : goal.returns-in_err-line
returns-in_err-line g c =
    let p = err_from_is_err_and c.from_residual.result c.from_residual.ensures.1 in
    rw p.1 (tells_first c.args.told.now c.loop-one.one-index c.loop-one-test.true c.loop-one.invariant)

pub loop-one-preserved : goal.loop-one-preserved
loop-one-preserved g c =
    tells_one_more c.args.told.now c.loop-one.one-index _ c.loop-one-test.true c.loop-one.invariant
    (puts_as (c.deref.ensures.value ∙ c.in_ok-line.ensures)
    (record { sent = c.put.result; within = c.put.ensures.cut; written = c.put.ensures.written; failed = c.put.ensures.failed; never_falls = c.put.ensures.faults }))
