use Rattle.std.proofs.Common.{◌≡◌, ◌+◌, ◌-◌, arith, length}
use Rattle.key_wrap.proofs.Steps.{unwrap_more, unwrap_none}
use Rattle.key_wrap.proofs.passes.unwrap_pass.Goals as goal

pub loop-i-init : goal.loop-i-init
loop-i-init c = unwrap_none c.args.cipher.now c.args.check (c.args.first_step + length c.args.blocks.now) c.args.blocks.now

pub loop-i-preserved : goal.loop-i-preserved
loop-i-preserved c =
    let before : c.loop-i.i ≡ c.loop-i.i - 1 + 1 = omega arith in
    unwrap_more c.args.cipher.now c.args.check c.loop-i.check c.halves.result.0 c.args.first_step (c.loop-i.i - 1) c.args.blocks.now c.loop-i.blocks c.halves.result.1 (omega arith)
    (cc (c.xor-step.ensures, c.to_be_bytes.ensures, c.halves.ensures.left))
    (cc (c.halves.ensures.right, c.xor-step.ensures, c.to_be_bytes.ensures))
    (rw before at c.loop-i.invariant)
