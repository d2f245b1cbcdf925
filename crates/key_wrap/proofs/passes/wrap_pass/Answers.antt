use Rattle.std.proofs.Common.{arith}
use Rattle.key_wrap.proofs.Steps.{wrap_more, wrapped_at_end}
use Rattle.key_wrap.proofs.passes.wrap_pass.Goals as goal

pub loop-i-preserved : goal.loop-i-preserved
loop-i-preserved c =
    wrap_more c.args.cipher.now c.loop-i.check c.xor-check.result c.args.first_step c.loop-i.i c.loop-i.blocks c.halves.result.1 _ (omega arith)
    (cc (c.xor-check.ensures, c.to_be_bytes.ensures, c.halves.ensures.left))
    (cc (c.halves.ensures.right))
    c.loop-i.invariant

pub returns : goal.returns
returns c = wrapped_at_end c.args.cipher.now c.loop-i.check _ c.loop-i.i c.loop-i.blocks _ (omega arith) c.loop-i.invariant
