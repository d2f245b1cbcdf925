use Rattle.std.proofs.{Common.{refl, arith}, lemmas.Bool.Decides.nat_tests}
use Rattle.aes_modes.proofs.OcbSteps.{sum_more, checksum_whole, checksum_padded}
use Rattle.aes_modes.proofs.ocb.checksum.Goals as goal

pub loop-block-init : goal.loop-block-init
loop-block-init c = refl

pub loop-block-preserved : goal.loop-block-preserved
loop-block-preserved c = sum_more c.loop-block.sum c.xor-sum.result c.as_chunks.result.0.now _ c.loop-block.block-index c.loop-block-test.true c.xor-sum.ensures c.loop-block.invariant

pub returns-then-is_empty : goal.returns-then-is_empty
returns-then-is_empty c =
    checksum_whole c.args.plain.now c.as_chunks.result.0.now c.as_chunks.result.1.now c.loop-block.sum c.loop-block.block-index
    c.as_chunks.ensures.front c.as_chunks.ensures.back c.loop-block-test.false c.loop-block.invariant (grind (arith, nat_tests))

pub returns-else-is_empty : goal.returns-else-is_empty
returns-else-is_empty c =
    checksum_padded c.args.plain.now c.as_chunks.result.0.now c.as_chunks.result.1.now c.loop-block.sum c.padded.result c.xor.result c.loop-block.block-index
    c.as_chunks.ensures.front c.as_chunks.ensures.back c.loop-block-test.false c.loop-block.invariant c.padded.ensures c.xor.ensures
