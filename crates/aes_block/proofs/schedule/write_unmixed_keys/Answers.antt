use Rattle.std.proofs.Common.{arith, ◌+◌, get_or, []}
use Rattle.aes_block.{specs.{Columns.bytes_of, Aes.inv_mix_columns}, proofs.WordBytes.written_more}
use Rattle.aes_block.proofs.schedule.write_unmixed_keys.Goals as goal

pub loop-round-init : goal.loop-round-init
loop-round-init c = record { len = c.told-keys; done = λ k lt. absurd (omega arith) }

pub loop-round-preserved : goal.loop-round-preserved
loop-round-preserved c =
    written_more (λ r. inv_mix_columns (bytes_of (get_or c.args.round_keys.now (r + 1) []))) 9 c.loop-round.keys _ c.loop-round.round
    (omega arith) c.loop-round.invariant c.unmix_columns.ensures

pub returns : goal.returns
returns c r lt = c.loop-round.invariant.done r (omega arith)
