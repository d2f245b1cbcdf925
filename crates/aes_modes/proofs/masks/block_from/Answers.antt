use Rattle.std.proofs.{Common.{◌+◌, ◌*◌, arith}, lemmas.List.FromFn.fill_by_all}
use Rattle.aes_modes.specs.Ocb.{block_from, eight_bits}
use Rattle.aes_modes.proofs.masks.block_from.Goals as goal

pub returns : goal.returns
unfolding block_from
returns c =
    fill_by_all (λ k. eight_bits c.args.bytes.now (c.args.bit + 8 * k)) c.loop-k.byte-items 16 0 c.loop-k-test.array_long
    (λ k lt. c.loop-k.invariant k (omega arith))
