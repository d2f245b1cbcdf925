use Rattle.std.proofs.Common.{◌-◌, ◌∙◌, sym, arith, lit<}
use Rattle.aes_block.{specs.Aes.round_key, proofs.{Words.round_key_zero, WordBytes.written_more}}
use Rattle.aes_block.proofs.schedule.write_round_keys.Goals as goal

pub loop-round-init : goal.loop-round-init
loop-round-init c =
    written_more (round_key c.args.key.now) 11 c.args.keys.now _ 0 (lit< tt) (record { len = c.told-keys; done = λ k lt. absurd (omega arith) })
    (c.state_of.ensures ∙ sym (round_key_zero c.args.key.now c.told-key))

pub loop-round-preserved : goal.loop-round-preserved
loop-round-preserved c =
    written_more (round_key c.args.key.now) 11 c.loop-round.keys _ c.loop-round.round (omega arith) c.loop-round.invariant
    (c.next_round_key.ensures c.args.key.now c.told-key (c.loop-round.invariant.done (c.loop-round.round - 1) (omega arith)))

pub returns : goal.returns
returns c r lt = c.loop-round.invariant.done r (omega arith)
