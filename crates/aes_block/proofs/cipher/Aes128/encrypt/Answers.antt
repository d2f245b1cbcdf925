use Rattle.std.proofs.Common.{◌≡◌, ◌-◌, ap₂, ◌∙◌, arith, lit<}
use Rattle.aes_block.{specs.Aes.{xor_of, rounds, encrypted}, proofs.Rounds.{key_at, rounds_more}}
use Rattle.aes_block.proofs.cipher.Aes128.encrypt.Goals as goal

pub loop-round-init : goal.loop-round-init
unfolding rounds
loop-round-init c =
    c.add-state.ensures ∙ ap₂ xor_of c.state_of.ensures (key_at c.self.inside.round_keys c.args.self.now 0 c.self.invariant.1 c.self.view_is (lit< tt))

pub loop-round-preserved : goal.loop-round-preserved
loop-round-preserved c =
    let k = key_at c.self.inside.round_keys c.args.self.now c.loop-round.round c.self.invariant.1 c.self.view_is (omega arith) in
    cc (rounds_more c.args.self.now c.args.block.now c.loop-round.round c.loop-round.auto.round, k)

pub returns : goal.returns
unfolding encrypted
returns c =
    let k = key_at c.self.inside.round_keys c.args.self.now 10 c.self.invariant.1 c.self.view_is (lit< tt) in
    let e : c.loop-round.round - 1 ≡ 9 = omega arith in
    cc (k, e)
