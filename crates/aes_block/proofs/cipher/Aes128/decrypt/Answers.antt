use Rattle.std.proofs.Common.{◌≡◌, ◌+◌, ◌-◌, ℕ, List, length, ap, ap₂, arith, subst, ◌∙◌, lit<}
use Rattle.aes_block.{specs.{Columns.bytes_of, Aes.{IsBytes, xor_of, decrypted}}, proofs.{Rounds.{key_at, unmixed_key_at, inv_rounds_less, decrypted_first, decrypted_last}, Undone.decrypted_encrypted}}
use Rattle.aes_block.proofs.cipher.Aes128.decrypt.Goals as goal

pub loop-round-init : goal.loop-round-init
loop-round-init c =
    decrypted_first c.args.self.now c.args.block.now (bytes_of c.add-state.result)
    (c.add-state.ensures ∙ ap₂ xor_of c.state_of.ensures (key_at c.self.inside.round_keys c.args.self.now 10 c.self.invariant.1 c.self.view_is (lit< tt)))

pub loop-round-preserved : goal.loop-round-preserved
loop-round-preserved c =
    let n = c.loop-round.round - 1 in
    let len : length c.args.self.now ≡ 16 = subst (λ (k : List ℕ). length k ≡ 16) c.self.view_is c.self.invariant.0.len in
    let low : n - 1 + 1 ≡ n = omega arith in
    let k = unmixed_key_at c.self.inside.unmixed_keys _ c.args.self.now (n - 1) c.self.invariant.2 c.self.view_is (omega arith) in
    cc (inv_rounds_less c.args.self.now (bytes_of c.loop-round.state) n (omega arith) len, k, low)

pub returns-clause-value : goal.returns-clause-value
returns-clause-value c =
    c.block_of.ensures
    ∙ c.add.ensures
    ∙ ap₂ xor_of c.shift_and_restore.ensures (key_at c.self.inside.round_keys c.args.self.now 0 c.self.invariant.1 c.self.view_is (lit< tt))
    ∙ decrypted_last c.args.self.now c.args.block.now (bytes_of c.loop-round.state) (c.loop-round.round - 1) (omega arith) c.loop-round.invariant

pub returns-clause-undoes : goal.returns-clause-undoes
returns-clause-undoes c plain h e =
    returns-clause-value c
    ∙ ap (decrypted c.args.self.now) e
    ∙ decrypted_encrypted c.args.self.now plain (subst (λ (k : List ℕ). IsBytes 16 k) c.self.view_is c.self.invariant.0) h
