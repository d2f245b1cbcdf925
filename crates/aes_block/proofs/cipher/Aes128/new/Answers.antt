use Rattle.std.proofs.Common.{◌+◌, ap, ◌∙◌, lit<, arith}
use Rattle.aes_block.{specs.Aes.inv_mix_columns, proofs.Words.round_key_zero}
use Rattle.aes_block.proofs.cipher.Aes128.new.Goals as goal

pub returns : goal.returns
returns c = c.write_round_keys.ensures 0 (lit< tt) ∙ round_key_zero c.args.key.now c.told-key

pub invariant_of-cipher : goal.invariant_of-cipher
invariant_of-cipher c =
    let e = c.write_round_keys.ensures 0 (lit< tt) ∙ round_key_zero c.args.key.now c.told-key in
    rw e (
      record { len = c.told-key; small = c.fits-key },
      c.write_round_keys.ensures,
      λ r lt. c.write_unmixed_keys.ensures r lt ∙ ap inv_mix_columns (c.write_round_keys.ensures (r + 1) (omega arith)),
    )
