use Rattle.std.proofs.Common.{refl, ◌∙◌, ◌%◌, ap, arith}
use Rattle.aes_modes.{specs.Cbc.cbc_decrypted, proofs.{Chains.{decrypt_more, decrypted_at_end}, Undone.cbc_decrypted_cbc_encrypted}}
use Rattle.aes_modes.proofs.cbc.cbc_decrypt.Goals as goal

pub loop-i-preserved : goal.loop-i-preserved
loop-i-preserved c =
    rw c.block_at-encrypted.ensures
    (decrypt_more c.args.key.now c.loop-i.previous c.loop-i.bytes c.xor-plain.result c.put_block.new.bytes _ c.loop-i.i
    (record { fits = omega arith; kept = omega arith; put = c.put_block.ensures })
    (cc (c.new-cipher.ensures, c.xor-plain.ensures, c.decrypt.ensures.value, c.block_at-encrypted.ensures))
    c.loop-i.invariant)

pub returns-clause-value : goal.returns-clause-value
returns-clause-value c = decrypted_at_end c.args.key.now c.loop-i.previous c.loop-i.bytes _ c.loop-i.i (omega arith) c.loop-i.invariant

pub returns-clause-undoes : goal.returns-clause-undoes
returns-clause-undoes c plain h e =
    returns-clause-value c
    ∙ ap (cbc_decrypted c.args.key.now c.args.iv.now) e
    ∙ cbc_decrypted_cbc_encrypted c.args.key.now c.args.iv.now plain
    (record { len = c.told-key; small = c.fits-key }) (record { len = c.told-iv; small = c.fits-iv })
    (record { len = refl; small = h.small }) (ap (λ n. n % 16) h.len ∙ c.requires)
