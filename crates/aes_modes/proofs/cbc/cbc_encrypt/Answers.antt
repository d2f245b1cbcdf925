use Rattle.std.proofs.Common.{arith}
use Rattle.aes_modes.proofs.Chains.{encrypt_more, encrypted_at_end}
use Rattle.aes_modes.proofs.cbc.cbc_encrypt.Goals as goal

pub loop-i-preserved : goal.loop-i-preserved
loop-i-preserved c =
    encrypt_more c.args.key.now c.loop-i.previous c.loop-i.bytes c.encrypt-previous.result c.put_block.new.bytes _ c.loop-i.i
    (record { fits = omega arith; kept = omega arith; put = c.put_block.ensures })
    (cc (c.new-cipher.ensures, c.xor.ensures, c.block_at-plain.ensures))
    c.loop-i.invariant

pub returns : goal.returns
returns c = encrypted_at_end c.args.key.now c.loop-i.previous c.loop-i.bytes _ c.loop-i.i (omega arith) c.loop-i.invariant
