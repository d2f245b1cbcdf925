use Rattle.std.proofs.Common.{◌≡◌, ◌/◌, ◌∙◌, ap, arith, length, rules}
use Rattle.aes_modes.{specs.{Ocb.offset, Masks.cipher_of}, proofs.{OcbSteps.{mask_none, mask_more, masked_at_end}, ocb.mask_blocks.Goals.{in-Encrypt, in-Decrypt}}}
use Rattle.aes_modes.proofs.ocb.mask_blocks.Goals as goal

pub loop-i-init : goal.loop-i-init
loop-i-init c = mask_none (cipher_of c.args.direction c.args.cipher.now) c.args.cipher.now c.args.first.now c.args.bytes.now (λ k. omega (arith, c.type_inv.bytes k))

pub loop-i-preserved : goal.loop-i-preserved
loop-i-preserved c =
    let between : c.match-direction.between ≡ cipher_of c.args.direction c.args.cipher.now c.xor-block.result =
    elim c.match-direction.branch [ in-Encrypt w ↦ search rules | in-Decrypt w ↦ search rules ] in
    mask_more (cipher_of c.args.direction c.args.cipher.now) c.args.cipher.now c.args.first.now c.loop-i.offset c.loop-i.bytes c.args.bytes.now
    c.of_block.result c.xor-offset.result c.xor.result c.put_block.new.bytes c.loop-i.i
    (record { fits = omega arith; kept = omega arith; put = c.put_block.ensures })
    c.loop-i.invariant (c.of_block.ensures c.args.cipher.now c.requires) c.xor-offset.ensures
    (cc (between, c.xor.ensures, c.xor-block.ensures, c.block_at.ensures))

pub returns : goal.returns
returns c =
    let i : c.loop-i.i ≡ length c.args.bytes.now / 16 = omega arith in
    record {
      bytes = masked_at_end _ c.args.cipher.now c.args.first.now c.loop-i.offset c.loop-i.bytes c.args.bytes.now c.loop-i.i (omega arith) c.loop-i.invariant;
      offset = c.loop-i.invariant.offset ∙ ap (offset c.args.cipher.now c.args.first.now) i;
      old = c.loop-i.invariant.old;
    }
