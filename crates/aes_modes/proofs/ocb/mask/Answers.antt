use Rattle.aes_modes.{specs.Masks.cipher_of, proofs.OcbSteps.masked_from}
use Rattle.aes_modes.proofs.ocb.mask.Goals as goal

pub returns : goal.returns
returns c =
    let m = masked_from (cipher_of c.args.direction c.args.cipher.now) c.args.cipher.now c.args.first.now c.args.bytes.now c.mask_blocks-last.new.bytes
    c.mask_blocks-last.result c.mask_rest.new.bytes c.mask_rest.result c.mask_blocks-last.auto.bytes c.mask_blocks-last.ensures.bytes c.mask_blocks-last.ensures.offset
    (record { bytes = c.mask_rest.ensures.bytes; last = c.mask_rest.ensures.last }) in
    record { bytes = m.bytes; last = m.last; old = c.mask_blocks-last.ensures.old }
