use Rattle.aes_modes.proofs.OcbMasks.{first_from}
use Rattle.aes_modes.proofs.masks.first_offset.Goals as goal

pub returns : goal.returns
returns c =
    first_from c.args.cipher.now c.args.nonce.now c.copy_from_slice.new.self c.encrypt.result c.stretch.result c.block_from.result c.told-nonce
    c.copy_from_slice.ensures.after c.encrypt.ensures c.stretch.ensures c.block_from.ensures
