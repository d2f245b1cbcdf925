use Rattle.aes_modes.proofs.OcbMasks.{stretch_from}
use Rattle.aes_modes.proofs.masks.stretch.Goals as goal

pub returns : goal.returns
returns c =
    rw (c.copy_from_slice-3.ensures.after, c.copy_from_slice-4.ensures.after)
    (stretch_from c.args.top.now c.copy_from_slice.new.self c.copy_from_slice-2.new.self c.xor.result c.told-top
    c.copy_from_slice.ensures.after c.copy_from_slice-2.ensures.after c.xor.ensures)
