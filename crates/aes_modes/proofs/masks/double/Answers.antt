use Rattle.std.{proofs.Common.{◌++◌, ap, ◌∙◌}, specs.Prelude.replicate}
use Rattle.aes_modes.{specs.Ocb.block_from, proofs.OcbMasks.doubled}
use Rattle.aes_modes.proofs.masks.double.Goals as goal

pub returns : goal.returns
returns c =
    doubled c.args.block.now c.block_from-doubled.result (c.fits-block 0)
    (c.block_from-doubled.ensures ∙ ap (λ s. block_from (s ++ replicate 8 0) 1) c.copy_from_slice.ensures.after)
