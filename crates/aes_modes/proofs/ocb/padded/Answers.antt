use Rattle.aes_modes.proofs.OcbSteps.{padded_from}
use Rattle.aes_modes.proofs.ocb.padded.Goals as goal

pub returns : goal.returns
returns c = padded_from c.args.rest.now _ c.requires.some c.requires.fits (c.copy_from_slice.ensures.after)
