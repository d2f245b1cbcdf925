use Rattle.aes_block.proofs.WordBytes.{state_bytes}
use Rattle.aes_block.proofs.state.block_of.Goals as goal

pub returns : goal.returns
returns c =
    rw (c.to_le_bytes.ensures, c.to_le_bytes-2.ensures, c.to_le_bytes-3.ensures, c.to_le_bytes-4.ensures)
    (state_bytes c.args.state.now c.told-state)
