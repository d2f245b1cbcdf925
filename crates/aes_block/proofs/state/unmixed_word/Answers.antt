use Rattle.std.proofs.Common.{◌/◌}
use Rattle.aes_block.proofs.WordBytes.{restored_byte}
use Rattle.aes_block.proofs.state.unmixed_word.Goals as goal

pub returns : goal.returns
returns c =
    let w = c.args.word in
    rw (
      c.substitute.ensures,
      c.substitute-2.ensures,
      c.substitute-3.ensures,
      c.substitute-4.ensures,
      c.to_le_bytes.ensures,
      restored_byte w,
      restored_byte (w / 256),
      restored_byte (w / 65536),
      restored_byte (w / 16777216),
    )
    at c.unmixed_column.ensures
