use Rattle.std.{proofs.Common.{◌∙◌, ap₂, arith}, specs.Int.Bits.xor_zero_r}
use Rattle.aes_block.{specs.Aes.xor_of, proofs.WordBytes.{to_le_bytes_xor, byte_word}}
use Rattle.aes_block.proofs.schedule.turned_word.Goals as goal

pub returns : goal.returns
returns c =
    to_le_bytes_xor _ _
    ∙ ap₂ xor_of (rw c.to_le_bytes.ensures at c.substituted_word.ensures) (byte_word _ (omega arith))
    ∙ rw (c.from.ensures, c.round_constant.ensures) (simp xor_zero_r)
