use Rattle.std.proofs.Common.{slice_index, ◌∙◌, sym}
use Rattle.aes_block.proofs.{Lists.literal, WordBytes.{four_words, word_of}}
use Rattle.aes_block.proofs.state.state_of.Goals as goal

pub returns : goal.returns
returns c =
    let b = slice_index c.args.block.now in
    let h = c.fits-block in
    four_words _ _ _ _ _ _ _ _
    (word_of _ (b 0) (b 1) (b 2) (b 3) (h 0) (h 1) (h 2) (h 3) c.from_le_bytes.ensures)
    (word_of _ (b 4) (b 5) (b 6) (b 7) (h 4) (h 5) (h 6) (h 7) c.from_le_bytes-2.ensures)
    (word_of _ (b 8) (b 9) (b 10) (b 11) (h 8) (h 9) (h 10) (h 11) c.from_le_bytes-3.ensures)
    (word_of _ (b 12) (b 13) (b 14) (b 15) (h 12) (h 13) (h 14) (h 15) c.from_le_bytes-4.ensures)
    ∙ sym (literal 16 c.args.block.now c.told-block)
