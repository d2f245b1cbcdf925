use Rattle.aes_block.{specs.Field.inv_sub_byte, proofs.{Computed.inv_sub_byte_lt, WordBytes.word_of}}
use Rattle.aes_block.proofs.state.restored_word.Goals as goal

pub returns : goal.returns
returns c =
    word_of c.from_le_bytes.result (inv_sub_byte c.args.a) (inv_sub_byte c.args.b) (inv_sub_byte c.args.c) (inv_sub_byte c.args.d)
    (inv_sub_byte_lt c.args.a c.ranges.a.fits) (inv_sub_byte_lt c.args.b c.ranges.b.fits) (inv_sub_byte_lt c.args.c c.ranges.c.fits) (inv_sub_byte_lt c.args.d c.ranges.d.fits)
    (rw (c.original.ensures, c.original-2.ensures, c.original-3.ensures, c.original-4.ensures) at c.from_le_bytes.ensures)
