use Rattle.aes_block.{specs.Field.sub_byte, proofs.{Computed.sub_byte_lt, WordBytes.word_of}}
use Rattle.aes_block.proofs.state.substituted_word.Goals as goal

pub returns : goal.returns
returns c =
    word_of c.from_le_bytes.result (sub_byte c.args.a) (sub_byte c.args.b) (sub_byte c.args.c) (sub_byte c.args.d)
    (sub_byte_lt c.args.a c.ranges.a.fits) (sub_byte_lt c.args.b c.ranges.b.fits) (sub_byte_lt c.args.c c.ranges.c.fits) (sub_byte_lt c.args.d c.ranges.d.fits)
    (rw (c.substitute.ensures, c.substitute-2.ensures, c.substitute-3.ensures, c.substitute-4.ensures) at c.from_le_bytes.ensures)
