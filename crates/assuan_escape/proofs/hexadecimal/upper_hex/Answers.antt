use Rattle.std.proofs.{Common.{length, take, ap, ◌∙◌, arith}, lemmas.List.length-take-le}
use Rattle.{assuan_text.specs.LineEnds.has_lf, percent_encoding.specs.Percent.percent_encode_byte}
use Rattle.assuan_escape.proofs.EscapeLemmas.{length_hex_text, has_lf_hex_text}
use Rattle.assuan_escape.proofs.hexadecimal.upper_hex.Goals as goal

pub unwrap-requires : goal.unwrap-requires
unfolding percent_encode_byte
unwrap-requires c =
    let done = ap length c.loop-byte.invariant ∙ length_hex_text (take c.loop-byte.byte-index c.args.bytes.now) in
    let two = ap length c.as_bytes-escape.ensures.value ∙ ap length c.percent_encode_byte.ensures in
    c.try_extend_from_slice.ensures.variant.1 (omega (arith, done, two, length-take-le c.loop-byte.byte-index c.args.bytes.now (omega arith)))

pub returns-clause-length : goal.returns-clause-length
returns-clause-length c =
    let done = ap length c.loop-byte.invariant ∙ length_hex_text (take c.loop-byte.byte-index c.args.bytes.now) in
    omega (arith, done, length-take-le c.loop-byte.byte-index c.args.bytes.now (omega arith))

pub returns-clause-one_line : goal.returns-clause-one_line
returns-clause-one_line c = ap has_lf c.loop-byte.invariant ∙ has_lf_hex_text (take c.loop-byte.byte-index c.args.bytes.now)
