use Rattle.std.{proofs.Common.{map, ap, ◌∙◌}, specs.Char.to_ascii_uppercase}
use Rattle.hex.{specs.Hex.decode_of, proofs.HexLemmas.decode_of-encode_upper}
use Rattle.agent_ports.proofs.Digits.{map_encode_lower}
use Rattle.agent_ports.proofs.grip.digits_of.Goals as goal

pub returns-clause-digits : goal.returns-clause-digits
returns-clause-digits c =
    let written = rw c.unwrap.ensures at c.encode_to_slice.ensures.written in
    c.make_ascii_uppercase.ensures.after ∙ ap (map to_ascii_uppercase) (c.as_mut_slice.ensures.value ∙ written) ∙ map_encode_lower c.args.bytes.now

pub returns-clause-again : goal.returns-clause-again
returns-clause-again c = ap decode_of (returns-clause-digits c) ∙ decode_of-encode_upper c.args.bytes.now c.fits-bytes
