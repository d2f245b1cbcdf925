use Rattle.std.proofs.Common.{ap, ◌∙◌}
use Rattle.aes_block.specs.Aes.{xor_of}
use Rattle.aes_modes.{specs.Ocb.partial_block, proofs.OcbSteps.{rest_none, no_rest_of, offset_after_none, rest_some}}
use Rattle.aes_modes.proofs.ocb.mask_rest.Goals as goal

pub returns-then-start-bytes : goal.returns-then-start-bytes
returns-then-start-bytes c = record {
  bytes = rest_none c.args.cipher.now c.args.before.now c.args.bytes.now c.if-start-bytes.true;
  last = offset_after_none c.args.cipher.now c.args.before.now (partial_block c.args.bytes.now) (no_rest_of c.args.bytes.now c.if-start-bytes.true);
}

pub returns : goal.returns
returns c =
    let star = c.xor-last.ensures ∙ ap (λ m. xor_of c.args.before.now m.star) c.requires in
    let r = rest_some c.args.cipher.now c.args.before.now c.args.bytes.now c.add.new.bytes c.encrypt.result c.xor-last.result
    c.if-start-bytes.false c.add.ensures c.encrypt.ensures star in
    record { bytes = r.bytes; last = r.last }
