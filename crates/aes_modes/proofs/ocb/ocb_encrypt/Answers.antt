use Rattle.std.proofs.Common.{ap, ap₂, ◌∙◌}
use Rattle.aes_block.specs.Aes.{encrypted}
use Rattle.aes_modes.{specs.Ocb.{masked, first_offset, ocb_encrypted}, proofs.OcbSteps.tag_from}
use Rattle.aes_modes.proofs.ocb.ocb_encrypt.Goals as goal

pub returns : goal.returns
unfolding ocb_encrypted
returns c =
    let key = c.new-cipher.ensures in
    let first = c.first_offset-first.ensures in
    record {
      bytes = c.mask-last.ensures.bytes
          ∙ ap₂ (λ k f. masked (encrypted k) k f c.args.bytes.now) key (first ∙ ap (λ k. first_offset k c.args.nonce.now) key);
      tag = tag_from c.args.key.now c.args.nonce.now c.args.assoc.now c.args.bytes.now c.new-cipher.result c.first_offset-first.result c.checksum-sum.result
          c.mask-last.result c.tag_of-tag.result key first c.checksum-sum.ensures c.mask-last.ensures.last c.tag_of-tag.ensures;
    }
