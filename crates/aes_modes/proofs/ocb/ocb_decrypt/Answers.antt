use Rattle.std.{proofs.Common.{◌≡◌, ap, ap₂, ◌∙◌, sym, length, refl}, specs.Prelude.{IsTrue, false, replicate}}
use Rattle.aes_block.specs.Aes.{IsBytes, decrypted}
use Rattle.aes_modes.{specs.Ocb.{masked, first_offset, ocb_encrypted, ocb_decrypted, ocb_tag}, proofs.{OcbSteps.{tag_from, last_offset_length}, OcbUndone.{ocb_decrypted_ocb_encrypted, ocb_encrypted_ocb_decrypted}}}
use Rattle.aes_modes.proofs.ocb.ocb_decrypt.Goals.{then-not-is_own, else-not-is_own}
use Rattle.aes_modes.proofs.ocb.ocb_decrypt.Goals as goal

pub returns : goal.returns
unfolding ocb_decrypted
returns c =
    let key = c.args.key.now in
    let nonce = c.args.nonce.now in
    let assoc = c.args.assoc.now in
    let old = c.args.bytes.now in
    let now = c.mask-last.new.bytes in
    let same = c.new-cipher.ensures in
    let first = c.first_offset-first.ensures in
    let is_key : IsBytes 16 key = record { len = c.told-key; small = c.fits-key } in
    let plain : now ≡ ocb_decrypted key nonce old =
    c.mask-last.ensures.bytes ∙ ap₂ (λ k f. masked (decrypted k) k f old) same (first ∙ ap (λ k. first_offset k nonce) same) in
    let last = c.mask-last.ensures.last ∙ last_offset_length c.new-cipher.result c.first_offset-first.result old now (sym c.mask-last.auto.bytes) in
    let own : c.tag_of-own_tag.result ≡ ocb_tag key nonce assoc now =
    tag_from key nonce assoc now c.new-cipher.result c.first_offset-first.result c.checksum-sum.result c.mask-last.result c.tag_of-own_tag.result
    same first c.checksum-sum.ensures last c.tag_of-own_tag.ensures in
    let own_plain = own ∙ ap (ocb_tag key nonce assoc) plain in
    let kept : IsTrue c.are_equal-is_own.result → c.if-not-is_own.bytes ≡ now =
    elim c.if-not-is_own.branch [ then-not-is_own w ↦ λ yes. cc | else-not-is_own w ↦ λ yes. w.bytes-is ] in
    let wiped : c.are_equal-is_own.result ≡ false → c.if-not-is_own.bytes ≡ replicate (length old) 0 =
    elim c.if-not-is_own.branch [ then-not-is_own w ↦ λ no. w.bytes-is ∙ w.wipe.ensures ∙ ap (λ n. replicate n 0) c.mask-last.auto.bytes | else-not-is_own w ↦ λ no. cc ] in
    record {
      opens = (λ yes. sym own_plain ∙ c.are_equal-is_own.ensures.0 yes, λ e. c.are_equal-is_own.ensures.1 (own_plain ∙ e));
      plain = λ yes. kept yes ∙ plain;
      zeros = wiped;
      undoes = λ p b e t.
          let undone : now ≡ p = plain ∙ ap (ocb_decrypted key nonce) e ∙ ocb_decrypted_ocb_encrypted key nonce p is_key (record { len = refl; small = b.small }) in
          let yes = c.are_equal-is_own.ensures.1 (own ∙ ap (ocb_tag key nonce assoc) undone ∙ sym t) in
          (yes, kept yes ∙ undone);
      encrypted = λ yes. (
        sym (ocb_encrypted_ocb_decrypted key nonce old is_key c.mask-last.ensures.old) ∙ ap (ocb_encrypted key nonce) (sym (kept yes ∙ plain)),
        sym (c.are_equal-is_own.ensures.0 yes) ∙ own ∙ ap (ocb_tag key nonce assoc) (sym (kept yes)),
      );
    }
