use Rattle.std.proofs.{Common.{arith, ap, ◌∙◌}, lemmas.Bool.Decides.nat_tests}
use Rattle.aes_block.specs.Aes.{xor_of}
use Rattle.aes_modes.proofs.OcbSteps.{hash_none, hash_more, hash_whole, hash_padded}
use Rattle.aes_modes.proofs.ocb.hash.Goals as goal

pub loop-i-init : goal.loop-i-init
loop-i-init c = hash_none c.args.cipher.now c.as_chunks.result.0.now

pub loop-i-preserved : goal.loop-i-preserved
loop-i-preserved c =
    hash_more c.args.cipher.now c.loop-i.offset c.loop-i.sum c.of_block.result c.xor-offset.result c.xor-sum.result c.as_chunks.result.0.now c.loop-i.i
    (omega arith) c.loop-i.invariant (c.of_block.ensures c.args.cipher.now c.requires.masks) c.xor-offset.ensures
    (cc (c.xor-sum.ensures, c.encrypt.ensures, c.xor.ensures))

pub returns-then-is_empty : goal.returns-then-is_empty
returns-then-is_empty c =
    hash_whole c.args.cipher.now c.args.assoc.now c.loop-i.offset c.loop-i.sum c.as_chunks.result.1.now c.as_chunks.result.0.now c.loop-i.i
    c.as_chunks.ensures.front c.as_chunks.ensures.back (omega arith) c.loop-i.invariant (grind (arith, nat_tests))

pub returns : goal.returns
returns c =
    let star = c.xor-last.ensures ∙ ap (λ m. xor_of c.loop-i.offset m.star) c.requires.masks in
    hash_padded c.args.cipher.now c.args.assoc.now c.loop-i.offset c.loop-i.sum c.as_chunks.result.1.now c.padded.result c.xor-last.result _ c.as_chunks.result.0.now c.loop-i.i
    c.as_chunks.ensures.front c.as_chunks.ensures.back (omega arith) (omega arith) c.loop-i.invariant (grind (arith, nat_tests)) c.padded.ensures
    star (cc (c.xor-3.ensures, c.encrypt-2.ensures, c.xor-2.ensures))
