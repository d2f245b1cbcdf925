use Rattle.std.proofs.{Common.{◌≡◌, ◌∙◌, sym, arith, eq-eqb, length, subst}, lemmas.Bool.Decides.nat_tests}
use Rattle.aes_modes.proofs.Tags.{Seen, seen_more, seen_none, seen_some}
use Rattle.aes_modes.proofs.ocb.are_equal.Goals as goal

pub loop-byte-preserved : goal.loop-byte-preserved
loop-byte-preserved c = seen_more _ _ _ c.loop-byte.invariant

pub returns : goal.returns
returns c =
    let i : c.loop-byte.byte-index ≡ length c.args.left.now = omega (arith, c.told-left) in
    let s = subst (Seen c.xor.result c.loop-byte.differences) i c.loop-byte.invariant in
    let len = c.told-left ∙ sym c.told-right in (
      λ yes. let none : c.loop-byte.differences ≡ 0 = grind (arith, nat_tests) in seen_none c.args.left.now c.args.right.now c.xor.result _ len c.xor.ensures s none,
      λ same. eq-eqb _ _ (seen_some c.args.left.now c.args.right.now c.xor.result _ _ c.xor.ensures s same),
    )
