use Rattle.std.{proofs.Common.{ap, ◌∙◌, sym, add-one, arith, ◌≡◌}, specs.Int.{w64, trailing_zeros}}
use Rattle.aes_modes.specs.Ocb.{double, l_mask}
use Rattle.aes_modes.proofs.masks.Masks.of_block.Goals as goal

pub loop-init : goal.loop-init
loop-init c key h = ap (λ m. m.first) h

pub loop-preserved : goal.loop-preserved
unfolding l_mask
loop-preserved c key h = c.double-mask.ensures ∙ ap double (c.loop.invariant key h) ∙ ap (l_mask key) (sym (add-one c.loop.counter))

pub returns : goal.returns
returns c key h =
    let all : c.loop.counter ≡ trailing_zeros w64 c.args.number = omega arith in
    c.loop.invariant key h ∙ ap (l_mask key) all
