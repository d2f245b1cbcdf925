use Rattle.std.proofs.Common.{◌+◌, ◌*◌, length, refl, ap, ◌∙◌}
use Rattle.key_wrap.{specs.KeyWrap.{Registers, initial_value, wrap_pass, wrap_passes}, proofs.Steps.passes_more}
use Rattle.key_wrap.proofs.passes.wrap_passes.Goals as goal

pub loop-pass-init : goal.loop-pass-init
unfolding wrap_passes
loop-pass-init c = refl

pub loop-pass-preserved : goal.loop-pass-preserved
loop-pass-preserved c =
    let before : Registers = record { check = initial_value; blocks = c.args.blocks.now } in
    let now : Registers = record { check = c.loop-pass.check; blocks = c.loop-pass.blocks } in
    passes_more c.args.cipher.now (length c.args.blocks.now) c.loop-pass.pass before now _ c.loop-pass.invariant
    (c.wrap_pass-after.ensures
    ∙ ap (λ n. wrap_pass c.args.cipher.now c.loop-pass.check (n * c.loop-pass.pass + 1) c.loop-pass.blocks) c.loop-pass.auto.blocks)
