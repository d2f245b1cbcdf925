use Rattle.std.proofs.Common.{◌≡◌, ◌+◌, ◌-◌, ◌*◌, length, ap, ◌∙◌, arith}
use Rattle.key_wrap.{specs.KeyWrap.{Registers, unwrap_pass}, proofs.Steps.{passes_less, passes_none}}
use Rattle.key_wrap.proofs.passes.unwrap_passes.Goals as goal

pub loop-pass-preserved : goal.loop-pass-preserved
loop-pass-preserved c =
    let now : Registers = record { check = c.loop-pass.check; blocks = c.loop-pass.blocks } in
    let before : c.loop-pass.pass ≡ c.loop-pass.pass - 1 + 1 = omega arith in
    passes_less c.args.cipher.now (length c.args.blocks.now) (c.loop-pass.pass - 1) now _ _
    (c.unwrap_pass-after.ensures
    ∙ ap (λ n. unwrap_pass c.args.cipher.now c.loop-pass.check (n * (c.loop-pass.pass - 1) + 1) c.loop-pass.blocks) c.loop-pass.auto.blocks)
    (rw before at c.loop-pass.invariant)

pub returns : goal.returns
returns c =
    let now : Registers = record { check = c.loop-pass.check; blocks = c.loop-pass.blocks } in
    passes_none c.args.cipher.now (length c.args.blocks.now) c.loop-pass.pass now _ (omega arith) c.loop-pass.invariant
