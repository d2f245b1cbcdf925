use Rattle.std.proofs.Common.{◌≡◌, length}
use Rattle.key_wrap.specs.KeyWrap.{Registers, initial_value, wrap_passes}
use Rattle.key_wrap.proofs.passes.wrap_passes.Given as goal

abbrev pub invariant-loop-pass : goal.invariant-loop-pass
invariant-loop-pass l =
    let before : Registers = record { check = initial_value; blocks = l.fn.blocks } in
    let now : Registers = record { check = l.check; blocks = l.blocks } in
    now ≡ wrap_passes l.cipher (length l.fn.blocks) l.pass before
