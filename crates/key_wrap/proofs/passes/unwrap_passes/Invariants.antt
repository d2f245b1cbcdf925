use Rattle.std.proofs.Common.{◌≡◌, length}
use Rattle.key_wrap.specs.KeyWrap.{Registers, unwrap_passes}
use Rattle.key_wrap.proofs.passes.unwrap_passes.Given as goal

abbrev pub invariant-loop-pass : goal.invariant-loop-pass
invariant-loop-pass l =
    let before : Registers = record { check = l.fn.first; blocks = l.fn.blocks } in
    let now : Registers = record { check = l.check; blocks = l.blocks } in
    unwrap_passes l.cipher (length l.fn.blocks) l.pass now ≡ unwrap_passes l.cipher (length l.fn.blocks) 6 before
