use Rattle.std.proofs.Common.{◌≡◌, ◌+◌, take, drop}
use Rattle.key_wrap.{specs.KeyWrap.wrap_pass, proofs.Steps.wrapping}
use Rattle.key_wrap.proofs.passes.wrap_pass.Given as goal

abbrev pub invariant-loop-i : goal.invariant-loop-i
invariant-loop-i l =
    wrapping l.cipher l.check (l.first_step + l.i) (take l.i l.blocks) (drop l.i l.blocks)
    ≡ wrap_pass l.cipher l.fn.check l.first_step l.fn.blocks
