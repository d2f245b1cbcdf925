use Rattle.std.proofs.Common.{◌≡◌, ◌+◌, take, drop}
use Rattle.key_wrap.proofs.Steps.{unwrapping}
use Rattle.key_wrap.proofs.passes.unwrap_pass.Given as goal

abbrev pub invariant-loop-i : goal.invariant-loop-i
invariant-loop-i l =
    record { check = l.check; blocks = l.blocks }
    ≡ unwrapping l.cipher l.fn.check (l.first_step + l.i) (take l.i l.fn.blocks) (drop l.i l.fn.blocks)
