use Rattle.std.proofs.Common.{◌≡◌, ◌*◌, ◌++◌, take, drop}
use Rattle.aes_modes.specs.Cbc.{cbc_encrypted}
use Rattle.aes_modes.proofs.cbc.cbc_encrypt.Given as goal

-- the blocks that are done, and what the others will be, make the whole
abbrev pub invariant-loop-i : goal.invariant-loop-i
invariant-loop-i l =
    take (16 * l.i) l.bytes ++ cbc_encrypted l.key l.previous (drop (16 * l.i) l.bytes) ≡ cbc_encrypted l.key l.iv l.fn.bytes
