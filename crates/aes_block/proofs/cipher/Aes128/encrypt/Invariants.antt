use Rattle.std.proofs.Common.{◌≡◌, ◌-◌}
use Rattle.aes_block.specs.{Columns.bytes_of, Aes.rounds}
use Rattle.aes_block.proofs.cipher.Aes128.encrypt.Given as goal

abbrev pub invariant-loop-round : goal.invariant-loop-round
invariant-loop-round l = bytes_of l.state ≡ rounds l.self l.block (l.round - 1)
