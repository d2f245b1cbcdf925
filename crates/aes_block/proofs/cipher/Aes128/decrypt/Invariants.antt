use Rattle.std.proofs.Common.{◌≡◌, ◌-◌}
use Rattle.aes_block.{specs.{Columns.bytes_of, Aes.{inv_rounds, decrypted}}, proofs.Rounds.restored_of}
use Rattle.aes_block.proofs.cipher.Aes128.decrypt.Given as goal

abbrev pub invariant-loop-round : goal.invariant-loop-round
invariant-loop-round l = decrypted l.self l.block ≡ inv_rounds l.self (restored_of (bytes_of l.state)) (l.round - 1)
