use Rattle.std.proofs.Common.{◌+◌, get_or, []}
use Rattle.aes_block.{specs.{Columns.bytes_of, Aes.inv_mix_columns}, proofs.WordBytes.Written}
use Rattle.aes_block.proofs.schedule.write_unmixed_keys.Given as goal

abbrev pub invariant-loop-round : goal.invariant-loop-round
invariant-loop-round l = Written (λ r. inv_mix_columns (bytes_of (get_or l.round_keys (r + 1) []))) 9 l.keys l.round
