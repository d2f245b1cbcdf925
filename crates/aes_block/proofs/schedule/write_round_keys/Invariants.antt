use Rattle.aes_block.{specs.Aes.round_key, proofs.WordBytes.Written}
use Rattle.aes_block.proofs.schedule.write_round_keys.Given as goal

abbrev pub invariant-loop-round : goal.invariant-loop-round
invariant-loop-round l = Written (round_key l.key) 11 l.keys l.round
