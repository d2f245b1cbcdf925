use Rattle.std.proofs.{Common.{map, string_bytes, rules, arith}, lemmas.Grind.common_steps}
use Rattle.passphrase_words.proofs.words.operands_of.Goals as goal

pub returns-then-begins_with_dash : goal.returns-then-begins_with_dash
returns-then-begins_with_dash c = (first_of (search rules, grind (arith, common_steps)), map string_bytes c.in-Some.behind.now, first_of (search rules, grind (arith, common_steps)))
