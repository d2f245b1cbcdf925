use Rattle.std.{proofs.Common.{◌≡◌, length}, specs.{List.list_any, Str.bytes_eq}}
use Rattle.assuan_text.specs.Words.{words}
use Rattle.agent_conf.proofs.verdict.has_word.Given as goal

-- the words that are left decide
abbrev pub invariant-loop-next : goal.invariant-loop-next
invariant-loop-next l = list_any (bytes_eq l.word) (words l.rest) ≡ list_any (bytes_eq l.word) (words l.text)

abbrev pub decreases-loop-next : goal.decreases-loop-next
decreases-loop-next l = length l.rest
