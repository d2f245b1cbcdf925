use Rattle.std.{proofs.Common.{◌≡◌, drop, map}, specs.{Prelude.string_bytes, List.list_all}}
use Rattle.agent_top.specs.Options.{is_plain}
use Rattle.agent_top.proofs.words.options.all_plain.Given as goal

-- the words that are left decide
abbrev pub invariant-loop-word : goal.invariant-loop-word
invariant-loop-word l = list_all is_plain (map string_bytes (drop l.word-index l.words)) ≡ list_all is_plain (map string_bytes l.words)
