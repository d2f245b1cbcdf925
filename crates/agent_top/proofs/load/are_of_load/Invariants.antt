use Rattle.std.proofs.Common.{◌≤◌, ◌*◌, ◌-◌}
use Rattle.agent_top.specs.Load.{AreOfWords, load_words, words_from}
use Rattle.agent_top.proofs.load.are_of_load.Given as goal

-- the words that are left decide, by the marks that are left
abbrev pub invariant-loop-request : goal.invariant-loop-request
invariant-loop-request l = record {
  within : l.moment ≤ 7 * l.request;
  made : AreOfWords l.moment (words_from (12800 - l.request) l.random) l.rest → AreOfWords 0 (load_words l.number) l.marks;
}
