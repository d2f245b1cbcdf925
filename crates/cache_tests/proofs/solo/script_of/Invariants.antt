use Rattle.std.specs.Prelude.{map}
use Rattle.agent_core.specs.Foreigners.{AllForeign}
use Rattle.cache_tests.proofs.solo.script_of.Given as goal

abbrev pub invariant-loop-told : goal.invariant-loop-told
invariant-loop-told l = AllForeign (record { pass = 0; count = 0 }) (map (λ list. list.items) l.script.items)
