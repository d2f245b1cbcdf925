use Rattle.std.specs.Prelude.{map}
use Rattle.agent_core.specs.Foreigners.{AllForeign}
use Rattle.agent_tests.proofs.script.script_of.Given as goal

abbrev pub invariant-loop-does : goal.invariant-loop-does
invariant-loop-does l = AllForeign (record { pass = 0; count = 0 }) (map (λ list. list.items) l.script.items)
