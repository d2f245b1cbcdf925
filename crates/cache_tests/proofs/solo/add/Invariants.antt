use Rattle.std.specs.List.{AllByRecursion}
use Rattle.agent_core.specs.Foreigners.{IsForeign}
use Rattle.cache_tests.proofs.solo.add.Given as goal

abbrev pub invariant-loop : goal.invariant-loop
invariant-loop l = AllByRecursion (IsForeign (record { pass = 0; count = 0 })) l.list.items
