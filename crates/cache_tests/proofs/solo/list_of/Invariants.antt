use Rattle.std.specs.List.{AllByRecursion}
use Rattle.agent_core.specs.Foreigners.{IsForeign}
use Rattle.cache_tests.proofs.solo.list_of.Given as goal

abbrev pub invariant-loop-told : goal.invariant-loop-told
invariant-loop-told l = AllByRecursion (IsForeign (record { pass = 0; count = 0 })) l.list.items
