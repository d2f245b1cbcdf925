use Rattle.std.proofs.Common.{◌≡◌, ◌++◌, [], drop, map, take}
use Rattle.agent_conf.specs.{Told.told_by, Verdicts.told_from, Written.written}
use Rattle.agent_conf.proofs.told.told_of.Given as goal

-- what is told so far, and what is told of the settings that are left, are the whole
abbrev pub invariant-loop-index : goal.invariant-loop-index
invariant-loop-index l =
    map told_by l.told.items ++ told_from l.folders.home.items l.folders.user.now (map written (take l.index l.settings)) (map written (drop l.index l.settings))
    ≡ told_from l.folders.home.items l.folders.user.now [] (map written l.settings)
