use Rattle.std.{proofs.Common.{◌≡◌, drop, map}, specs.Option.{option_map, option_or}}
use Rattle.agent_conf.specs.{Settled.{last_of}, Written.written}
use Rattle.agent_conf.proofs.settled.last_of.Given as goal

-- the last among the settings that are left, or else the one before them
abbrev pub invariant-loop-setting : goal.invariant-loop-setting
invariant-loop-setting l =
    option_or (last_of (map (λ name. name.now) l.names) (map written (drop l.setting-index l.settings))) (option_map written l.last)
    ≡ last_of (map (λ name. name.now) l.names) (map written l.settings)
