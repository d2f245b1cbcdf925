use Rattle.std.{proofs.Common.{◌≡◌, drop, map}, specs.List.list_any}
use Rattle.agent_conf.specs.{Verdicts.is_ignored_by, Written.written}
use Rattle.agent_conf.proofs.verdict.is_ignored.Given as goal

-- the settings that are left decide
abbrev pub invariant-loop-setting : goal.invariant-loop-setting
invariant-loop-setting l =
    list_any (is_ignored_by l.name) (map written (drop l.setting-index l.before)) ≡ list_any (is_ignored_by l.name) (map written l.before)
