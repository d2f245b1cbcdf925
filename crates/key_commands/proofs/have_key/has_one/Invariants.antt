use Rattle.std.proofs.Common.{Result, drop}
use Rattle.{agent_ports.specs.KeyFiles.KeyFiles, session_client.specs.declared.refusal.Refusal.Refusal}
use Rattle.key_commands.{specs.{KeyActions.HasOne, Steps.DoesKeyCalls}, proofs.ListedKeys.grips_of}
use Rattle.key_commands.proofs.have_key.has_one.Given as goal

-- what is done for the grips that are left completes what is done for all
abbrev pub invariant-loop-bytes : goal.invariant-loop-bytes
invariant-loop-bytes g l =
    (result : Result (Unit {0}) Refusal) (after : KeyFiles) → DoesKeyCalls (HasOne (grips_of (drop l.bytes-index l.bytes-items))) (g.K.Keys.keys l.keys) result after
    → DoesKeyCalls (HasOne (grips_of l.bytes-items)) (g.K.Keys.keys l.initial.keys) result after
