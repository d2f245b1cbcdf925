use Rattle.std.{proofs.Common.{◌≡◌, ◌⊎◌, ℕ, List, map, IsSome, Contains}, specs.Process.{clears_env, command_var}}
use Rattle.child_environment.proofs.hand_on_all.Given as goal

-- what is set so far was set before, or is listed
abbrev pub invariant-loop-name : goal.invariant-loop-name
invariant-loop-name g l = (clears_env l.command ≡ clears_env l.fn.command)
    × ((name : List ℕ) → IsSome (command_var l.command name) → IsSome (command_var l.fn.command name) ⊎ Contains (map (λ listed. listed.now) l.names) name)
