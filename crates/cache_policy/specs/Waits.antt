-- Waits: since when a step of a session stands before a held seat, and when it has stood too long. The rule is this project's own.
use Rattle.std.specs.Prelude.{ℕ, ◌+◌, Bool, false, ◌&&◌, nat_eq, nat_le, Option, Some, None, if◌then◌else◌}
use Rattle.agent_ports.specs.declared.session.SessionId.{SessionId}
use Rattle.cache_policy.specs.declared.{bounds.TheConstants.MAX_WAIT, wait.Wait.Wait}

-- the sessions are one
abbrev pub is_session : SessionId → SessionId → Bool
is_session session other = nat_eq other.pass session.pass && nat_eq other.count session.count

-- the moment of a session's first try, by the wait that it hands in; another session's counts as none
abbrev pub since_by : SessionId → Option Wait → Option ℕ
since_by session None = None
since_by session (Some wait) = if is_session session wait.session then Some wait.since else None

-- a step with this since has stood too long at this moment; one without a since never has
abbrev pub is_late : Option ℕ → ℕ → Bool
is_late None moment = false
is_late (Some since) moment = nat_le (since + MAX_WAIT) moment
