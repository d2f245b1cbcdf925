-- The actions of a request on the cache, over the lines that this project's server reads.
use Rattle.std.specs.Prelude.{ℕ, List, codes}
use Rattle.{agent_ask.specs.Session.{ClientActions.{AsksClient, Writes}, PortCalls.EventOf, Actions.ActionOf}, assuan_server.specs.{Clients.session_lines, Written.limit_line}, cache_policy.specs.declared.secret.TheConstants.MAX_SECRET_LEN}

abbrev pub CacheEvent : Type 0
CacheEvent = EventOf session_lines

abbrev pub CacheAction : Type 0 → Type 1
CacheAction A = ActionOf CacheEvent A

-- how long a passphrase may be is told before the client is asked for it
abbrev pub AsksPassphrase : CacheAction (List ℕ)
AsksPassphrase = AsksClient session_lines (limit_line MAX_SECRET_LEN) (codes "PASSPHRASE") MAX_SECRET_LEN

abbrev pub TellsLimit : CacheAction (Unit {0})
TellsLimit = Writes (limit_line MAX_SECRET_LEN)
