-- What is done for a request behind a call of the trust file that decides it: one that failed or found no memory, or by which a new file took the old
-- one's place. This is the project's own.
use Rattle.std.specs.Prelude.{◌≡◌, ℕ, List, [], ◌∷◌, Option, Some, None, ⊤}
use Rattle.{agent_ask.specs.Session.{PortCalls.Trust, SessionEvents.{Sent, Port, cache_turn}, TrustCalls.{TrustCall, Read, Replaced}}, assuan_server.specs.Written.{ok, failed}, cache_policy.specs.Turns.Turn}
use Rattle.{cache_policy.specs.declared.mark.MarkStep.TheVariants.Close, key_commands.specs.Events.Event}
use Rattle.agent_ports.specs.declared.trust.TrustDone.TheVariants as done
use Rattle.agent_ports.specs.declared.trust.TrustRead.TheVariants as read
use Rattle.session_client.specs.declared.code.Code.TheVariants as code

-- the line that answers a request which such a call decides
abbrev pub line_after : TrustCall → Option (List ℕ)
line_after (Read read.Failed) = Some (failed code.General)
line_after (Read read.NoMemory) = Some (failed code.NoMemory)
line_after (Replaced file done.Done) = Some ok
line_after (Replaced file done.Failed) = Some (failed code.General)
line_after (Replaced file done.NoMemory) = Some (failed code.NoMemory)
line_after _ = None

abbrev pub decided_line : Event → Option (List ℕ)
decided_line (Port (Trust call)) = line_after call
decided_line _ = None

-- a line, and before it at most the return of the ticket, by which nothing is kept
pub data IsLastLine (text : List ℕ) : List Event → Type 0 where
  alone : IsLastLine text (Sent text ∷ [])
  given_back : {ticket : ℕ} (turn : Turn) → IsLastLine text (cache_turn (Close ticket None) turn ∷ Sent text ∷ [])

-- behind each such call stands its line, and nothing else
abbrev pub EndsAtCalls : List Event → Type 0
EndsAtCalls [] = ⊤
EndsAtCalls (event ∷ later) = ((text : List ℕ) → decided_line event ≡ Some text → IsLastLine text later) × EndsAtCalls later
