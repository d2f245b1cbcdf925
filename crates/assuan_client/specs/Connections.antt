-- A client's connection as contracts see it.
use Rattle.std.specs.Prelude.{◌≡◌, ◌≢◌, None}
use Rattle.{agent_ports.specs.Sides.Side, assuan_line.specs.Next.Reader}
use Rattle.assuan_client.specs.{Skipping.Tally, declared.answer.State.{State, TheVariants.Broken}}

pub record Connection : Type 0 where
  -- both sides of the link
  pub input : Side
  pub output : Side
  -- what reads its lines
  pub reader : Reader
  -- what came in the command so far
  pub tally : Tally
  pub state : State

-- the reader hasn't ended as long as something may be said
abbrev pub IsReadable : State → Reader → Type 0
IsReadable state reader = state ≢ Broken → reader.ended ≡ None
