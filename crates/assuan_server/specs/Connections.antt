-- A connection as contracts see it.
use Rattle.std.specs.{Prelude.{◌≡◌, None}, Borrow.GName}
use Rattle.{agent_ports.specs.Sides.Side, assuan_line.specs.Next.Reader}

pub record Connection : Type 0 where
  -- which link it is that the connection holds
  pub link : GName
  -- both sides of the link
  pub input : Side
  pub output : Side
  -- what reads its lines
  pub reader : Reader

-- its reader hasn't ended
abbrev pub IsOpen : Connection → Type 0
IsOpen conn = conn.reader.ended ≡ None
