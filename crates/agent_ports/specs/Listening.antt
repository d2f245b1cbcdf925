-- What a listener gives. This is the project's own.
use Rattle.std.specs.Prelude.{◌≡◌, ⊤}
use Rattle.agent_ports.specs.{Sides.Side, declared.listener.Next.{Next, TheVariants.{Link, Failed, Stopped}}}

-- no read and no write of a link failed so far
pub record NothingFailed (input output : Side) : Type 0 where
  pub no_read : input.faults ≡ 0
  pub no_write : output.faults ≡ 0

-- a fact of the link that was given
module _ {L : Type 0} where
  abbrev pub IfLink : Next L → (L → Type 0) → Type 0
  IfLink (Link link) P = P link
  IfLink Failed P = ⊤
  IfLink Stopped P = ⊤

  -- a fact of the link that was given, and another one where none was
  abbrev pub MatchNext : Next L → (L → Type 0) → Type 0 → Type 0
  MatchNext (Link link) P Q = P link
  MatchNext Failed P Q = Q
  MatchNext Stopped P Q = Q
