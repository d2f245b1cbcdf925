-- What a write of a line leaves.
use Rattle.std.specs.Prelude.{◌≡◌, ◌^◌, ◌-◌, ℕ, min, List, length}
use Rattle.agent_ports.specs.{Sides.{Side, with_bytes}, Writing.StopsWriting, declared.link.Sent.{Sent, TheVariants.{All, Failed}}}

-- A write of these bytes failed: some first ones of them went, and are counted. The count stands still at the end of its type.
pub record HasCut (bytes : List ℕ) (before : Side) (count : ℕ) (after : Side) : Type 0 where
  pub stopped : StopsWriting bytes before after
  pub counted : count ≡ min (length stopped.sent) (2 ^ 64 - 1)

-- these bytes were written, or the write of them failed
abbrev pub HasSent : List ℕ → Side → Sent → Side → Type 0
HasSent bytes before All after = after.bytes ≡ with_bytes before.bytes bytes
HasSent bytes before (Failed count) after = HasCut bytes before count after
