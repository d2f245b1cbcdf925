-- What a write of a text leaves: it went whole, or stopped within the text.
use Rattle.std.specs.Prelude.{◌≡◌, ◌≤◌, ℕ, List, ◌++◌, Result, Ok, Err}
use Rattle.agent_ports.specs.{Counts.Rose, Sides.{Side, with_bytes}, declared.link.{Sent.{Sent, TheVariants.{All, Failed}}, WriteFault.WriteFault}}

-- whether all bytes went
abbrev pub whole_of : Sent → Result (Unit {0}) WriteFault
whole_of All = Ok tt
whole_of (Failed count) = Err (record {})

-- a write of this text failed within it, or at its end: some first bytes of it went
pub record StopsWriting (text : List ℕ) (before after : Side) : Type 0 where
  pub sent : List ℕ
  pub unsent : List ℕ
  pub split : text ≡ sent ++ unsent
  pub written : after.bytes ≡ with_bytes before.bytes sent
  pub rose : Rose before.faults after.faults

abbrev pub WentOrStopped : List ℕ → Side → Result (Unit {0}) WriteFault → Side → Type 0
WentOrStopped text before (Ok whole) after = after.bytes ≡ with_bytes before.bytes text
WentOrStopped text before (Err fault) after = StopsWriting text before after

-- a text was written, whole or in part
pub record Writes (text : List ℕ) (before : Side) (result : Result (Unit {0}) WriteFault) (after : Side) : Type 0 where
  pub went : WentOrStopped text before result after
  pub faults : before.faults ≤ after.faults
