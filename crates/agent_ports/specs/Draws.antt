-- Draws of random bytes. This is the project's own.
use Rattle.std.specs.{Prelude.{◌≡◌, ℕ, ◌≤◌, List, Bool, length, replicate}, Bool.{OnTrue, OnFalse}}
use Rattle.agent_ports.specs.{Counts.Rose, Sides.{Side, followed_by}}

-- A draw filled a buffer with the next bytes of the dice, or it failed: then the buffer has zeros, and no byte was taken.
pub record IsDrawn (before : Side) (filled : Bool) (buffer : List ℕ) (after : Side) : Type 0 where
  pub next : OnTrue filled (before.bytes ≡ followed_by buffer after.bytes)
  pub zeros : OnFalse filled (buffer ≡ replicate (length buffer) 0)
  pub kept : OnFalse filled (after.bytes ≡ before.bytes)
  pub failed : OnFalse filled (Rose before.faults after.faults)
  pub never_falls : before.faults ≤ after.faults
