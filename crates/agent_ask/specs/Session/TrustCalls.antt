-- The calls of the trust file, and what each does to it. This is the project's own.
use Rattle.std.specs.Prelude.{ℕ, List}
use Rattle.agent_ports.specs.{TrustFiles.{TrustState, ReadsTrust, ReplacesTrust}, declared.trust.{TrustDone.TrustDone, TrustRead.TrustRead}}

-- a call of the trust file, with its answer
pub data TrustCall : Type 0 where
  Read : TrustRead → TrustCall
  -- by a file of these bytes
  Replaced : List ℕ → TrustDone → TrustCall

-- what a call does to the trust file
abbrev pub DoesTrust : TrustState → TrustCall → TrustState → Type 0
DoesTrust before (Read answer) after = ReadsTrust before answer after
DoesTrust before (Replaced file answer) after = ReplacesTrust before file answer after
