-- A prompter behind a gate.

-- the gate is seen by tests alone
pub record Gated (P : Type 0) : Type 0 where
  pub prompter : P
