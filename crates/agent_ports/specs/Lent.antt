-- What is lent.
use Rattle.std.specs.Borrow.{GName}

-- a clock that was lent, and the name of the loan
pub record Lent (C : Type 0) : Type 0 where
  pub clock : C
  pub name : GName
