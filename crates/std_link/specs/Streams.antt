-- Links over readers and writers of std. This is the project's own.
use Rattle.std.specs.Prelude.{ℕ, Bool}

-- a link over one stream that is read and written: whether it was read to its end, and how many reads and writes failed
pub record AtStream (S : Type 0) : Type 0 where
  pub stream : S
  pub ended : Bool
  pub read_faults : ℕ
  pub write_faults : ℕ

-- the same over a reader and a writer
pub record AtStdio (R W : Type 0) : Type 0 where
  pub reader : R
  pub writer : W
  pub ended : Bool
  pub read_faults : ℕ
  pub write_faults : ℕ
