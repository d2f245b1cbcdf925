-- The children that a launcher starts, and those that were finished. This is the project's own.
use Rattle.std.specs.{Prelude.{◌≡◌, ℕ, List, [], ◌∷◌, ◌++◌, Option, Some, None, IfSome}, Option.option_map}
use Rattle.agent_ports.specs.Sides.{Side}

-- a child that was finished: the bytes that it still had to give, and those that it was written
pub record Finished : Type 0 where
  pub left : List ℕ
  pub written : List ℕ

-- A launcher at some point: the children to come, each as all the bytes that it gives, the programs that were launched, and
-- the children that were finished, in order, where they are known; and how many launches and children's calls failed.
pub record Launches : Type 0 where
  pub coming : Option (List (List ℕ))
  pub launched : Option (List (List ℕ))
  pub finished : Option (List Finished)
  pub faults : ℕ

-- a child with these bytes to give, and then those to come
abbrev pub child_then : Option (List ℕ) → Option (List (List ℕ)) → Option (List (List ℕ))
child_then (Some gives) (Some coming) = Some (gives ∷ coming)
child_then (Some gives) None = None
child_then None coming = None

-- the programs, and then this one
abbrev pub then_launched : Option (List (List ℕ)) → List ℕ → Option (List (List ℕ))
then_launched launched program = option_map (λ programs. programs ++ program ∷ []) launched

-- the finished ones, and then a child that has these bytes left to give and was written those
abbrev pub then_finished : Option (List Finished) → Option (List ℕ) → Option (List ℕ) → Option (List Finished)
then_finished (Some finished) (Some left) (Some written) = Some (finished ++ (record { left = left; written = written }) ∷ [])
then_finished (Some finished) (Some left) None = None
then_finished (Some finished) None written = None
then_finished None left written = None

-- a child that was just launched: nothing failed, and it was written nothing
pub record IsFresh (input output : Side) : Type 0 where
  pub no_read_failed : input.faults ≡ 0
  pub no_write_failed : output.faults ≡ 0
  pub unwritten : IfSome output.bytes (λ written. written ≡ [])
