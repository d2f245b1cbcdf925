-- What a read does to a reader of lines and to its source.
use Rattle.std.specs.Prelude.{◌≡◌, ◌≤◌, ◌<◌, ◌+◌, ◌⊎◌, ℕ, List, ◌++◌, length}
use Rattle.agent_ports.specs.{Counts.Rose, Sides.{Side, WhereKnown}}
use Rattle.assuan_line.specs.{Next.{Reader, WereNeeded, OnLine, held, ended_by}, declared.reader.Took.{Took, TheVariants.{Spent, ReadFault}}}

-- The facts of a read, of one line or of several. `Undecided bytes` says that these bytes decide no answer yet. `Reads bytes took
-- after left` is what an answer says where these bytes were there before it, in the reader and in the source, and the source holds
-- `left` after it.
pub record HasRead (Undecided : List ℕ → Type 0) (Reads : List ℕ → Took → Reader → List ℕ → Type 0) (before : Reader) (input : Side) (took : Took) (after : Reader) (input_after : Side) : Type 0 where
  pub known : WhereKnown input.bytes input_after.bytes (λ rest left. Reads (before.ahead ++ rest) took after left)
  -- it takes no byte beyond its budget
  pub budget : WhereKnown input.bytes input_after.bytes (λ rest left. length rest + after.left ≡ length left + before.left)
  -- it takes nothing, or what it needs, and of that one read at most more
  pub needed : WhereKnown input.bytes input_after.bytes (λ rest left. (rest ≡ left) ⊎ WereNeeded Undecided before.ahead rest left)
  -- a line uses up a byte at least
  pub progress : OnLine took (held after < held before)
  pub spent : took ≡ Spent → after.left ≡ 0
  pub fault : took ≡ ReadFault → Rose input.faults input_after.faults
  pub faults : input.faults ≤ input_after.faults
  pub ended : after.ended ≡ ended_by took
