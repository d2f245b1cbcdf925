-- Reading on over lines that are skipped. Whether a line is one of them may depend on those that were skipped before it. This is the
-- project's own.
use Rattle.std.specs.Prelude.{◌≡◌, Bool, true, false, ℕ, List, [], ◌∷◌, ◌++◌, None}
use Rattle.assuan_line.specs.{Lines.after_line, Next.{next_of, Reader, IsNext}, declared.reader.Took.{Took, TheVariants.{Line, End}}}

-- The lines at the front of the bytes that are skipped, one after another, and the bytes from there on. The lines `before` were
-- skipped earlier.
pub data Skipped (skips : List (List ℕ) → List ℕ → Bool) : List (List ℕ) → List ℕ → List (List ℕ) → List ℕ → Type 0 where
  none : {before : List (List ℕ)} {bytes : List ℕ} → Skipped skips before bytes [] bytes
  one : {before lines : List (List ℕ)} {bytes later : List ℕ} (line : List ℕ) → next_of bytes ≡ Line line → skips before line ≡ true
      → Skipped skips (before ++ line ∷ []) (after_line bytes) lines later → Skipped skips before bytes (line ∷ lines) later

-- the bytes are lines that are skipped, and behind them neither a line nor one that is too long
pub record IsUndecided (skips : List (List ℕ) → List ℕ → Bool) (before : List (List ℕ)) (bytes : List ℕ) : Type 0 where
  pub lines : List (List ℕ)
  pub later : List ℕ
  pub skipped : Skipped skips before bytes lines later
  pub undecided : next_of later ≡ End

-- it is no line that is skipped behind these
abbrev pub Stops : (List (List ℕ) → List ℕ → Bool) → List (List ℕ) → Took → Type 0
Stops skips before (Line line) = skips before line ≡ false
Stops skips before _ = Unit {0}

-- what an answer says where these bytes were there, in the reader and in the source, and the source holds `left` after it
abbrev pub ReadsNext : List ℕ → Took → Reader → List ℕ → Type 0
ReadsNext bytes took after left = IsNext (record { ahead = []; left = 0; ended = None }) bytes took after left

-- what an answer says that comes after these lines, which are skipped
pub record ReadsAfter (skips : List (List ℕ) → List ℕ → Bool) (before lines : List (List ℕ)) (bytes : List ℕ) (took : Took) (after : Reader) (left : List ℕ) : Type 0 where
  pub later : List ℕ
  pub skipped : Skipped skips before bytes lines later
  pub stops : Stops skips (before ++ lines) took
  pub next : ReadsNext later took after left

-- the same, where a fact holds of all lines that were skipped
abbrev pub ReadsOn : (List (List ℕ) → List ℕ → Bool) → List (List ℕ) → (List (List ℕ) → Type 0) → List ℕ → Took → Reader → List ℕ → Type 0
ReadsOn skips before P bytes took after left =
    (lines : List (List ℕ)) × ReadsAfter skips before lines bytes took after left × P (before ++ lines)
