-- What the next read of a line gives. What becomes of a line that is too long, and of one that the end cuts off, is
-- this project's own rule.
use Rattle.std.specs.Prelude.{◌≡◌, ℕ, ◌+◌, ◌<◌, ◌≤◌, ◌⊎◌, List, [], ◌++◌, length, take, nat_le, Option, Some, None, if◌then◌else◌}
use Rattle.assuan_text.specs.{LineEnds.has_lf, declared.TheConstants.MAX_LINE_LEN}
use Rattle.assuan_line.specs.{Lines.{first_line, after_line}, declared.{buffer.TheConstants.{MAX_AHEAD, MAX_UNDECIDED}, reader.Took.{Took, TheVariants.{Line, TooLong, End, Spent, ReadFault}}}}

-- the first line of the bytes, where a line feed is among the first 1,002 of them and the line has at most 1,000; too
-- long, where 1,002 bytes have no line feed, or the line is longer; the end in all other cases
unfoldable pub next_of : List ℕ → Took
next_of bytes =
    if has_lf (take MAX_UNDECIDED bytes)
    then (if nat_le (length (first_line bytes)) MAX_LINE_LEN then Line (first_line bytes) else TooLong)
    else (if nat_le MAX_UNDECIDED (length bytes) then TooLong else End)

-- a reader as contracts see it
pub record Reader : Type 0 where
  -- bytes that it took, and that belong to no line that it gave
  pub ahead : List ℕ
  -- how many bytes more it may take
  pub left : ℕ
  -- its last answer, where that was no line
  pub ended : Option Took

-- how a reader stands after an answer: each answer but a line is its last
abbrev pub ended_by : Took → Option Took
ended_by (Line line) = None
ended_by TooLong = Some TooLong
ended_by End = Some End
ended_by Spent = Some Spent
ended_by ReadFault = Some ReadFault

-- how many bytes a reader has and may take, together
abbrev pub held : Reader → ℕ
held reader = length reader.ahead + reader.left

-- a fact, where the answer is a line
abbrev pub OnLine : Took → Type 0 → Type 0
OnLine (Line line) P = P
OnLine _ P = Unit {0}

-- the bytes that were taken tell neither a line nor that one is too long
pub record IsCutShort (ahead rest left : List ℕ) : Type 0 where
  pub taken : List ℕ
  pub split : rest ≡ taken ++ left
  pub none : next_of (ahead ++ taken) ≡ End

-- the bytes that were taken tell that the line is too long
pub record IsTooLong (ahead rest left : List ℕ) : Type 0 where
  pub taken : List ℕ
  pub split : rest ≡ taken ++ left
  pub long : next_of (ahead ++ taken) ≡ TooLong

-- What an answer says: the source held `rest` before it, and holds `left` after it.
abbrev pub IsNext : Reader → List ℕ → Took → Reader → List ℕ → Type 0
IsNext before rest (Line line) after left =
    (next_of (before.ahead ++ rest) ≡ Line line) × (after.ahead ++ left ≡ after_line (before.ahead ++ rest))
IsNext before rest TooLong after left = IsTooLong before.ahead rest left
IsNext before rest End after left = (next_of (before.ahead ++ rest) ≡ End) × (left ≡ []) × (0 < after.left)
IsNext before rest Spent after left = IsCutShort before.ahead rest left × (after.left ≡ 0)
IsNext before rest ReadFault after left = IsCutShort before.ahead rest left × (0 < after.left)

-- Bytes were taken that were needed, and then those of one more read: what was there before that read decided nothing.
pub record WereNeeded (Undecided : List ℕ → Type 0) (ahead rest left : List ℕ) : Type 0 where
  pub early : List ℕ
  pub late : List ℕ
  pub split : rest ≡ early ++ (late ++ left)
  pub undecided : Undecided (ahead ++ early)
  pub few : length late ≤ MAX_AHEAD

-- What an answer took from the source: nothing, or at most so many bytes more than it needed.
abbrev pub TakesWhatItNeeds : List ℕ → List ℕ → List ℕ → Type 0
TakesWhatItNeeds ahead rest left = (rest ≡ left) ⊎ WereNeeded (λ bytes. next_of bytes ≡ End) ahead rest left
