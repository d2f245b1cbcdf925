-- What reads of bytes do on the way to an answer, and why a reader has ended, as the answer that it gives.
use Rattle.std.specs.Prelude.{◌≡◌, ℕ, ◌+◌, ◌<◌, ◌≤◌, List, [], ◌++◌, length, nat_le, if◌then◌else◌, None, IfSome}
use Rattle.{agent_ports.specs.{Counts.Rose, Sides.{Side, followed_by}}, assuan_text.specs.declared.TheConstants.MAX_LINE_LEN}
use Rattle.assuan_line.specs.{Ahead.bytes_ahead, Lines.after_line, Next.{Reader, next_of, TakesWhatItNeeds}, declared.{buffer.Ahead.Ahead, reader.{Took.Took, Stop.{Stop, TheVariants.{TooLong, End, Spent, ReadFault}}}}}
use Rattle.assuan_line.specs.declared.reader.Took.TheVariants as took

abbrev pub took_of : Stop → Took
took_of TooLong = took.TooLong
took_of End = took.End
took_of Spent = took.Spent
took_of ReadFault = took.ReadFault

-- the line, or that it is too long
abbrev pub line_or_too_long : List ℕ → Took
line_or_too_long line = if nat_le (length line) MAX_LINE_LEN then took.Line line else took.TooLong

-- a reader that holds these bytes, may take so many more, and hasn't ended
abbrev pub reader_at : Ahead → ℕ → Reader
reader_at ahead left = record { ahead = bytes_ahead ahead; left = left; ended = None }

-- a reader before its answer is known
abbrev pub unended : Reader → Reader
unended reader = record { ahead = reader.ahead; left = reader.left; ended = None }

-- all that was taken is ahead, each read was needed, and none went beyond the budget
pub record ReadAhead (before : Reader) (was : Side) (after : Reader) (is : Side) : Type 0 where
  pub taken : List ℕ
  pub ahead : after.ahead ≡ before.ahead ++ taken
  pub bytes : was.bytes ≡ followed_by taken is.bytes
  pub needed : TakesWhatItNeeds before.ahead taken []
  pub budget : before.left ≡ length taken + after.left
  pub faults : was.faults ≤ is.faults

-- what the bytes ahead decide, or why no more can be read though they decide nothing
abbrev pub Decides : Reader → Side → Took → Reader → Side → Type 0
Decides before was (took.Line line) after is = (next_of before.ahead ≡ took.Line line) × (after.ahead ≡ after_line before.ahead)
Decides before was took.TooLong after is = (next_of before.ahead ≡ took.TooLong) × (after.ahead ≡ before.ahead)
Decides before was took.End after is =
    (next_of before.ahead ≡ took.End) × (after.ahead ≡ before.ahead) × IfSome is.bytes (λ rest. rest ≡ []) × (0 < after.left)
Decides before was took.Spent after is = (next_of before.ahead ≡ took.End) × (after.ahead ≡ before.ahead) × (after.left ≡ 0)
Decides before was took.ReadFault after is =
    (next_of before.ahead ≡ took.End) × (after.ahead ≡ before.ahead) × (0 < after.left) × Rose was.faults is.faults

-- an answer, from what is ahead after the reads for it
pub record TakeLine (before : Reader) (was : Side) (answer : Took) (after : Reader) (is : Side) : Type 0 where
  pub middle : Reader
  pub read : ReadAhead before was middle is
  pub decides : Decides middle was answer after is
  pub budget : after.left ≡ middle.left
