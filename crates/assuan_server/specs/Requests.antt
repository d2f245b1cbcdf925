-- Which lines are requests. That blanks, tabs and comments are passed over is this project's own rule, after the Assuan manual
-- ("client requests").
use Rattle.std.specs.Prelude.{◌≡◌, ℕ, List, []}
use Rattle.{assuan_line.specs.{Next.Reader, Reading.HasRead, Skipping.{IsUndecided, ReadsAfter}, declared.reader.Took.Took}, assuan_text.specs.Forms.is_ignored}
use Rattle.assuan_server.specs.Connections.{Connection}

-- the next request of these bytes: what comes after the lines that are ignored
abbrev pub IsNextRequest : List ℕ → Took → Reader → List ℕ → Type 0
IsNextRequest bytes took after left = (lines : List (List ℕ)) × ReadsAfter (λ before line. is_ignored line) [] lines bytes took after left

-- the next request was read, and the rest of the connection left alone
pub record NextRequest (before : Connection) (took : Took) (after : Connection) : Type 0 where
  pub read : HasRead (IsUndecided (λ lines line. is_ignored line) []) IsNextRequest before.reader before.input took after.reader after.input
  pub output : after.output ≡ before.output
  pub link : after.link ≡ before.link
