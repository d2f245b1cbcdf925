-- What a session reads from the bytes that are there: requests, and the lines that its inquiries take in between. The rules on
-- a line that is too long, on the budget and on faults are this project's own.
use Rattle.std.specs.{Prelude.{◌≡◌, ◌<◌, ◌+◌, ◌++◌, ℕ, Bool, List, [], length}, List.flat_map, Option.option_map_or}
use Rattle.assuan_line.specs.{Lines.after_line, Next.{Reader, next_of, IsCutShort, IsTooLong}, Skipping.{Skipped, Stops}, declared.reader.{Took.{Took, TheVariants.{Line, TooLong, End, Spent, ReadFault}}, TheConstants.BUDGET}}
use Rattle.{assuan_escape.specs.DataLines.carried, assuan_text.specs.Forms.is_ignored}
use Rattle.assuan_server.specs.Inquiries.{Outcome, ComesTo, is_skipped}

-- how many bytes a session may take
abbrev pub budget : ℕ
budget = BUDGET

-- how many bytes there were at the start, and how many of them may be taken
pub record Supply : Type 0 where
  pub total : ℕ
  pub budget : ℕ

-- the bytes that come next, where the source holds `left`: those ahead too, as long as lines may come
abbrev pub unread : Reader → List ℕ → List ℕ
unread reader left = option_map_or (λ _. left) reader.ended (reader.ahead ++ left)

-- a reader that may still take so many bytes, where the source holds `left`, began with this supply
abbrev pub IsSupply : Supply → Reader → List ℕ → Type 0
IsSupply supply reader left = supply.total + reader.left ≡ length left + supply.budget

-- The next line of these bytes, or what comes in its place, and the bytes from there on.
pub data Reads (supply : Supply) (bytes : List ℕ) : Took → List ℕ → Type 0 where
  line : {text : List ℕ} → next_of bytes ≡ Line text → Reads supply bytes (Line text) (after_line bytes)
  too_long : {rest : List ℕ} → IsTooLong [] bytes rest → Reads supply bytes TooLong rest
  -- the bytes ended before the budget was taken
  end : next_of bytes ≡ End → supply.total < supply.budget → Reads supply bytes End []
  -- the budget was taken, and what is left of it is neither a line nor too long
  spent : {rest : List ℕ} → IsCutShort [] bytes rest → supply.total ≡ supply.budget + length rest → Reads supply bytes Spent rest
  -- a read failed, and what is left of the bytes taken is neither a line nor too long
  fault : {rest : List ℕ} → IsCutShort [] bytes rest → supply.total < supply.budget + length rest → Reads supply bytes ReadFault rest

-- lines that are skipped, and what comes after them
pub record ReadsPast (skips : List (List ℕ) → List ℕ → Bool) (supply : Supply) (bytes : List ℕ) (lines : List (List ℕ)) (took : Took) (rest : List ℕ) : Type 0 where
  pub later : List ℕ
  pub skipped : Skipped skips [] bytes lines later
  pub stops : Stops skips lines took
  pub reads : Reads supply later took rest

-- the next request, or what comes in its place
abbrev pub ReadsRequest : Supply → List ℕ → Took → List ℕ → Type 0
ReadsRequest supply bytes took rest = (lines : List (List ℕ)) × ReadsPast (λ before line. is_ignored line) supply bytes lines took rest

-- what an inquiry comes to
pub record ReadsInquiry (supply : Supply) (limit : ℕ) (bytes : List ℕ) (outcome : Outcome) (rest : List ℕ) : Type 0 where
  pub lines : List (List ℕ)
  pub took : Took
  pub past : ReadsPast (λ before line. is_skipped line) supply bytes lines took rest
  pub comes_to : ComesTo limit (flat_map carried lines) took outcome
