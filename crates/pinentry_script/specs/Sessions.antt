-- A session of a scripted pinentry, from its file and the bytes that it reads to the bytes that it writes. How it ends is this
-- project's own.
use Rattle.std.specs.{Prelude.{◌≡◌, ◌≢◌, ◌≤◌, ◌<◌, ◌+◌, ℕ, List, [], ◌∷◌, ◌++◌, length}, List.{flat_map, fold}}
use Rattle.{agent_ports.specs.{Counts.Rose, Sides.{Side, with_bytes, WhereKnown}}, assuan_line.specs.{Lines.{after_line, pieces_of}, Next.{next_of, TakesWhatItNeeds, IsCutShort, IsTooLong}, declared.reader.TheConstants.BUDGET}}
use Rattle.assuan_text.specs.LineEnds.{line_of}
use Rattle.pinentry_script.specs.declared.{end.ScriptEnd.{ScriptEnd, TheVariants.{Bye, Ended, TooLong, Spent, ReadFault, WriteFault}}, response.Phrase.TheVariants.Greeting, session.Stage.{Stage, TheVariants.{Request, Closed}}}
use Rattle.pinentry_script.specs.{Entries.{Entry, entries_of, pid_of, answers_of}, Responses.phrase_text, Turns.{Turn, turn_of}}
use Rattle.assuan_line.specs.declared.reader.Took.TheVariants as took

-- what was said so far, and how the session stands
pub record Session : Type 0 where
  pub said : List (List ℕ)
  pub stage : Stage
  pub answers : List Entry

-- with what this turn brings
abbrev pub with_turn : List (List ℕ) → Turn → Session
with_turn said turn = record { said = said ++ turn.says; stage = turn.stage; answers = turn.answers }

-- after one more line
abbrev pub after_one : List ℕ → Session → List ℕ → Session
after_one number session line = with_turn session.said (turn_of number session.stage session.answers line)

-- the session that this file makes of these lines
abbrev pub session_of : List ℕ → List (List ℕ) → Session
session_of file lines =
    fold (after_one (pid_of (entries_of (pieces_of file))))
    (record { said = phrase_text Greeting ∷ []; stage = Request; answers = answers_of (entries_of (pieces_of file)) }) lines

-- these lines, each with its end
abbrev pub text_of : List (List ℕ) → List ℕ
text_of lines = flat_map line_of lines

-- The first lines of the bytes were read, one after another. Of the bytes behind them `ahead` were taken, and the source holds those behind.
pub data ReadsLines (bytes : List ℕ) : List (List ℕ) → List ℕ → List ℕ → Type 0 where
  none : ReadsLines bytes [] [] bytes
  more : {lines : List (List ℕ)} {ahead rest line later left : List ℕ} → ReadsLines bytes lines ahead rest → next_of (ahead ++ rest) ≡ took.Line line
      → TakesWhatItNeeds ahead rest left → later ++ left ≡ after_line (ahead ++ rest) → ReadsLines bytes (lines ++ line ∷ []) later left

-- Why a session ended. Behind its lines `ahead` were taken, and the source held `rest`; it holds `left` at the end, and held `total` bytes at first.
abbrev pub Leaves : ℕ → ScriptEnd → List ℕ → List ℕ → List ℕ → Type 0
Leaves total Bye ahead rest left = (rest ≡ left) × (total ≤ BUDGET + length left)
Leaves total WriteFault ahead rest left = (rest ≡ left) × (total ≤ BUDGET + length left)
Leaves total Ended ahead rest left = (next_of (ahead ++ rest) ≡ took.End) × (left ≡ []) × (total < BUDGET + length left)
Leaves total TooLong ahead rest left = IsTooLong [] (ahead ++ rest) left × TakesWhatItNeeds ahead rest left × (total ≤ BUDGET + length left)
Leaves total Spent ahead rest left = IsCutShort [] (ahead ++ rest) left × (total ≡ BUDGET + length left)
Leaves total ReadFault ahead rest left = IsCutShort [] (ahead ++ rest) left × (total < BUDGET + length left)

-- the last of the lines closes the session
pub data IsClosedBy (file : List ℕ) : List (List ℕ) → Type 0 where
  last_line : (lines : List (List ℕ)) (line : List ℕ) → (session_of file lines).stage ≢ Closed → (session_of file (lines ++ line ∷ [])).stage ≡ Closed
      → IsClosedBy file (lines ++ line ∷ [])

-- what went of the session's text where a write failed: the last that it says, in answer to its last line or as its greeting, was cut
pub data IsCut (file : List ℕ) : List (List ℕ) → List ℕ → Type 0 where
  greeting : {sent : List ℕ} (unsent : List ℕ) → line_of (phrase_text Greeting) ≡ sent ++ unsent → IsCut file [] sent
  answer : (lines : List (List ℕ)) (line part unsent : List ℕ) → (session_of file lines).stage ≢ Closed
      → text_of (session_of file (lines ++ line ∷ [])).said ≡ (text_of (session_of file lines).said ++ part) ++ unsent
      → IsCut file (lines ++ line ∷ []) (text_of (session_of file lines).said ++ part)

-- what was written of the session's text
abbrev pub Writes : List ℕ → List (List ℕ) → ScriptEnd → List ℕ → Type 0
Writes file lines Bye sent = (sent ≡ text_of (session_of file lines).said) × IsClosedBy file lines
Writes file lines WriteFault sent = IsCut file lines sent
Writes file lines Ended sent = (sent ≡ text_of (session_of file lines).said) × ((session_of file lines).stage ≢ Closed)
Writes file lines TooLong sent = (sent ≡ text_of (session_of file lines).said) × ((session_of file lines).stage ≢ Closed)
Writes file lines Spent sent = (sent ≡ text_of (session_of file lines).said) × ((session_of file lines).stage ≢ Closed)
Writes file lines ReadFault sent = (sent ≡ text_of (session_of file lines).said) × ((session_of file lines).stage ≢ Closed)

-- a session over a link, from its greeting to its end
pub record RunsSession (file : List ℕ) (input output : Side) (end : ScriptEnd) (input_after output_after : Side) : Type 0 where
  pub lines : List (List ℕ)
  pub sent : List ℕ
  pub writes : Writes file lines end sent
  pub written : output_after.bytes ≡ with_bytes output.bytes sent
  pub read : WhereKnown input.bytes input_after.bytes
      (λ bytes left. (ahead : List ℕ) × (rest : List ℕ) × ReadsLines bytes lines ahead rest × Leaves (length bytes) end ahead rest left)
  -- a fault is given only where its count has risen
  pub read_fault : end ≡ ReadFault → Rose input.faults input_after.faults
  pub write_fault : end ≡ WriteFault → Rose output.faults output_after.faults
  -- the counts never fall
  pub input_faults : input.faults ≤ input_after.faults
  pub output_faults : output.faults ≤ output_after.faults

abbrev pub status_of : ScriptEnd → ℕ
status_of Bye = 0
status_of Ended = 0
status_of ReadFault = 3
status_of WriteFault = 4
status_of Spent = 6
status_of TooLong = 7
