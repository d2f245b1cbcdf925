-- What a client writes (Assuan manual, "client requests"), and what comes of it.
use Rattle.std.specs.Prelude.{◌≡◌, ◌≢◌, ◌≤◌, ℕ, List, ◌++◌, codes}
use Rattle.{agent_ports.specs.{Sides.with_bytes, Writing.StopsWriting}, assuan_escape.specs.DataLines.{AreData, data_text}, assuan_text.specs.LineEnds.line_of}
use Rattle.assuan_client.specs.{Answers.{ReadOn, state_after}, Connections.Connection, Skipping.{Tally, nothing}, declared.answer.Answer.{Answer, TheVariants.WriteFault}}

-- the data lines of these pieces, and the line that ends them
abbrev pub reply_text : List (List ℕ) → List ℕ
reply_text pieces = data_text pieces ++ line_of (codes "END")

abbrev pub cancel_text : List ℕ
cancel_text = line_of (codes "CAN")

-- the bytes were written, and answered
pub record IsAnswered (bytes : List ℕ) (tally : Tally) (answer : Answer) (before after : Connection) : Type 0 where
  pub written : after.output.bytes ≡ with_bytes before.output.bytes bytes
  pub faults : before.output.faults ≤ after.output.faults
  pub answered : ReadOn tally answer (record { input = before.input; output = after.output; reader = before.reader; tally = before.tally; state = before.state }) after

-- the bytes weren't written whole, and nothing was read
pub record IsUnanswered (bytes : List ℕ) (before after : Connection) : Type 0 where
  pub cut : StopsWriting bytes before.output after.output
  pub input : after.input ≡ before.input
  pub reader : after.reader ≡ before.reader
  pub cleared : after.tally ≡ nothing

-- These bytes were written, or the write of them failed.
pub record Command (bytes : List ℕ) (tally : Tally) (answer : Answer) (before after : Connection) : Type 0 where
  pub answered : answer ≢ WriteFault → IsAnswered bytes tally answer before after
  pub unanswered : answer ≡ WriteFault → IsUnanswered bytes before after
  pub state : after.state ≡ state_after answer

-- The bytes were sent as data lines and END, or the write of these failed.
abbrev pub Reply : List ℕ → Answer → Connection → Connection → Type 0
Reply bytes answer before after =
    (pieces : List (List ℕ)) × AreData bytes pieces × Command (reply_text pieces) before.tally answer before after
