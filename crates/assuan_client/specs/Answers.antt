-- The one answer to a command: what the child's lines up to the next end come to.
use Rattle.std.specs.Prelude.{◌≡◌, ◌≢◌, ◌≤◌, ◌<◌, ◌+◌, ℕ, List, [], false, length, nat_le, ◌==◌, if◌then◌else◌, Option, Some, None}
use Rattle.{agent_ports.specs.Counts.Rose, cache_policy.specs.declared.secret.TheConstants.MAX_SECRET_LEN, assuan_escape.specs.DataLines.carried, assuan_line.specs.{Next.Reader, Reading.HasRead, Skipping.{IsUndecided, ReadsAfter}}}
use Rattle.assuan_line.specs.declared.reader.Took.{Took}
use Rattle.assuan_client.specs.{declared.{tally.TheConstants.MAX_NOTES, answer.{Answer.{Answer, TheVariants.{Ok, Got, Err, Asked, Broken, ReadFault, WriteFault}}, State.State}}, Connections.Connection, Forms.answer_form}
use Rattle.assuan_client.specs.Skipping.{Tally, nothing, with_lines, with_inquiry, skips, skips_after}
use Rattle.assuan_line.specs.declared.breach.Breach.TheVariants as breach
use Rattle.assuan_line.specs.declared.reader.Took.TheVariants as took
use Rattle.assuan_client.specs.Forms as form
use Rattle.assuan_client.specs.declared.answer.State.TheVariants as turn

-- the answer by the line that isn't skipped, or by the end of the lines, where this came before it
pub data Says (tally : Tally) : Took → Answer → Type 0 where
  ok : {line : List ℕ} → answer_form line ≡ form.Ok → length tally.bytes ≡ 0 → Says tally (took.Line line) Ok
  got : {line : List ℕ} → answer_form line ≡ form.Ok → 0 < length tally.bytes → Says tally (took.Line line) (Got tally.bytes)
  err : {line : List ℕ} {number : ℕ} → answer_form line ≡ form.Err number → Says tally (took.Line line) (Err number)
  asked : {line word text : List ℕ} → answer_form line ≡ form.Inquiry word text → tally.notes < MAX_NOTES → Says tally (took.Line line) (Asked word text)
  -- it is the 10,001st comment, status line or inquiry
  many_notes : {line : List ℕ} → answer_form line ≡ form.Note → MAX_NOTES ≤ tally.notes → Says tally (took.Line line) (Broken breach.Many)
  many_inquiries : {line word text : List ℕ} → answer_form line ≡ form.Inquiry word text → MAX_NOTES ≤ tally.notes → Says tally (took.Line line) (Broken breach.Many)
  -- it has the 256th byte
  too_much : {line : List ℕ} → answer_form line ≡ form.Data → MAX_SECRET_LEN < length tally.bytes + length (carried line) → Says tally (took.Line line) (Broken breach.TooMuch)
  foreign : {line : List ℕ} → answer_form line ≡ form.Foreign → Says tally (took.Line line) (Broken (breach.Line line))
  ended : Says tally took.End (Broken breach.Ended)
  too_long : Says tally took.TooLong (Broken breach.TooLong)
  spent : Says tally took.Spent (Broken breach.Spent)
  read_fault : Says tally took.ReadFault ReadFault

-- the answer by OK, and by an inquiry
abbrev pub success_of : List ℕ → Answer
success_of bytes = if length bytes == 0 then Ok else Got bytes

abbrev pub inquiry_after : Tally → List ℕ → List ℕ → Answer
inquiry_after tally word text = if nat_le (tally.notes + 1) MAX_NOTES then Asked word text else Broken breach.Many

-- it is no line that is skipped
abbrev pub IsStop : Tally → Took → Type 0
IsStop tally (took.Line line) = skips tally (answer_form line) (length (carried line)) ≡ false
IsStop tally _ = Unit {0}

-- an answer over these bytes, where this came before them in the command, with what has come then and how the reader stands
pub record Answers (tally : Tally) (bytes : List ℕ) (took : Took) (answer : Answer) (after : Tally) (reader : Reader) (left : List ℕ) : Type 0 where
  pub lines : List (List ℕ)
  pub reads : ReadsAfter (skips_after tally) [] lines bytes took reader left
  pub says : Says (with_lines tally lines) took answer
  pub asked : (word text : List ℕ) → answer ≡ Asked word text → after ≡ with_inquiry (with_lines tally lines)

-- how a connection stands after an answer
abbrev pub state_after : Answer → State
state_after Ok = turn.Ready
state_after (Got secret) = turn.Ready
state_after (Err number) = turn.Ready
state_after (Asked word text) = turn.Asked
state_after (Broken why) = turn.Broken
state_after ReadFault = turn.Broken
state_after WriteFault = turn.Broken

-- how the reader has ended by an answer
abbrev pub ended_of : Answer → Option Took
ended_of (Broken breach.Ended) = Some took.End
ended_of (Broken breach.TooLong) = Some took.TooLong
ended_of (Broken breach.Spent) = Some took.Spent
ended_of ReadFault = Some took.ReadFault
ended_of _ = None

-- Lines were read up to an answer, where this came before them in the command.
pub record ReadOn (tally : Tally) (answer : Answer) (before after : Connection) : Type 0 where
  pub took : Took
  pub read : HasRead (IsUndecided (skips_after tally) []) (λ bytes took reader left. Answers tally bytes took answer after.tally reader left) before.reader before.input took after.reader after.input
  pub ended : after.reader.ended ≡ ended_of answer
  pub fault : answer ≡ ReadFault → Rose before.input.faults after.input.faults
  pub no_write : answer ≢ WriteFault
  pub output : after.output ≡ before.output
  pub state : after.state ≡ state_after answer
  pub cleared : after.state ≢ turn.Asked → after.tally ≡ nothing
