-- What is said to an agent in turn, and answered (Assuan manual, "client requests" and "server responses").
use Rattle.std.specs.{Prelude.{ℕ, List, [], ◌∷◌, codes}, List.flat_map}
use Rattle.{assuan_client.specs.{Answers.ReadOn, Connections.Connection, Skipping.nothing, Writing.{Command, Reply, cancel_text}, declared.answer.Answer.Answer}, assuan_text.specs.LineEnds.line_of}

pub data Said : Type 0 where
  -- nothing: the greeting is waited for
  Hello : Said
  -- an option of the session
  OptionLine : List ℕ → Said
  -- the request
  Request : List ℕ → Said
  -- an inquiry is answered by no bytes
  End : Said
  -- an inquiry isn't answered
  Cancel : Said

-- what was said, and the answer
pub record Turn : Type 0 where
  pub said : Said
  pub answer : Answer

abbrev pub turn_of : Said → Answer → Turn
turn_of said answer = record { said = said; answer = answer }

-- the bytes that say it
abbrev pub text_of : Said → List ℕ
text_of Hello = []
text_of (OptionLine line) = line_of line
text_of (Request line) = line_of line
text_of End = line_of (codes "END")
text_of Cancel = cancel_text

-- the bytes of all turns
abbrev pub texts_of : List Turn → List ℕ
texts_of turns = flat_map (λ turn. text_of turn.said) turns

-- It is said, and the agent's lines up to the next end come to this answer.
abbrev pub IsAnswered : Said → Answer → Connection → Connection → Type 0
IsAnswered Hello answer before after = ReadOn nothing answer before after
IsAnswered (OptionLine line) answer before after = Command (line_of line) nothing answer before after
IsAnswered (Request line) answer before after = Command (line_of line) nothing answer before after
IsAnswered End answer before after = Reply [] answer before after
IsAnswered Cancel answer before after = Command cancel_text before.tally answer before after

-- These turns are taken, one after another.
pub data AreTaken : Connection → List Turn → Connection → Type 0 where
  none : {now : Connection} → AreTaken now [] now
  one : {turn : Turn} {turns : List Turn} {before mid after : Connection} → IsAnswered turn.said turn.answer before mid → AreTaken mid turns after
      → AreTaken before (turn ∷ turns) after
