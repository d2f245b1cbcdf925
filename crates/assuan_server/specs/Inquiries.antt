-- Inquiries, as the Assuan manual has them ("server responses", INQUIRE): the client answers with data lines and END, or with
-- CAN. What is skipped between these, and what becomes of any other line, is this project's own rule.
use Rattle.std.specs.{Prelude.{◌≡◌, ◌<◌, ◌≤◌, ◌==◌, ◌||◌, Bool, ℕ, List, [], ◌++◌, length, map, codes, if◌then◌else◌, Option, Some, None, Result, Ok, Err}, List.{flat_map, before_first}, Char.to_ascii_lowercase}
use Rattle.{assuan_text.specs.{Forms.{is_data, is_idle}, Blanks.is_blank}, assuan_escape.specs.DataLines.carried, assuan_line.specs.{Next.Reader, Skipping.ReadsAfter, declared.reader.Took.Took}}
use Rattle.session_client.specs.declared.client_error.ClientError.{ClientError}
use Rattle.assuan_server.specs.declared.inquiry.{Dropped.Dropped, Inquired.Inquired, InquiredSecret.InquiredSecret}
use Rattle.assuan_line.specs.declared.reader.Took.TheVariants as took
use Rattle.session_client.specs.declared.client_error.ClientError.TheVariants as client_error
use Rattle.session_client.specs.declared.client_error.Gone.TheVariants as gone
use Rattle.assuan_server.specs.declared.inquiry.Dropped.TheVariants as dropped
use Rattle.assuan_server.specs.declared.inquiry.Inquired.TheVariants as inquired
use Rattle.assuan_server.specs.declared.inquiry.InquiredSecret.TheVariants as inquired_secret

-- the line that asks the client
abbrev pub inquire_text : List ℕ → List ℕ → List ℕ
inquire_text word params =
    if length params == 0 then codes "INQUIRE " ++ word else codes "INQUIRE " ++ word ++ codes " " ++ params

-- a line that an inquiry skips
abbrev pub is_skipped : List ℕ → Bool
is_skipped line = is_data line || is_idle line

-- The line begins with this word, in either case of its letters, which is given in lowercase. Further words are ignored.
abbrev pub IsWord : List ℕ → List ℕ → Type 0
IsWord word line = map to_ascii_lowercase (before_first is_blank line) ≡ word

-- what an inquiry comes to
pub data Outcome : Type 0 where
  Data : List ℕ → Outcome
  Cancelled : Outcome
  TooMuch : Outcome
  Unexpected : Outcome
  Ended : Outcome
  TooLong : Outcome
  Spent : Outcome
  ReadFault : Outcome

-- what it comes to where its data lines carried these bytes and this answer came after them
pub data ComesTo (limit : ℕ) (bytes : List ℕ) : Took → Outcome → Type 0 where
  can : {line : List ℕ} → IsWord (codes "can") line → ComesTo limit bytes (took.Line line) Cancelled
  end : {line : List ℕ} → IsWord (codes "end") line → length bytes ≤ limit → ComesTo limit bytes (took.Line line) (Data bytes)
  past : {line : List ℕ} → IsWord (codes "end") line → limit < length bytes → ComesTo limit bytes (took.Line line) TooMuch
  foreign : {line : List ℕ} → (IsWord (codes "can") line → ⊥) → (IsWord (codes "end") line → ⊥) → ComesTo limit bytes (took.Line line) Unexpected
  ended : ComesTo limit bytes took.End Ended
  too_long : ComesTo limit bytes took.TooLong TooLong
  spent : ComesTo limit bytes took.Spent Spent
  read_fault : ComesTo limit bytes took.ReadFault ReadFault

-- an inquiry over these bytes: what its lines came to, the answer after them, how the reader stands then, and what the source holds
pub record Inquiry (limit : ℕ) (bytes : List ℕ) (took : Took) (outcome : Outcome) (after : Reader) (left : List ℕ) : Type 0 where
  pub lines : List (List ℕ)
  pub reads : ReadsAfter (λ before line. is_skipped line) [] lines bytes took after left
  pub comes_to : ComesTo limit (flat_map carried lines) took outcome

-- how the reader has ended by what an inquiry came to: a line closes it, and leaves the reader open
abbrev pub ended_of : Outcome → Option Took
ended_of Ended = Some took.End
ended_of TooLong = Some took.TooLong
ended_of Spent = Some took.Spent
ended_of ReadFault = Some took.ReadFault
ended_of _ = None

-- a line of the client closed the inquiry
abbrev pub IsClosed : Outcome → Type 0
IsClosed (Data bytes) = Unit {0}
IsClosed Cancelled = Unit {0}
IsClosed TooMuch = Unit {0}
IsClosed Unexpected = Unit {0}
IsClosed _ = ⊥

-- END was read, within the limit or past it
abbrev pub IsAtEnd : Outcome → Type 0
IsAtEnd (Data bytes) = Unit {0}
IsAtEnd TooMuch = Unit {0}
IsAtEnd _ = ⊥

-- END was read within the limit
abbrev pub IsData : Outcome → Type 0
IsData (Data bytes) = Unit {0}
IsData _ = ⊥

-- What an answer says that the inquiry came to. It names nothing where there was no memory for the bytes, where they were dropped, or
-- where nothing was read.
abbrev pub outcome_of : Inquired → Option Outcome
outcome_of (inquired.Data bytes) = Some (Data bytes.items)
outcome_of inquired.Cancelled = Some Cancelled
outcome_of inquired.TooMuch = Some TooMuch
outcome_of inquired.Unexpected = Some Unexpected
outcome_of inquired.Ended = Some Ended
outcome_of inquired.TooLong = Some TooLong
outcome_of inquired.Spent = Some Spent
outcome_of inquired.ReadFault = Some ReadFault
outcome_of inquired.NoMemory = None
outcome_of inquired.WriteFault = None

abbrev pub outcome_of_secret : InquiredSecret → Option Outcome
outcome_of_secret (inquired_secret.Secret secret) = Some (Data secret)
outcome_of_secret inquired_secret.Cancelled = Some Cancelled
outcome_of_secret inquired_secret.TooMuch = Some TooMuch
outcome_of_secret inquired_secret.Unexpected = Some Unexpected
outcome_of_secret inquired_secret.Ended = Some Ended
outcome_of_secret inquired_secret.TooLong = Some TooLong
outcome_of_secret inquired_secret.Spent = Some Spent
outcome_of_secret inquired_secret.ReadFault = Some ReadFault
outcome_of_secret inquired_secret.WriteFault = None

abbrev pub outcome_of_dropped : Dropped → Option Outcome
outcome_of_dropped dropped.Done = None
outcome_of_dropped dropped.Cancelled = Some Cancelled
outcome_of_dropped dropped.TooMuch = Some TooMuch
outcome_of_dropped dropped.Unexpected = Some Unexpected
outcome_of_dropped dropped.Ended = Some Ended
outcome_of_dropped dropped.TooLong = Some TooLong
outcome_of_dropped dropped.Spent = Some Spent
outcome_of_dropped dropped.ReadFault = Some ReadFault
outcome_of_dropped dropped.WriteFault = None

-- and a client that gave a passphrase or took note, or else its error
abbrev pub error_outcome : ClientError → Option Outcome
error_outcome client_error.Cancelled = Some Cancelled
error_outcome client_error.TooMuch = Some TooMuch
error_outcome client_error.Unexpected = Some Unexpected
error_outcome (client_error.Gone gone.Ended) = Some Ended
error_outcome (client_error.Gone gone.TooLong) = Some TooLong
error_outcome (client_error.Gone gone.Spent) = Some Spent
error_outcome (client_error.Gone gone.ReadFault) = Some ReadFault
error_outcome (client_error.Gone gone.WriteFault) = None

abbrev pub secret_outcome : Result (List ℕ) ClientError → Option Outcome
secret_outcome (Ok secret) = Some (Data secret)
secret_outcome (Err error) = error_outcome error

abbrev pub drop_outcome : Result (Unit {0}) ClientError → Option Outcome
drop_outcome (Ok noted) = None
drop_outcome (Err error) = error_outcome error

-- an inquiry came to what is named, or else to something of this kind
abbrev pub Names : (Outcome → Type 0) → Option Outcome → Outcome → Type 0
Names Else (Some says) outcome = says ≡ outcome
Names Else None outcome = Else outcome

-- the answer of an inquiry that was read says so: where there was no memory for the bytes, END was read
abbrev pub Answers : Option Outcome → Outcome → Type 0
Answers says outcome = Names IsAtEnd says outcome

-- and where the bytes were dropped, END was read within the limit
abbrev pub AnswersDropped : Option Outcome → Outcome → Type 0
AnswersDropped says outcome = Names IsData says outcome

-- a fact of the bytes, where an answer has them
abbrev pub IfData : Inquired → (List ℕ → Type 0) → Type 0
IfData (inquired.Data bytes) P = P bytes.items
IfData _ P = Unit {0}
