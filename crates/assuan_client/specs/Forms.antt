-- The forms of a server's lines, as the Assuan manual has them ("server responses"). That a tab counts as a blank, and that an error's
-- number has 1 to 10 digits and is below 2^32, is this project's own rule.
use Rattle.std.specs.{Prelude.{ℕ, ◌==◌, ◌^◌, List, length, codes, slice_index, nat_lt, Option, Some, None, if◌then◌else◌}, List.{before_first, after_first}, Str.bytes_eq}
use Rattle.assuan_text.specs.{Blanks.is_blank, Forms.is_data, Numbers.number_of}
use Rattle.assuan_client.specs.declared.form.Form.{Form as FormOf}
use Rattle.assuan_client.specs.declared.form.Form.TheVariants as seen

pub data Form : Type 0 where
  -- data, by `D`
  Data : Form
  -- a comment, by `#`, or a status line, by `S`
  Note : Form
  -- success
  Ok : Form
  -- an error of this number
  Err : ℕ → Form
  -- an inquiry by this word, and the text after it
  Inquiry : List ℕ → List ℕ → Form
  -- no form of a server's lines
  Foreign : Form

-- the line's first word, and what comes after the one blank behind it
abbrev pub word_of : List ℕ → List ℕ
word_of line = before_first is_blank line

abbrev pub text_of : List ℕ → List ℕ
text_of line = after_first is_blank line

-- an error of this number, where it is one below 2^32
abbrev pub error_of : Option ℕ → Form
error_of (Some number) = if nat_lt number (2 ^ 32) then Err number else Foreign
error_of None = Foreign

-- an inquiry, by a word that isn't empty
abbrev pub inquiry_of : List ℕ → List ℕ → Form
inquiry_of word text = if length word == 0 then Foreign else Inquiry word text

-- by the line's first word
abbrev pub form_by : List ℕ → List ℕ → Form
form_by word text =
    if bytes_eq word (codes "S") then Note
    else if bytes_eq word (codes "OK") then Ok
    else if bytes_eq word (codes "ERR") then error_of (number_of (word_of text))
    else if bytes_eq word (codes "INQUIRE") then inquiry_of (word_of text) (text_of text)
    else Foreign

abbrev pub answer_form : List ℕ → Form
answer_form line =
    if is_data line then Data
    else if slice_index line 0 == 35 then Note
    else form_by (word_of line) (text_of line)

-- a form as the program has it
abbrev pub form_seen : FormOf → Form
form_seen seen.Data = Data
form_seen seen.Note = Note
form_seen seen.Ok = Ok
form_seen (seen.Err number) = Err number
form_seen (seen.Inquiry word text) = Inquiry word.now text.now
form_seen seen.Foreign = Foreign

-- a fact of an inquiry's word and text
abbrev pub IfInquiry : FormOf → (List ℕ → List ℕ → Type 0) → Type 0
IfInquiry (seen.Inquiry word text) P = P word.now text.now
IfInquiry _ P = Unit {0}
