-- What a scripted pinentry does with each line that it is sent (pinentry manual, "protocol"; Assuan manual, "client requests"). Which
-- answers it gives is this project's own.
use Rattle.std.specs.{Prelude.{ℕ, Bool, true, List, [], ◌∷◌, take, codes, Option, Some, None, if◌then◌else◌}, Str.{bytes_eq, str_eq_ignore_ascii_case}}
use Rattle.assuan_text.specs.{Forms.is_ignored, Options.arguments_of, Rows.found_in_any_case, Words.{command_of, rest_of, words}}
use Rattle.pinentry_script.specs.declared.{response.Phrase.TheVariants.{Done, Closing, Cancelled, Unknown}, session.{Command.{Command, TheVariants.{Set, GetInfo, GetPin, Confirm, Bye}}, Stage.Stage}}
use Rattle.pinentry_script.specs.{declared.session.Stage.TheVariants.{Request, Inquiry, Closed}, Entries.{Entry, pid, quality, pin, phrase}, Responses.{phrase_text, give, quality_inquiry}}

-- What a line brings: lines that are said, what the session waits for then, and the answers that are left. It waits for a request, or
-- for the end of an inquiry, or for nothing more.
pub record Turn : Type 0 where
  pub says : List (List ℕ)
  pub stage : Stage
  pub answers : List Entry

abbrev pub on : List (List ℕ) → List Entry → Turn
on says answers = record { says = says; stage = Request; answers = answers }

abbrev pub commands : List (List ℕ × Command)
commands =
    (codes "OPTION", Set)
    ∷ (codes "GETINFO", GetInfo)
    ∷ (codes "GETPIN", GetPin)
    ∷ (codes "CONFIRM", Confirm)
    ∷ (codes "BYE", Bye)
    ∷ []

-- the command of this name, whatever the case of its letters; each name that begins with SET sets something
abbrev pub command_named : List ℕ → Option Command
command_named word =
    if str_eq_ignore_ascii_case (take 3 word) (codes "SET") then Some Set else found_in_any_case word commands

-- the next answer: an inquiry first, if it is one for quality, and cancelled where none is left
abbrev pub next_answer : List Entry → Turn
next_answer [] = on (phrase_text Cancelled ∷ []) []
next_answer (quality text ∷ answers) = record { says = quality_inquiry text ∷ []; stage = Inquiry; answers = answers }
next_answer (pin text ∷ answers) = on (give text) answers
next_answer (phrase what ∷ answers) = on (phrase_text what ∷ []) answers
next_answer (pid digits ∷ answers) = on [] answers

-- the answers from the first on that isn't for quality
abbrev pub without_qualities : List Entry → List Entry
without_qualities [] = []
without_qualities (quality text ∷ answers) = without_qualities answers
without_qualities (pin text ∷ answers) = pin text ∷ answers
without_qualities (phrase what ∷ answers) = phrase what ∷ answers
without_qualities (pid digits ∷ answers) = pid digits ∷ answers

-- what GETINFO is answered, by its arguments
abbrev pub info : List ℕ → List (List ℕ) → List (List ℕ)
info number [] = phrase_text Unknown ∷ []
info number (what ∷ others) = if bytes_eq what (codes "pid") then give number else phrase_text Unknown ∷ []

-- a request, by its command
abbrev pub carried_out : List ℕ → List Entry → List ℕ → Option Command → Turn
carried_out number answers line None = on (phrase_text Unknown ∷ []) answers
carried_out number answers line (Some Set) = on (phrase_text Done ∷ []) answers
carried_out number answers line (Some GetInfo) = on (info number (arguments_of (words (rest_of line)))) answers
carried_out number answers line (Some GetPin) = next_answer answers
carried_out number answers line (Some Confirm) = next_answer (without_qualities answers)
carried_out number answers line (Some Bye) = record { says = phrase_text Closing ∷ []; stage = Closed; answers = answers }

-- `END` or `CAN`, in any case, with further words or without
abbrev pub ends_inquiry : List ℕ → Bool
ends_inquiry line =
    if str_eq_ignore_ascii_case (command_of line) (codes "END") then true
    else str_eq_ignore_ascii_case (command_of line) (codes "CAN")

-- what a line brings to a session of this process number at this stage
abbrev pub turn_of : List ℕ → Stage → List Entry → List ℕ → Turn
turn_of number Request answers line =
    if is_ignored line then on [] answers else carried_out number answers line (command_named (command_of line))
turn_of number Inquiry answers line =
    if ends_inquiry line then next_answer answers else record { says = []; stage = Inquiry; answers = answers }
turn_of number Closed answers line = record { says = []; stage = Closed; answers = answers }
