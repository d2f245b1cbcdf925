-- The dialogue of one request (Assuan manual, "client requests" and "server responses"; GnuPG manual, "agent protocol"): its turns in their
-- order, and what is told of them. Which options are said, and what breaks the protocol, is this project's own.
use Rattle.std.specs.{Prelude.{◌≡◌, ℕ, Bool, true, false, if◌then◌else◌, List, [], ◌∷◌, ◌++◌, codes, Option, Some, None, Result, Ok, Err}, List.{flat_map, list_any}, Str.bytes_eq}
use Rattle.{assuan_client.specs.{Connections.Connection, declared.answer.Answer.Answer}, session_options.specs.OptionValues.EnvWords}
use Rattle.passphrase_talk.specs.{Contacts.HandsOver, Turns.{Said, Hello, OptionLine, Request, End, Cancel, Turn, turn_of, IsAnswered, AreTaken}, declared.{connector.Waits.Waits, dialogue.Course.Course, options.Setting.Setting}}
use Rattle.passphrase_talk.specs.declared.told.{Loss.Loss, Told.Told}
use Rattle.assuan_client.specs.declared.answer.Answer.TheVariants as answer
use Rattle.assuan_line.specs.declared.breach.Breach.TheVariants as breach
use Rattle.passphrase_talk.specs.declared.connector.Waits.TheVariants as waits
use Rattle.passphrase_talk.specs.declared.options.Setting.TheVariants as setting
use Rattle.passphrase_talk.specs.declared.told.Loss.TheVariants as loss
use Rattle.passphrase_talk.specs.declared.told.Told.TheVariants as told

-- an option with its value as it stands, where that isn't empty
abbrev pub option_with : List ℕ → List ℕ → List (List ℕ)
option_with word [] = []
option_with word (byte ∷ value) = (word ++ byte ∷ value) ∷ []

-- the line of each setting, if it is said
abbrev pub option_lines : EnvWords → Setting → List (List ℕ)
option_lines terminal setting.Notify = codes "OPTION allow-pinentry-notify" ∷ []
option_lines terminal setting.TtyName = option_with (codes "OPTION ttyname=") terminal.ttyname
option_lines terminal setting.TtyType = option_with (codes "OPTION ttytype=") terminal.ttytype
option_lines terminal setting.LcCtype = option_with (codes "OPTION lc-ctype=") terminal.lc_ctype
option_lines terminal setting.LcMessages = option_with (codes "OPTION lc-messages=") terminal.lc_messages

-- all settings, in their order
abbrev pub all_settings : List Setting
all_settings = setting.Notify ∷ setting.TtyName ∷ setting.TtyType ∷ setting.LcCtype ∷ setting.LcMessages ∷ []

-- What an agent is told where a user may have to type: that the launch of a pinentry is to be said, and where that is to ask.
abbrev pub options_of : Waits → EnvWords → List (List ℕ)
options_of waits.Answer terminal = []
options_of waits.Prompt terminal = flat_map (option_lines terminal) all_settings

-- a line or none
abbrev pub lines_of : Option (List ℕ) → List (List ℕ)
lines_of None = []
lines_of (Some line) = line ∷ []

-- why there is no answer to go on with
abbrev pub loss_of : Answer → Loss
loss_of answer.ReadFault = loss.Read
loss_of answer.WriteFault = loss.Write
loss_of (answer.Broken breach.Ended) = loss.Ended
loss_of _ = loss.Broken

-- the dialogue goes on behind the greeting
abbrev pub is_ok : Answer → Bool
is_ok answer.Ok = true
is_ok _ = false

abbrev pub is_inquiry : Answer → Bool
is_inquiry (answer.Asked word text) = true
is_inquiry _ = false

-- the dialogue goes on behind an option, which an agent needs not know
abbrev pub passed : Answer → Result (Unit {0}) Loss
passed answer.Ok = Ok tt
passed (answer.Err number) = Ok tt
passed other = Err (loss_of other)

-- What an inquiry is answered: END, where it is the notice that a pinentry was launched, and nothing else is given.
abbrev pub reply_to : List ℕ → Said
reply_to word = if bytes_eq word (codes "PINENTRY_LAUNCHED") then End else Cancel

-- All inquiries after an answer are answered, up to an answer that is none.
pub data Replies : Answer → List Turn → Type 0 where
  ended : {last : Answer} → is_inquiry last ≡ false → Replies last []
  asked : {word text : List ℕ} {next : Answer} {turns : List Turn} → Replies next turns → Replies (answer.Asked word text) (turn_of (reply_to word) next ∷ turns)

-- These options are said one after another, and then the request, unless one of them isn't passed.
pub data Requests (line : List ℕ) : List (List ℕ) → List Turn → Type 0 where
  stopped : {option : List ℕ} {options : List (List ℕ)} {last : Answer} → passed last ≡ Err (loss_of last) → Requests line (option ∷ options) (turn_of (OptionLine option) last ∷ [])
  goes_on : {option : List ℕ} {options : List (List ℕ)} {next : Answer} {turns : List Turn} → passed next ≡ Ok tt → Requests line options turns
      → Requests line (option ∷ options) (turn_of (OptionLine option) next ∷ turns)
  requested : {next : Answer} {turns : List Turn} → Replies next turns → Requests line [] (turn_of (Request line) next ∷ turns)

-- The agent greets, and is told the options and the request.
pub data IsDialogue (options : List (List ℕ)) (line : List ℕ) : List Turn → Type 0 where
  not_greeted : {last : Answer} → is_ok last ≡ false → IsDialogue options line (turn_of Hello last ∷ [])
  greeted : {turns : List Turn} → Requests line options turns → IsDialogue options line (turn_of Hello answer.Ok ∷ turns)

-- nothing came of the request yet
abbrev pub quiet : Course
quiet = record { launched = false; cancelled = false }

-- by what an inquiry was answered
abbrev pub after_said : Said → Course → Course
after_said End course = record { launched = true; cancelled = course.cancelled }
after_said Cancel course = record { launched = course.launched; cancelled = true }
after_said _ course = course

-- what is told of the last answer to a request
abbrev pub told_by : Course → Answer → Told
told_by course answer.Ok = if course.cancelled then told.Cancelled None else told.Done
told_by course (answer.Got secret) = if course.cancelled then told.Cancelled None else told.Passphrase secret
told_by course (answer.Err number) = if course.cancelled then told.Cancelled (Some number) else told.Refused number course.launched
told_by course other = told.Lost (loss_of other)

-- what is told of a request that was answered so, and had these turns behind it
abbrev pub told_behind : Course → Answer → List Turn → Told
told_behind course last [] = told_by course last
told_behind course next (turn ∷ turns) = told_behind (after_said turn.said course) turn.answer turns

abbrev pub told_from : Said → Answer → List Turn → Told → Told
told_from (Request line) next turns later = told_behind quiet next turns
told_from said last [] later = told.Lost (loss_of last)
told_from said next (turn ∷ turns) later = later

-- What is told of a dialogue: its request's last answer, or else why there was no request.
abbrev pub told_of : List Turn → Told
told_of [] = told.Lost loss.Broken
told_of (turn ∷ turns) = told_from turn.said turn.answer turns (told_of turns)

-- a read or a write failed
abbrev pub is_failure : Told → Bool
is_failure (told.Lost loss.Read) = true
is_failure (told.Lost loss.Write) = true
is_failure _ = false

-- an inquiry was cancelled in these turns
abbrev pub is_cancel : Said → Bool
is_cancel Cancel = true
is_cancel _ = false

abbrev pub has_cancel : List Turn → Bool
has_cancel turns = list_any (λ turn. is_cancel turn.said) turns

-- what an answer says of a pinentry that was launched: its text, where it inquires so (GnuPG manual, "Agent OPTION", `allow-pinentry-notify`)
abbrev pub launch_in : Answer → List (List ℕ)
launch_in (answer.Asked word text) = if bytes_eq word (codes "PINENTRY_LAUNCHED") then text ∷ [] else []
launch_in _ = []

-- those of a request that was answered so, and had these turns behind it
abbrev pub launches_behind : Answer → List Turn → List (List ℕ)
launches_behind last [] = launch_in last
launches_behind next (turn ∷ turns) = launch_in next ++ launches_behind turn.answer turns

abbrev pub launches_from : Said → Answer → List Turn → List (List ℕ) → List (List ℕ)
launches_from (Request line) next turns later = launches_behind next turns
launches_from said next turns later = later

-- Those of a dialogue: of its request.
abbrev pub launches_of : List Turn → List (List ℕ)
launches_of [] = []
launches_of (turn ∷ turns) = launches_from turn.said turn.answer turns (launches_of turns)

-- Turns by this rule were taken, this is told of them, and of their launches that was handed on which such a contact hands on.
pub record Leads (waits : Waits) (Rule : List Turn → Type 0) (told_as : List Turn → Told) (launches_as : List Turn → List (List ℕ)) (before : Connection) (what : Told)
    (after : Connection) (earlier later : Option (List (List ℕ))) : Type 0 where
  pub turns : List Turn
  pub follows : Rule turns
  pub taken : AreTaken before turns after
  pub told_is : what ≡ told_as turns
  pub handed : HandsOver waits (launches_as turns) earlier later

-- an option is said, if there is one
pub data Tells : List (List ℕ) → Connection → Result (Unit {0}) Loss → Connection → Type 0 where
  unsaid : {now : Connection} → Tells [] now (Ok tt) now
  said : {option : List ℕ} {before after : Connection} (next : Answer) → IsAnswered (OptionLine option) next before after → Tells (option ∷ []) before (passed next) after
