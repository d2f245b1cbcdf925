-- What a pinentry's answers mean (pinentry manual, "protocol"; the errors' numbers are those of libgpg-error). Which of them break the
-- protocol is this project's own.
use Rattle.std.specs.Prelude.{ℕ, ◌%◌, ◌^◌, ◌==◌, nat_lt, List, [], if◌then◌else◌, Option, Some, None, Result, Ok, Err}
use Rattle.{agent_ask.specs.declared.prompt.prompter.{Consent.Consent, Outcome.Outcome}, assuan_client.specs.declared.answer.Answer.Answer, assuan_text.specs.Numbers.number_of}
use Rattle.pinentry_client.specs.declared.{answers.Trouble.{Trouble, TheVariants.{Failed, Broken}}, settings.Setting.Setting}
use Rattle.agent_ask.specs.declared.prompt.prompter.Consent.TheVariants as consent
use Rattle.agent_ask.specs.declared.prompt.prompter.Outcome.TheVariants as outcome
use Rattle.assuan_client.specs.declared.answer.Answer.TheVariants as answer
use Rattle.assuan_line.specs.declared.breach.Breach.TheVariants as breach
use Rattle.pinentry_client.specs.declared.settings.Setting.TheVariants as setting

-- why an answer that ends no command doesn't
abbrev pub trouble_of : Answer → Trouble
trouble_of (answer.Asked word text) = Broken breach.Inquiry
trouble_of (answer.Broken why) = Broken why
trouble_of _ = Failed

-- the greeting is OK
abbrev pub greeted : Answer → Result (Unit {0}) Trouble
greeted answer.Ok = Ok tt
greeted (answer.Err number) = Err (Broken (breach.Code number))
greeted (answer.Got bytes) = Err (Broken breach.Data)
greeted other = Err (trouble_of other)

-- the answer to a setting is OK, or an error, since a pinentry needs not know all settings
abbrev pub accepted : Answer → Result (Unit {0}) Trouble
accepted answer.Ok = Ok tt
accepted (answer.Err number) = Ok tt
accepted (answer.Got bytes) = Err (Broken breach.Data)
accepted other = Err (trouble_of other)

-- the number of a process: 1 to 10 digits below 2^32
abbrev pub process_of : Option ℕ → Result ℕ Trouble
process_of (Some number) = if nat_lt number (2 ^ 32) then Ok number else Err (Broken breach.Data)
process_of None = Err (Broken breach.Data)

-- data are allowed where that number is asked for
abbrev pub data_of : Setting → List ℕ → Result ℕ Trouble
data_of setting.Pid bytes = process_of (number_of bytes)
data_of _ bytes = Err (Broken breach.Data)

abbrev pub keeping_pid : ℕ → Result (Unit {0}) Trouble → Result ℕ Trouble
keeping_pid pid (Ok done) = Ok pid
keeping_pid pid (Err trouble) = Err trouble

-- The process that is known after the answer to a setting, where this one was known before it: 0 as long as none is told.
abbrev pub pid_after : Setting → ℕ → Answer → Result ℕ Trouble
pid_after setting pid (answer.Got bytes) = data_of setting bytes
pid_after setting pid other = keeping_pid pid (accepted other)

-- An error's number has its code in its 16 low bits: GPG_ERR_TIMEOUT is 62, GPG_ERR_CANCELED 99, GPG_ERR_NOT_CONFIRMED 114 and GPG_ERR_FULLY_CANCELED 198.
abbrev pub error_code : ℕ → ℕ
error_code number = number % 2 ^ 16

-- an error of this number, as the answer to GETPIN
abbrev pub pin_error : ℕ → Outcome
pin_error number =
    if error_code number == 99 then outcome.Cancelled
    else if error_code number == 198 then outcome.Cancelled
    else if error_code number == 62 then outcome.TimedOut
    else outcome.Broken (breach.Code number)

-- the answer to GETPIN; an inquiry is none
abbrev pub pin_outcome : Answer → Outcome
pin_outcome answer.Ok = outcome.Pin []
pin_outcome (answer.Got bytes) = outcome.Pin bytes
pin_outcome (answer.Err number) = pin_error number
pin_outcome (answer.Asked word text) = outcome.Broken breach.Inquiry
pin_outcome (answer.Broken why) = outcome.Broken why
pin_outcome answer.ReadFault = outcome.Failed
pin_outcome answer.WriteFault = outcome.Failed

-- and to CONFIRM
abbrev pub consent_error : ℕ → Consent
consent_error number =
    if error_code number == 99 then consent.Cancelled
    else if error_code number == 198 then consent.Cancelled
    else if error_code number == 62 then consent.TimedOut
    else if error_code number == 114 then consent.No
    else consent.Broken (breach.Code number)

-- the answer to CONFIRM; an inquiry is none
abbrev pub consent_of : Answer → Consent
consent_of answer.Ok = consent.Yes
consent_of (answer.Got bytes) = consent.Broken breach.Data
consent_of (answer.Err number) = consent_error number
consent_of (answer.Asked word text) = consent.Broken breach.Inquiry
consent_of (answer.Broken why) = consent.Broken why
consent_of answer.ReadFault = consent.Failed
consent_of answer.WriteFault = consent.Failed
