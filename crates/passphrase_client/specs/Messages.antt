-- What the error stream says of a run's end, in words for a user: this project's own.
use Rattle.std.specs.Prelude.{ℕ, ◌==◌, List, [], ◌∷◌, ◌++◌, codes, decimal, if◌then◌else◌}
use Rattle.{passphrase_talk.specs.declared.told.Loss.Loss, printable.specs.Printables.printable}
use Rattle.passphrase_client.specs.declared.{ending.{Cause.Cause, Ending.Ending}, input.InputFault.InputFault, message.Sentence.Sentence}
use Rattle.passphrase_client.specs.declared.ending.Cause.TheVariants as cause
use Rattle.passphrase_client.specs.declared.ending.Ending.TheVariants as ending
use Rattle.passphrase_client.specs.declared.ending.Lifetime.TheVariants as lifetime
use Rattle.passphrase_client.specs.declared.input.InputFault.TheVariants as input
use Rattle.passphrase_talk.specs.declared.told.Loss.TheVariants as loss

-- The codes with words of their own (libgpg-error: GPG_ERR_GENERAL is 1, GPG_ERR_FORBIDDEN 251, GPG_ERR_ASS_UNKNOWN_CMD 275, GPG_ERR_ASS_PARAMETER 280, and
-- GPG_ERR_ENOMEM 32854).
abbrev pub code_words : ℕ → List ℕ
code_words code =
    if code == 1 then codes ": its own work failed (error 1), of which its log may say more"
    else if code == 251 then codes ": its socket for other machines forbids it (error 251)"
    else if code == 275 then codes ": it doesn't know it (error 275)"
    else if code == 280 then codes ": it doesn't take its words (error 280)"
    else if code == 32854 then codes ": it is out of memory (error 32854)"
    else codes ": error " ++ decimal code

-- why the agent refused, where this is the id
abbrev pub cause_words : Cause → List ℕ → List ℕ
cause_words cause.NoData id = codes "nothing is kept as " ++ id
cause_words cause.NoPrompt id = codes "nothing is kept as " ++ id ++ codes ", and there is no terminal to ask in"
cause_words cause.Closed id = codes "nothing is kept as " ++ id ++ codes ", and its prompt was closed: there is no terminal to ask in, or this program was stopped"
cause_words cause.Canceled id = codes "the prompt for " ++ id ++ codes " was cancelled"
cause_words cause.NotTyped id = codes "nothing was typed for " ++ id ++ codes " in time"
cause_words cause.OtherPrompt id = codes "another prompt is open, and was for a minute"
cause_words cause.Differ id = codes "the passphrase of " ++ id ++ codes " was refused three times: the repeats differ"
cause_words cause.Bad id = codes "the passphrase of " ++ id ++ codes " was refused three times: at least 8 characters, one of them no letter (min-passphrase-len, min-passphrase-nonalpha)"
cause_words cause.NoPresets id = codes "the agent takes no presets: allow-preset-passphrase in gpg-agent.conf"
cause_words cause.NoTtl id = codes "the agent takes no presets: --ttl wants allow-preset-passphrase in its gpg-agent.conf, or passphrase --homedir DIR with that line in DIR/gpg-agent.conf"
cause_words cause.NoLifetime id = codes "the agent takes no presets with an end, as GnuPG's own doesn't: --ttl wants passphrase --homedir DIR, with allow-preset-passphrase in DIR/gpg-agent.conf"
cause_words (cause.Other code) id = codes "the agent refused the request for " ++ id ++ code_words code

-- why what stands on standard input is refused
abbrev pub input_words : InputFault → List ℕ
input_words input.Unread = codes "standard input can't be read"
input_words input.Empty = codes "standard input has no passphrase"
input_words input.TooLong = codes "a passphrase has at most 255 bytes"
input_words input.NotOneLine = codes "a passphrase is one line without NUL"

-- how the agent was lost, where the connector gives this reason
abbrev pub loss_words : Loss → List ℕ → List ℕ
loss_words loss.Broken reason = codes "the agent broke the protocol"
loss_words loss.Ended reason = codes "the agent ended the connection"
loss_words _ reason = reason

-- the code that is said of a cause, and of an end, where one is
abbrev pub code_in : Cause → ℕ
code_in (cause.Other code) = code
code_in _ = 0

abbrev pub code_of : Ending → ℕ
code_of (ending.Refused why) = code_in why
code_of _ = 0

-- the parts of what is said, one behind another
abbrev pub sentence_text : Sentence → List ℕ
sentence_text words = words.first.now ++ (words.second.now ++ (words.third.now ++ words.last.now))

-- as a line of this program, in which each byte that ASCII can't print is a question mark
abbrev pub said : List ℕ → List ℕ
said words = codes "passphrase: " ++ printable words ++ 10 ∷ []

-- what is said of an end; nothing where it went as was wanted, or where only the status was asked for
abbrev pub message_of : Ending → List ℕ → List ℕ → List ℕ
message_of (ending.Given lifetime.AsWanted) id reason = []
message_of (ending.Given lifetime.AsBefore) id reason = said (id ++ codes " is kept already, and its end wasn't changed: --new --ttl asks anew")
message_of ending.Done id reason = []
message_of ending.Kept id reason = []
message_of ending.NotCached id reason = []
message_of ending.NotKept id reason = said (cause_words cause.NoData id)
message_of (ending.Refused why) id reason = said (cause_words why id)
message_of ending.Empty id reason = said (codes "the passphrase of " ++ id ++ codes " is empty, and is forgotten")
message_of ending.NotOneLine id reason = said (codes "the passphrase of " ++ id ++ codes " has a NUL or a line feed")
message_of ending.NoMemory id reason = said (codes "out of memory")
message_of (ending.Input fault) id reason = said (input_words fault)
message_of ending.Unwritten id reason = said (codes "standard output can't be written")
message_of ending.NoAgent id reason = said reason
message_of (ending.Lost loss) id reason = said (loss_words loss reason)
