-- The arguments of requests (GnuPG manual, "Agent GET_PASSPHRASE", "Agent PRESET_PASSPHRASE", "Agent CLEAR_PASSPHRASE"). Their
-- bounds, the names of modes, and the texts that `X` stands for, are this project's own.
use Rattle.std.specs.{Prelude.{ℕ, ◌==◌, ◌&&◌, nat_le, Bool, true, List, [], ◌∷◌, length, drop, codes, Option, Some, None, Result, Ok, Err, if◌then◌else◌}, Option.option_and_then, Str.bytes_eq}
use Rattle.{arrayvec.specs.ArrayVec.ArrayVec, hex.specs.{Hex.decode_of, declared.error.FromHexError.FromHexError}, assuan_escape.specs.Escapes.unescaped, cache_policy.specs.declared.id.TheConstants.MAX_ID_LEN}
use Rattle.cache_policy.specs.declared.{life.{TheConstants.MAX_SECONDS, Life.{Life, TheVariants.{Default, Endless, Seconds}}}, secret.TheConstants.MAX_SECRET_LEN, mode.Mode.{Mode, TheVariants.{Normal, User, Ssh}}}
use Rattle.{agent_ask.specs.Plans.text, assuan_text.specs.Numbers.number_of}
use Rattle.agent_commands.specs.declared.{fields.TheConstants.MAX_REPEAT, request.Texts.Texts}

-- the word that stands for none
abbrev pub is_placeholder : List ℕ → Bool
is_placeholder word = bytes_eq word (codes "X")

-- a cache id has a byte at least, and isn't too long
abbrev pub is_cache_id : List ℕ → Bool
is_cache_id word = nat_le 1 (length word) && nat_le (length word) MAX_ID_LEN

abbrev pub cache_id : List ℕ → Option (List ℕ)
cache_id word = if is_cache_id word then Some word else None

-- the id, where it isn't the one that stands for none
abbrev pub unless_placeholder : List ℕ → Option (List ℕ)
unless_placeholder id = if is_placeholder id then None else Some id

-- the text that a word means, where a `+` is a blank, or the one that stands for none
abbrev pub text_or : List ℕ → List ℕ → ArrayVec ℕ
text_or usual word = if is_placeholder word then text usual else text (unescaped true word)

-- what a prompt says, by a word each for the error, the prompt and the description
abbrev pub texts_by : List ℕ → List ℕ → List ℕ → Texts
texts_by error prompt description = record {
  error = text_or [] error;
  prompt = text_or (codes "Passphrase:") prompt;
  description = text_or (codes "Please enter the passphrase") description;
}

-- no word for none of it, or these three. `None` where there are one or two.
abbrev pub texts : List (List ℕ) → Option (Option Texts)
texts [] = Some None
texts (error ∷ prompt ∷ description ∷ more) = Some (Some (texts_by error prompt description))
texts _ = None

-- how often a new passphrase is asked for again
abbrev pub repeat_of : ℕ → Option ℕ
repeat_of number = if nat_le number MAX_REPEAT then Some number else None

-- the number that a word of one or two digits is
abbrev pub short_number : List ℕ → Option ℕ
short_number word = if nat_le (length word) 2 then number_of word else None

-- what the last option for this says: `--repeat` is once, and without one it is never
abbrev pub repeats : Option (List ℕ) → Option ℕ
repeats None = Some 0
repeats (Some option) =
    if bytes_eq option (codes "--repeat") then Some 1
    else option_and_then repeat_of (short_number (drop (length (codes "--repeat=")) option))

-- a number of seconds, where 0 is the usual lifetime
abbrev pub life_of_seconds : ℕ → Option Life
life_of_seconds seconds =
    if seconds == 0 then Some Default
    else if nat_le seconds MAX_SECONDS then Some (Seconds seconds)
    else None

-- the lifetime that a word says
abbrev pub life : List ℕ → Option Life
life word =
    if bytes_eq word (codes "-1") then Some Endless
    else option_and_then life_of_seconds (number_of word)

-- the mode that is cleared, by what the option says: where it isn't there, the mode of GET_PASSPHRASE
abbrev pub cleared_mode : Option (List ℕ) → Option Mode
cleared_mode None = Some User
cleared_mode (Some value) =
    if bytes_eq value (codes "normal") then Some Normal
    else if bytes_eq value (codes "ssh") then Some Ssh
    else None

-- a passphrase isn't too long
abbrev pub passphrase : Result (List ℕ) FromHexError → Option (List ℕ)
passphrase (Ok bytes) = if nat_le (length bytes) MAX_SECRET_LEN then Some bytes else None
passphrase (Err _) = None

-- the passphrase is in the hexadecimal digits of the word, or comes by an inquiry, and not both. `None` where it is neither.
abbrev pub given_passphrase : Bool → List (List ℕ) → Option (Option (List ℕ))
given_passphrase inquire [] = if inquire then Some None else None
given_passphrase inquire (digits ∷ more) =
    if inquire then None else option_and_then (λ secret. Some (Some secret)) (passphrase (decode_of digits))
