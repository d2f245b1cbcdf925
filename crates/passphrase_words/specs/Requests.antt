-- The requests of a task, as lines (GnuPG manual, "Agent GET_PASSPHRASE", "Agent CLEAR_PASSPHRASE", "Agent PRESET_PASSPHRASE"). On
-- RELOADAGENT an agent forgets all passphrases (GnuPG manual, "Controlling gpg-agent", SIGHUP).
use Rattle.std.specs.{Prelude.{ℕ, ◌+◌, ◌/◌, ◌%◌, nat_lt, Bool, true, false, List, [], ◌∷◌, ◌++◌, codes, decimal, unwrap_or, Option, Some, None, if◌then◌else◌}, List.flat_map}
use Rattle.passphrase_words.specs.{Tasks.TaskValue, declared.{task.Act.{Act, TheVariants.Give}, request.Request.{Request, TheVariants.{Look, Ask, Clear, ClearAll, Preset, Probe}}}}

-- a look-up without a prompt, one with it, an id that is forgotten, all that is, a passphrase that is stored for so many seconds, and
-- a request that an agent which stores asks for a passphrase
pub data RequestValue : Type 0 where
  Looks : RequestValue
  Asks : RequestValue
  Clears : RequestValue
  ClearsAll : RequestValue
  Presets : Option ℕ → List ℕ → RequestValue
  Probes : RequestValue

-- a request as contracts see it
abbrev pub request_value : Request → RequestValue
request_value Look = Looks
request_value Ask = Asks
request_value Clear = Clears
request_value ClearAll = ClearsAll
request_value (Preset ttl secret) = Presets ttl secret.now
request_value Probe = Probes

-- an upper-case hexadecimal digit
abbrev pub hex_digit : ℕ → ℕ
hex_digit number = if nat_lt number 10 then number + 48 else number + 55

abbrev pub hex_of : ℕ → List ℕ
hex_of byte = hex_digit (byte / 16) ∷ hex_digit (byte % 16) ∷ []

-- for how many seconds it is stored; none: as long as the agent keeps what has no end
abbrev pub seconds_word : Option ℕ → List ℕ
seconds_word None = codes "-1"
seconds_word (Some seconds) = decimal seconds

-- the options of a request that may ask: in quiet nobody is asked, and a new passphrase is typed twice
abbrev pub options_of : Bool → Bool → List ℕ
options_of repeats true = codes "--data --no-ask "
options_of true false = codes "--data --repeat=1 "
options_of false false = codes "--data "

-- those of an act; one that isn't to ask asks nobody
abbrev pub asking_options : Act → List ℕ
asking_options (Give repeats quiet ttl feeds) = options_of repeats quiet
asking_options _ = options_of false true

-- the seconds of an act, where one that stores is tried
abbrev pub act_ttl : Act → Option ℕ
act_ttl (Give repeats quiet ttl feeds) = ttl
act_ttl _ = None

-- a look-up with these options
abbrev pub get_line : TaskValue → List ℕ → List ℕ
get_line task options = codes "GET_PASSPHRASE " ++ options ++ task.id ++ codes " X " ++ task.texts

abbrev pub line_of_request : TaskValue → RequestValue → List ℕ
line_of_request task Looks = get_line task (options_of false true)
line_of_request task Asks = get_line task (asking_options task.act)
line_of_request task Clears = codes "CLEAR_PASSPHRASE " ++ task.id
line_of_request task ClearsAll = codes "RELOADAGENT"
line_of_request task (Presets ttl secret) =
    codes "PRESET_PASSPHRASE " ++ task.id ++ 32 ∷ (seconds_word ttl ++ 32 ∷ flat_map hex_of secret)
line_of_request task Probes =
    codes "PRESET_PASSPHRASE --inquire " ++ task.id ++ 32 ∷ decimal (unwrap_or (act_ttl task.act) 1)
