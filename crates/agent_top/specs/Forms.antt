-- The options of the agent and what each takes. `--workers` and `--load` are this project's own, and so are that `--extra-socket` takes
-- no name, the bounds of the numbers and the length of a path; the other names are gpg-agent's (GnuPG manual, "agent options").
use Rattle.std.specs.{Prelude.{ℕ, ◌&&◌, nat_le, Bool, true, false, List, [], ◌∷◌, length, codes, is_some, unwrap_or, Option, Some, None, if◌then◌else◌}, Option.{option_and_then, option_map_or}}
use Rattle.{assuan_text.specs.{Rows.found, Numbers.number_of}, cache_policy.specs.declared.{life.TheConstants.MAX_SECONDS, secret.TheConstants.MAX_SECRET_LEN}}
use Rattle.session_options.specs.declared.rules.TheConstants.{MIN_S2K_COUNT, MAX_S2K_COUNT, MIN_WORKERS, MAX_WORKERS}
use Rattle.agent_top.specs.{Settings.{Setting, value_given}, declared.words.forms.Form.{Form, TheVariants.{Flag, Path, Number}}}

-- a number of seconds
abbrev pub seconds : Form
seconds = Number 0 MAX_SECONDS

abbrev pub forms : List (List ℕ × Form)
forms =
    (codes "--server", Flag)
    ∷ (codes "--daemon", Flag)
    ∷ (codes "--load", Number 0 4294967295)
    ∷ (codes "--homedir", Path)
    ∷ (codes "--pinentry-program", Path)
    ∷ (codes "--default-cache-ttl", seconds)
    ∷ (codes "--max-cache-ttl", seconds)
    ∷ (codes "--default-cache-ttl-ssh", seconds)
    ∷ (codes "--max-cache-ttl-ssh", seconds)
    ∷ (codes "--allow-preset-passphrase", Flag)
    ∷ (codes "--no-allow-loopback-pinentry", Flag)
    ∷ (codes "--extra-socket", Flag)
    ∷ (codes "--min-passphrase-len", Number 0 MAX_SECRET_LEN)
    ∷ (codes "--min-passphrase-nonalpha", Number 0 MAX_SECRET_LEN)
    ∷ (codes "--pinentry-timeout", seconds)
    ∷ (codes "--s2k-count", Number MIN_S2K_COUNT MAX_S2K_COUNT)
    ∷ (codes "--workers", Number MIN_WORKERS MAX_WORKERS)
    ∷ []

-- what the option of this name takes
unfoldable pub form_of : List ℕ → Option Form
form_of name = found name forms

-- the value as a path: 1 to 200 bytes
abbrev pub path_of : List ℕ → Option (List ℕ)
path_of value = if nat_le 1 (length value) && nat_le (length value) 200 then Some value else None

abbrev pub if_between : ℕ → ℕ → ℕ → Option ℕ
if_between least greatest number = if nat_le least number && nat_le number greatest then Some number else None

-- the number that a value of 1 to 10 decimal digits is, within these bounds; zeros in front count as digits
abbrev pub number_between : ℕ → ℕ → List ℕ → Option ℕ
number_between least greatest value = option_and_then (if_between least greatest) (number_of value)

-- a flag has no value; a path or a number has one that is such
abbrev pub is_of_form : Form → Option (List ℕ) → Bool
is_of_form Flag None = true
is_of_form Path (Some value) = is_some (path_of value)
is_of_form (Number least greatest) (Some value) = is_some (number_between least greatest value)
is_of_form _ _ = false

-- the name is known, and the value has its form
abbrev pub fits : Setting → Bool
fits setting = option_map_or (λ form. is_of_form form setting.1) (form_of setting.0) false

-- the number that a value is for an option of this form
abbrev pub number_for : Option Form → List ℕ → Option ℕ
number_for (Some (Number least greatest)) value = number_between least greatest value
number_for _ value = None

-- the number that an option is given, or else its default
abbrev pub number_or : ℕ → List ℕ → List Setting → ℕ
number_or default name given = unwrap_or (option_and_then (number_for (form_of name)) (value_given name given)) default

-- the path that an option is given, or else its default
abbrev pub path_or : List ℕ → List ℕ → List Setting → List ℕ
path_or default name given = unwrap_or (option_and_then path_of (value_given name given)) default
