-- The options of the command line and what each takes. But for `--homedir`, which is gpg's (GnuPG manual), they are this project's own.
use Rattle.std.specs.{Prelude.{ℕ, ◌&&◌, nat_le, Bool, true, false, List, [], ◌∷◌, length, codes, is_some, Option, Some, None, if◌then◌else◌}, Option.option_and_then}
use Rattle.assuan_text.specs.{Rows.found, Numbers.number_of}
use Rattle.passphrase_words.specs.declared.options.Form.{Form, TheVariants.{Flag, Text, Seconds}}

abbrev pub options : List (List ℕ × Form)
options =
    (codes "--new", Flag)
    ∷ (codes "--no-ask", Flag)
    ∷ (codes "--null", Flag)
    ∷ (codes "--forget", Flag)
    ∷ (codes "--forget-all", Flag)
    ∷ (codes "--store", Flag)
    ∷ (codes "--cached", Flag)
    ∷ (codes "--prompt", Text)
    ∷ (codes "--homedir", Text)
    ∷ (codes "--timeout", Seconds)
    ∷ (codes "--ttl", Seconds)
    ∷ []

-- what the option of this name takes
unfoldable pub form_of : List ℕ → Option Form
form_of name = found name options

abbrev pub takes_value : Form → Bool
takes_value Flag = false
takes_value Text = true
takes_value Seconds = true

-- 1 to 2^31 - 1 seconds
abbrev pub if_seconds : ℕ → Option ℕ
if_seconds number = if nat_le 1 number && nat_le number 2147483647 then Some number else None

-- the seconds that a value of 1 to 10 decimal digits is; zeros in front count as digits
abbrev pub seconds_of : List ℕ → Option ℕ
seconds_of value = option_and_then if_seconds (number_of value)

-- a flag has no value; a text isn't empty
abbrev pub is_of_form : Form → Option (List ℕ) → Bool
is_of_form Flag None = true
is_of_form Text (Some value) = nat_le 1 (length value)
is_of_form Seconds (Some value) = is_some (seconds_of value)
is_of_form _ _ = false

-- what can't be given together
abbrev pub excluded : List (List ℕ × List ℕ)
excluded =
    (codes "--new", codes "--forget")
    ∷ (codes "--new", codes "--store")
    ∷ (codes "--new", codes "--cached")
    ∷ (codes "--forget", codes "--store")
    ∷ (codes "--forget", codes "--cached")
    ∷ (codes "--store", codes "--cached")
    ∷ (codes "--new", codes "--no-ask")
    ∷ (codes "--forget", codes "--no-ask")
    ∷ (codes "--store", codes "--no-ask")
    ∷ (codes "--cached", codes "--no-ask")
    ∷ (codes "--no-ask", codes "--ttl")
    ∷ (codes "--forget", codes "--ttl")
    ∷ (codes "--store", codes "--ttl")
    ∷ (codes "--cached", codes "--ttl")
    ∷ (codes "--forget", codes "--null")
    ∷ (codes "--store", codes "--null")
    ∷ (codes "--cached", codes "--null")
    ∷ (codes "--forget-all", codes "--new")
    ∷ (codes "--forget-all", codes "--forget")
    ∷ (codes "--forget-all", codes "--store")
    ∷ (codes "--forget-all", codes "--cached")
    ∷ (codes "--forget-all", codes "--no-ask")
    ∷ (codes "--forget-all", codes "--ttl")
    ∷ (codes "--forget-all", codes "--null")
    ∷ (codes "--forget-all", codes "--prompt")
    ∷ []
