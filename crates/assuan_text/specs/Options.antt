-- The options of a command, which stand before its arguments (GnuPG manual, "Agent's Assuan protocol"). Which of two options counts,
-- and that others are passed over, is this project's own rule.
use Rattle.std.specs.{Prelude.{ℕ, ◌+◌, ◌||◌, ◌&&◌, not, Bool, List, [], ◌∷◌, length, take, drop, find, reverse, codes, Option, if◌then◌else◌}, List.{prefix_len, list_any}, Option.option_map, Str.bytes_eq}

-- an option begins with two dashes; two dashes alone are none
abbrev pub is_option : List ℕ → Bool
is_option word = bytes_eq (take 2 word) (codes "--") && not (bytes_eq word (codes "--"))

-- the options: the words in front that are options
abbrev pub options_of : List (List ℕ) → List (List ℕ)
options_of words = take (prefix_len is_option words) words

-- without the two dashes that may end the options
abbrev pub without_mark : List (List ℕ) → List (List ℕ)
without_mark [] = []
without_mark (word ∷ words) = if bytes_eq word (codes "--") then words else word ∷ words

-- the words after the options
abbrev pub arguments_of : List (List ℕ) → List (List ℕ)
arguments_of words = without_mark (drop (prefix_len is_option words) words)

-- the option is among the words
abbrev pub has_option : List ℕ → List (List ℕ) → Bool
has_option name options = list_any (bytes_eq name) options

-- this is the option with a value: its name, and then `=`
abbrev pub gives_value : List ℕ → List ℕ → Bool
gives_value name option =
    bytes_eq (take (length name) option) name && bytes_eq (take 1 (drop (length name) option)) (codes "=")

-- the option without a value, or with one
abbrev pub names_option : List ℕ → List ℕ → Bool
names_option name option = bytes_eq option name || gives_value name option

-- the last of the options of this name, with a value or without
abbrev pub last_option : List ℕ → List (List ℕ) → Option (List ℕ)
last_option name options = find (names_option name) (reverse options)

-- The value of an option that always has one: what the last of those with a value says. The name alone is another option, and
-- so passed over.
abbrev pub last_value : List ℕ → List (List ℕ) → Option (List ℕ)
last_value name options =
    option_map (drop (length name + 1)) (find (gives_value name) (reverse options))
