-- Which setting of an option counts: in each place the last one, that of the words before that of the home's file, and this before the machine's (GnuPG
-- manual, "Invoking GPG-AGENT").
use Rattle.std.specs.{Prelude.{ℕ, Bool, false, List, ◌++◌, reverse, find, codes, Option, Some, None, take, drop, if◌then◌else◌}, List.list_any, Option.{option_or, option_map_or}, Str.bytes_eq}
use Rattle.agent_conf.specs.{Written.Written, declared.setting.Place.{Place, TheVariants.{Machine, Home, Words}}}

-- the bytes after two dashes
abbrev pub after_dashes : List ℕ → Option (List ℕ)
after_dashes name = if bytes_eq (take 2 name) (codes "--") then Some (drop 2 name) else None

abbrev pub undashed : List ℕ → List ℕ → Option (List ℕ)
undashed text name = if bytes_eq (take 2 text) (codes "--") then None else Some name

-- The option that a setting names, if it names one: it has two dashes on the command line, and none in a file.
abbrev pub option_in : Place → List ℕ → List ℕ → Option (List ℕ)
option_in Words text name = after_dashes name
option_in Machine text name = undashed text name
option_in Home text name = undashed text name

abbrev pub option_of : Written → Option (List ℕ)
option_of setting = option_in setting.place setting.text setting.name

-- It is of an option of these names. One that is taken back by another has two.
abbrev pub is_of : List (List ℕ) → Written → Bool
is_of names setting = option_map_or (λ option. list_any (λ name. bytes_eq name option) names) (option_of setting) false

-- the last of these settings that is of the option
abbrev pub last_of : List (List ℕ) → List Written → Option Written
last_of names settings = find (is_of names) (reverse settings)

-- what three places set
pub record Texts : Type 0 where
  pub machine : List Written
  pub home : List Written
  pub words : List Written

abbrev pub settled : List (List ℕ) → Texts → Option Written
settled names texts =
    option_or (last_of names texts.words) (option_or (last_of names texts.home) (last_of names texts.machine))

-- all of them, in the order in which they are read
abbrev pub all_of : Texts → List Written
all_of texts = (texts.machine ++ texts.home) ++ texts.words
