-- What a question of a program is for, by its words. The rules are this project's own.
use Rattle.std.specs.{Prelude.{ℕ, ◌||◌, Bool, false, List, [], ◌∷◌, codes, length, take, Option, Some, None, if◌then◌else◌}, Str.str_eq_ignore_ascii_case}

-- the text begins with the word, without regard to the case of letters
abbrev pub begins_with : List ℕ → List ℕ → Bool
begins_with word text = str_eq_ignore_ascii_case (take (length word) text) word

-- the word stands somewhere in the text
abbrev pub has_word : List ℕ → List ℕ → Bool
has_word word [] = false
has_word word (byte ∷ text) = begins_with word (byte ∷ text) || has_word word text

-- a user's name is asked for, as by git(1)
abbrev pub asks_for_name : List ℕ → Bool
asks_for_name text = has_word (codes "username") text || has_word (codes "user name") text

-- what stands before the field; none is the agent's own text
abbrev pub prompt_for : List ℕ → Option (List ℕ)
prompt_for text = if asks_for_name text then Some (codes "User name:") else None
