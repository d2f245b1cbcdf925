-- Texts as words of a request, in which the agent reads `+` as a blank and `%XX` as a byte (GnuPG manual, "Agent GET_PASSPHRASE").
use Rattle.std.specs.{Prelude.{◌≡◌, ◌≤◌, ◌==◌, ℕ, Bool, false, true, List, [], ◌∷◌, ◌++◌, length, codes, Option, Some, None, if◌then◌else◌}, List.flat_map, Str.bytes_eq}
use Rattle.assuan_text.specs.{Blanks.is_blank, LineEnds.has_lf, declared.TheConstants.MAX_LINE_LEN}
use Rattle.passphrase_words.specs.Ids.{is_id}

-- a byte in a word: a blank or a tab is `+`, and `%`, `+` and the ends of lines are escaped
abbrev pub escape_of : ℕ → List ℕ
escape_of byte =
    if is_blank byte then codes "+"
    else if byte == 37 then codes "%25"
    else if byte == 43 then codes "%2B"
    else if byte == 10 then codes "%0A"
    else if byte == 13 then codes "%0D"
    else byte ∷ []

-- the word that says this text; X alone would be the agent's own text
abbrev pub word_of : List ℕ → List ℕ
word_of text = if bytes_eq text (codes "X") then codes "%58" else flat_map escape_of text

-- what the prompt says where it isn't given: the agent's own text
abbrev pub prompt_word : Option (List ℕ) → List ℕ
prompt_word None = codes "X"
prompt_word (Some text) = word_of text

-- a description that is empty is none, and then it has the id
abbrev pub description_or : List ℕ → List ℕ → List ℕ
description_or id [] = codes "Passphrase " ++ id
description_or id text = text

-- what it is where a new passphrase is asked for, and none is given
abbrev pub description_by : Bool → List ℕ → List ℕ → List ℕ
description_by true id [] = codes "New passphrase for " ++ id
description_by _ id text = text

-- the words of a request for the prompt and the description
abbrev pub texts_of : List ℕ → Option (List ℕ) → List ℕ → List ℕ
texts_of id prompt description = prompt_word prompt ++ 32 ∷ word_of (description_or id description)

-- the longest request that has texts
abbrev pub longest_line : List ℕ → List ℕ → List ℕ
longest_line id texts = codes "GET_PASSPHRASE --data --repeat=1 " ++ id ++ codes " X " ++ texts

-- an id, and texts with which each request is a line
pub record Fits (id texts : List ℕ) : Type 0 where
  pub id_is : is_id id ≡ true
  pub short : length (longest_line id texts) ≤ MAX_LINE_LEN
  pub whole : has_lf texts ≡ false
