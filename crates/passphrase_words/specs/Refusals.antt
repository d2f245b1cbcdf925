-- Why words aren't read: the first rule that they break, and the word that breaks it. The order of the rules is this project's own: from the
-- left what is no option; from the left each option that wants another value, or is given again; options that don't go together; one
-- that wants an id alone; the operands; the id; and the texts.
use Rattle.std.specs.{Prelude.{◌≡◌, ℕ, false, not, nat_le, List, [], ◌∷◌, codes, length, is_some, Option, Some, None, if◌then◌else◌}, Option.option_or, Str.bytes_eq}
use Rattle.assuan_text.specs.declared.TheConstants.{MAX_LINE_LEN}
use Rattle.passphrase_words.specs.{Faults.{wish, unknown_text, wants_text, twice_text, apart_text, alone_text, no_id_text, operands_text, id_text, long_id_text, long_text, askpass_text}, Ids.{has_id_form, askpass_id}, Options.excluded}
use Rattle.passphrase_words.specs.{Questions.prompt_for, Rules.{fits, is_apart, is_alone_or_free, forgets_all, are_counted, id_given, description_given, askpass_asked}, Spelling.{Setting, Spells, takes, is_set, value_given, operands_of}, Texts.{texts_of, longest_line}, Words.asks_for_help}
use Rattle.passphrase_words.specs.declared.task.{Act.Act, TheConstants.MAX_ID_LEN}

-- an option that wants another value, or is given again behind it
abbrev pub setting_fault : Setting → List Setting → Option (List ℕ)
setting_fault setting others =
    if not (fits setting) then Some (wants_text setting.0 (wish setting.0))
    else if is_set setting.0 others then Some (twice_text setting.0) else None

abbrev pub settings_fault : List Setting → Option (List ℕ)
settings_fault [] = None
settings_fault (setting ∷ others) = option_or (setting_fault setting others) (settings_fault others)

-- the first two of this list that don't go together
abbrev pub pairs_fault : List Setting → List (List ℕ × List ℕ) → Option (List ℕ)
pairs_fault given [] = None
pairs_fault given (pair ∷ pairs) = if is_apart given pair then pairs_fault given pairs else Some (apart_text pair.0 pair.1)

-- the option that wants an id alone
abbrev pub alone_word : List Setting → List ℕ
alone_word given =
    if is_set (codes "--forget") given then codes "--forget" else if is_set (codes "--store") given then codes "--store" else codes "--cached"

abbrev pub alone_fault : List Setting → List (List ℕ) → Option (List ℕ)
alone_fault given operands = if is_alone_or_free given operands then None else Some (alone_text (alone_word given))

abbrev pub operands_fault_text : List Setting → List ℕ
operands_fault_text given = if forgets_all given then no_id_text else operands_text

abbrev pub operands_fault : List Setting → List (List ℕ) → Option (List ℕ)
operands_fault given operands = if are_counted given operands then None else Some (operands_fault_text given)

abbrev pub id_fault : List ℕ → Option (List ℕ)
id_fault id = if not (has_id_form id) then Some (id_text id) else if nat_le (length id) MAX_ID_LEN then None else Some (long_id_text id)

-- texts for which the longest request has no room
abbrev pub texts_fault : List ℕ → List ℕ → Option (List ℕ)
texts_fault id texts = if nat_le (length (longest_line id texts)) MAX_LINE_LEN then None else Some (long_text id texts)

-- the first of all these that options and operands have
abbrev pub task_fault : List Setting → List (List ℕ) → Option (List ℕ)
task_fault given operands =
    let id = id_given given operands in
    option_or (settings_fault given) (option_or (pairs_fault given excluded) (option_or (alone_fault given operands) (option_or (operands_fault given operands) (option_or (id_fault id)
    (texts_fault id (texts_of id (value_given (codes "--prompt") given) (description_given given operands)))))))

-- the words are spelled by these settings, and no further one begins behind them
pub record AllSettings (given : List Setting) (rest words : List (List ℕ)) : Type 0 where
  pub spelled : Spells given rest words
  pub all : (more : List Setting) (behind : List (List ℕ)) → Spells more behind rest → more ≡ []

-- a word that is no option, nor ends them: it is one that wants a value, or isn't known
abbrev pub unread_text : List ℕ → List ℕ
unread_text word = if is_some (takes word) then wants_text word (wish word) else unknown_text word

-- what a user is told of these words
pub data Refuses (words : List (List ℕ)) : List ℕ → Type 0 where
  unread : {given : List Setting} {word : List ℕ} {behind : List (List ℕ)} → AllSettings given (word ∷ behind) words → operands_of (word ∷ behind) ≡ None
      → asks_for_help word ≡ false → bytes_eq word (codes "--version") ≡ false → Refuses words (unread_text word)
  no_task : {given : List Setting} {rest operands : List (List ℕ)} {text : List ℕ} → AllSettings given rest words → operands_of rest ≡ Some operands
      → task_fault given operands ≡ Some text → Refuses words text

-- that of an askpass, by what it is called with
abbrev pub askpass_fault_by : Option (List ℕ × Act) → Option (List ℕ)
askpass_fault_by None = Some askpass_text
askpass_fault_by (Some (text, act)) = texts_fault (askpass_id text) (texts_of (askpass_id text) (prompt_for text) text)

abbrev pub askpass_fault : List (List ℕ) → Option (List ℕ)
askpass_fault words = askpass_fault_by (askpass_asked words)
