-- What a user is told of words that aren't read.
use Rattle.std.specs.{Prelude.{ℕ, ◌^◌, ◌-◌, min, Bool, List, ◌++◌, length, codes, decimal, Option, Some, if◌then◌else◌}, Str.bytes_eq}
use Rattle.passphrase_words.specs.{Options.form_of, Texts.longest_line, declared.{fault.WordsFault.{WordsFault, TheVariants.{Unknown, Wants, Twice, Apart, Alone, NoId, Operands, Id, LongId, LongTexts, Askpass}}, options.Form.Form}}
use Rattle.passphrase_words.specs.declared.options.Form.TheVariants.{Seconds}

-- what the option wants
abbrev pub wish_by : Option Form → Bool → List ℕ
wish_by (Some Seconds) is_folder = codes "a number of seconds, 1 to 2147483647"
wish_by _ is_folder = if is_folder then codes "a folder" else codes "a text"

abbrev pub wish : List ℕ → List ℕ
wish name = wish_by (form_of name) (bytes_eq name (codes "--homedir"))

-- the text of each fault, one line for each
abbrev pub unknown_text : List ℕ → List ℕ
unknown_text word = codes "there is no option " ++ word

abbrev pub wants_text : List ℕ → List ℕ → List ℕ
wants_text name what = name ++ codes " wants " ++ what

abbrev pub twice_text : List ℕ → List ℕ
twice_text name = name ++ codes " is given twice"

abbrev pub apart_text : List ℕ → List ℕ → List ℕ
apart_text name other = name ++ codes " and " ++ other ++ codes " don't go together"

abbrev pub alone_text : List ℕ → List ℕ
alone_text name = name ++ codes " wants an ID alone"

abbrev pub no_id_text : List ℕ
no_id_text = codes "--forget-all wants no ID"

abbrev pub operands_text : List ℕ
operands_text = codes "an ID is wanted, and a DESCRIPTION may follow it"

abbrev pub id_text : List ℕ → List ℕ
id_text id = codes "an ID is letters, digits and :._@/- (and neither X alone nor begins with -): " ++ id

abbrev pub long_id_text : List ℕ → List ℕ
long_id_text id = codes "an ID has at most 50 bytes: " ++ id

abbrev pub askpass_text : List ℕ
askpass_text = codes "one text is wanted, and --forget may stand before it"

abbrev pub fault_text : WordsFault → List ℕ
fault_text (Unknown word) = unknown_text word.now
fault_text (Wants name what) = wants_text name.now what.now
fault_text (Twice name) = twice_text name.now
fault_text (Apart name other) = apart_text name.now other.now
fault_text (Alone name) = alone_text name.now
fault_text NoId = no_id_text
fault_text Operands = operands_text
fault_text (Id id) = id_text id.now
fault_text (LongId id) = long_id_text id.now
fault_text (LongTexts digits) = codes "the texts are too long: with them the request has " ++ digits.items ++ codes " bytes of at most 1000"
fault_text Askpass = askpass_text

-- a number of bytes, as far as 64 bits count them
abbrev pub counted : ℕ → ℕ
counted bytes = min bytes (2 ^ 64 - 1)

-- that of texts for which the longest request has no room: how many bytes it has with them
abbrev pub long_text : List ℕ → List ℕ → List ℕ
long_text id texts =
    codes "the texts are too long: with them the request has " ++ decimal (counted (length (longest_line id texts))) ++ codes " bytes of at most 1000"
