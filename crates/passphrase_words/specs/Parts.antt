-- Private: words read from the left as settings, and where these end; and bytes that a buffer takes.
use Rattle.std.specs.{Prelude.{◌≡◌, ◌<◌, ◌+◌, ℕ, ◌==◌, Bool, true, false, List, [], ◌∷◌, ◌++◌, length, codes, if◌then◌else◌, Option, Some, None, Result, OnOk, OnErr}, List.{before_first, after_first}, Option.option_map, Str.bytes_eq}
use Rattle.assuan_text.specs.declared.TheConstants.{MAX_LINE_LEN}
use Rattle.passphrase_words.specs.{Spelling.{Setting as SettingValue, takes}, Words.asks_for_help, declared.{words.Front.{Front, TheVariants.{Help, Version, Other}}, settings.Setting.Setting}}

abbrev pub setting_value : Setting → SettingValue
setting_value setting = (setting.name.now, option_map (λ value. value.now) setting.value)

abbrev pub is_equals : ℕ → Bool
is_equals byte = byte == 61

-- a word by itself, whose whole takes a value or not, and what is before its first `=`
abbrev pub by_itself : List ℕ → Option Bool → Option Bool → Option SettingValue
by_itself word (Some false) front = Some (word, None)
by_itself word None (Some true) = Some (before_first is_equals word, Some (after_first is_equals word))
by_itself word _ _ = None

abbrev pub alone : List ℕ → Option SettingValue
alone word = by_itself word (takes word) (takes (before_first is_equals word))

-- the settings of a word that is one by itself, and of those behind it
abbrev pub begun : Option SettingValue → List SettingValue → List SettingValue
begun None more = []
begun (Some setting) more = setting ∷ more

abbrev pub left : Option SettingValue → List (List ℕ) → List (List ℕ) → List (List ℕ)
left None words more = words
left (Some setting) words more = more

-- the settings of a word that the next one is the value of, or isn't
abbrev pub settings_by : Option Bool → List ℕ → List ℕ → List SettingValue → List SettingValue → List SettingValue
settings_by (Some true) word next behind others = (word, Some next) ∷ behind
settings_by _ word next behind others = begun (alone word) others

abbrev pub rest_by : Option Bool → List ℕ → List (List ℕ) → List (List ℕ) → List (List ℕ) → List (List ℕ)
rest_by (Some true) word words behind others = behind
rest_by _ word words behind others = left (alone word) words others

-- the settings in front
abbrev pub settings : List (List ℕ) → List SettingValue
settings [] = []
settings (word ∷ []) = begun (alone word) []
settings (word ∷ next ∷ words) = settings_by (takes word) word next (settings words) (settings (next ∷ words))

-- the words behind them
abbrev pub rest_of : List (List ℕ) → List (List ℕ)
rest_of [] = []
rest_of (word ∷ []) = left (alone word) (word ∷ []) []
rest_of (word ∷ next ∷ words) = rest_by (takes word) word (word ∷ next ∷ words) (rest_of words) (rest_of (next ∷ words))

-- what the word behind them asks for
abbrev pub front_word : List ℕ → Front
front_word word = if asks_for_help word then Help else if bytes_eq word (codes "--version") then Version else Other

abbrev pub front_of : List (List ℕ) → Front
front_of [] = Other
front_of (word ∷ words) = front_word word

-- the word that a description begins with where none is given
abbrev pub default_front : Bool → List ℕ
default_front true = codes "New+passphrase+for+"
default_front false = codes "Passphrase+"

-- the buffer of a line took these bytes, or has no room for them
pub record HasPushed {E : Type 0} (bytes before : List ℕ) (result : Result (Unit {0}) E) (after : List ℕ) : Type 0 where
  pub full : OnErr result (MAX_LINE_LEN < length before + length bytes)
  pub taken : OnOk result (after ≡ before ++ bytes)
