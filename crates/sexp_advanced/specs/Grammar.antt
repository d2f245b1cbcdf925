-- The atoms between two marks in the words of the standard (draft-rivest-sexp, hexadecimal and quoted-string representation): the spellings of each
-- byte, one after another, and the closing mark. The law `atoms_are_spelled` says that these are the atoms that are read.
use Rattle.std.specs.Prelude.{◌≡◌, ℕ, ◌+◌, ◌*◌, ◌≤◌, true, List, [], ◌∷◌, ◌++◌, Some, ◌⊎◌}
use Rattle.sexp_advanced.specs.{Bytes.{is_space_byte, hex_value}, Pieces.letter, declared.pieces.Form.{Form, TheVariants.{Hexadecimal, Quoted}}}

abbrev pub AreBlanks : List ℕ → Type 0
AreBlanks [] = Unit {0}
AreBlanks (b ∷ more) = (is_space_byte b ≡ true) × AreBlanks more

-- two hexadecimal digits, each behind any blanks
pub record IsPair (spelling : List ℕ) (b : ℕ) : Type 0 where
  pub before : List ℕ
  pub between : List ℕ
  pub high : ℕ
  pub low : ℕ
  pub high_value : ℕ
  pub low_value : ℕ
  pub blanks_before : AreBlanks before
  pub blanks_between : AreBlanks between
  pub high_is : hex_value high ≡ Some high_value
  pub low_is : hex_value low ≡ Some low_value
  pub parts : spelling ≡ before ++ high ∷ (between ++ low ∷ [])
  pub is : b ≡ 16 * high_value + low_value

-- a byte that stands for itself: no quote, no backslash, no LF and no CR
pub record IsPlain (spelling : List ℕ) (b : ℕ) : Type 0 where
  pub parts : spelling ≡ b ∷ []
  pub no_quote : b ≡ 34 → ⊥
  pub no_backslash : b ≡ 92 → ⊥
  pub no_line_feed : b ≡ 10 → ⊥
  pub no_carriage_return : b ≡ 13 → ⊥

-- a backslash and one of `btvnfr"'\`
pub record IsLetter (spelling : List ℕ) (b : ℕ) : Type 0 where
  pub at : ℕ
  pub parts : spelling ≡ 92 ∷ at ∷ []
  pub is : letter at ≡ Some b

-- a backslash and three octal digits, up to 377
pub record IsOctal (spelling : List ℕ) (b : ℕ) : Type 0 where
  pub first : ℕ
  pub second : ℕ
  pub third : ℕ
  pub first_digit : first ≤ 7
  pub second_digit : second ≤ 7
  pub third_digit : third ≤ 7
  pub parts : spelling ≡ 92 ∷ (48 + first) ∷ (48 + second) ∷ (48 + third) ∷ []
  pub is : b ≡ 64 * first + 8 * second + third
  pub most : b ≤ 255

-- `\x` and two hexadecimal digits
pub record IsHexEscape (spelling : List ℕ) (b : ℕ) : Type 0 where
  pub high : ℕ
  pub low : ℕ
  pub high_value : ℕ
  pub low_value : ℕ
  pub high_is : hex_value high ≡ Some high_value
  pub low_is : hex_value low ≡ Some low_value
  pub parts : spelling ≡ 92 ∷ 120 ∷ high ∷ low ∷ []
  pub is : b ≡ 16 * high_value + low_value

-- the spellings of a byte
abbrev pub IsSpelling : Form → List ℕ → ℕ → Type 0
IsSpelling Hexadecimal spelling b = IsPair spelling b
IsSpelling Quoted spelling b = IsPlain spelling b ⊎ (IsLetter spelling b ⊎ (IsOctal spelling b ⊎ IsHexEscape spelling b))

-- the closing mark, behind any blanks in a hexadecimal atom
abbrev pub IsClosed : Form → (text rest : List ℕ) → Type 0
IsClosed Hexadecimal text rest = (blanks : List ℕ) × AreBlanks blanks × (text ≡ blanks ++ 35 ∷ rest)
IsClosed Quoted text rest = text ≡ 34 ∷ rest

-- behind the opening mark stand the spellings of these bytes and the closing mark
abbrev pub IsSpelled : Form → (text bytes rest : List ℕ) → Type 0
IsSpelled form text [] rest = IsClosed form text rest
IsSpelled form text (b ∷ bytes) rest = (spelling : List ℕ) × (more : List ℕ) × IsSpelling form spelling b × (text ≡ spelling ++ more) × IsSpelled form more bytes rest
