-- The key as the value of its item: one advanced expression, with blanks around it. Which fault it is, and its place, is this
-- project's own.
use Rattle.std.specs.{Prelude.{◌≡◌, ℕ, ◌+◌, ◌≤◌, ◌<◌, true, false, List, length, drop, Ok, Err, ◌⊎◌}, List.{list_all, prefix_len}}
use Rattle.{assuan_text.specs.Blanks.is_blank, sexp_canonical.specs.{Spelling.{most_bytes, spelling_of}, declared.tree.Sexp.Sexp}, sexp_advanced.specs.{Reading.ReadsAdvanced, declared.fault.AdvFault.{AdvFault, TheVariants.BadByte}}}
use Rattle.key_lines.specs.declared.fault.LinesFault.{LinesFault, TheVariants.{BadLine, NoKey, TwoKeys, BadKey, TooLong, NoMemory}}

-- the value is this expression, and nothing but blanks and tabs behind it
pub record IsWholeExpression (value : List ℕ) (tree : Sexp) : Type 0 where
  pub len : ℕ
  pub reads : ReadsAdvanced value (Ok (tree, len))
  pub blank : list_all is_blank (drop len value) ≡ true

-- behind an expression stands another byte first
pub record IsFollowed (value : List ℕ) (fault : AdvFault) : Type 0 where
  pub tree : Sexp
  pub len : ℕ
  pub reads : ReadsAdvanced value (Ok (tree, len))
  pub other : list_all is_blank (drop len value) ≡ false
  pub is : fault ≡ BadByte (len + prefix_len is_blank (drop len value))

-- the first fault of a value
abbrev pub IsTextFault : List ℕ → AdvFault → Type 0
IsTextFault value fault = ReadsAdvanced value (Err fault) ⊎ IsFollowed value fault

-- the key that a value is, whose canonical spelling is within the limit
abbrev pub IsKeyText : List ℕ → Sexp → Type 0
IsKeyText value tree = IsWholeExpression value tree × (length (spelling_of tree) ≤ most_bytes)

-- the fault of a value that is no key
abbrev pub IsKeyFault : List ℕ → LinesFault → Type 0
IsKeyFault value (BadLine number) = ⊥
IsKeyFault value NoKey = ⊥
IsKeyFault value (TwoKeys number) = ⊥
IsKeyFault value (BadKey fault) = IsTextFault value fault
IsKeyFault value TooLong = (tree : Sexp) × IsWholeExpression value tree × (most_bytes < length (spelling_of tree))
IsKeyFault value NoMemory = ⊥
