-- What reading a key file in the extended format answers: the key and the bytes around its item, or else the first fault. The
-- order of faults is this project's own: the lines from the top, then that there is no key, then the key's own.
use Rattle.std.specs.Prelude.{◌≡◌, ℕ, true, false, codes, List, ◌∷◌, ◌++◌, Some, None, Result, Ok, Err}
use Rattle.{sexp_canonical.specs.declared.tree.Sexp.Sexp, sexp_advanced.specs.Writing.advanced_of}
use Rattle.key_lines.specs.{Faults.line_fault, KeyItem.{has_key, key_value, before_key, after_key}, KeyText.{IsKeyText, IsKeyFault}, declared.fault.LinesFault.{LinesFault, TheVariants.{BadLine, NoKey, TwoKeys, BadKey, TooLong, NoMemory}}}

-- the key of a file, the bytes before the lines of its item, and the bytes after them
pub record KeyFile : Type 0 where
  pub before : List ℕ
  pub tree : Sexp
  pub after : List ℕ

-- each line has its form, and there is one item with the name `Key`
pub record HasKeyItem (file : List ℕ) : Type 0 where
  pub formed : line_fault file ≡ None
  pub has : has_key file ≡ true

-- the file has this key
pub record IsKeyFile (file : List ℕ) (key : KeyFile) : Type 0 where
  pub item : HasKeyItem file
  pub before : key.before ≡ before_key file
  pub text : IsKeyText (key_value file) key.tree
  pub after : key.after ≡ after_key file

-- the first fault of a file
abbrev pub IsFault : List ℕ → LinesFault → Type 0
IsFault file (BadLine number) = line_fault file ≡ Some (BadLine number)
IsFault file (TwoKeys number) = line_fault file ≡ Some (TwoKeys number)
IsFault file NoKey = (line_fault file ≡ None) × (has_key file ≡ false)
IsFault file (BadKey fault) = HasKeyItem file × IsKeyFault (key_value file) (BadKey fault)
IsFault file TooLong = HasKeyItem file × IsKeyFault (key_value file) TooLong
IsFault file NoMemory = ⊥

abbrev pub Answers : List ℕ → Result KeyFile LinesFault → Type 0
Answers file (Ok key) = IsKeyFile file key
Answers file (Err fault) = IsFault file fault

-- the file with the item of another key in place of its own
abbrev pub with_key : KeyFile → Sexp → List ℕ
with_key key tree = key.before ++ codes "Key: " ++ advanced_of tree ++ 10 ∷ key.after
