-- What an item of a text is: a mark of a list, or an atom in one of its four forms.
use Rattle.std.specs.Prelude.{◌≡◌, ℕ, List, [], ◌∷◌, drop, Option, Some, None, Result, Ok, Err}
use Rattle.sexp_canonical.specs.{Reading.ReadsCanonical, declared.{tree.Sexp.{Sexp, TheVariants.{Atom as Atomic, List as Listed}}, fault.SexpFault.SexpFault}}
use Rattle.sexp_canonical.specs.declared.fault.SexpFault.TheVariants.{BadByte as CanonicalBadByte, BadLength as CanonicalBadLength, Deep as CanonicalDeep, Short as CanonicalShort, NoMemory as CanonicalNoMemory}
use Rattle.sexp_advanced.specs.{Bytes.{is_token_byte, front_of, without_front, class_of}, Pieces.{Piece, byte, close, broken, cut, piece_at}, declared.bytes.Class.Class}
use Rattle.sexp_advanced.specs.declared.{bytes.Class.TheVariants.{Opens, Closes, Hexadecimal, Quoted, Verbatim, Token, Nothing}, pieces.Form.{Form, TheVariants.{Hexadecimal as InHexadecimal, Quoted as InQuotes}}, signs.Sign.Sign}
use Rattle.sexp_advanced.specs.declared.signs.Sign.TheVariants.{Open, Close, Atom}

-- what stands at a place: a sign and what is behind it, or why there is none
pub data Found : Type 0 where
  sign : Sign → List ℕ → Found
  -- an atom that breaks its form
  broken_atom : Found
  -- the bytes end first
  ended : Found
  -- a byte that begins no item
  no_item : Found

-- the text begins with pieces that stand for these bytes, up to a place
abbrev pub Spells : (form : Form) → List ℕ → List ℕ → List ℕ → Type 0
Spells form text [] at = text ≡ at
Spells form text (b ∷ bytes) at = (more : List ℕ) × (piece_at form text ≡ byte b more) × Spells form more bytes at

-- what an atom of these bytes comes to, by the piece behind them
abbrev pub outcome : List ℕ → Piece → Option Found
outcome bytes (byte b more) = None
outcome bytes (close rest) = Some (sign (Atom bytes) rest)
outcome bytes broken = Some broken_atom
outcome bytes cut = Some ended

-- an atom between two marks, from behind the first: pieces one after another, and then its end or its break
pub record IsDelimited (form : Form) (text : List ℕ) (found : Found) : Type 0 where
  pub bytes : List ℕ
  pub at : List ℕ
  pub spelled : Spells form text bytes at
  pub is : outcome bytes (piece_at form at) ≡ Some found

-- what the canonical form has where a digit stands: an atom and what is behind it, a break, or too few bytes; no list begins with a digit
abbrev pub verbatim_fault : SexpFault → Found
verbatim_fault CanonicalShort = ended
verbatim_fault (CanonicalBadByte place) = broken_atom
verbatim_fault (CanonicalBadLength place) = broken_atom
verbatim_fault (CanonicalDeep place) = broken_atom
verbatim_fault CanonicalNoMemory = broken_atom

abbrev pub verbatim_tree : List ℕ → Sexp → ℕ → Found
verbatim_tree text (Atomic bytes) n = sign (Atom bytes) (drop n text)
verbatim_tree text (Listed items) n = broken_atom

abbrev pub verbatim : List ℕ → Result (Sexp × ℕ) SexpFault → Found
verbatim text (Ok read) = verbatim_tree text read.0 read.1
verbatim text (Err fault) = verbatim_fault fault

pub record IsVerbatim (text : List ℕ) (found : Found) : Type 0 where
  pub answer : Result (Sexp × ℕ) SexpFault
  pub reads : ReadsCanonical text answer
  pub is : verbatim text answer ≡ found

-- what a first byte of a kind begins, by the whole text and what is behind that byte
abbrev pub IsOf : Class → (text more : List ℕ) → Found → Type 0
IsOf Opens text more found = found ≡ sign Open more
IsOf Closes text more found = found ≡ sign Close more
IsOf Hexadecimal text more found = IsDelimited InHexadecimal more found
IsOf Quoted text more found = IsDelimited InQuotes more found
IsOf Verbatim text more found = IsVerbatim text found
IsOf Token text more found = found ≡ sign (Atom (front_of is_token_byte text)) (without_front is_token_byte text)
IsOf Nothing text more found = found ≡ no_item

-- what stands at the front of a text that begins with no blank
abbrev pub IsAt : List ℕ → Found → Type 0
IsAt [] found = found ≡ ended
IsAt (b ∷ more) found = IsOf (class_of b) (b ∷ more) more found
