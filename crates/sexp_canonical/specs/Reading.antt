-- What reading a text answers: the expression at its front, or else the first fault from the left. Which fault it is, and its
-- place, is this project's own.
use Rattle.std.specs.{Prelude.{◌≡◌, ℕ, ◌+◌, ◌*◌, ◌-◌, ◌≤◌, max, List, [], ◌∷◌, ◌++◌, length, take, ◌==◌, ◌||◌, nat_lt, ◌&&◌, if◌then◌else◌, Option, Some, None, Result, Ok, Err, ◌⊎◌}, Char.is_ascii_digit, List.flat_map}
use Rattle.sexp_canonical.specs.{Tree.{Tree, row}, Spelling.{most_bytes, most_depth, left_paren, right_paren, colon, numeral, spelling, depths, IsReadable}, declared.{tree.Sexp.Sexp, fault.SexpFault.SexpFault}}
use Rattle.sexp_canonical.specs.declared.fault.SexpFault.TheVariants.{BadByte, BadLength, Deep, Short}

-- The lists that are open at a place, the outermost first, each by its items so far.
abbrev pub OpenLists : Type 0
OpenLists = List (List Tree)

-- what stands before a place where an item may begin
abbrev pub opening_bytes : OpenLists → List ℕ
opening_bytes [] = []
opening_bytes (items ∷ inner) = left_paren ∷ flat_map spelling items ++ opening_bytes inner

-- how many lists are open at the deepest place so far
abbrev pub open_depth : OpenLists → ℕ
open_depth [] = 0
open_depth (items ∷ inner) = max (depths (row items)) (open_depth inner) + 1

-- The fault at a place where an item may begin, by the bytes from there on: none where they go on well.
unfoldable pub item_fault : (place lists_open : ℕ) → List ℕ → Option SexpFault
item_fault place lists_open [] = Some Short
item_fault place lists_open (byte ∷ more) =
    if is_ascii_digit byte then None
    else (if byte == left_paren then (if lists_open == most_depth then Some (Deep place) else None)
    else (if byte == right_paren && nat_lt 0 lists_open then None
    else Some (BadByte place)))

-- The fault behind the numeral of a length that begins at a place, by the bytes after the numeral.
unfoldable pub length_fault : (place count : ℕ) → List ℕ → Option SexpFault
length_fault place count [] = Some Short
length_fault place count (byte ∷ more) =
    if is_ascii_digit byte then (if count == 0 || nat_lt most_bytes (10 * count + (byte - 48)) then Some (BadLength place) else None)
    else (if byte == colon then (if nat_lt (length more) count then Some Short else None)
    else Some (BadByte (place + length (numeral count))))

-- Here stands the numeral of a length within the limit, and the fault is behind it.
pub record IsLengthFault (place : ℕ) (bytes : List ℕ) (fault : SexpFault) : Type 0 where
  pub count : ℕ
  pub after : List ℕ
  pub within : count ≤ most_bytes
  pub parts : bytes ≡ numeral count ++ after
  pub at : length_fault place count after ≡ Some fault

-- The fault where these bytes stand at a place where an item may begin.
abbrev pub IsFaultAt : (place lists_open : ℕ) → List ℕ → SexpFault → Type 0
IsFaultAt place lists_open bytes fault = (item_fault place lists_open bytes ≡ Some fault) ⊎ IsLengthFault place bytes fault

-- All is well up to some place where an item may begin, and the fault is at that item.
pub record IsFirstSexpFault (text : List ℕ) (fault : SexpFault) : Type 0 where
  pub lists : OpenLists
  pub shallow : open_depth lists ≤ most_depth
  pub bytes : List ℕ
  pub parts : text ≡ opening_bytes lists ++ bytes
  pub at : IsFaultAt (length (opening_bytes lists)) (length lists) bytes fault

-- An expression is read where the first n bytes are readable as it. A fault is the first one of as many bytes as are looked at.
abbrev pub ReadsCanonical : List ℕ → Result (Sexp × ℕ) SexpFault → Type 0
ReadsCanonical bytes (Ok read) = (read.1 ≤ length bytes) × IsReadable (take read.1 bytes) read.0
ReadsCanonical bytes (Err fault) = IsFirstSexpFault (take most_bytes bytes) fault
