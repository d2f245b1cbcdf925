-- What reading a text answers: the expression at its front, or else the first fault from the left. Which fault it is, and its
-- place, is this project's own.
use Rattle.std.specs.{Prelude.{◌≡◌, ℕ, ◌-◌, ◌≤◌, List, [], ◌∷◌, ◌++◌, length, drop, ◌==◌, if◌then◌else◌, Option, Some, None, Result, Ok, Err}, List.flat_map}
use Rattle.sexp_canonical.specs.{Tree.{Tree, Row, leaf, branch, end, item}, View.tree_of, Spelling.{most_depth, depth}, Reading.{OpenLists, open_depth}, declared.tree.Sexp.Sexp}
use Rattle.sexp_advanced.specs.{Bytes.{is_space_byte, without_front}, Signs.{Found, sign, broken_atom, ended, no_item, IsAt}, declared.{signs.Sign.{Sign, TheVariants.{Open, Close, Atom}}, fault.AdvFault.AdvFault}}
use Rattle.sexp_advanced.specs.declared.fault.AdvFault.TheVariants.{BadByte, BadAtom, Deep, Short}

abbrev mutual
  -- an atom is one sign; a list is `(`, its items, and `)`
  pub signs : Tree → List Sign
  signs (leaf bytes) = Atom bytes ∷ []
  signs (branch items) = Open ∷ row_signs items ++ Close ∷ []

  pub row_signs : Row → List Sign
  row_signs end = []
  row_signs (item t more) = signs t ++ row_signs more

-- the text begins with these signs, each after any blanks, up to a rest
abbrev pub Begins : List ℕ → List Sign → List ℕ → Type 0
Begins text [] rest = text ≡ rest
Begins text (s ∷ others) rest = (more : List ℕ) × IsAt (without_front is_space_byte text) (sign s more) × Begins more others rest

-- the first n bytes are blanks, where there are any, and the expression, within the limit
pub record IsExpression (bytes : List ℕ) (tree : Sexp) (n : ℕ) : Type 0 where
  pub within : n ≤ length bytes
  pub shallow : depth (tree_of tree) ≤ most_depth
  pub spelled : Begins bytes (signs (tree_of tree)) (drop n bytes)

-- the signs before a place where an item may begin, by the open lists with their items so far
abbrev pub opening_signs : OpenLists → List Sign
opening_signs [] = []
opening_signs (items ∷ inner) = Open ∷ flat_map signs items ++ opening_signs inner

-- the fault of a sign at a place, where so many lists are open
abbrev pub sign_fault : (place lists_open : ℕ) → Sign → Option AdvFault
sign_fault place lists_open Open = if lists_open == most_depth then Some (Deep place) else None
sign_fault place lists_open Close = if lists_open == 0 then Some (BadByte place) else None
sign_fault place lists_open (Atom bytes) = None

-- the fault of what stands there
abbrev pub fault_of : (place lists_open : ℕ) → Found → Option AdvFault
fault_of place lists_open (sign s rest) = sign_fault place lists_open s
fault_of place lists_open broken_atom = Some (BadAtom place)
fault_of place lists_open ended = Some Short
fault_of place lists_open no_item = Some (BadByte place)

-- the place of a rest in a text
abbrev pub place_of : (text rest : List ℕ) → ℕ
place_of text rest = length text - length rest

-- All is well up to some place where an item may begin, and the fault is that of what stands there, behind any blanks.
pub record IsFirstAdvFault (text : List ℕ) (fault : AdvFault) : Type 0 where
  pub lists : OpenLists
  pub shallow : open_depth lists ≤ most_depth
  pub rest : List ℕ
  pub begins : Begins text (opening_signs lists) rest
  pub found : Found
  pub stands : IsAt (without_front is_space_byte rest) found
  pub is : fault_of (place_of text (without_front is_space_byte rest)) (length lists) found ≡ Some fault

abbrev pub ReadsAdvanced : List ℕ → Result (Sexp × ℕ) AdvFault → Type 0
ReadsAdvanced bytes (Ok read) = IsExpression bytes read.0 read.1
ReadsAdvanced bytes (Err fault) = IsFirstAdvFault bytes fault
