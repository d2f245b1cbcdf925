-- What the steps of reading know of a text.
use Rattle.std.specs.Prelude.{◌≡◌, ℕ, List, [], ◌∷◌, ◌++◌, length, Option, Some, None}
use Rattle.sexp_canonical.specs.{Tree.{Tree, leaf, list_of}, Spelling.most_depth, Reading.OpenLists, Adding.AddsTree, declared.{tree.Sexp.Sexp, fault.SexpFault.SexpFault}}
use Rattle.sexp_canonical.specs.declared.fault.SexpFault.TheVariants.{BadByte as CanonicalBadByte, BadLength as CanonicalBadLength, Deep as CanonicalDeep, Short as CanonicalShort, NoMemory as CanonicalNoMemory}
use Rattle.sexp_advanced.specs.{declared.{signs.Sign.{Sign, TheVariants.{Open, Close, Atom}}, fault.AdvFault.{AdvFault, TheVariants.{BadAtom, Short, NoMemory}}}, Signs.Found, Reading.fault_of}

-- at the place stands no sign, and that is the fault
pub record HasNoSign (Is : Found → Type 0) (place : ℕ) (fault : AdvFault) : Type 0 where
  pub found : Found
  pub stands : Is found
  pub is : (lists_open : ℕ) → fault_of place lists_open found ≡ Some fault

-- the fault of a canonical atom, with the place where it begins
abbrev pub verbatim_fault_at : ℕ → SexpFault → AdvFault
verbatim_fault_at place (CanonicalBadByte at) = BadAtom place
verbatim_fault_at place (CanonicalBadLength at) = BadAtom place
verbatim_fault_at place (CanonicalDeep at) = BadAtom place
verbatim_fault_at place CanonicalShort = Short
verbatim_fault_at place CanonicalNoMemory = NoMemory

-- the innermost list is at its end
pub record AddsList (old new : OpenLists) (r : Option Sexp) : Type 0 where
  pub outer : OpenLists
  pub items : List Tree
  pub before : old ≡ outer ++ items ∷ []
  pub adds : AddsTree outer new (list_of items) r

-- what a sign makes of the open lists
abbrev pub Adds : (old new : OpenLists) → Sign → Option Sexp → Type 0
Adds old new Open None = (length old ≡ most_depth → ⊥) × (new ≡ old ++ [] ∷ [])
Adds old new Open (Some whole) = ⊥
Adds old new Close r = AddsList old new r
Adds old new (Atom bytes) r = AddsTree old new (leaf bytes) r
