-- What reading a key from an expression answers: the key, or else the first fault.
use Rattle.std.specs.Prelude.{◌≡◌, ◌⊎◌, ◌||◌, List, [], ◌∷◌, codes, bytes_eq, true, false, is_some, Option, Some, None, Result, Ok, Err, if◌then◌else◌}
use Rattle.sexp_canonical.specs.Tree.{Tree, leaf, branch, items}
use Rattle.sexp_keys.specs.{Names.{algorithm_of, form_name}, Key.{Key, IsKey}, declared.fault.KeyFault.{KeyFault, TheVariants.{InvSexp, BadSecKey, Shadowed, NotSupported}}}

-- the fault of the first item, the name of a form
abbrev pub form_fault : List Tree → Option KeyFault
form_fault [] = Some InvSexp
form_fault (branch row ∷ more) = Some InvSexp
form_fault (leaf name ∷ more) =
    if bytes_eq name (form_name true) || bytes_eq name (form_name false) then None
    else (if bytes_eq name (codes "shadowed-private-key") then Some Shadowed
    else (if bytes_eq name (codes "openpgp-private-key") then Some NotSupported
    else Some InvSexp))

-- the fault of the list of an algorithm, by its items
abbrev pub name_fault : List Tree → Option KeyFault
name_fault [] = Some BadSecKey
name_fault (branch row ∷ more) = Some BadSecKey
name_fault (leaf name ∷ more) = if is_some (algorithm_of name) then None else Some NotSupported

-- the fault of the second item
abbrev pub algorithm_fault : List Tree → Option KeyFault
algorithm_fault [] = Some BadSecKey
algorithm_fault (first ∷ []) = Some BadSecKey
algorithm_fault (first ∷ second ∷ further) = name_fault (items second)

-- the first of two faults
abbrev pub first_fault : Option KeyFault → Option KeyFault → Option KeyFault
first_fault (Some fault) later = Some fault
first_fault None later = later

-- the fault of the form and of the algorithm's name, in this order
abbrev pub named_fault : Tree → Option KeyFault
named_fault tree = first_fault (form_fault (items tree)) (algorithm_fault (items tree))

-- A fault of the names comes first. Where they are right, all that is no key is a bad key.
abbrev pub IsFirstKeyFault : Tree → KeyFault → Type 0
IsFirstKeyFault tree fault =
    (named_fault tree ≡ Some fault)
    ⊎ ((named_fault tree ≡ None) × ((key : Key) → IsKey tree key → ⊥) × (fault ≡ BadSecKey))

-- what is answered for an expression
abbrev pub ReadsKey : Tree → Result Key KeyFault → Type 0
ReadsKey tree (Ok key) = IsKey tree key
ReadsKey tree (Err fault) = IsFirstKeyFault tree fault
