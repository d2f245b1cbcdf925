-- The first line of a key file that is wrong. Which fault it is, and its number, is this project's own.
use Rattle.std.specs.{Prelude.{ℕ, Bool, false, not, List, [], ◌∷◌, length, Option, Some, None, if◌then◌else◌}, List.list_any, Option.option_or}
use Rattle.key_lines.specs.{Items.{is_comment, is_key, forms_of}, declared.{forms.LineForm.{LineForm, TheVariants.{Comment, GoesOn, Item, Key, NoForm}}, fault.LinesFault.{LinesFault, TheVariants.{BadLine, TwoKeys}}}}

-- There is an item to go on with where the line just before isn't a comment. Lines before come nearest first.
abbrev pub is_in_item : List LineForm → Bool
is_in_item [] = false
is_in_item (nearest ∷ before) = not (is_comment nearest)

-- what is wrong with a line, by the lines before it
abbrev pub fault_of_form : List LineForm → LineForm → Option LinesFault
fault_of_form before Comment = None
fault_of_form before GoesOn = if is_in_item before then None else Some (BadLine (length before))
fault_of_form before Item = None
fault_of_form before Key = if list_any is_key before then Some (TwoKeys (length before)) else None
fault_of_form before NoForm = Some (BadLine (length before))

-- the fault of the first line that has one, by the lines before these
abbrev pub first_line_fault : List LineForm → List LineForm → Option LinesFault
first_line_fault before [] = None
first_line_fault before (form ∷ forms) = option_or (fault_of_form before form) (first_line_fault (form ∷ before) forms)

-- the fault of the first line of a file that has one
abbrev pub line_fault : List ℕ → Option LinesFault
line_fault file = first_line_fault [] (forms_of file)
