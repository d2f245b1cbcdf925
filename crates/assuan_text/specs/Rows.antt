-- Tables of names. Where the case of letters doesn't count, it is so for commands (Assuan manual, "client requests").
use Rattle.std.specs.{Prelude.{ℕ, ◌&&◌, Bool, List, [], ◌∷◌, map, Option, Some, None, if◌then◌else◌}, Borrow.Bor, List.list_any, Str.{bytes_eq, str_eq_ignore_ascii_case}}

-- what the first row of this name has
abbrev pub found : {X : Type 0} → List ℕ → List (List ℕ × X) → Option X
found name [] = None
found name (row ∷ rows) = if bytes_eq row.0 name then Some row.1 else found name rows

-- what the first row of this name has, whatever the case of its letters
abbrev pub found_in_any_case : {X : Type 0} → List ℕ → List (List ℕ × X) → Option X
found_in_any_case name [] = None
found_in_any_case name (row ∷ rows) =
    if str_eq_ignore_ascii_case row.0 name then Some row.1 else found_in_any_case name rows

-- a row has both, byte for byte
abbrev pub has_pair : List ℕ → List ℕ → List (List ℕ × List ℕ) → Bool
has_pair first second rows = list_any (λ row. bytes_eq row.0 first && bytes_eq row.1 second) rows

-- the rows of a table that the program holds
abbrev pub rows_of : {X : Type 0} → List (Bor (List ℕ) × X) → List (List ℕ × X)
rows_of rows = map (λ row. (row.0.now, row.1)) rows

-- the same, where a row is a pair of names
abbrev pub pairs_of : List (Bor (List ℕ) × Bor (List ℕ)) → List (List ℕ × List ℕ)
pairs_of rows = map (λ row. (row.0.now, row.1.now)) rows
