-- The line feed (LF, 10) that ends each line, which a carriage return (CR, 13) may precede (Assuan manual, "client requests").
use Rattle.std.specs.{Prelude.{ℕ, ◌==◌, ◌-◌, Bool, List, [], ◌∷◌, ◌++◌, length, take, slice_index, if◌then◌else◌}, List.list_any}

abbrev pub is_lf : ℕ → Bool
is_lf byte = byte == 10

-- a line feed is among the bytes
abbrev pub has_lf : List ℕ → Bool
has_lf bytes = list_any is_lf bytes

-- a line with its end
abbrev pub line_of : List ℕ → List ℕ
line_of text = text ++ 10 ∷ []

-- without the carriage return at the end, where there is one
abbrev pub without_cr : List ℕ → List ℕ
without_cr bytes = if slice_index bytes (length bytes - 1) == 13 then take (length bytes - 1) bytes else bytes
