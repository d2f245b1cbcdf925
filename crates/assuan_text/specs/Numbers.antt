-- Numbers of decimal digits. That at most ten of them are read is this project's own rule.
use Rattle.std.specs.{Prelude.{ℕ, ◌+◌, ◌-◌, ◌*◌, ◌&&◌, nat_le, List, length, fold, Option, Some, None, if◌then◌else◌}, Str.all_ascii_digits}

-- the number that decimal digits are
abbrev pub decimal : List ℕ → ℕ
decimal digits = fold (λ number digit. 10 * number + (digit - 48)) 0 digits

-- the number that a value of 1 to 10 decimal digits is
abbrev pub number_of : List ℕ → Option ℕ
number_of value =
    if nat_le 1 (length value) && nat_le (length value) 10 && all_ascii_digits value
    then Some (decimal value)
    else None
