-- The bytes of the advanced form, as Rivest's "S-Expressions" (draft-rivest-sexp, Advanced Transport Representation) and libgcrypt have them.
use Rattle.std.specs.{Prelude.{ℕ, Bool, List, [], ◌∷◌, ◌||◌, ◌==◌, nat_lt, if◌then◌else◌, Option, Some, None}, Char.{is_ascii_alphabetic, is_ascii_digit, digit_value}}
use Rattle.sexp_advanced.specs.declared.bytes.Class.{Class, TheVariants.{Opens, Closes, Hexadecimal, Quoted, Verbatim, Token, Nothing}}

-- space, tab, LF and CR, which stand between items and within hexadecimal atoms
unfoldable pub is_space_byte : ℕ → Bool
is_space_byte b = ((b == 32 || b == 9) || b == 10) || b == 13

-- one of `-./_:*+=`
unfoldable pub is_token_mark : ℕ → Bool
is_token_mark b = ((((((b == 45 || b == 46) || b == 47) || b == 95) || b == 58) || b == 42) || b == 43) || b == 61

-- a token begins with a letter or a mark, and goes on with such bytes and digits
unfoldable pub is_token_start : ℕ → Bool
is_token_start b = is_ascii_alphabetic b || is_token_mark b

unfoldable pub is_token_byte : ℕ → Bool
is_token_byte b = is_token_start b || is_ascii_digit b

-- the value of a hexadecimal digit of either case
unfoldable pub hex_value : ℕ → Option ℕ
hex_value b = if nat_lt (digit_value b) 16 then Some (digit_value b) else None

-- what a byte begins, where an item may begin
unfoldable pub class_of : ℕ → Class
class_of b =
    if b == 40 then Opens
    else (if b == 41 then Closes
    else (if b == 35 then Hexadecimal
    else (if b == 34 then Quoted
    else (if is_ascii_digit b then Verbatim
    else (if is_token_start b then Token
    else Nothing)))))

-- the bytes at the front that are of a kind, as far as they go on, and the text without them
abbrev pub front_of : (ℕ → Bool) → List ℕ → List ℕ
front_of kind [] = []
front_of kind (b ∷ more) = if kind b then b ∷ front_of kind more else []

abbrev pub without_front : (ℕ → Bool) → List ℕ → List ℕ
without_front kind [] = []
without_front kind (b ∷ more) = if kind b then without_front kind more else b ∷ more
