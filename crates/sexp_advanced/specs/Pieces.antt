-- What stands at a place within a hexadecimal atom or a quoted text, by the bytes from there on.
use Rattle.std.specs.{Prelude.{ℕ, ◌+◌, ◌*◌, ◌-◌, Bool, List, [], ◌∷◌, ◌||◌, ◌==◌, if◌then◌else◌, Option, Some, None}, Int.is_in_range}
use Rattle.sexp_advanced.specs.{Bytes.{is_space_byte, hex_value, without_front}, declared.pieces.{Piece.{Piece as Seen, TheVariants.{Byte, Close, Broken, Cut}}, Form.{Form, TheVariants.{Hexadecimal, Quoted}}}}

-- a byte and what is behind it, the closing mark and what is behind it, a break of the form, or the end of the text
pub data Piece : Type 0 where
  byte : ℕ → List ℕ → Piece
  close : List ℕ → Piece
  broken : Piece
  cut : Piece

-- the second digit of a pair
unfoldable pub low_digit : ℕ → List ℕ → Piece
low_digit high [] = cut
low_digit high (b ∷ more) = elim (hex_value b) [ Some low ↦ byte (16 * high + low) more | None ↦ broken ]

-- two hexadecimal digits, with blanks anywhere, or the `#` behind the last pair
unfoldable pub pair_here : List ℕ → Piece
pair_here [] = cut
pair_here (b ∷ more) =
    if b == 35 then close more
    else elim (hex_value b) [ Some high ↦ low_digit high (without_front is_space_byte more) | None ↦ broken ]

unfoldable pub pair : List ℕ → Piece
pair text = pair_here (without_front is_space_byte text)

-- the two digits of an escape `\x`, side by side
unfoldable pub hex_escape : List ℕ → Piece
hex_escape [] = cut
hex_escape (b ∷ more) = elim (hex_value b) [ Some high ↦ low_digit high more | None ↦ broken ]

abbrev pub is_octal : ℕ → Bool
is_octal b = is_in_range 48 55 b

-- the second and the third of three octal digits, whose first is at most 3: so they stand for at most 377
unfoldable pub third_octal : ℕ → ℕ → List ℕ → Piece
third_octal first second [] = cut
third_octal first second (b ∷ more) = if is_octal b then byte (64 * first + 8 * second + (b - 48)) more else broken

unfoldable pub second_octal : ℕ → List ℕ → Piece
second_octal first [] = cut
second_octal first (b ∷ more) = if is_octal b then third_octal first (b - 48) more else broken

-- the bytes of `\b \t \v \n \f \r \" \' \\`
unfoldable pub letter : ℕ → Option ℕ
letter b =
    if b == 98 then Some 8
    else (if b == 116 then Some 9
    else (if b == 118 then Some 11
    else (if b == 110 then Some 10
    else (if b == 102 then Some 12
    else (if b == 114 then Some 13
    else (if b == 34 then Some 34
    else (if b == 39 then Some 39
    else (if b == 92 then Some 92
    else None))))))))

-- what is behind the backslash of an escape
unfoldable pub escape : List ℕ → Piece
escape [] = cut
escape (b ∷ more) =
    if b == 120 then hex_escape more
    else (if is_in_range 48 51 b then second_octal (b - 48) more
    else elim (letter b) [ Some c ↦ byte c more | None ↦ broken ])

-- a byte of a quoted text, an escape, or the closing quote; LF and CR break it
unfoldable pub quoted_piece : List ℕ → Piece
quoted_piece [] = cut
quoted_piece (b ∷ more) =
    if b == 34 then close more
    else (if b == 92 then escape more
    else (if b == 10 || b == 13 then broken
    else byte b more))

abbrev pub piece_at : Form → List ℕ → Piece
piece_at Hexadecimal text = pair text
piece_at Quoted text = quoted_piece text

-- the piece that a function gave
abbrev pub piece_of : Seen → Piece
piece_of (Byte b rest) = byte b rest.now
piece_of (Close rest) = close rest.now
piece_of Broken = broken
piece_of Cut = cut
