-- Escapes of bytes, as the Assuan manual has them ("server responses"): a percent sign (37), a carriage return (13) and a
-- line feed (10) are sent as `%` and two hexadecimal digits. That bytes from 128 on are escaped too, and that the digits
-- are uppercase, is this project's own rule. Any escape is read again, also of a byte that needs none.
use Rattle.std.specs.{Prelude.{ℕ, ◌/◌, ◌%◌, ◌==◌, ◌||◌, nat_le, Bool, true, List, [], ◌∷◌, map, if◌then◌else◌}, List.flat_map, Fmt.digit_glyph}
use Rattle.percent_encoding.specs.Percent.{percent_decode}

-- the two uppercase hexadecimal digits of a byte, the high four bits first
abbrev pub hex_digits : ℕ → List ℕ
hex_digits byte = digit_glyph true (byte / 16 % 16) ∷ digit_glyph true (byte % 16) ∷ []

-- each byte as its two digits
abbrev pub hex_text : List ℕ → List ℕ
hex_text bytes = flat_map hex_digits bytes

-- the byte is sent as an escape
abbrev pub is_escaped : ℕ → Bool
is_escaped byte = byte == 37 || byte == 13 || byte == 10 || nat_le 128 byte

-- what is sent for a byte: `%` and its two digits, or the byte itself
abbrev pub escape_of : ℕ → List ℕ
escape_of byte = if is_escaped byte then 37 ∷ hex_digits byte else byte ∷ []

-- what is sent for these bytes
abbrev pub escapes : List ℕ → List ℕ
escapes bytes = flat_map escape_of bytes

-- each `+` as a blank
abbrev pub with_blanks : List ℕ → List ℕ
with_blanks bytes = map (λ byte. if byte == 43 then 32 else byte) bytes

-- What was meant by these bytes: `%` and two hexadecimal digits of either case are the byte with this number, and any
-- other `%` stands for itself. Where `plus`, a `+` is a blank, and one that is meant is escaped.
abbrev pub unescaped : Bool → List ℕ → List ℕ
unescaped plus bytes = percent_decode (if plus then with_blanks bytes else bytes)
