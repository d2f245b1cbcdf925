-- Bytes as a line of a terminal or of a log can hold them. That a question mark stands for any other is this project's own.
use Rattle.std.specs.Prelude.{ℕ, List, map, ◌&&◌, nat_le, if◌then◌else◌}

-- the byte, where ASCII can print it (RFC 20, 5.2: a space to a tilde), and else a question mark
abbrev pub printable_byte : ℕ → ℕ
printable_byte byte = if nat_le 32 byte && nat_le byte 126 then byte else 63

-- each byte so
abbrev pub printable : List ℕ → List ℕ
printable bytes = map printable_byte bytes
