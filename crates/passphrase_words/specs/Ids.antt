-- The names of passphrases. An agent's id has at most 50 bytes (GnuPG manual, "Agent GET_PASSPHRASE"), and X keeps nothing. Which bytes
-- it may have is this project's own, so that none ends it, none is an escape, and it is no option of a request.
use Rattle.std.specs.{Prelude.{ℕ, ◌==◌, ◌&&◌, ◌||◌, nat_le, not, Bool, List, length, slice_index, codes, ◌++◌}, List.list_all, Str.bytes_eq}
use Rattle.{hex.specs.Hex.encode_lower, sha1.specs.Sha1.sha1}
use Rattle.passphrase_words.specs.declared.task.TheConstants.{MAX_ID_LEN}

-- between these two bytes
abbrev pub is_from : ℕ → ℕ → ℕ → Bool
is_from least greatest byte = nat_le least byte && nat_le byte greatest

-- a letter, a digit, or one of `:._@/-`; `-` to `:` are `-`, `.`, `/`, the digits and `:`
abbrev pub is_id_byte : ℕ → Bool
is_id_byte byte = is_from 45 58 byte || is_from 64 90 byte || byte == 95 || is_from 97 122 byte

-- some of these bytes, which neither begin with `-` nor are X alone
abbrev pub has_id_form : List ℕ → Bool
has_id_form id =
    nat_le 1 (length id) && not (bytes_eq id (codes "X")) && not (slice_index id 0 == 45) && list_all is_id_byte id

-- at most 50 bytes of that form
abbrev pub is_id : List ℕ → Bool
is_id id = has_id_form id && nat_le (length id) MAX_ID_LEN

-- the id of what a program that calls an askpass wants: the SHA-1 of its text (FIPS 180-4) in hexadecimal digits
abbrev pub askpass_id : List ℕ → List ℕ
askpass_id text = codes "askpass:" ++ encode_lower (sha1 text)
