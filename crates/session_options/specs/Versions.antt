-- The version that an agent tells (GETINFO of gpg-agent). Its form is this project's own: each byte of it stands in a data line as it is.
use Rattle.std.specs.{Prelude.{ℕ, ◌==◌, ◌||◌, ◌&&◌, nat_le, Bool, List, length}, Char.is_ascii_alphanumeric, List.list_all}
use Rattle.session_options.specs.declared.version.TheConstants.{MAX_VERSION_LEN}

-- a letter or a digit of ASCII, or a dot
abbrev pub is_version_byte : ℕ → Bool
is_version_byte byte = is_ascii_alphanumeric byte || byte == 46

-- so many bytes
abbrev pub is_version_len : ℕ → Bool
is_version_len len = nat_le 1 len && nat_le len MAX_VERSION_LEN

-- bytes that may be a version
abbrev pub is_version : List ℕ → Bool
is_version bytes = is_version_len (length bytes) && list_all is_version_byte bytes
