-- Private: where the passphrase of a slot lies. This is the project's own.
use Rattle.std.specs.Prelude.{ℕ, List, Bool, true, false}
use Rattle.cache_book.specs.declared.passphrase.Passphrase.{Passphrase, TheVariants.{Short, Long}}

-- its bytes, which stand in the slot or in a box
abbrev pub bytes_of : Passphrase → List ℕ
bytes_of (Short bytes) = bytes
bytes_of (Long boxed) = boxed.value

-- it stands in the slot
abbrev pub is_short : Passphrase → Bool
is_short (Short bytes) = true
is_short (Long boxed) = false
