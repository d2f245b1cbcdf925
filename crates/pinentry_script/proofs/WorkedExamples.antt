-- The limit of an entry on worked examples: 900 bytes are within it, and one more isn't.
use Rattle.std.proofs.Common.{◌≡◌, ℕ, ◌≤◌, List, length, arith}
use Rattle.pinentry_script.specs.declared.entries.TheConstants.{MAX_ENTRY_LEN}

longest_entry : (line : List ℕ) → length line ≡ 900 → length line ≤ MAX_ENTRY_LEN
longest_entry line len = omega (arith, len)

longer_entry : (line : List ℕ) → length line ≡ 901 → length line ≤ MAX_ENTRY_LEN → ⊥
longer_entry line len within = omega (arith, len, within)
