-- The limits of the files on worked examples: 65,536 bytes are within them, and one more isn't.
use Rattle.std.proofs.Common.{◌≡◌, ℕ, ◌≤◌, List, length, arith}
use Rattle.{agent_ports.specs.declared.keys.TheConstants.MAX_KEY_FILE_LEN, trust_list.specs.declared.TheConstants.MAX_TRUST_FILE_LEN}

longest_key_file : (file : List ℕ) → length file ≡ 65536 → length file ≤ MAX_KEY_FILE_LEN
longest_key_file file len = omega (arith, len)

longer_key_file : (file : List ℕ) → length file ≡ 65537 → length file ≤ MAX_KEY_FILE_LEN → ⊥
longer_key_file file len within = omega (arith, len, within)

longest_trust_list : (file : List ℕ) → length file ≡ 65536 → length file ≤ MAX_TRUST_FILE_LEN
longest_trust_list file len = omega (arith, len)

longer_trust_list : (file : List ℕ) → length file ≡ 65537 → length file ≤ MAX_TRUST_FILE_LEN → ⊥
longer_trust_list file len within = omega (arith, len, within)
