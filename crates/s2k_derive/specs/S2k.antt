-- Iterated and salted S2K (RFC 4880, 3.7.1.3) with SHA-1, for a key of 16 bytes.
use Rattle.std.specs.{Prelude.{ℕ, ◌+◌, ◌*◌, ◌/◌, ◌%◌, ◌^◌, List, ◌++◌, length, take, map, max, nat_lt, slice_index, ◌≤◌, if◌then◌else◌}, List.range_with_len}
use Rattle.sha1.specs.Sha1.{sha1}
use Rattle.s2k_derive.specs.declared.TheConstants.{MIN_COUNT, MAX_COUNT}

-- the first n bytes of a text copies_of without end: at place i stands byte i modulo its length
unfoldable pub copies_of : List ℕ → ℕ → List ℕ
copies_of text n = map (λ i. slice_index text (i % length text)) (range_with_len 0 n)

-- the key: the whole copies and the part of one that make up the count are hashed, or one copy,
-- where the count is less
abbrev pub derived_key : List ℕ → List ℕ → ℕ → List ℕ
derived_key pass salt count =
    let copy = salt ++ pass in
    take 16 (sha1 (copies_of copy (max count (length copy))))

-- how many bytes a count stands for: one octet is coded, and any other number is itself
abbrev pub octets : ℕ → ℕ
octets n = if nat_lt n 256 then (16 + n % 16) * 2 ^ (n / 16 + 6) else n

-- a count of bytes that is accepted; the bounds are this project's own
pub record IsAccepted (count : ℕ) : Type 0 where
  pub least : MIN_COUNT ≤ count
  pub greatest : count ≤ MAX_COUNT
