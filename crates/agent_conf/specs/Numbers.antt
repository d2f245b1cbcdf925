-- What becomes of a number that is written: it is kept as it is, or as the nearest one on the stricter side, or refused. The bounds are this
-- project's own, but for the greatest count of bytes that are hashed (RFC 4880, 3.7.1.3).
use Rattle.std.specs.{Prelude.{◌≡◌, ℕ, ◌≤◌, ◌==◌, ◌&&◌, ◌⊎◌, nat_le, min, max, Bool, true, false, List, length, take, drop, Option, Some, None, if◌then◌else◌}, Char.is_ascii_digit, List.prefix_len}
use Rattle.{assuan_text.specs.{Numbers.decimal, Forms.is_ignored}, cache_policy.specs.declared.{life.TheConstants.MAX_SECONDS, secret.TheConstants.MAX_SECRET_LEN}}
use Rattle.session_options.specs.declared.rules.TheConstants.{MIN_S2K_COUNT, MAX_S2K_COUNT}
use Rattle.agent_conf.specs.declared.numbers.{Range.{Range, TheVariants.{Seconds, Bytes, Count, Milliseconds}}, Stricter.{Stricter, TheVariants.{Smaller, Greater, GreaterOfFormat}}}

abbrev pub digits_in : List ℕ → List ℕ
digits_in value = take (prefix_len is_ascii_digit value) value

abbrev pub after_digits : List ℕ → List ℕ
after_digits value = drop (prefix_len is_ascii_digit value) value

-- the number that a value is: decimal digits, as many as there are, behind which a comment may stand
abbrev pub number_in : List ℕ → Option ℕ
number_in value =
    if nat_le 1 (length (digits_in value)) && is_ignored (after_digits value)
    then Some (decimal (digits_in value))
    else None

-- a lifetime, or how long a prompt stays; the fewest bytes of a new passphrase; the bytes that one is hashed to; the milliseconds that this takes
abbrev pub stricter_of : Range → Stricter
stricter_of Seconds = Smaller
stricter_of Bytes = Greater
stricter_of Count = GreaterOfFormat
stricter_of Milliseconds = Greater

abbrev pub least_of : Range → ℕ
least_of Seconds = 0
least_of Bytes = 0
least_of Count = MIN_S2K_COUNT
least_of Milliseconds = 0

abbrev pub greatest_of : Range → ℕ
greatest_of Seconds = MAX_SECONDS
greatest_of Bytes = MAX_SECRET_LEN
greatest_of Count = MAX_S2K_COUNT
greatest_of Milliseconds = 99999

-- a count of 0 stands for one that is measured
abbrev pub is_measured : Range → ℕ → Bool
is_measured Count number = number == 0
is_measured Seconds number = false
is_measured Bytes number = false
is_measured Milliseconds number = false

-- what is kept of a number on the stricter side, where these are the least and the greatest that can be; none where each of them is laxer
abbrev pub kept_number : Stricter → ℕ → ℕ → ℕ → Option ℕ
kept_number Smaller least greatest written = if nat_le least written then Some (min written greatest) else None
kept_number Greater least greatest written = if nat_le written greatest then Some (max written least) else None
kept_number GreaterOfFormat least greatest written = Some (min (max written least) greatest)

-- what is kept of a number in a range
abbrev pub kept_in : Range → ℕ → Option ℕ
kept_in range written =
    if is_measured range written then Some written
    else kept_number (stricter_of range) (least_of range) (greatest_of range) written

-- a number that may be kept
abbrev pub IsKept : Range → ℕ → Type 0
IsKept range number = (is_measured range number ≡ true) ⊎ ((least_of range ≤ number) × (number ≤ greatest_of range))

-- the first number limits as much as the second, or more, or as much as can be
abbrev pub NoLaxer : Range → ℕ → ℕ → Type 0
NoLaxer Seconds kept written = kept ≤ written
NoLaxer Bytes kept written = written ≤ kept
NoLaxer Milliseconds kept written = written ≤ kept
NoLaxer Count kept written = (written ≤ kept) ⊎ (kept ≡ MAX_S2K_COUNT)
