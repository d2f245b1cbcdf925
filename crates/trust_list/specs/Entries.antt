-- The lines of the list of trusted root certificates (GnuPG manual, "Agent Configuration", `trustlist.txt`): a fingerprint, in which
-- colons may separate bytes, behind `!` if it is marked as not trusted; then a flag; then what this agent passes over. All else is no
-- entry, and so are comments and empty lines. That `!` stands right before the fingerprint, and that a flag is a capital letter or the
-- star, is this project's own rule.
use Rattle.std.specs.{Prelude.{ℕ, ◌==◌, ◌%◌, nat_le, ◌||◌, ◌&&◌, not, Bool, true, false, List, [], ◌∷◌, length, map, filter, codes, Option, Some, None, if◌then◌else◌}, List.{list_all, slice_split}, Char.to_ascii_uppercase, Str.bytes_eq}

abbrev pub is_colon : ℕ → Bool
is_colon byte = byte == 58

-- one pair of digits or more
abbrev pub are_pairs : List ℕ → Bool
are_pairs part = nat_le 1 (length part) && length part % 2 == 0

-- what stands before, between and behind the colons of the word are pairs
abbrev pub is_in_pairs : List ℕ → Bool
is_in_pairs word = list_all are_pairs (slice_split is_colon word)

-- the digits alone, and capital ones
abbrev pub capital_digits : List ℕ → List ℕ
capital_digits word = map to_ascii_uppercase (filter (λ byte. not (is_colon byte)) word)

-- The word spells the fingerprint of these capital digits, in either case of letters.
abbrev pub spells : List ℕ → List ℕ → Bool
spells digits word = is_in_pairs word && bytes_eq (capital_digits word) digits

-- What the first word of an entry says of the fingerprint: that it is trusted, or behind `!` that it isn't. Else it spells another.
abbrev pub first_word_judgement : List ℕ → List ℕ → Option Bool
first_word_judgement digits [] = None
first_word_judgement digits (first ∷ more) =
    if first == 33
    then (if spells digits more then Some false else None)
    else (if spells digits (first ∷ more) then Some true else None)

-- what the certificate is trusted for: X.509, OpenPGP, or both
abbrev pub is_flag : List ℕ → Bool
is_flag word = bytes_eq word (codes "S") || bytes_eq word (codes "P") || bytes_eq word (codes "*")

-- what a line of these words says of the fingerprint
abbrev pub judgement_of : List ℕ → List (List ℕ) → Option Bool
judgement_of digits [] = None
judgement_of digits (word ∷ []) = None
judgement_of digits (word ∷ flag ∷ more) = if is_flag flag then first_word_judgement digits word else None
