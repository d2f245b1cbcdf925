-- What the file says of a fingerprint (GnuPG manual, "Agent Configuration", `trustlist.txt`). That its first entry decides, and how
-- long the file may be, is this project's own rule.
use Rattle.std.specs.{Prelude.{ℕ, ◌-◌, Bool, true, List, [], ◌∷◌, ◌++◌, length, slice_get, ◌⊎◌, ◌≡◌, Option, if◌then◌else◌}, List.{slice_split, filter_map}, Option.option_map_or}
use Rattle.{hex.specs.Hex.encode_upper, assuan_text.specs.{LineEnds.is_lf, Words.words}}
use Rattle.trust_list.specs.Entries.{judgement_of}

-- all that the lines say of the fingerprint, in their order
abbrev pub judgements : List ℕ → List ℕ → List Bool
judgements file fingerprint = filter_map (λ line. judgement_of (encode_upper fingerprint) (words line)) (slice_split is_lf file)

-- the first of it decides: true where the fingerprint is trusted
abbrev pub trust : List ℕ → List ℕ → Option Bool
trust file fingerprint = slice_get (judgements file fingerprint) 0

-- the line feed that the last line lacks, if there is a line and it lacks one
abbrev pub missing_end : List ℕ → List ℕ
missing_end file = if option_map_or is_lf (slice_get file (length file - 1)) true then [] else 10 ∷ []

-- the entry of a certificate that is trusted
abbrev pub entry : List ℕ → ℕ → List ℕ
entry fingerprint flag = encode_upper fingerprint ++ 32 ∷ flag ∷ 10 ∷ []

-- the file with this entry at its end
abbrev pub with_entry : List ℕ → List ℕ → ℕ → List ℕ
with_entry file fingerprint flag = file ++ missing_end file ++ entry fingerprint flag

-- the flag of a new entry: `S`, or `P`
abbrev pub IsNewFlag : ℕ → Type 0
IsNewFlag flag = (flag ≡ 83) ⊎ (flag ≡ 80)
