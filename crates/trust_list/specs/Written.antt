-- How an entry is written, apart from how it is read (GnuPG manual, "Agent Configuration", `trustlist.txt`).
use Rattle.std.specs.{Prelude.{◌≡◌, ◌⊎◌, ℕ, ◌≤◌, Bool, true, false, List, [], ◌∷◌, ◌++◌, length}, List.{All, AllPass}}
use Rattle.assuan_text.specs.Blanks.{is_blank}
use Rattle.trust_list.specs.Entries.{capital_digits, is_colon}

-- pairs, and between two of them a colon or nothing
pub data InPairs : List ℕ → Type 0 where
  last : {a b : ℕ} → is_colon a ≡ false → is_colon b ≡ false → InPairs (a ∷ b ∷ [])
  joined : {a b : ℕ} {more : List ℕ} → is_colon a ≡ false → is_colon b ≡ false → InPairs more → InPairs (a ∷ b ∷ more)
  parted : {a b c : ℕ} {more : List ℕ} → is_colon a ≡ false → is_colon b ≡ false → is_colon c ≡ true → InPairs more → InPairs (a ∷ b ∷ c ∷ more)

-- the digits of a fingerprint, of either case, in pairs
pub record IsSpelled (digits word : List ℕ) : Type 0 where
  pub pairs : InPairs word
  pub same : capital_digits word ≡ digits

-- The fingerprint stands alone where the certificate is trusted, and behind `!` where it isn't.
abbrev pub IsFirstWord : List ℕ → Bool → List ℕ → Type 0
IsFirstWord digits true word = IsSpelled digits word
IsFirstWord digits false word = (spelled : List ℕ) × (word ≡ 33 ∷ spelled) × IsSpelled digits spelled

-- `S`, `P` or the star
abbrev pub IsFlag : ℕ → Type 0
IsFlag flag = (flag ≡ 83) ⊎ ((flag ≡ 80) ⊎ (flag ≡ 42))

-- a line's end, or a blank and what is passed over
abbrev pub EndsWord : List ℕ → Type 0
EndsWord [] = Unit {0}
EndsWord (byte ∷ more) = is_blank byte ≡ true

-- an entry for the fingerprint of these capital digits
pub record IsEntry (digits line : List ℕ) (trusted : Bool) : Type 0 where
  pub front : List ℕ
  pub word : List ℕ
  pub gap : List ℕ
  pub flag : ℕ
  pub rest : List ℕ
  pub written : line ≡ front ++ (word ++ (gap ++ flag ∷ rest))
  pub indented : AllPass is_blank front
  pub first : IsFirstWord digits trusted word
  pub apart : AllPass is_blank gap
  pub some_gap : 1 ≤ length gap
  pub known : IsFlag flag
  pub ends : EndsWord rest

-- no entry for the fingerprint
abbrev pub IsSilent : List ℕ → List ℕ → Type 0
IsSilent digits line = (trusted : Bool) → IsEntry digits line trusted → ⊥

-- the first of these lines that is an entry for the fingerprint
pub record FirstEntry (digits : List ℕ) (lines : List (List ℕ)) (trusted : Bool) : Type 0 where
  pub before : List (List ℕ)
  pub line : List ℕ
  pub after : List (List ℕ)
  pub are : lines ≡ before ++ line ∷ after
  pub silent : All (IsSilent digits) before
  pub entry : IsEntry digits line trusted
