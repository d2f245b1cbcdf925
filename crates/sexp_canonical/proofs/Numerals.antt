-- Numbers in decimal: their digits, their value, and where a numeral ends.
use Rattle.std.proofs.{Common.{◌≡◌, ℕ, zero, suc, ◌+◌, ◌*◌, ◌-◌, ◌/◌, ◌%◌, ◌^◌, ◌<◌, ◌≤◌, true, false, ltb, List, [], ◌∷◌, ◌++◌, length, refl, sym, ap, subst, ◌∙◌, ◌⊎◌, inl, inr, arith}, lemmas.Bool.{cases_lt, lt-ltb, le-ltb, le-leb}}
use Rattle.std.{proofs.{lemmas.List.{append-nil, length-append}, Math.Nat.pow-suc}, specs.Char.is_ascii_digit}
use Rattle.sexp_canonical.specs.Spelling.{numeral_within, numeral}

-- any number of steps that is enough gives the same digits
pub enough : (k m n : ℕ) → n ≤ k → n ≤ m → numeral_within k n ≡ numeral_within m n
enough zero zero n h g = refl
enough zero (suc m) n h g = let small : ltb n 10 ≡ true = lt-ltb n 10 (omega arith) in rw small refl
enough (suc k) zero n h g = let small : ltb n 10 ≡ true = lt-ltb n 10 (omega arith) in rw small refl
enough (suc k) (suc m) n h g =
    elim (cases_lt n 10) [
      | inl lt ↦ let small : ltb n 10 ≡ true = lt-ltb n 10 lt in rw small refl
      | inr le ↦ let large : ltb n 10 ≡ false = le-ltb n 10 le in rw large (ap (λ (ds : List ℕ). ds ++ (48 + n % 10) ∷ []) (enough k m (n / 10) (omega arith) (omega arith)))
    ]

pub numeral_small : (n : ℕ) → n < 10 → numeral n ≡ (48 + n) ∷ []
unfolding numeral
numeral_small zero h = refl
numeral_small (suc n) h = let small : ltb (suc n) 10 ≡ true = lt-ltb (suc n) 10 h in rw small refl

pub numeral_large : (n : ℕ) → 10 ≤ n → numeral n ≡ numeral (n / 10) ++ (48 + n % 10) ∷ []
unfolding numeral
numeral_large zero h = absurd (omega arith)
numeral_large (suc n) h =
    let large : ltb (suc n) 10 ≡ false = le-ltb (suc n) 10 h in
    rw large (ap (λ (ds : List ℕ). ds ++ (48 + suc n % 10) ∷ []) (enough n (suc n / 10) (suc n / 10) (omega arith) (omega arith)))

-- a numeral goes on by one digit
pub numeral_digit : (n d : ℕ) → 0 < n → d < 10 → numeral (10 * n + d) ≡ numeral n ++ (48 + d) ∷ []
numeral_digit n d h g =
    let front : (10 * n + d) / 10 ≡ n = omega arith in
    let last : (10 * n + d) % 10 ≡ d = omega arith in
    numeral_large (10 * n + d) (omega arith) ∙ rw (front, last) refl

-- what holds of each digit, and of a numeral with one more digit, holds of each numeral
module _ (P : ℕ → List ℕ → Type 0) (one : (n : ℕ) → n < 10 → P n ((48 + n) ∷ [])) (more : (n : ℕ) (ds : List ℕ) → 10 ≤ n → P (n / 10) ds → P n (ds ++ (48 + n % 10) ∷ [])) where
  by_steps : (k n : ℕ) → n ≤ k → P n (numeral n)
  by_steps zero n h = subst (P n) (sym (numeral_small n (omega arith))) (one n (omega arith))
  by_steps (suc k) n h =
      elim (cases_lt n 10) [
        | inl lt ↦ subst (P n) (sym (numeral_small n lt)) (one n lt)
        | inr le ↦ subst (P n) (sym (numeral_large n le)) (more n (numeral (n / 10)) le (by_steps k (n / 10) (omega arith)))
      ]

  pub numeral_by_steps : (n : ℕ) → P n (numeral n)
  numeral_by_steps n = by_steps n n (omega arith)

-- ---- digits

abbrev pub AreDigits : List ℕ → Type 0
AreDigits [] = Unit {0}
AreDigits (b ∷ bs) = (is_ascii_digit b ≡ true) × AreDigits bs

AreDigits_append : (bs cs : List ℕ) → AreDigits bs → AreDigits cs → AreDigits (bs ++ cs)
AreDigits_append [] cs h g = g
AreDigits_append (b ∷ bs) cs h g = (h.0, AreDigits_append bs cs h.1 g)

pub AreDigits_back : (bs cs : List ℕ) → AreDigits (bs ++ cs) → AreDigits cs
AreDigits_back [] cs h = h
AreDigits_back (b ∷ bs) cs h = AreDigits_back bs cs h.1

pub is_digit_glyph : (d : ℕ) → d < 10 → is_ascii_digit (48 + d) ≡ true
is_digit_glyph d h = rw (le-leb 48 (48 + d) (omega arith), le-leb (48 + d) 57 (omega arith)) refl

pub AreDigits_numeral : (n : ℕ) → AreDigits (numeral n)
AreDigits_numeral = numeral_by_steps (λ n ds. AreDigits ds)
    (λ n h. (is_digit_glyph n h, tt))
    (λ n ds h g. AreDigits_append ds ((48 + n % 10) ∷ []) g (is_digit_glyph (n % 10) (omega arith), tt))

-- ---- the value

abbrev value_after : ℕ → List ℕ → ℕ
value_after n [] = n
value_after n (b ∷ bs) = value_after (10 * n + (b - 48)) bs

value_after_append : (n : ℕ) (bs cs : List ℕ) → value_after n (bs ++ cs) ≡ value_after (value_after n bs) cs
value_after_append n [] cs = refl
value_after_append n (b ∷ bs) cs = value_after_append (10 * n + (b - 48)) bs cs

value_after_le : (n : ℕ) (bs : List ℕ) → n ≤ value_after n bs
value_after_le n [] = omega arith
value_after_le n (b ∷ bs) = omega (arith, value_after_le (10 * n + (b - 48)) bs)

value_numeral : (n : ℕ) → value_after 0 (numeral n) ≡ n
value_numeral = numeral_by_steps (λ n ds. value_after 0 ds ≡ n)
    (λ n h. omega arith)
    (λ n ds h g. value_after_append 0 ds ((48 + n % 10) ∷ []) ∙ rw g (omega arith))

pub numeral_injective : (m n : ℕ) → numeral m ≡ numeral n → m ≡ n
numeral_injective m n e = sym (value_numeral m) ∙ ap (value_after 0) e ∙ value_numeral n

-- ---- how many digits

short : (k n : ℕ) → n < 10 ^ suc k → length (numeral n) ≤ suc k
short zero n h = omega (arith, ap length (numeral_small n (omega arith)))
short (suc k) n h =
    elim (cases_lt n 10) [
      | inl lt ↦ omega (arith, ap length (numeral_small n lt))
      | inr le ↦
          let power : 10 ^ suc (suc k) ≡ 10 ^ suc k * 10 = pow-suc 10 (suc k) in
          let digits = ap length (numeral_large n le) ∙ length-append (numeral (n / 10)) ((48 + n % 10) ∷ []) in
          omega (arith, short k (n / 10) (omega arith))
    ]

pub length_numeral : (k n : ℕ) → n < 10 ^ (k + 1) → length (numeral n) ≤ k + 1
length_numeral k n h = let e : k + 1 ≡ suc k = omega arith in rw e (short k n (rw e at h))

-- ---- the first digit

-- it is no zero, or the numeral is `0`
abbrev pub Leads : ℕ → List ℕ → Type 0
Leads n [] = ⊥
Leads n (d ∷ ds) = (48 < d) ⊎ ((d ≡ 48) × (ds ≡ []) × (n ≡ 0))

Leads_more : (n : ℕ) (ds : List ℕ) (d : ℕ) → 10 ≤ n → Leads (n / 10) ds → Leads n (ds ++ d ∷ [])
Leads_more n [] d h g = absurd g
Leads_more n (b ∷ bs) d h (inl lt) = inl lt
Leads_more n (b ∷ bs) d h (inr z) = absurd (let e = z.2 in omega arith)

Leads_one : (n : ℕ) → Leads n ((48 + n) ∷ [])
Leads_one zero = inr (refl, refl, refl)
Leads_one (suc n) = inl (omega arith)

pub Leads_numeral : (n : ℕ) → Leads n (numeral n)
Leads_numeral = numeral_by_steps Leads (λ n h. Leads_one n) (λ n ds h g. Leads_more n ds (48 + n % 10) h g)

-- ---- where it ends

-- with these bytes behind it, the numeral of n is at its end, or no numeral up to the limit
abbrev pub Ends : (limit n : ℕ) → List ℕ → Type 0
Ends limit n [] = Unit {0}
Ends limit n (b ∷ more) = is_ascii_digit b ≡ true → (n ≡ 0) ⊎ (limit < 10 * n + (b - 48))

-- of two ways to cut a list one goes further
pub cuts : {A : Type 0} (us vs xs ys : List A) → us ++ xs ≡ vs ++ ys → ((zs : List A) × ((vs ≡ us ++ zs) × (xs ≡ zs ++ ys))) ⊎ ((zs : List A) × ((us ≡ vs ++ zs) × (ys ≡ zs ++ xs)))
cuts [] vs xs ys e = inl (vs, (refl, e))
cuts (u ∷ us) [] xs ys e = inr (u ∷ us, (refl, sym e))
cuts (u ∷ us) (v ∷ vs) xs ys e =
    let head : u ≡ v = cc in
    let tail : us ++ xs ≡ vs ++ ys = cc in
    elim (cuts us vs xs ys tail) [
      | inl z ↦ inl (z.0, (let h = z.1.0 in cc, z.1.1))
      | inr z ↦ inr (z.0, (let h = z.1.0 in cc, z.1.1))
    ]

no_longer : (limit n m d : ℕ) (ds : List ℕ) → m ≤ limit → numeral m ≡ numeral n ++ d ∷ ds → (n ≡ 0) ⊎ (limit < 10 * n + (d - 48)) → ⊥
no_longer limit n m d ds h e (inl z) =
    let begins : numeral m ≡ 48 ∷ d ∷ ds = e ∙ ap (λ (k : ℕ). numeral k ++ d ∷ ds) z ∙ rw (numeral_small 0 (omega arith)) refl in
    let leads : Leads m (48 ∷ d ∷ ds) = subst (Leads m) begins (Leads_numeral m) in
    elim leads [ inl lt ↦ omega arith | inr same ↦ let none = same.1 in cc ]
no_longer limit n m d ds h e (inr high) =
    let value : m ≡ value_after (10 * n + (d - 48)) ds = sym (value_numeral m) ∙ ap (value_after 0) e ∙ value_after_append 0 (numeral n) (d ∷ ds) ∙ rw (value_numeral n) refl in
    omega (arith, value_after_le (10 * n + (d - 48)) ds)

ends_here : (limit n m : ℕ) (zs x y : List ℕ) → m ≤ limit → Ends limit n x → numeral m ≡ numeral n ++ zs → x ≡ zs ++ y → zs ≡ []
ends_here limit n m [] x y h ends e f = refl
ends_here limit n m (d ∷ ds) x y h ends e f =
    let digits : AreDigits (d ∷ ds) = AreDigits_back (numeral n) (d ∷ ds) (subst AreDigits e (AreDigits_numeral m)) in
    let at_end : Ends limit n (d ∷ ds ++ y) = subst (Ends limit n) f ends in
    absurd (no_longer limit n m d ds h e (at_end digits.0))

-- two numerals that end are one where what they begin is one
pub one_numeral : (limit m n : ℕ) (x y : List ℕ) → m ≤ limit → n ≤ limit → Ends limit m x → Ends limit n y → numeral m ++ x ≡ numeral n ++ y → (m ≡ n) × (x ≡ y)
one_numeral limit m n x y low high first second e =
    elim (cuts (numeral m) (numeral n) x y e) [
      | inl z ↦
          let none : z.0 ≡ [] = ends_here limit m n z.0 x y high first z.1.0 z.1.1 in
          let same : numeral m ≡ numeral n = sym (z.1.0 ∙ ap (λ (zs : List ℕ). numeral m ++ zs) none ∙ append-nil (numeral m)) in
          (numeral_injective m n same, z.1.1 ∙ ap (λ (zs : List ℕ). zs ++ y) none)
      | inr z ↦
          let none : z.0 ≡ [] = ends_here limit n m z.0 y x low second z.1.0 z.1.1 in
          let same : numeral m ≡ numeral n = z.1.0 ∙ ap (λ (zs : List ℕ). numeral n ++ zs) none ∙ append-nil (numeral n) in
          (numeral_injective m n same, sym (z.1.1 ∙ ap (λ (zs : List ℕ). zs ++ x) none))
    ]
