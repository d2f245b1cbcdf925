-- Sums over all places, and the marks of one pass.
use lib.ListN.{get_elem?}
use mathlib.Core.Option.{some, some-injective, some-ne-none}
use native.Mathlib.Decide.{ℕ_discrete}
use Rattle.std.proofs.{Common.{◌≡◌, ◌≢◌, ◌≤◌, ◌<◌, ℕ, zero, suc, ◌+◌, Bool, true, false, nat_eq, if◌then◌else◌, List, [], ◌∷◌, ◌++◌, length, set, sym, refl, ap, ◌∙◌, subst, arith, ⊎_elim, append_assoc}, lemmas.Bool.cases_lt}
use Rattle.std.proofs.lemmas.{Bool.Decides.nat_tests, List.Elements.filter-append}
use Rattle.{atomic_table.proofs.Lists.at_set, cache_policy.specs.declared.mark.Mark.Mark}
use Rattle.counted_lock.specs.{declared.board.{About.About, Claim.Claim, Doing.Doing}, Rule.{Fits, AllFit, total, times}, Logs.marks_by}

pub total_set : (f : Doing → ℕ) (vs : List Doing) (j : ℕ) (v w : Doing) → get_elem? vs j ≡ some v → total f (set vs j w) + f v ≡ total f vs + f w
total_set f [] j v w e = absurd (some-ne-none v (sym e))
total_set f (x ∷ xs) zero v w e = let h = ap f (some-injective x v e) in omega (arith, h)
total_set f (x ∷ xs) (suc j) v w e = let h = total_set f xs j v w e in omega (arith, h)

pub total_le : (f g : Doing → ℕ) (vs : List Doing) → ((j : ℕ) (v : Doing) → get_elem? vs j ≡ some v → f v ≤ g v) → total f vs ≤ total g vs
total_le f g [] h = omega arith
total_le f g (x ∷ xs) h = let a = h 0 x refl in let b = total_le f g xs (λ j v e. h (suc j) v e) in omega (arith, a, b)

pub total_one : (f : Doing → ℕ) (vs : List Doing) (j : ℕ) (v : Doing) → get_elem? vs j ≡ some v → f v ≤ total f vs
total_one f [] j v e = absurd (some-ne-none v (sym e))
total_one f (x ∷ xs) zero v e = let h = ap f (some-injective x v e) in omega (arith, h)
total_one f (x ∷ xs) (suc j) v e = let h = total_one f xs j v e in omega (arith, h)

pub total_two : (f : Doing → ℕ) (vs : List Doing) (i j : ℕ) (v w : Doing) → i ≢ j → get_elem? vs i ≡ some v → get_elem? vs j ≡ some w → f v + f w ≤ total f vs
total_two f [] i j v w n e d = absurd (some-ne-none v (sym e))
total_two f (x ∷ xs) zero zero v w n e d = absurd (n refl)
total_two f (x ∷ xs) zero (suc j) v w n e d = let h = ap f (some-injective x v e) in let k = total_one f xs j w d in omega (arith, h, k)
total_two f (x ∷ xs) (suc i) zero v w n e d = let h = ap f (some-injective x w d) in let k = total_one f xs i v e in omega (arith, h, k)
total_two f (x ∷ xs) (suc i) (suc j) v w n e d = let h = total_two f xs i j v w (λ z. n (ap suc z)) e d in omega (arith, h)

pub total_snoc : (f : Doing → ℕ) (vs : List Doing) (v : Doing) → total f (vs ++ v ∷ []) ≡ total f vs + f v
total_snoc f [] v = omega arith
total_snoc f (x ∷ xs) v = let h = total_snoc f xs v in omega (arith, h)

-- a function with another value at one place
abbrev pick : {P : Type 0} → Dec P → ℕ → ℕ → ℕ
pick (yes _) a b = a
pick (no _) a b = b

pub put : (ℕ → ℕ) → ℕ → ℕ → ℕ → ℕ
put f i c j = pick (ℕ_discrete j i) c (f j)

pub put_here : (f : ℕ → ℕ) (i c : ℕ) → put f i c i ≡ c
unfolding put
put_here f i c = go (ℕ_discrete i i)
  where
    go : (d : Dec (i ≡ i)) → pick d c (f i) ≡ c
    go (yes _) = refl
    go (no n) = absurd (n refl)

pub put_else : (f : ℕ → ℕ) (i c j : ℕ) → j ≢ i → put f i c j ≡ f j
unfolding put
put_else f i c j other = go (ℕ_discrete j i)
  where
    go : (d : Dec (j ≡ i)) → pick d c (f j) ≡ f j
    go (yes e) = absurd (other e)
    go (no _) = refl

-- what holds of each place, after a change of one
pub places_stay : (K : ℕ → Doing → Type 0) (vs : List Doing) (me : ℕ) (w : Doing) → K me w → ((j : ℕ) (d : Doing) → j ≢ me → get_elem? vs j ≡ some d → K j d)
    → (j : ℕ) (d : Doing) → get_elem? (set vs me w) j ≡ some d → K j d
places_stay K vs me w mine others j d e = ⊎_elim (λ (t : (j ≡ me) × (w ≡ d)). subst (λ (x : ℕ × Doing). K x.0 x.1) (λ i. (sym t.0 i, t.1 i)) mine)
    (λ (t : (j ≢ me) × (get_elem? vs j ≡ some d)). others j d t.0 t.1) (at_set vs me j w d e)

-- one mark of another pass
pub none_more : (k : ℕ) (more : List Mark) (m : Mark) → k ≢ m.session.pass → marks_by k more ≡ [] → marks_by k (more ++ m ∷ []) ≡ []
none_more k more m n e = filter-append (λ x. nat_eq x.session.pass k) more (m ∷ []) ∙ (ap (λ l. l ++ marks_by k (m ∷ [])) e ∙ none_one (nat_eq m.session.pass k) refl)
  where
    none_one : (b : Bool) → nat_eq m.session.pass k ≡ b → marks_by k (m ∷ []) ≡ []
    none_one true is = absurd (n (sym (grind (arith, nat_tests))))
    none_one false is = rw is refl

pub fits_more : (about : About) (log : List Mark) (c : Claim) (m : Mark) → c.number ≢ m.session.pass → Fits about log c → Fits about (log ++ m ∷ []) c
fits_more about log c m n f = record {
  limits_is = f.limits_is;
  more = f.more ++ m ∷ [];
  whole = sym (append_assoc c.seen f.more (m ∷ [])) ∙ ap (λ l. l ++ m ∷ []) f.whole;
  foreign = none_more c.number f.more m n f.foreign;
  inside = f.inside;
}

pub all_fit_more : (about : About) (log : List Mark) (cs : List Claim) (m : Mark) → times m.session.pass cs ≡ 0 → AllFit about log cs → AllFit about (log ++ m ∷ []) cs
all_fit_more about log [] m n f = tt
all_fit_more about log (c ∷ cs) m n f = (fits_more about log c m (λ e. other e (nat_eq c.number m.session.pass) refl) f.0, all_fit_more about log cs m (omega (arith, n)) f.1)
  where
    other : c.number ≡ m.session.pass → (b : Bool) → nat_eq c.number m.session.pass ≡ b → ⊥
    other e true is = let h : 1 + times m.session.pass cs ≡ 0 = subst (λ (z : Bool). (Rattle.std.specs.Prelude.if◌then◌else◌ z 1 0) + times m.session.pass cs ≡ 0) is n in omega (arith, h)
    other e false is = grind (arith, nat_tests)

-- over the numbers below n
abbrev below : ℕ → (ℕ → ℕ) → ℕ
below zero f = 0
below (suc n) f = f n + below n f

below_zero : (n : ℕ) → below n (λ _. 0) ≡ 0
below_zero zero = refl
below_zero (suc n) = let h = below_zero n in omega (arith, h)

below_both : (n : ℕ) (f g : ℕ → ℕ) → below n (λ k. f k + g k) ≡ below n f + below n g
below_both zero f g = omega arith
below_both (suc n) f g = let h = below_both n f g in omega (arith, h)

below_le : (n : ℕ) (f : ℕ → ℕ) → ((k : ℕ) → f k ≤ 1) → below n f ≤ n
below_le zero f most = omega arith
below_le (suc n) f most = let a = most n in let b = below_le n f most in omega (arith, a, b)

below_ones : (n : ℕ) (f : ℕ → ℕ) → ((k : ℕ) → f k ≤ 1) → below n f ≡ n → (k : ℕ) → k < n → f k ≡ 1
below_ones zero f most full k l = absurd (omega (arith, l))
below_ones (suc n) f most full k l =
    let a = most n in let b = below_le n f most in let rest : below n f ≡ n = omega (arith, a, b, full) in let last : f n ≡ 1 = omega (arith, full, rest) in
    ⊎_elim (λ (earlier : k < n). below_ones n f most rest k earlier) (λ (here : n ≤ k). ap f (omega (arith, here, l)) ∙ last) (cases_lt k n)

-- 1 at one number
abbrev at_one : ℕ → ℕ → ℕ
at_one j k = if nat_eq j k then 1 else 0

at_one_is : (j k : ℕ) → (b : Bool) → nat_eq j k ≡ b → at_one j k ≡ (if b then 1 else 0)
at_one_is j k b is = ap (λ (z : Bool). if z then 1 else 0) is

below_at : (n j : ℕ) → (j < n → below n (at_one j) ≡ 1) × (n ≤ j → below n (at_one j) ≡ 0)
below_at zero j = (λ l. absurd (omega (arith, l)), λ l. refl)
below_at (suc n) j = go (nat_eq j n) refl (below_at n j)
  where
    go : (b : Bool) → nat_eq j n ≡ b → (j < n → below n (at_one j) ≡ 1) × (n ≤ j → below n (at_one j) ≡ 0)
        → (j < suc n → below (suc n) (at_one j) ≡ 1) × (suc n ≤ j → below (suc n) (at_one j) ≡ 0)
    go true is h = let a = at_one_is j n true is in let same : j ≡ n = grind (arith, nat_tests) in let b = h.1 (omega (arith, same)) in
        (λ l. omega (arith, a, b), λ l. absurd (omega (arith, l, same)))
    go false is h = let a = at_one_is j n false is in
        (λ l. let b = h.0 (grind (arith, nat_tests)) in omega (arith, a, b), λ l. let b = h.1 (omega (arith, l)) in omega (arith, a, b))

times_add_up : (about : About) (log : List Mark) (cs : List Claim) → AllFit about log cs → below about.passes (λ k. times k cs) ≡ length cs
times_add_up about log [] f = below_zero about.passes
times_add_up about log (c ∷ cs) f =
    let h = times_add_up about log cs f.1 in let one = (below_at about.passes c.number).0 f.0.inside in let both = below_both about.passes (at_one c.number) (λ k. times k cs) in
    omega (arith, h, one, both)

-- as many claims as there are passes, of which no two are of one pass: each has one
pub times_each : (about : About) (log : List Mark) (cs : List Claim) → AllFit about log cs → ((k : ℕ) → times k cs ≤ 1) → length cs ≡ about.passes → (k : ℕ) → k < about.passes → times k cs ≡ 1
times_each about log cs f most many = below_ones about.passes (λ k. times k cs) most (times_add_up about log cs f ∙ many)
