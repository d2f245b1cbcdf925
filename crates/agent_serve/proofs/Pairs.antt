-- Lists in pairs, whose last pair is taken away and put back.
use Rattle.std.proofs.Common.{◌≡◌, ◌+◌, List, [], ◌∷◌, ◌++◌, length, subst, arith, refl}
use Rattle.agent_serve.specs.Pairs.{ByPlace, Paired, PairedTo, HasPopped}
use Rattle.counted_lock.specs.Passes.{AtCounted, AtPass, AreOf}

pub paired_but_last : {J K : Type 0} (fits : J → K → Type 0) (js : List J) (ks : List K) (j : J) (k : K) → Paired fits (js ++ j ∷ []) (ks ++ k ∷ [])
    → Paired fits js ks × fits j k
paired_but_last fits [] [] j k all = (tt, all.0)
paired_but_last fits [] (y ∷ []) j k all = absurd all.1
paired_but_last fits [] (y ∷ z ∷ ks) j k all = absurd all.1
paired_but_last fits (x ∷ []) [] j k all = absurd all.1
paired_but_last fits (x ∷ z ∷ js) [] j k all = absurd all.1
paired_but_last fits (x ∷ js) (y ∷ ks) j k all = let rest = paired_but_last fits js ks j k all.1 in ((all.0, rest.0), rest.1)

-- what is so of an element holds where it is the last or another
pub by_either : {A P : Type 0} (O L : Type 0) (behind : List A) → (O → P) → (L → P) → ByPlace O L behind → P
by_either O L [] other last is = last is
by_either O L (next ∷ later) other last is = other is

-- one that wasn't the last, or was in the same way, isn't now
not_last : {A : Type 0} (O L : Type 0) (behind : List A) (x : A) → ByPlace O O behind → ByPlace O L (behind ++ x ∷ [])
not_last O L [] x is = is
not_last O L (next ∷ later) x is = is

pub paired_with_last : {J K : Type 0} (other last : J → K → (J × K) → Type 0) (js : List J) (ks : List K) (fs : List J) (bs : List K) (j : J) (k : K) (a : J) (b : K)
    → PairedTo other other js ks fs bs → last j k (a, b) → PairedTo other last (js ++ j ∷ []) (ks ++ k ∷ []) (fs ++ a ∷ []) (bs ++ b ∷ [])
paired_with_last other last [] [] [] [] j k a b all this = (this, tt)
paired_with_last other last (x ∷ js) (y ∷ ks) (z ∷ fs) (w ∷ bs) j k a b all this =
    (not_last _ _ js j all.0, paired_with_last other last js ks fs bs j k a b all.1 this)
paired_with_last other last [] [] [] (w ∷ bs) j k a b all this = absurd all
paired_with_last other last [] [] (z ∷ fs) bs j k a b all this = absurd all
paired_with_last other last [] (y ∷ ks) fs bs j k a b all this = absurd all
paired_with_last other last (x ∷ js) [] fs bs j k a b all this = absurd all
paired_with_last other last (x ∷ js) (y ∷ ks) [] bs j k a b all this = absurd all
paired_with_last other last (x ∷ js) (y ∷ ks) (z ∷ fs) [] j k a b all this = absurd all

length_last : {A : Type 0} (xs : List A) (x : A) → length (xs ++ x ∷ []) ≡ length xs + 1
length_last [] x = refl
length_last (y ∷ xs) x = omega (arith, length_last xs x)

pub popped : {J K : Type 0} (other last : J → K → Type 0) (js : List J) (ks : List K) (j : J) (k : K) (fs : List J) (bs : List K) → Paired other js ks → Paired last js ks
    → js ≡ fs ++ j ∷ [] → ks ≡ bs ++ k ∷ [] → HasPopped other last js ks j k fs bs
popped other last js ks j k fs bs others lasts first second =
    let rest = paired_but_last other fs bs j k (subst (λ l. Paired other (fs ++ j ∷ []) l) second (subst (λ l. Paired other l ks) first others)) in
    let this = paired_but_last last fs bs j k (subst (λ l. Paired last (fs ++ j ∷ []) l) second (subst (λ l. Paired last l ks) first lasts)) in
    record { first_is = first; second_is = second; shorter = rw first (length_last fs j); as_long = rw second (length_last bs k); rest = rest.0; fits = this.1 }

-- all passes are of the lock
pub paired_of : {K : Type 0} (counted : AtCounted) (js : List AtPass) (ks : List K) → AreOf counted.table js → length js ≡ length ks → Paired (λ pass k. pass.table ≡ counted.table) js ks
paired_of counted [] [] all same = tt
paired_of counted [] (k ∷ ks) all same = omega (arith, same)
paired_of counted (j ∷ js) [] all same = omega (arith, same)
paired_of counted (j ∷ js) (k ∷ ks) all same = (all.0, paired_of counted js ks all.1 (omega (arith, same)))
