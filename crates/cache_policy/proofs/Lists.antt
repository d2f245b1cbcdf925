-- What holds of each element of a list, by recursion, and of a list that is searched from its end.
use mathlib.Core.List.{reverse_aux}
use Rattle.std.specs.{Prelude.{◌≡◌, ℕ, List, [], ◌∷◌, ◌++◌, Bool, true, false, ◌||◌, Option, Some, None, cond, drop, find, filter, map, reverse, refl}, List.{AllByRecursion, list_any}, Option.{option_map, IfSome}}
use Rattle.std.proofs.Common.{ap, ◌∙◌, zero, suc}

module _ {A : Type 0} (P : A → Type 0) where
  pub all_append : (xs ys : List A) → AllByRecursion P xs → AllByRecursion P ys → AllByRecursion P (xs ++ ys)
  all_append [] ys h k = k
  all_append (x ∷ xs) ys h k = (h.0, all_append xs ys h.1 k)

  pub all_drop : (n : ℕ) (xs : List A) → AllByRecursion P xs → AllByRecursion P (drop n xs)
  all_drop zero xs h = h
  all_drop (suc n) [] h = tt
  all_drop (suc n) (x ∷ xs) h = all_drop n xs h.1

  all_reverse_aux : (xs ys : List A) → AllByRecursion P xs → AllByRecursion P ys →
      AllByRecursion P (reverse_aux xs ys)
  all_reverse_aux [] ys h k = k
  all_reverse_aux (x ∷ xs) ys h k = all_reverse_aux xs (x ∷ ys) h.1 (h.0, k)

  pub all_reverse : (xs : List A) → AllByRecursion P xs → AllByRecursion P (reverse xs)
  all_reverse xs h = all_reverse_aux xs [] h tt

  -- what is found is one of them
  pub all_find : (test : A → Bool) (xs : List A) → AllByRecursion P xs → IfSome (find test xs) P
  all_find test [] h = tt
  all_find test (x ∷ xs) h =
      elim (test x) as (λ b. IfSome (cond b (Some x) (find test xs)) P) [ true ↦ h.0 | false ↦ all_find test xs h.1 ]

-- no element passes a test that each fails
pub any_none : {A : Type 0} (test : A → Bool) (xs : List A) → AllByRecursion (λ x. test x ≡ false) xs →
    list_any test xs ≡ false
any_none test [] h = refl
any_none test (x ∷ xs) h = ap (λ b. b || list_any test xs) h.0 ∙ any_none test xs h.1

-- and none is kept
pub filter_none : {A : Type 0} (test : A → Bool) (xs : List A) → AllByRecursion (λ x. test x ≡ false) xs →
    filter test xs ≡ []
filter_none test [] h = refl
filter_none test (x ∷ xs) h = ap (λ b. cond b (x ∷ filter test xs) (filter test xs)) h.0 ∙ filter_none test xs h.1

-- a weaker fact of each
pub all_weaker : {A : Type 0} (P Q : A → Type 0) → ((x : A) → P x → Q x) → (xs : List A) → AllByRecursion P xs →
    AllByRecursion Q xs
all_weaker P Q f [] h = tt
all_weaker P Q f (x ∷ xs) h = (f x h.0, all_weaker P Q f xs h.1)

module _ {A : Type 0} (change : A → A) where
  map_reverse_aux : (xs ys : List A) → map change (reverse_aux xs ys) ≡ reverse_aux (map change xs) (map change ys)
  map_reverse_aux [] ys = refl
  map_reverse_aux (x ∷ xs) ys = map_reverse_aux xs (x ∷ ys)

  pub map_reverse : (xs : List A) → map change (reverse xs) ≡ reverse (map change xs)
  map_reverse xs = map_reverse_aux xs []

  -- a change that the test does not see leaves what is found, but for the change
  pub find_map : (test : A → Bool) → ((x : A) → test (change x) ≡ test x) → (xs : List A) →
      find test (map change xs) ≡ option_map change (find test xs)
  find_map test same [] = refl
  find_map test same (x ∷ xs) =
      ap (λ b. cond b (Some (change x)) (find test (map change xs))) (same x)
      ∙ (ap (cond (test x) (Some (change x))) (find_map test same xs)
      ∙ elim (test x) as (λ b. cond b (Some (change x)) (option_map change (find test xs))
      ≡ option_map change (cond b (Some x) (find test xs))) [ true ↦ refl | false ↦ refl ])

-- what is found passes
pub find_passes : {A : Type 0} (test : A → Bool) (xs : List A) → IfSome (find test xs) (λ x. test x ≡ true)
find_passes test [] = tt
find_passes test (x ∷ xs) =
    elim (test x) as (λ b. test x ≡ b → IfSome (cond b (Some x) (find test xs)) (λ y. test y
    ≡ true)) [ true ↦ λ h. h | false ↦ λ h. find_passes test xs ] refl

-- one change after another
pub option_map_map : {A B C : Type 0} (f : A → B) (g : B → C) (o : Option A) →
    option_map g (option_map f o) ≡ option_map (λ x. g (f x)) o
option_map_map f g None = refl
option_map_map f g (Some x) = refl
