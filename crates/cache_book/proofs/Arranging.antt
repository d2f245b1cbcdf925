-- Lists in order: what becomes of them as an element is added, dropped or changed.
use Rattle.std.specs.{Prelude.{◌≡◌, ℕ, ◌≤◌, List, [], ◌∷◌, ◌++◌, Bool, true, false, map, filter, cond, refl, length, take, drop, get_or, set}, List.{AllByRecursion, AllWithin, Sorted.IsPartitionedBy}}
use Rattle.std.proofs.{Common.{ap, sym, ◌∙◌, arith, zero, suc}, lemmas.List.Elements.{All-from_recursion, recursion_from_All}}
use Rattle.cache_book.{specs.Arranged.{placed, arranged, EachPair}, proofs.Kept.all_filter}

-- what holds of each element, with one more at a place
module _ {A : Type 0} (P : A → Type 0) where
  pub all_insert : (i : ℕ) (x : A) (xs : List A) → P x → AllByRecursion P xs → AllByRecursion P (take i xs ++ x ∷ drop i xs)
  all_insert zero x xs here h = (here, h)
  all_insert (suc i) x [] here h = (here, tt)
  all_insert (suc i) x (y ∷ ys) here h = (h.0, all_insert i x ys here h.1)

  pub all_set : (i : ℕ) (x : A) (xs : List A) → P x → AllByRecursion P xs → AllByRecursion P (set xs i x)
  all_set zero x [] here h = tt
  all_set zero x (y ∷ ys) here h = (here, h.1)
  all_set (suc i) x [] here h = tt
  all_set (suc i) x (y ∷ ys) here h = (h.0, all_set i x ys here h.1)

  pub all_take_within : (i : ℕ) (xs : List A) → i ≤ length xs → AllWithin P xs 0 i → AllByRecursion P (take i xs)
  all_take_within zero xs le h = tt
  all_take_within (suc i) [] le h = absurd (omega arith)
  all_take_within (suc i) (x ∷ xs) le h =
      (h 0 x (omega arith) (omega arith), all_take_within i xs (omega arith) (λ k d low high. h (suc k) d (omega arith) (omega arith)))

  pub all_drop_within : (i : ℕ) (xs : List A) → AllWithin P xs i (length xs) → AllByRecursion P (drop i xs)
  all_drop_within zero xs h = recursion_from_All P xs (λ k d lt. h k d (omega arith) lt)
  all_drop_within (suc i) [] h = tt
  all_drop_within (suc i) (x ∷ xs) h = all_drop_within i xs (λ k d low high. h (suc k) d (omega arith) (omega arith))

-- what holds of each pair
module _ {A : Type 0} (R : A → A → Type 0) where
  pub pairs_filter : (test : A → Bool) (xs : List A) → EachPair R xs → EachPair R (filter test xs)
  pairs_filter test [] h = tt
  pairs_filter test (x ∷ xs) h =
      elim (test x) as (λ b. EachPair R (cond b (x ∷ filter test xs) (filter test xs))) [
        | true ↦ (all_filter (R x) test xs h.0, pairs_filter test xs h.1)
        | false ↦ pairs_filter test xs h.1
      ]

  all_moved : (f : A → A) → ((x y : A) → R x y → R (f x) (f y)) → (x : A) (ys : List A) → AllByRecursion (R x) ys → AllByRecursion (R (f x)) (map f ys)
  all_moved f keeps x [] h = tt
  all_moved f keeps x (y ∷ ys) h = (keeps x y h.0, all_moved f keeps x ys h.1)

  pub pairs_map : (f : A → A) → ((x y : A) → R x y → R (f x) (f y)) → (xs : List A) → EachPair R xs → EachPair R (map f xs)
  pairs_map f keeps [] h = tt
  pairs_map f keeps (x ∷ xs) h = (all_moved f keeps x xs h.0, pairs_map f keeps xs h.1)

  pub pairs_insert : (i : ℕ) (x : A) (xs : List A) → AllByRecursion (λ y. R y x) (take i xs) → AllByRecursion (R x) (drop i xs)
      → EachPair R xs → EachPair R (take i xs ++ x ∷ drop i xs)
  pairs_insert zero x xs before after h = (after, h)
  pairs_insert (suc i) x [] before after h = (tt, tt)
  pairs_insert (suc i) x (y ∷ ys) before after h = (all_insert (R y) i x ys before.0 h.0, pairs_insert i x ys before.1 after h.1)

  -- a test that an element passes where a later one does parts the list
  pub pairs_parted : (p : A → Bool) → ((x y : A) → R x y → p y ≡ true → p x ≡ true) → (xs : List A) → EachPair R xs → IsPartitionedBy p xs
  pairs_parted p back [] h i j d le lt e = absurd (omega arith)
  pairs_parted p back (x ∷ xs) h zero zero d le lt e = e
  pairs_parted p back (x ∷ xs) h zero (suc j) d le lt e =
      back x (get_or xs j d) (All-from_recursion (R x) xs h.0 j d (omega arith)) e
  pairs_parted p back (x ∷ xs) h (suc i) zero d le lt e = absurd (omega arith)
  pairs_parted p back (x ∷ xs) h (suc i) (suc j) d le lt e = pairs_parted p back xs h.1 i j d (omega arith) (omega arith) e

-- a test that is an order
pub record IsOrder {A : Type 0} (before : A → A → Bool) : Type 0 where
  pub other : (x y : A) → before x y ≡ true → before y x ≡ false
  pub through : (x y z : A) → before x y ≡ true → before z y ≡ false → before x z ≡ true

module _ {A : Type 0} (before : A → A → Bool) where
  pub placed_here : (x y : A) (ys : List A) → before x y ≡ true → placed before x (y ∷ ys) ≡ x ∷ y ∷ ys
  placed_here x y ys h = ap (λ b. cond b (x ∷ y ∷ ys) (y ∷ placed before x ys)) h

  pub placed_further : (x y : A) (ys : List A) → before x y ≡ false → placed before x (y ∷ ys) ≡ y ∷ placed before x ys
  placed_further x y ys h = ap (λ b. cond b (x ∷ y ∷ ys) (y ∷ placed before x ys)) h

  pub placed_front : (x : A) (ys : List A) → AllByRecursion (λ y. before x y ≡ true) ys → placed before x ys ≡ x ∷ ys
  placed_front x [] h = refl
  placed_front x (y ∷ ys) h = placed_here x y ys h.0

  pub placed_back : (x : A) (ys : List A) → AllByRecursion (λ y. before x y ≡ false) ys → placed before x ys ≡ ys ++ x ∷ []
  placed_back x [] h = refl
  placed_back x (y ∷ ys) h = placed_further x y ys h.0 ∙ ap (λ (l : List A). y ∷ l) (placed_back x ys h.1)

  -- before a last one
  pub placed_append : (x z : A) (ys : List A) → before x z ≡ true → placed before x (ys ++ z ∷ []) ≡ placed before x ys ++ z ∷ []
  placed_append x z [] h = placed_here x z [] h
  placed_append x z (y ∷ ys) h =
      elim (before x y) as (λ b. cond b (x ∷ y ∷ (ys ++ z ∷ [])) (y ∷ placed before x (ys ++ z ∷ [])) ≡ cond b (x ∷ y ∷ ys) (y ∷ placed before x ys) ++ z ∷ []) [
        | true ↦ refl
        | false ↦ ap (λ (l : List A). y ∷ l) (placed_append x z ys h)
      ]

  pub all_placed : (P : A → Type 0) (x : A) (ys : List A) → P x → AllByRecursion P ys → AllByRecursion P (placed before x ys)
  all_placed P x [] here h = (here, tt)
  all_placed P x (y ∷ ys) here h =
      elim (before x y) as (λ b. AllByRecursion P (cond b (x ∷ y ∷ ys) (y ∷ placed before x ys))) [
        | true ↦ (here, h)
        | false ↦ (h.0, all_placed P x ys here h.1)
      ]

  pub all_arranged : (P : A → Type 0) (xs : List A) → AllByRecursion P xs → AllByRecursion P (arranged before xs)
  all_arranged P [] h = tt
  all_arranged P (x ∷ xs) h = all_placed P x (arranged before xs) h.0 (all_arranged P xs h.1)

  all_unplaced : (P : A → Type 0) (x : A) (ys : List A) → AllByRecursion P (placed before x ys) → P x × AllByRecursion P ys
  all_unplaced P x [] h = (h.0, tt)
  all_unplaced P x (y ∷ ys) h =
      elim (before x y) as (λ b. AllByRecursion P (cond b (x ∷ y ∷ ys) (y ∷ placed before x ys)) → P x × AllByRecursion P (y ∷ ys)) [
        | true ↦ λ k. (k.0, k.1)
        | false ↦ λ k. let rest = all_unplaced P x ys k.1 in (rest.0, (k.0, rest.1))
      ] h

  -- and of the list as it was
  pub all_unarranged : (P : A → Type 0) (xs : List A) → AllByRecursion P (arranged before xs) → AllByRecursion P xs
  all_unarranged P [] h = tt
  all_unarranged P (x ∷ xs) h = let parts = all_unplaced P x (arranged before xs) h in (parts.0, all_unarranged P xs parts.1)

  -- a change that the order doesn't see
  placed_map : (f : A → A) → ((x y : A) → before (f x) (f y) ≡ before x y) → (x : A) (ys : List A)
      → placed before (f x) (map f ys) ≡ map f (placed before x ys)
  placed_map f same x [] = refl
  placed_map f same x (y ∷ ys) =
      ap (λ b. cond b (f x ∷ f y ∷ map f ys) (f y ∷ placed before (f x) (map f ys))) (same x y)
      ∙ (ap (λ (l : List A). cond (before x y) (f x ∷ f y ∷ map f ys) (f y ∷ l)) (placed_map f same x ys)
      ∙ elim (before x y) as (λ b. cond b (f x ∷ f y ∷ map f ys) (f y ∷ map f (placed before x ys)) ≡ map f (cond b (x ∷ y ∷ ys) (y ∷ placed before x ys))) [
        | true ↦ refl
        | false ↦ refl
      ])

  pub arranged_map : (f : A → A) → ((x y : A) → before (f x) (f y) ≡ before x y) → (xs : List A) → arranged before (map f xs) ≡ map f (arranged before xs)
  arranged_map f same [] = refl
  arranged_map f same (x ∷ xs) = ap (placed before (f x)) (arranged_map f same xs) ∙ placed_map f same x (arranged before xs)

module _ {A : Type 0} (before : A → A → Bool) (order : IsOrder before) where
  before_all_behind : (x y : A) (ys : List A) → before x y ≡ true → AllByRecursion (λ z. before z y ≡ false) ys → AllByRecursion (λ z. before x z ≡ true) ys
  before_all_behind x y [] h up = tt
  before_all_behind x y (z ∷ zs) h up = (order.through x y z h up.0, before_all_behind x y zs h up.1)

  none_before : (x : A) (ys : List A) → AllByRecursion (λ z. before x z ≡ true) ys → AllByRecursion (λ z. before z x ≡ false) ys
  none_before x [] h = tt
  none_before x (y ∷ ys) h = (order.other x y h.0, none_before x ys h.1)

  up_placed : (x : A) (ys : List A) → EachPair (λ a b. before b a ≡ false) ys → EachPair (λ a b. before b a ≡ false) (placed before x ys)
  up_placed x [] up = (tt, tt)
  up_placed x (y ∷ ys) up =
      elim (before x y) as (λ b. before x y ≡ b → EachPair (λ a b. before b a ≡ false) (cond b (x ∷ y ∷ ys) (y ∷ placed before x ys))) [
        | true ↦ λ h. (none_before x (y ∷ ys) (h, before_all_behind x y ys h up.0), up)
        | false ↦ λ h. (all_placed before (λ z. before z y ≡ false) x ys h up.0, up_placed x ys up.1)
      ] refl

  -- no element comes before an earlier one
  pub arranged_up : (xs : List A) → EachPair (λ a b. before b a ≡ false) (arranged before xs)
  arranged_up [] = tt
  arranged_up (x ∷ xs) = up_placed x (arranged before xs) (arranged_up xs)

  filter_placed : (test : A → Bool) (x : A) (ys : List A) → EachPair (λ a b. before b a ≡ false) ys
      → filter test (placed before x ys) ≡ cond (test x) (placed before x (filter test ys)) (filter test ys)
  filter_placed test x [] up = refl
  filter_placed test x (y ∷ ys) up =
      elim (before x y) as (λ b. before x y ≡ b → filter test (cond b (x ∷ y ∷ ys) (y ∷ placed before x ys))
      ≡ cond (test x) (placed before x (filter test (y ∷ ys))) (filter test (y ∷ ys))) [
        | true ↦ λ h. ap (λ (l : List A). cond (test x) l (filter test (y ∷ ys)))
            (sym (placed_front before x (filter test (y ∷ ys)) (all_filter (λ z. before x z ≡ true) test (y ∷ ys) (h, before_all_behind x y ys h up.0))))
        | false ↦ λ h. ap (λ (l : List A). cond (test y) (y ∷ l) l) (filter_placed test x ys up.1) ∙ further h
      ] refl
    where
      further : before x y ≡ false
          → cond (test y) (y ∷ cond (test x) (placed before x (filter test ys)) (filter test ys)) (cond (test x) (placed before x (filter test ys)) (filter test ys))
          ≡ cond (test x) (placed before x (cond (test y) (y ∷ filter test ys) (filter test ys))) (cond (test y) (y ∷ filter test ys) (filter test ys))
      further h =
          elim (test y) as (λ b. cond b (y ∷ cond (test x) (placed before x (filter test ys)) (filter test ys)) (cond (test x) (placed before x (filter test ys)) (filter test ys))
          ≡ cond (test x) (placed before x (cond b (y ∷ filter test ys) (filter test ys))) (cond b (y ∷ filter test ys) (filter test ys))) [
            | true ↦ elim (test x) as (λ b. y ∷ cond b (placed before x (filter test ys)) (filter test ys) ≡ cond b (placed before x (y ∷ filter test ys)) (y ∷ filter test ys)) [
              | true ↦ sym (placed_further before x y (filter test ys) h)
              | false ↦ refl
            ]
            | false ↦ refl
          ]

  pub arranged_filter : (test : A → Bool) (xs : List A) → arranged before (filter test xs) ≡ filter test (arranged before xs)
  arranged_filter test [] = refl
  arranged_filter test (x ∷ xs) =
      elim (test x) as (λ b. arranged before (cond b (x ∷ filter test xs) (filter test xs)) ≡ cond b (placed before x (filter test (arranged before xs))) (filter test (arranged before xs))) [
        | true ↦ ap (placed before x) (arranged_filter test xs)
        | false ↦ arranged_filter test xs
      ]
      ∙ sym (filter_placed test x (arranged before xs) (arranged_up xs))

  -- an element after all others, wherever it is added
  pub arranged_last : (i : ℕ) (x : A) (xs : List A) → AllByRecursion (λ y. before y x ≡ true) xs
      → arranged before (take i xs ++ x ∷ drop i xs) ≡ arranged before xs ++ x ∷ []
  arranged_last zero x xs h = placed_back before x (arranged before xs) (all_arranged before (λ y. before x y ≡ false) xs (after xs h))
    where
      after : (ys : List A) → AllByRecursion (λ y. before y x ≡ true) ys → AllByRecursion (λ y. before x y ≡ false) ys
      after [] k = tt
      after (y ∷ ys) k = (order.other y x k.0, after ys k.1)
  arranged_last (suc i) x [] h = refl
  arranged_last (suc i) x (y ∷ ys) h =
      ap (placed before y) (arranged_last i x ys h.1) ∙ placed_append before y x (arranged before ys) h.0
