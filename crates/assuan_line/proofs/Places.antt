-- The first element that passes a test, in two lists behind one another.
use Rattle.std.proofs.{Common.{◌≡◌, ℕ, ◌+◌, suc, ◌<◌, ◌||◌, Bool, true, false, not, cond, List, [], ◌∷◌, ◌++◌, length, take, Some, None, refl, ap, sym, ◌∙◌, zero-add, arith}, lemmas.Bool.{or_parts, or_from, lt-ltb, le-ltb, false≢true}}
use Rattle.std.{proofs.lemmas.List.Folds.list_any-append, specs.List.{list_any, position, position_or_len, prefix_len}}

module _ {X : Type 0} (p : X → Bool) where
  -- it comes behind those that don't
  pub place_behind : (front rest : List X) → list_any p front ≡ false → position_or_len p (front ++ rest) ≡ length front + position_or_len p rest
  place_behind [] rest none = sym (zero-add (position_or_len p rest))
  place_behind (y ∷ front) rest none =
      let parts = or_parts (p y) (list_any p front) none in
      let place = place_behind front rest parts.1 in
      ap (λ b. cond (not b) (1 + prefix_len (λ z. not (p z)) (front ++ rest)) 0) parts.0 ∙ omega (arith, place)

  -- what comes behind it changes nothing
  pub place_in_front : (front rest : List X) → list_any p front ≡ true → position_or_len p (front ++ rest) ≡ position_or_len p front
  place_in_front [] rest some = absurd (false≢true some)
  place_in_front (y ∷ front) rest some =
      elim (p y) as (λ b. (b || list_any p front) ≡ true
      → cond (not b) (1 + prefix_len (λ z. not (p z)) (front ++ rest)) 0 ≡ cond (not b) (1 + prefix_len (λ z. not (p z)) front) 0)
      [ true ↦ λ s. refl | false ↦ λ s. ap (λ (n : ℕ). 1 + n) (place_in_front front rest s) ] some

  pub place_within : (xs : List X) → list_any p xs ≡ true → position_or_len p xs < length xs
  place_within [] some = absurd (false≢true some)
  place_within (y ∷ xs) some =
      elim (p y) as (λ b. (b || list_any p xs) ≡ true → cond (not b) (1 + prefix_len (λ z. not (p z)) xs) 0 < length (y ∷ xs))
      [ true ↦ λ s. omega arith | false ↦ λ s. let here = place_within xs s in omega (arith, here) ] some

  pub none_before : (xs : List X) → list_any p (take (position_or_len p xs) xs) ≡ false
  none_before [] = refl
  none_before (y ∷ xs) =
      elim (p y) as (λ b. p y ≡ b → list_any p (take (cond (not b) (1 + prefix_len (λ z. not (p z)) xs) 0) (y ∷ xs)) ≡ false) [
        | true ↦ λ is. refl
        | false ↦ λ is.
            let one : 1 + position_or_len p xs ≡ suc (position_or_len p xs) = omega arith in
            ap (λ (n : ℕ). list_any p (take n (y ∷ xs))) one ∙ or_from (p y) _ is (none_before xs)
      ] refl

  position_is : (xs : List X) → list_any p xs ≡ true → position p xs ≡ Some (position_or_len p xs)
  position_is xs some =
      ap (λ (b : Bool). cond b (Some (position_or_len p xs)) None) (lt-ltb (position_or_len p xs) (length xs) (place_within xs some))

  place_of_none : (xs : List X) → list_any p xs ≡ false → position_or_len p xs ≡ length xs
  place_of_none [] none = refl
  place_of_none (y ∷ xs) none =
      let parts = or_parts (p y) (list_any p xs) none in
      let place = place_of_none xs parts.1 in
      ap (λ b. cond (not b) (1 + prefix_len (λ z. not (p z)) xs) 0) parts.0 ∙ omega (arith, place)

  position_absent : (xs : List X) → list_any p xs ≡ false → position p xs ≡ None
  position_absent xs none =
      ap (λ (b : Bool). cond b (Some (position_or_len p xs)) None) (le-ltb (position_or_len p xs) (length xs) (omega (arith, place_of_none xs none)))

  -- what `position` tells
  pub some_there : (xs : List X) (i : ℕ) → position p xs ≡ Some i → (list_any p xs ≡ true) × (position_or_len p xs ≡ i)
  some_there xs i is =
      elim (list_any p xs) as (λ b. list_any p xs ≡ b → (b ≡ true) × (position_or_len p xs ≡ i)) [
        | true ↦ λ e. let at = position_is xs e in (refl, cc)
        | false ↦ λ e. let at = position_absent xs e in absurd (cc)
      ] refl

  pub none_there : (xs : List X) → position p xs ≡ None → list_any p xs ≡ false
  none_there xs is =
      elim (list_any p xs) as (λ b. list_any p xs ≡ b → b ≡ false) [
        | true ↦ λ e. let at = position_is xs e in absurd (cc)
        | false ↦ λ e. refl
      ] refl

  pub position_in_front : (front rest : List X) (i : ℕ) → position p front ≡ Some i → position p (front ++ rest) ≡ Some i
  position_in_front front rest i is =
      let there = some_there front i is in
      let among : list_any p (front ++ rest) ≡ true = list_any-append p front rest ∙ ap (λ (b : Bool). b || list_any p rest) there.0 in
      position_is (front ++ rest) among ∙ ap (λ (n : ℕ). Some n) (place_in_front front rest there.0 ∙ there.1)

  pub position_behind : (front rest : List X) (i : ℕ) → position p front ≡ None → position p rest ≡ Some i → position p (front ++ rest) ≡ Some (length front + i)
  position_behind front rest i none is =
      let absent = none_there front none in
      let there = some_there rest i is in
      let among : list_any p (front ++ rest) ≡ true = list_any-append p front rest ∙ ap (λ (b : Bool). b || list_any p rest) absent ∙ there.0 in
      position_is (front ++ rest) among ∙ ap (λ (n : ℕ). Some n) (place_behind front rest absent ∙ ap (λ (n : ℕ). length front + n) there.1)

  pub position_nowhere : (front rest : List X) → position p front ≡ None → position p rest ≡ None → position p (front ++ rest) ≡ None
  position_nowhere front rest none nor =
      position_absent (front ++ rest) (list_any-append p front rest ∙ or_from (list_any p front) (list_any p rest) (none_there front none) (none_there rest nor))

-- the first that passes comes right after those that don't
pub place_after : {X : Type 0} (p : X → Bool) (front : List X) (x : X) (rest : List X) → list_any p front ≡ false → p x ≡ true → position_or_len p (front ++ x ∷ rest) ≡ length front
place_after p front x rest none passes =
    let first : position_or_len p (x ∷ rest) ≡ 0 = ap (λ b. cond (not b) (1 + prefix_len (λ y. not (p y)) rest) 0) passes in
    place_behind p front (x ∷ rest) none ∙ omega (arith, first)
