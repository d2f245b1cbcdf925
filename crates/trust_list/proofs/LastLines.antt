-- What is appended to a file whose last line has its end is read as lines of its own.
use Rattle.std.proofs.{Common.{◌≡◌, ◌-◌, ◌≤◌, ℕ, suc, Bool, true, false, cond, List, [], ◌∷◌, ◌++◌, length, Option, Some, None, refl, sym, ap, ◌∙◌, arith, append_assoc}, lemmas.List.{append-nil, Elements.filter_map-append}}
use Rattle.std.{proofs.lemmas.List.Splits.{slice_split-cons_yes, length-slice_split}, specs.{Prelude.slice_get, List.{filter_map, cons_option, slice_split, onto_first}, Option.option_map_or}}
use Rattle.assuan_text.specs.LineEnds.{is_lf}
use Rattle.trust_list.specs.Trust.{missing_end}

onto_append : {X : Type 0} (x : X) (parts more : List (List X)) → 1 ≤ length parts → onto_first x (parts ++ more) ≡ onto_first x parts ++ more
onto_append x [] more some = absurd (omega (arith, some))
onto_append x (part ∷ parts) more some = refl

pub some_part : {X : Type 0} (p : X → Bool) (xs : List X) → 1 ≤ length (slice_split p xs)
some_part p xs = omega (arith, length-slice_split p xs)

-- the parts on both sides of a place where a list is cut
pub split_append : {X : Type 0} (p : X → Bool) (front : List X) (cut : X) (back : List X) → p cut ≡ true → slice_split p (front ++ cut ∷ back) ≡ slice_split p front ++ slice_split p back
split_append p [] cut back cuts = slice_split-cons_yes p cut back cuts
split_append p (x ∷ front) cut back cuts =
    let ih = split_append p front cut back cuts in
    elim (p x) as (λ b. cond b ([] ∷ slice_split p (front ++ cut ∷ back)) (onto_first x (slice_split p (front ++ cut ∷ back)))
    ≡ cond b ([] ∷ slice_split p front) (onto_first x (slice_split p front)) ++ slice_split p back) [
      | true ↦ ap (λ parts. [] ∷ parts) ih
      | false ↦ ap (onto_first x) ih ∙ onto_append x (slice_split p front) (slice_split p back) (some_part p front)
    ]

-- a list that has an element, by its last one
record HasLast {X : Type 0} (xs : List X) : Type 0 where
  front : List X
  last : X
  whole : xs ≡ front ++ last ∷ []
  found : slice_get xs (length xs - 1) ≡ Some last

last_of : {X : Type 0} (x : X) (xs : List X) → HasLast (x ∷ xs)
last_of x [] = record { front = []; last = x; whole = refl; found = refl }
last_of x (y ∷ ys) =
    let more = last_of y ys in
    let place : length (x ∷ y ∷ ys) - 1 ≡ suc (length (y ∷ ys) - 1) = omega arith in
    record {
      front = x ∷ more.front;
      last = more.last;
      whole = ap (λ zs. x ∷ zs) more.whole;
      found = ap (slice_get (x ∷ y ∷ ys)) place ∙ more.found;
    }

module _ {Y : Type 0} (judge : List ℕ → Option Y) (silent : judge [] ≡ None) where
  abbrev judgements_of : List ℕ → List Y
  judgements_of file = filter_map judge (slice_split is_lf file)

  cut : (front back : List ℕ) (byte : ℕ) → is_lf byte ≡ true → judgements_of (front ++ byte ∷ back) ≡ judgements_of front ++ judgements_of back
  cut front back byte ends =
      ap (filter_map judge) (split_append is_lf front byte back ends) ∙ filter_map-append judge (slice_split is_lf front) (slice_split is_lf back)

  nothing : judgements_of [] ≡ []
  nothing = ap (λ judgement. cons_option judgement []) silent

  by_last : (file entry : List ℕ) → (last : HasLast file) → (ends : Bool) → is_lf last.last ≡ ends
      → judgements_of (file ++ cond ends [] (10 ∷ []) ++ entry) ≡ judgements_of file ++ judgements_of entry
  by_last file entry last true lf =
      let kept = cut last.front [] last.last lf ∙ ap (λ judgements. judgements_of last.front ++ judgements) nothing ∙ append-nil (judgements_of last.front) in
      ap (λ text. judgements_of (text ++ entry)) (append-nil file ∙ last.whole)
      ∙ ap judgements_of (append_assoc last.front (last.last ∷ []) entry)
      ∙ cut last.front entry last.last lf
      ∙ ap (λ judgements. judgements ++ judgements_of entry) (sym kept ∙ sym (ap judgements_of last.whole))
  by_last file entry last false other = ap judgements_of (append_assoc file (10 ∷ []) entry) ∙ cut file entry 10 refl

  pub judgements_append : (file entry : List ℕ) → judgements_of (file ++ missing_end file ++ entry) ≡ judgements_of file ++ judgements_of entry
  judgements_append [] entry = sym (ap (λ judgements. judgements ++ judgements_of entry) nothing)
  judgements_append (byte ∷ bytes) entry =
      let last = last_of byte bytes in
      ap (λ o. judgements_of (byte ∷ bytes ++ cond (option_map_or is_lf o true) [] (10 ∷ []) ++ entry)) last.found
      ∙ by_last (byte ∷ bytes) entry last (is_lf last.last) refl
