-- All lines of some bytes, from the first of them on.
use Rattle.std.proofs.{Common.{◌≡◌, ◌+◌, ◌-◌, ◌||◌, ◌≤◌, ℕ, suc, leb, inl, inr, Bool, true, false, not, cond, List, [], ◌∷◌, length, map, take, drop, get_or, refl, ap, sym, ◌∙◌, arith}, lemmas.Bool.{or_parts, false≢true, Decides.leb_tells}}
use Rattle.std.{proofs.lemmas.List.{take_all, take-append-drop, Folds.list_any-append}, specs.List.{list_any, slice_split, onto_first, before_first, after_first, prefix_len}}
use Rattle.assuan_text.specs.LineEnds.{is_lf, has_lf, without_cr}
use Rattle.assuan_line.specs.{Lines.{first_line, after_line, pieces_of, lines_of, rest_of}, Next.next_of, declared.{buffer.TheConstants.MAX_UNDECIDED, reader.Took.TheVariants.{Line, TooLong, End}}}

module _ {X : Type 0} (p : X → Bool) where
  -- where no element ends a part there is one part
  split_none : (xs : List X) → list_any p xs ≡ false → slice_split p xs ≡ xs ∷ []
  split_none [] none = refl
  split_none (x ∷ xs) none =
      let parts = or_parts (p x) (list_any p xs) none in
      ap (λ b. cond b ([] ∷ slice_split p xs) (onto_first x (slice_split p xs))) parts.0 ∙ ap (onto_first x) (split_none xs parts.1)

  -- an element more in front of the first part
  one_more : (x : X) (xs : List X) (n k : ℕ) → k ≡ 1 + n → take k (x ∷ xs) ∷ slice_split p (drop (k + 1) (x ∷ xs)) ≡ (x ∷ take n xs) ∷ slice_split p (drop (n + 1) xs)
  one_more x xs n k is =
      let here : k ≡ suc n = omega (arith, is) in
      let behind : k + 1 ≡ suc (n + 1) = omega (arith, is) in
      ap (λ (m : ℕ). take m (x ∷ xs) ∷ slice_split p (drop (k + 1) (x ∷ xs))) here
      ∙ ap (λ (m : ℕ). (x ∷ take n xs) ∷ slice_split p (drop m (x ∷ xs))) behind

  -- the first part, and those behind it
  split_first : (xs : List X) → list_any p xs ≡ true → slice_split p xs ≡ before_first p xs ∷ slice_split p (after_first p xs)
  split_first [] some = absurd (false≢true some)
  split_first (x ∷ xs) some = elim (p x) as (λ b. (b || list_any p xs) ≡ true
      → cond b ([] ∷ slice_split p xs) (onto_first x (slice_split p xs))
      ≡ take (cond (not b) (1 + prefix_len (λ y. not (p y)) xs) 0) (x ∷ xs) ∷ slice_split p (drop (cond (not b) (1 + prefix_len (λ y. not (p y)) xs) 0 + 1) (x ∷ xs)))
      [ true ↦ λ s. refl | false ↦ λ s. ap (onto_first x) (split_first xs s) ∙ sym (one_more x xs (prefix_len (λ y. not (p y)) xs) _ refl) ] some

  -- there is always a part
  record HasPart (xs : List X) : Type 0 where
    pub first : List X
    pub others : List (List X)
    pub parts : slice_split p xs ≡ first ∷ others

  has_part : (xs : List X) → HasPart xs
  has_part [] = record { first = []; others = []; parts = refl }
  has_part (x ∷ xs) =
      let h = has_part xs in
      elim (p x) as (λ b. p x ≡ b → HasPart (x ∷ xs)) [
        | true ↦ λ e. record {
          first = [];
          others = slice_split p xs;
          parts = ap (λ b. cond b ([] ∷ slice_split p xs) (onto_first x (slice_split p xs))) e;
        }
        | false ↦ λ e. record {
          first = x ∷ h.first;
          others = h.others;
          parts = ap (λ b. cond b ([] ∷ slice_split p xs) (onto_first x (slice_split p xs))) e ∙ ap (onto_first x) h.parts;
        }
      ] refl

-- all parts but the last, with a part in front, and the last
module _ (piece first : List ℕ) (others parts all : List (List ℕ)) (is : parts ≡ first ∷ others) (whole : all ≡ piece ∷ parts) where
  last_of_parts : length parts - 1 ≡ length others
  last_of_parts = omega (arith, ap (λ (l : List (List ℕ)). length l) is)

  last_of_all : length all - 1 ≡ suc (length others)
  last_of_all = omega (arith, ap (λ (l : List (List ℕ)). length l) whole, ap (λ (l : List (List ℕ)). length l) is)

  all_but_last : take (length all - 1) all ≡ piece ∷ take (length parts - 1) parts
  all_but_last = rw (last_of_all, last_of_parts, whole) refl

  last : get_or all (length all - 1) [] ≡ get_or parts (length parts - 1) []
  last = rw (last_of_all, last_of_parts, whole) refl

pub pieces_none : (bytes : List ℕ) → has_lf bytes ≡ false → pieces_of bytes ≡ []
pieces_none bytes none = ap (λ (parts : List (List ℕ)). take (length parts - 1) parts) (split_none is_lf bytes none)

pub lines_none : (bytes : List ℕ) → has_lf bytes ≡ false → lines_of bytes ≡ []
lines_none bytes none = ap (map without_cr) (pieces_none bytes none)

pub rest_none : (bytes : List ℕ) → has_lf bytes ≡ false → rest_of bytes ≡ bytes
rest_none bytes none = ap (λ (parts : List (List ℕ)). get_or parts (length parts - 1) []) (split_none is_lf bytes none)

pub pieces_some : (bytes : List ℕ) → has_lf bytes ≡ true → pieces_of bytes ≡ before_first is_lf bytes ∷ pieces_of (after_line bytes)
pieces_some bytes some =
    let h = has_part is_lf (after_line bytes) in
    all_but_last (before_first is_lf bytes) h.first h.others _ _ h.parts (split_first is_lf bytes some)

pub lines_some : (bytes : List ℕ) → has_lf bytes ≡ true → lines_of bytes ≡ first_line bytes ∷ lines_of (after_line bytes)
lines_some bytes some = ap (map without_cr) (pieces_some bytes some)

pub rest_some : (bytes : List ℕ) → has_lf bytes ≡ true → rest_of bytes ≡ rest_of (after_line bytes)
rest_some bytes some =
    let h = has_part is_lf (after_line bytes) in
    last (before_first is_lf bytes) h.first h.others _ _ h.parts (split_first is_lf bytes some)

-- what the next line tells of the line feeds
pub has_lf_among_first : (bytes : List ℕ) → has_lf (take MAX_UNDECIDED bytes) ≡ true → has_lf bytes ≡ true
has_lf_among_first bytes some =
    ap has_lf (sym (take-append-drop MAX_UNDECIDED bytes)) ∙ list_any-append is_lf (take MAX_UNDECIDED bytes) (drop MAX_UNDECIDED bytes)
    ∙ ap (λ (b : Bool). b || has_lf (drop MAX_UNDECIDED bytes)) some

pub line_tells : (bytes line : List ℕ) → next_of bytes ≡ Line line → (has_lf bytes ≡ true) × (first_line bytes ≡ line)
unfolding next_of
line_tells bytes line is =
    elim (has_lf (take MAX_UNDECIDED bytes)) as (λ b. has_lf (take MAX_UNDECIDED bytes) ≡ b
    → cond b (cond (leb (length (first_line bytes)) 1000) (Line (first_line bytes)) TooLong) (cond (leb MAX_UNDECIDED (length bytes)) TooLong End) ≡ Line line
    → (has_lf bytes ≡ true) × (first_line bytes ≡ line)) [
      | true ↦ λ some e. (has_lf_among_first bytes some, of_line (leb (length (first_line bytes)) 1000) e)
      | false ↦ λ none e. absurd (no_line (leb MAX_UNDECIDED (length bytes)) e)
    ] refl is where
      of_line : (b : Bool) → cond b (Line (first_line bytes)) TooLong ≡ Line line → first_line bytes ≡ line
      of_line true e = cc e
      of_line false e = absurd (cc e)

      no_line : (b : Bool) → cond b TooLong End ≡ Line line → ⊥
      no_line true e = cc e
      no_line false e = cc e

pub end_tells : (bytes : List ℕ) → next_of bytes ≡ End → has_lf bytes ≡ false
unfolding next_of
end_tells bytes is =
    elim (has_lf (take MAX_UNDECIDED bytes)) as (λ b. has_lf (take MAX_UNDECIDED bytes) ≡ b
    → cond b (cond (leb (length (first_line bytes)) 1000) (Line (first_line bytes)) TooLong) (cond (leb MAX_UNDECIDED (length bytes)) TooLong End) ≡ End
    → has_lf bytes ≡ false) [
      | true ↦ λ some e. absurd (no_end (leb (length (first_line bytes)) 1000) e)
      | false ↦ λ none e. ap has_lf (sym (take_all MAX_UNDECIDED bytes (short (leb MAX_UNDECIDED (length bytes)) refl e))) ∙ none
    ] refl is where
      no_end : (b : Bool) → cond b (Line (first_line bytes)) TooLong ≡ End → ⊥
      no_end true e = cc e
      no_end false e = cc e

      short : (b : Bool) → leb MAX_UNDECIDED (length bytes) ≡ b → cond b TooLong End ≡ End → length bytes ≤ MAX_UNDECIDED
      short true at e = absurd (cc e)
      short false at e = elim (leb_tells MAX_UNDECIDED (length bytes)) [ inl t ↦ absurd (false≢true (sym at ∙ t.0)) | inr f ↦ omega (arith, f.1) ]
