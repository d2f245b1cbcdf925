-- What the next line is, by the place of the first line feed, and that bytes which decide it stay decided.
use Rattle.std.proofs.Common.{◌≡◌, ◌≢◌, ℕ, ◌+◌, ◌-◌, ◌<◌, ◌≤◌, ◌||◌, ◌⊎◌, Bool, true, false, cond, leb, ◌==◌, slice_index, List, ◌++◌, length, take, drop, Some, None, inl, inr, refl, ap, sym, ◌∙◌, arith, le-leb}
use Rattle.std.proofs.{lemmas.{Bool.{lt-leb, false≢true, Decides.leb_tells}, List.{take_all, take-append-drop, take-append-le, drop-append-le, length-take-le, length-append, length-drop, Folds.list_any-append}}, Math.Seq.take-append-add}
use Rattle.std.specs.List.{position, position_or_len}
use Rattle.assuan_text.specs.LineEnds.{is_lf, has_lf, without_cr}
use Rattle.assuan_line.{proofs.{Parts.{line_tells, has_lf_among_first}, Places.{place_behind, place_in_front, place_within, none_before, some_there, none_there}}, specs.{Lines.{first_line, after_line}, Next.{next_of, OnLine}}}
use Rattle.assuan_line.specs.{Stops.line_or_too_long, declared.{buffer.TheConstants.MAX_UNDECIDED, reader.Took.{Took, TheVariants.{Line, TooLong, End, Spent, ReadFault}}}}

next_by : Bool → Bool → List ℕ → Took
next_by among many line = cond among (line_or_too_long line) (cond many TooLong End)

next_is : (bytes : List ℕ) → next_of bytes ≡ next_by (has_lf (take MAX_UNDECIDED bytes)) (leb MAX_UNDECIDED (length bytes)) (first_line bytes)
unfolding next_of next_by
next_is bytes = refl

pub whole_before : (bytes : List ℕ) (end : ℕ) → position is_lf bytes ≡ Some end → has_lf (take end bytes) ≡ false
whole_before bytes end is =
    ap (λ (n : ℕ). has_lf (take n bytes)) (sym (some_there is_lf bytes end is).1) ∙ none_before is_lf bytes

-- a line feed that isn't among the first bytes comes behind them
far : (bytes : List ℕ) → has_lf bytes ≡ true → has_lf (take MAX_UNDECIDED bytes) ≡ false → MAX_UNDECIDED ≤ position_or_len is_lf bytes
far bytes some none =
    elim (leb_tells MAX_UNDECIDED (length bytes)) [
      | inl t ↦
          let place = ap (λ (l : List ℕ). position_or_len is_lf l) (sym (take-append-drop MAX_UNDECIDED bytes)) ∙ place_behind is_lf (take MAX_UNDECIDED bytes) (drop MAX_UNDECIDED bytes) none in
          omega (arith, place, length-take-le MAX_UNDECIDED bytes t.1)
      | inr f ↦
          let all : take MAX_UNDECIDED bytes ≡ bytes = take_all MAX_UNDECIDED bytes (omega (arith, f.1)) in
          absurd (false≢true (sym none ∙ ap has_lf all ∙ some))
    ]

-- a line loses one byte at most
without_cr_long : (line : List ℕ) → length line ≤ length (without_cr line) + 1
without_cr_long line = either (slice_index line (length line - 1) == 13) where
  either : (b : Bool) → length line ≤ length (cond b (take (length line - 1) line) line) + 1
  either true = omega (arith, length-take-le (length line - 1) line (omega arith))
  either false = omega arith

-- by the place of the first line feed
pub next_of_some : (bytes : List ℕ) (end : ℕ) → position is_lf bytes ≡ Some end → next_of bytes ≡ line_or_too_long (without_cr (take end bytes))
unfolding next_by
next_of_some bytes end is =
    let there = some_there is_lf bytes end is in
    let line : first_line bytes ≡ without_cr (take end bytes) = ap (λ (n : ℕ). without_cr (take n bytes)) there.1 in
    next_is bytes ∙ by_place (has_lf (take MAX_UNDECIDED bytes)) refl ∙ ap line_or_too_long line where
      by_place : (b : Bool) → has_lf (take MAX_UNDECIDED bytes) ≡ b → next_by b (leb MAX_UNDECIDED (length bytes)) (first_line bytes) ≡ line_or_too_long (first_line bytes)
      by_place true e = refl
      by_place false e =
          let there = some_there is_lf bytes end is in
          let place = far bytes there.0 e in
          let within = place_within is_lf bytes there.0 in
          let taken = length-take-le (position_or_len is_lf bytes) bytes (omega arith) in
          let long = without_cr_long (take (position_or_len is_lf bytes) bytes) in
          ap (λ (b : Bool). cond b TooLong End) (le-leb MAX_UNDECIDED (length bytes) (omega arith))
          ∙ sym (ap (λ (b : Bool). cond b (Line (first_line bytes)) TooLong) (lt-leb (length (first_line bytes)) 1000 (omega arith)))

pub next_of_none : (bytes : List ℕ) → position is_lf bytes ≡ None → next_of bytes ≡ cond (leb MAX_UNDECIDED (length bytes)) TooLong End
unfolding next_by
next_of_none bytes is =
    let none = none_there is_lf bytes is in
    next_is bytes ∙ ap (λ (b : Bool). next_by b (leb MAX_UNDECIDED (length bytes)) (first_line bytes)) (absent (has_lf (take MAX_UNDECIDED bytes)) refl) where
      absent : (b : Bool) → has_lf (take MAX_UNDECIDED bytes) ≡ b → has_lf (take MAX_UNDECIDED bytes) ≡ false
      absent true e = absurd (false≢true (sym (none_there is_lf bytes is) ∙ has_lf_among_first bytes e))
      absent false e = e

-- bytes that decide: a line feed is among the first of them, or they are many
record IsDecided (bytes : List ℕ) : Type 0 where
  pub tells : (has_lf (take MAX_UNDECIDED bytes) ≡ true) ⊎ (MAX_UNDECIDED ≤ length bytes)

decided : (bytes : List ℕ) → next_of bytes ≢ End → IsDecided bytes
unfolding next_by
decided bytes some = by_line (has_lf (take MAX_UNDECIDED bytes)) (leb MAX_UNDECIDED (length bytes)) refl refl where
  by_line : (b c : Bool) → has_lf (take MAX_UNDECIDED bytes) ≡ b → leb MAX_UNDECIDED (length bytes) ≡ c → IsDecided bytes
  by_line true c e f = record { tells = inl e }
  by_line false true e f = record { tells = inr (elim (leb_tells MAX_UNDECIDED (length bytes)) [ inl t ↦ t.1 | inr few ↦ absurd (false≢true (sym few.0 ∙ f)) ]) }
  by_line false false e f = absurd (some (next_is bytes ∙ ap (λ (b : Bool). next_by b (leb MAX_UNDECIDED (length bytes)) (first_line bytes)) e ∙ ap (λ (c : Bool). cond c TooLong End) f))

first_line_stays : (bytes more : List ℕ) → has_lf bytes ≡ true → first_line (bytes ++ more) ≡ first_line bytes
first_line_stays bytes more some =
    let within = place_within is_lf bytes some in
    ap (λ (n : ℕ). without_cr (take n (bytes ++ more))) (place_in_front is_lf bytes more some)
    ∙ ap without_cr (take-append-le (position_or_len is_lf bytes) bytes more (omega (arith, within)))

taken_stays : (bytes more : List ℕ) → has_lf (take MAX_UNDECIDED bytes) ≡ true → has_lf (take MAX_UNDECIDED (bytes ++ more)) ≡ true
taken_stays bytes more among = elim (leb_tells MAX_UNDECIDED (length bytes)) [
  | inl many ↦ ap has_lf (take-append-le MAX_UNDECIDED bytes more many.1) ∙ among
  | inr few ↦
      let sum : MAX_UNDECIDED ≡ length bytes + (MAX_UNDECIDED - length bytes) = omega (arith, few.1) in
      ap (λ (n : ℕ). has_lf (take n (bytes ++ more))) sum ∙ ap has_lf (take-append-add bytes more (MAX_UNDECIDED - length bytes))
      ∙ list_any-append is_lf bytes (take (MAX_UNDECIDED - length bytes) more) ∙ ap (λ (b : Bool). b || has_lf (take (MAX_UNDECIDED - length bytes) more)) (has_lf_among_first bytes among)
]

-- what the bytes tell by themselves they tell with any bytes behind them
pub stays : (bytes more : List ℕ) → next_of bytes ≢ End → next_of (bytes ++ more) ≡ next_of bytes
unfolding next_by
stays bytes more some = elim (decided bytes some).tells [ inl among ↦ with_lf among | inr many ↦ of_many many (has_lf (take MAX_UNDECIDED bytes)) refl ] where
  of_line : has_lf (take MAX_UNDECIDED bytes) ≡ true → has_lf (take MAX_UNDECIDED (bytes ++ more)) ≡ true → next_of (bytes ++ more) ≡ next_of bytes
  of_line among also =
      let line : first_line (bytes ++ more) ≡ first_line bytes = first_line_stays bytes more (has_lf_among_first bytes among) in
      next_is (bytes ++ more) ∙ ap (λ (b : Bool). next_by b (leb MAX_UNDECIDED (length (bytes ++ more))) (first_line (bytes ++ more))) also ∙ ap line_or_too_long line
      ∙ sym (next_is bytes ∙ ap (λ (b : Bool). next_by b (leb MAX_UNDECIDED (length bytes)) (first_line bytes)) among)

  with_lf : has_lf (take MAX_UNDECIDED bytes) ≡ true → next_of (bytes ++ more) ≡ next_of bytes
  with_lf among = of_line among (taken_stays bytes more among)

  of_many : MAX_UNDECIDED ≤ length bytes → (b : Bool) → has_lf (take MAX_UNDECIDED bytes) ≡ b → next_of (bytes ++ more) ≡ next_of bytes
  of_many many true among = with_lf among
  of_many many false none =
      let same : has_lf (take MAX_UNDECIDED (bytes ++ more)) ≡ false = ap has_lf (take-append-le MAX_UNDECIDED bytes more many) ∙ none in
      let long : leb MAX_UNDECIDED (length (bytes ++ more)) ≡ true = le-leb MAX_UNDECIDED (length (bytes ++ more)) (omega (arith, length-append bytes more)) in
      next_is (bytes ++ more) ∙ ap (λ (b : Bool). next_by b (leb MAX_UNDECIDED (length (bytes ++ more))) (first_line (bytes ++ more))) same ∙ ap (λ (c : Bool). cond c TooLong End) long
      ∙ sym (next_is bytes ∙ ap (λ (b : Bool). next_by b (leb MAX_UNDECIDED (length bytes)) (first_line bytes)) none ∙ ap (λ (c : Bool). cond c TooLong End) (le-leb MAX_UNDECIDED (length bytes) many))

-- the same of the bytes behind the line
pub after_stays : (bytes more line : List ℕ) → next_of bytes ≡ Line line → after_line (bytes ++ more) ≡ after_line bytes ++ more
after_stays bytes more line is =
    let some = (line_tells bytes line is).0 in
    let within = place_within is_lf bytes some in
    ap (λ (n : ℕ). drop (n + 1) (bytes ++ more)) (place_in_front is_lf bytes more some)
    ∙ drop-append-le (position_or_len is_lf bytes + 1) bytes more (omega (arith, within))

-- a line uses up a byte at least
pub after_shorter : (bytes line : List ℕ) → next_of bytes ≡ Line line → length (after_line bytes) < length bytes
after_shorter bytes line is =
    let within = place_within is_lf bytes (line_tells bytes line is).0 in
    omega (arith, within, length-drop (position_or_len is_lf bytes + 1) bytes)

-- bytes that decide nothing are few
pub few_undecided : (bytes : List ℕ) → next_of bytes ≡ End → length bytes < MAX_UNDECIDED
unfolding next_by
few_undecided bytes is = by_line (has_lf (take MAX_UNDECIDED bytes)) (leb MAX_UNDECIDED (length bytes)) refl refl where
  no_end : (b : Bool) → cond b (Line (first_line bytes)) TooLong ≡ End → ⊥
  no_end true e = cc e
  no_end false e = cc e

  by_line : (b c : Bool) → has_lf (take MAX_UNDECIDED bytes) ≡ b → leb MAX_UNDECIDED (length bytes) ≡ c → length bytes < MAX_UNDECIDED
  by_line true c e f =
      let line : line_or_too_long (first_line bytes) ≡ End = sym (next_is bytes ∙ ap (λ (b : Bool). next_by b (leb MAX_UNDECIDED (length bytes)) (first_line bytes)) e) ∙ is in
      absurd (no_end (leb (length (first_line bytes)) 1000) line)
  by_line false true e f = absurd (cc (next_is bytes ∙ ap (λ (b : Bool). next_by b (leb MAX_UNDECIDED (length bytes)) (first_line bytes)) e ∙ ap (λ (c : Bool). cond c TooLong End) f, is))
  by_line false false e f = elim (leb_tells MAX_UNDECIDED (length bytes)) [ inl t ↦ absurd (false≢true (sym f ∙ t.0)) | inr few ↦ few.1 ]

-- bytes tell neither of the two answers that only a source gives
no_others : (b c : Bool) (line : List ℕ) → (next_by b c line ≢ Spent) × (next_by b c line ≢ ReadFault)
unfolding next_by
no_others true c line = either (leb (length line) 1000) where
  either : (b : Bool) → (cond b (Line line) TooLong ≢ Spent) × (cond b (Line line) TooLong ≢ ReadFault)
  either true = (λ e. cc e, λ e. cc e)
  either false = (λ e. cc e, λ e. cc e)
no_others false true line = (λ e. cc e, λ e. cc e)
no_others false false line = (λ e. cc e, λ e. cc e)

pub no_spent : (bytes : List ℕ) → next_of bytes ≡ Spent → ⊥
no_spent bytes is = (no_others (has_lf (take MAX_UNDECIDED bytes)) (leb MAX_UNDECIDED (length bytes)) (first_line bytes)).0 (sym (next_is bytes) ∙ is)

pub no_fault : (bytes : List ℕ) → next_of bytes ≡ ReadFault → ⊥
no_fault bytes is = (no_others (has_lf (take MAX_UNDECIDED bytes)) (leb MAX_UNDECIDED (length bytes)) (first_line bytes)).1 (sym (next_is bytes) ∙ is)

-- nothing is said of an answer that is no line
pub on_no_line : (took : Took) (P : Type 0) → ((line : List ℕ) → took ≡ Line line → ⊥) → OnLine took P
on_no_line (Line line) P none = absurd (none line refl)
on_no_line TooLong P none = tt
on_no_line End P none = tt
on_no_line Spent P none = tt
on_no_line ReadFault P none = tt
