-- A read on over lines that are skipped: how it stands, and what the next line makes of it.
use Rattle.std.proofs.Common.{◌≡◌, ◌≤◌, ◌<◌, ◌+◌, ◌⊎◌, inl, inr, ℕ, Bool, true, List, [], ◌∷◌, ◌++◌, length, Option, None, Some, refl, ap, sym, ◌∙◌, subst, arith, append_assoc, append-nil}
use Rattle.agent_ports.{specs.{Counts.Rose, Sides.{Side, WhereKnown}}, proofs.Known.{known_same, known_then, known_both}}
use Rattle.assuan_line.specs.{Next.{next_of, Reader, IsNext, WereNeeded, TakesWhatItNeeds, OnLine, held, ended_by}, Reading.HasRead, Skipping.{Skipped, none, IsUndecided, Stops, ReadsNext, ReadsOn}, declared.reader.Took.Took}
use Rattle.assuan_line.{specs.declared.reader.Took.TheVariants.{Line, TooLong, End, Spent, ReadFault}, proofs.{Ahead.{cut_short_of_all, too_long_of_all}, SkippedLines.{skipped_more, without_last}}}

-- what an answer says, it says of all the bytes that are there
reads_next : (before : Reader) (rest : List ℕ) (took : Took) (after : Reader) (left : List ℕ) → IsNext before rest took after left → ReadsNext (before.ahead ++ rest) took after left
reads_next before rest (Line line) after left known = known
reads_next before rest TooLong after left known = too_long_of_all known
reads_next before rest End after left known = known
reads_next before rest Spent after left known = (cut_short_of_all known.0, known.1)
reads_next before rest ReadFault after left known = (cut_short_of_all known.0, known.1)

pub where_known : (before after : Option (List ℕ)) (P Q : List ℕ → List ℕ → Type 0) → WhereKnown before after P → ((rest left : List ℕ) → P rest left → Q rest left) → WhereKnown before after Q
where_known None None P Q known each = tt
where_known None (Some left) P Q known each = known
where_known (Some rest) None P Q known each = known
where_known (Some rest) (Some left) P Q known each = each rest left known

on_line : (took : Took) (P Q : Type 0) → (P → Q) → OnLine took P → OnLine took Q
on_line (Line line) P Q each p = each p
on_line TooLong P Q each p = tt
on_line End P Q each p = tt
on_line Spent P Q each p = tt
on_line ReadFault P Q each p = tt

-- the clauses of a read of a line, as one record
module _ (before after : Reader) (input input_after : Side) (took : Took) (going : before.ended ≡ None) where
  pub has_read : (before.ended ≡ None → WhereKnown input.bytes input_after.bytes (λ rest left. IsNext before rest took after left))
      → WhereKnown input.bytes input_after.bytes (λ rest left. length rest + after.left ≡ length left + before.left)
      → WhereKnown input.bytes input_after.bytes (TakesWhatItNeeds before.ahead)
      → OnLine took (held after < held before) → (before.ended ≡ None → took ≡ Spent → after.left ≡ 0)
      → (before.ended ≡ None → took ≡ ReadFault → Rose input.faults input_after.faults) → input.faults ≤ input_after.faults
      → after.ended ≡ ended_by took → HasRead (λ bytes. next_of bytes ≡ End) ReadsNext before input took after input_after
  has_read known budget needed progress spent fault faults ended = record {
    known = where_known input.bytes input_after.bytes _ _ (known going) (λ rest left. reads_next before rest took after left);
    budget = budget;
    needed = needed;
    progress = progress;
    spent = spent going;
    fault = fault going;
    faults = faults;
    ended = ended;
  }

module _ (skips : List (List ℕ) → List ℕ → Bool) where
  -- an answer that is no line stops at once
  pub stops_no_line : (lines : List (List ℕ)) (took : Took) → ((line : List ℕ) → took ≡ Line line → ⊥) → Stops skips lines took
  stops_no_line lines (Line line) other = absurd (other line refl)
  stops_no_line lines TooLong other = tt
  stops_no_line lines End other = tt
  stops_no_line lines Spent other = tt
  stops_no_line lines ReadFault other = tt

  -- nothing was taken from the source, or what is needed, and of one read at most more
  abbrev TakesNeeded : List (List ℕ) → List ℕ → List ℕ → List ℕ → Type 0
  TakesNeeded before ahead rest left = (rest ≡ left) ⊎ WereNeeded (IsUndecided skips before) ahead rest left

  -- what was taken so far
  taken_so_far : (before : List (List ℕ)) (ahead rest left : List ℕ) → TakesNeeded before ahead rest left → (taken : List ℕ) × (rest ≡ taken ++ left)
  taken_so_far before ahead rest left (inl same) = ([], same)
  taken_so_far before ahead rest left (inr more) = (more.early ++ more.late, more.split ∙ sym (append_assoc more.early more.late left))

  -- what the next line takes is needed after the lines that are skipped
  module _ (before lines : List (List ℕ)) (ahead now_ahead rest left last : List ℕ)
      (skipped : Skipped skips before (ahead ++ rest) lines (now_ahead ++ left)) (first : TakesNeeded before ahead rest left) where
    needed_then : (left ≡ last) ⊎ WereNeeded (λ bytes. next_of bytes ≡ End) now_ahead left last → TakesNeeded before ahead rest last
    needed_then (inl same) = subst (λ (l : List ℕ). TakesNeeded before ahead rest l) same first
    needed_then (inr more) =
        let so_far = taken_so_far before ahead rest left first in
        let behind : List ℕ = more.late ++ last in
        let split : rest ≡ (so_far.0 ++ more.early) ++ behind =
        so_far.1 ∙ ap (λ (l : List ℕ). so_far.0 ++ l) more.split ∙ sym (append_assoc so_far.0 more.early behind) in
        inr (record {
          early = so_far.0 ++ more.early;
          late = more.late;
          split = split;
          undecided = record {
            lines = lines;
            later = now_ahead ++ more.early;
            skipped =
                without_last skips (ahead ++ (so_far.0 ++ more.early)) (now_ahead ++ more.early) behind skipped
                (ap (λ (l : List ℕ). ahead ++ l) split ∙ sym (append_assoc ahead (so_far.0 ++ more.early) behind))
                (ap (λ (l : List ℕ). now_ahead ++ l) more.split ∙ sym (append_assoc now_ahead more.early behind));
            undecided = more.undecided;
          };
          few = more.few;
        })

  -- Lines were skipped behind those before, and `keeps` holds of them all.
  pub record IsSkipping (before : List (List ℕ)) (keeps : List (List ℕ) → Type 0) (start : Reader) (input : Side) (now : Reader) (input_now : Side) : Type 0 where
    pub known : WhereKnown input.bytes input_now.bytes (λ rest left.
        (lines : List (List ℕ)) × Skipped skips before (start.ahead ++ rest) lines (now.ahead ++ left) × keeps (before ++ lines))
    pub budget : WhereKnown input.bytes input_now.bytes (λ rest left. length rest + now.left ≡ length left + start.left)
    pub needed : WhereKnown input.bytes input_now.bytes (TakesNeeded before start.ahead)
    pub fewer : held now ≤ held start
    pub faults : input.faults ≤ input_now.faults

  -- nothing was read
  pub skipping_none : (before : List (List ℕ)) (keeps : List (List ℕ) → Type 0) (start : Reader) (input : Side) → keeps before → IsSkipping before keeps start input start input
  skipping_none before keeps start input kept = record {
    known = known_same input.bytes _ (λ rest. ([], none, subst keeps (sym (append-nil before)) kept));
    budget = known_same input.bytes _ (λ rest. refl);
    needed = known_same input.bytes _ (λ rest. inl refl);
    fewer = omega arith;
    faults = omega arith;
  }

  module _ (before : List (List ℕ)) (keeps now_keeps : List (List ℕ) → Type 0) (start now after : Reader) (input input_now input_after : Side) (took : Took)
      (skipping : IsSkipping before keeps start input now input_now) (read : HasRead (λ bytes. next_of bytes ≡ End) ReadsNext now input_now took after input_after) where
    budget : WhereKnown input.bytes input_after.bytes (λ rest left. length rest + after.left ≡ length left + start.left)
    budget = known_then input.bytes input_now.bytes input_after.bytes _ _ _ skipping.budget read.budget (λ rest left more first second. omega (arith, first, second))

    needed : WhereKnown input.bytes input_after.bytes (TakesNeeded before start.ahead)
    needed =
        known_then input.bytes input_now.bytes input_after.bytes _ _ _ (known_both input.bytes input_now.bytes _ _ skipping.known skipping.needed) read.needed
        (λ rest left more so_far next.
        needed_then before so_far.0.0 start.ahead now.ahead rest left more so_far.0.1 so_far.1 next)

    -- the next line is skipped
    pub skipping_more : (line : List ℕ) → took ≡ Line line
        → ((lines : List (List ℕ)) → keeps lines → skips lines line ≡ true) → ((lines : List (List ℕ)) → keeps lines → now_keeps (lines ++ line ∷ []))
        → IsSkipping before now_keeps start input after input_after
    skipping_more line is skip keep = record {
      known = known_then input.bytes input_now.bytes input_after.bytes _ _ _ skipping.known read.known (λ rest left more skipped next.
          let line_is : ReadsNext (now.ahead ++ left) (Line line) after more = subst (λ t. ReadsNext (now.ahead ++ left) t after more) is next in (
            skipped.0 ++ line ∷ [],
            subst (λ (b : List ℕ). Skipped skips before (start.ahead ++ rest) (skipped.0 ++ line ∷ []) b) (sym line_is.1)
                (skipped_more skips line skipped.1 line_is.0 (skip (before ++ skipped.0) skipped.2)),
            subst now_keeps (append_assoc before skipped.0 (line ∷ [])) (keep (before ++ skipped.0) skipped.2),
          ));
      budget = budget;
      needed = needed;
      fewer =
          let fewer : held after < held now = subst (λ t. OnLine t (held after < held now)) is read.progress in
          omega (arith, fewer, skipping.fewer);
      faults = omega (arith, skipping.faults, read.faults);
    }

    -- the next answer is no line that is skipped
    pub read_on : ((lines : List (List ℕ)) → keeps lines → Stops skips lines took) → ((lines : List (List ℕ)) → keeps lines → now_keeps lines)
        → HasRead (IsUndecided skips before) (ReadsOn skips before now_keeps) start input took after input_after
    read_on stops keep = record {
      known = known_then input.bytes input_now.bytes input_after.bytes _ _ _ skipping.known read.known (λ rest left more skipped next. (
        skipped.0,
        record { later = now.ahead ++ left; skipped = skipped.1; stops = stops (before ++ skipped.0) skipped.2; next = next },
        keep (before ++ skipped.0) skipped.2,
      ));
      budget = budget;
      needed = needed;
      progress = on_line took _ _ (λ (fewer : held after < held now). omega (arith, fewer, skipping.fewer)) read.progress;
      spent = read.spent;
      fault = λ is. omega (arith, read.fault is, skipping.faults);
      faults = omega (arith, skipping.faults, read.faults);
      ended = read.ended;
    }

-- what is said of the bytes says less
pub read_says_less : {Undecided : List ℕ → Type 0} {P Q : List ℕ → Took → Reader → List ℕ → Type 0} {before after : Reader} {input input_after : Side} {took : Took}
    → ((bytes left : List ℕ) → P bytes took after left → Q bytes took after left)
    → HasRead Undecided P before input took after input_after → HasRead Undecided Q before input took after input_after
read_says_less {before = before} {input = input} {input_after = input_after} each read = record {
  known = where_known input.bytes input_after.bytes _ _ read.known (λ rest left. each (before.ahead ++ rest) left);
  budget = read.budget;
  needed = read.needed;
  progress = read.progress;
  spent = read.spent;
  fault = read.fault;
  faults = read.faults;
  ended = read.ended;
}

-- the answer is known by how the reader has ended
ends_spent : (took : Took) → ended_by took ≡ Some Spent → took ≡ Spent
ends_spent (Line line) is = absurd (cc is)
ends_spent TooLong is = cc is
ends_spent End is = cc is
ends_spent Spent is = refl
ends_spent ReadFault is = cc is

ends_fault : (took : Took) → ended_by took ≡ Some ReadFault → took ≡ ReadFault
ends_fault (Line line) is = absurd (cc is)
ends_fault TooLong is = cc is
ends_fault End is = cc is
ends_fault Spent is = cc is
ends_fault ReadFault is = refl

on_none : (took : Took) (P : Type 0) → ended_by took ≡ None → OnLine took P → P
on_none (Line line) P is p = p
on_none TooLong P is p = absurd (cc is)
on_none End P is p = absurd (cc is)
on_none Spent P is p = absurd (cc is)
on_none ReadFault P is p = absurd (cc is)

module _ {Undecided : List ℕ → Type 0} {Reads : List ℕ → Took → Reader → List ℕ → Type 0} {before after : Reader} {input input_after : Side} {took : Took}
    (read : HasRead Undecided Reads before input took after input_after) where
  pub spent_leaves_none : after.ended ≡ Some Spent → after.left ≡ 0
  spent_leaves_none is = read.spent (ends_spent took (sym read.ended ∙ is))

  pub fault_count_rose : after.ended ≡ Some ReadFault → Rose input.faults input_after.faults
  fault_count_rose is = read.fault (ends_fault took (sym read.ended ∙ is))

  pub fewer_are_held : after.ended ≡ None → held after < held before
  fewer_are_held is = on_none took _ (sym read.ended ∙ is) read.progress
