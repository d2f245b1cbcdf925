-- Reads after one another, and what an answer says that comes after them.
use Rattle.std.proofs.Common.{◌≡◌, ◌≢◌, ℕ, ◌+◌, ◌<◌, ◌≤◌, List, [], ◌++◌, length, Option, Some, None, IsSome, IfSome, inl, inr, refl, ap, sym, ◌∙◌, subst, arith, append_assoc, append-nil, length-append}
use Rattle.agent_ports.{specs.{Counts.Rose, Sides.{Side, followed_by, WhereKnown}}, proofs.Known.known_by}
use Rattle.assuan_line.specs.{Lines.after_line, Next.{Reader, next_of, IsNext, TakesWhatItNeeds, WereNeeded, ended_by, OnLine, held}, Stops.{unended, ReadAhead, Decides, TakeLine}, declared.{buffer.TheConstants.MAX_AHEAD, reader.Took.Took}}
use Rattle.assuan_line.{specs.declared.reader.Took.TheVariants.{Line, TooLong, End, Spent, ReadFault}, proofs.Decided.{stays, after_stays, after_shorter, no_spent, no_fault}}

-- what one read gave
pub record IsRead (before after : Reader) (was is : Side) (read : List ℕ) : Type 0 where
  pub few : length read ≤ MAX_AHEAD
  pub ahead : after.ahead ≡ before.ahead ++ read
  pub bytes : was.bytes ≡ followed_by read is.bytes
  pub budget : before.left ≡ length read + after.left
  pub faults : was.faults ≤ is.faults

-- one read, where nothing was decided
pub one_read : (before after : Reader) (was is : Side) (read : List ℕ) → next_of before.ahead ≡ End → IsRead before after was is read → ReadAhead before was after is
one_read before after was is read undecided one = record {
  taken = read;
  ahead = one.ahead;
  bytes = one.bytes;
  needed = inr (record {
    early = [];
    late = read;
    split = sym (append-nil read);
    undecided = ap next_of (append-nil before.ahead) ∙ undecided;
    few = one.few;
  });
  budget = one.budget;
  faults = one.faults;
}

pub no_read : (before : Reader) (was : Side) → ReadAhead before was before was
no_read before was = record {
  taken = [];
  ahead = sym (append-nil before.ahead);
  bytes = nothing was.bytes;
  needed = inl refl;
  budget = omega arith;
  faults = omega arith;
} where
  nothing : (o : Option (List ℕ)) → o ≡ followed_by [] o
  nothing None = refl
  nothing (Some rest) = refl

followed_then : (first second : List ℕ) (o : Option (List ℕ)) → followed_by first (followed_by second o) ≡ followed_by (first ++ second) o
followed_then first second None = refl
followed_then first second (Some rest) = ap (λ (x : List ℕ). Some x) (sym (append_assoc first second rest))

-- one read after another
pub read_then : (before middle after : Reader) (was mid is : Side) → ReadAhead before was middle mid → ReadAhead middle mid after is → ReadAhead before was after is
read_then before middle after was mid is first second = record {
  taken = first.taken ++ second.taken;
  ahead = second.ahead ∙ ap (λ (x : List ℕ). x ++ second.taken) first.ahead ∙ append_assoc before.ahead first.taken second.taken;
  bytes = first.bytes ∙ ap (followed_by first.taken) second.bytes ∙ followed_then first.taken second.taken is.bytes;
  needed = elim second.needed [ inl none ↦ as_before none | inr more ↦ inr (of_more more) ];
  budget = omega (arith, first.budget, second.budget, length-append first.taken second.taken);
  faults = omega (arith, first.faults, second.faults);
} where
  as_before : second.taken ≡ [] → TakesWhatItNeeds before.ahead (first.taken ++ second.taken) []
  as_before none =
      subst (λ (x : List ℕ). TakesWhatItNeeds before.ahead x []) (sym (ap (λ (x : List ℕ). first.taken ++ x) none ∙ append-nil first.taken)) first.needed

  of_more : WereNeeded (λ bytes. next_of bytes ≡ End) middle.ahead second.taken [] → WereNeeded (λ bytes. next_of bytes ≡ End) before.ahead (first.taken ++ second.taken) []
  of_more more = record {
    early = first.taken ++ more.early;
    late = more.late;
    split = ap (λ (x : List ℕ). first.taken ++ x) more.split ∙ sym (append_assoc first.taken more.early (more.late ++ []));
    undecided = ap next_of (sym (append_assoc before.ahead first.taken more.early)) ∙ ap (λ (x : List ℕ). next_of (x ++ more.early)) (sym first.ahead) ∙ more.undecided;
    few = more.few;
  }

-- nothing was decided before a read at which nothing was decided
pub undecided_before : (before after : Reader) (was is : Side) → ReadAhead before was after is → next_of after.ahead ≡ End → next_of before.ahead ≢ End → ⊥
undecided_before before after was is read undecided decided =
    decided (sym (stays before.ahead read.taken decided) ∙ ap next_of (sym read.ahead) ∙ undecided)

-- the cause of an answer, counted from before the reads
pub decides_since : (before after : Reader) (answer : Took) (was mid is : Side) → was.faults ≤ mid.faults → Decides before mid answer after is → Decides before was answer after is
decides_since before after (Line line) was mid is since decides = decides
decides_since before after TooLong was mid is since decides = decides
decides_since before after End was mid is since decides = decides
decides_since before after Spent was mid is since decides = decides
decides_since before after ReadFault was mid is since decides = (decides.0, decides.1, decides.2, omega (arith, decides.3))

-- what the bytes ahead tell by themselves
module _ (before after : Reader) (was is : Side) where
  pub decides_ahead : (answer : Took) → answer ≢ End → answer ≡ next_of before.ahead → OnLine answer (after.ahead ≡ after_line before.ahead) → (IsSome (ended_by answer) → after.ahead ≡ before.ahead) → Decides before was answer after is
  decides_ahead (Line line) other by line_left left = (sym by, line_left)
  decides_ahead TooLong other by line_left left = (sym by, left refl)
  decides_ahead End other by line_left left = absurd (other refl)
  decides_ahead Spent other by line_left left = absurd (no_spent before.ahead (sym by))
  decides_ahead ReadFault other by line_left left = absurd (no_fault before.ahead (sym by))

-- What an answer says, from the bytes that were taken for it.
module _ (before after : Reader) (was is : Side) (answer : Took) (given : TakeLine (unended before) was answer (unended after) is) where
  all : (left : List ℕ) → before.ahead ++ (given.read.taken ++ left) ≡ given.middle.ahead ++ left
  all left = sym (append_assoc before.ahead given.read.taken left) ∙ ap (λ (x : List ℕ). x ++ left) (sym given.read.ahead)

  tells : (took : Took) (left : List ℕ) → Decides given.middle was took (unended after) is → is.bytes ≡ Some left → IsNext before (given.read.taken ++ left) took after left
  tells (Line line) left decides some = (
    ap next_of (all left) ∙ stays given.middle.ahead left (λ end. cc (decides.0, end)) ∙ decides.0,
    ap (λ (x : List ℕ). x ++ left) decides.1 ∙ sym (ap after_line (all left) ∙ after_stays given.middle.ahead left line decides.0),
  )
  tells TooLong left decides some = record { taken = given.read.taken; split = refl; long = ap next_of (sym given.read.ahead) ∙ decides.0 }
  tells End left decides some =
      let nothing : left ≡ [] = subst (λ (o : Option (List ℕ)). IfSome o (λ rest. rest ≡ [])) some decides.2 in
      (ap next_of (all left ∙ ap (λ (x : List ℕ). given.middle.ahead ++ x) nothing ∙ append-nil given.middle.ahead) ∙ decides.0, nothing, decides.3)
  tells Spent left decides some =
      (record { taken = given.read.taken; split = refl; none = ap next_of (sym given.read.ahead) ∙ decides.0 }, decides.2)
  tells ReadFault left decides some =
      (record { taken = given.read.taken; split = refl; none = ap next_of (sym given.read.ahead) ∙ decides.0 }, decides.2)

  pub known : WhereKnown was.bytes is.bytes (λ rest left. IsNext before rest answer after left)
  known = known_by given.read.taken was.bytes is.bytes _ given.read.bytes (λ left some. tells answer left given.decides some)

  pub known_budget : WhereKnown was.bytes is.bytes (λ rest left. length rest + after.left ≡ length left + before.left)
  known_budget =
      known_by given.read.taken was.bytes is.bytes _ given.read.bytes
      (λ left some. omega (arith, given.read.budget, given.budget, length-append given.read.taken left))

  pub known_needed : WhereKnown was.bytes is.bytes (TakesWhatItNeeds before.ahead)
  known_needed = known_by given.read.taken was.bytes is.bytes _ given.read.bytes (λ left some. elim given.read.needed [
    | inl none ↦ inl (ap (λ (x : List ℕ). x ++ left) none)
    | inr more ↦ inr (record {
      early = more.early;
      late = more.late;
      split = ap (λ (x : List ℕ). x ++ left) (more.split ∙ ap (λ (x : List ℕ). more.early ++ x) (append-nil more.late)) ∙ append_assoc more.early more.late left;
      undecided = more.undecided;
      few = more.few;
    })
  ])

  kept_ahead : (took : Took) → IsSome (ended_by took) → Decides given.middle was took (unended after) is → after.ahead ≡ given.middle.ahead
  kept_ahead (Line line) some decides = absurd (cc some)
  kept_ahead TooLong some decides = decides.1
  kept_ahead End some decides = decides.1
  kept_ahead Spent some decides = decides.1
  kept_ahead ReadFault some decides = decides.1

  pub known_kept : IsSome (ended_by answer) → WhereKnown was.bytes is.bytes (λ rest left. after.ahead ++ left ≡ before.ahead ++ rest)
  known_kept some =
      known_by given.read.taken was.bytes is.bytes _ given.read.bytes
      (λ left at. ap (λ (x : List ℕ). x ++ left) (kept_ahead answer some given.decides) ∙ sym (all left))

  falls : (took : Took) → Decides given.middle was took (unended after) is → OnLine took (held after < held before)
  falls (Line line) decides =
      omega (
        arith,
        after_shorter given.middle.ahead line decides.0,
        ap (λ (x : List ℕ). length x) decides.1,
        given.read.budget,
        given.budget,
        ap (λ (x : List ℕ). length x) given.read.ahead,
        length-append before.ahead given.read.taken,
      )
  falls TooLong decides = tt
  falls End decides = tt
  falls Spent decides = tt
  falls ReadFault decides = tt

  pub progress : OnLine answer (held after < held before)
  progress = falls answer given.decides

  spent_left : (took : Took) → took ≡ Spent → Decides given.middle was took (unended after) is → after.left ≡ 0
  spent_left Spent e decides = decides.2
  spent_left (Line line) e decides = absurd (cc e)
  spent_left TooLong e decides = absurd (cc e)
  spent_left End e decides = absurd (cc e)
  spent_left ReadFault e decides = absurd (cc e)

  pub spent : answer ≡ Spent → after.left ≡ 0
  spent e = spent_left answer e given.decides

  fault_rose : (took : Took) → took ≡ ReadFault → Decides given.middle was took (unended after) is → Rose was.faults is.faults
  fault_rose ReadFault e decides = decides.3
  fault_rose (Line line) e decides = absurd (cc e)
  fault_rose TooLong e decides = absurd (cc e)
  fault_rose End e decides = absurd (cc e)
  fault_rose Spent e decides = absurd (cc e)

  pub fault : answer ≡ ReadFault → Rose was.faults is.faults
  fault e = fault_rose answer e given.decides
