-- A legal run stays legal by a mark that follows the policy of the history that is next.
use Rattle.std.{specs.{Prelude.{◌≡◌, ℕ, ◌+◌, ◌<◌, ◌≤◌, ◌==◌, List, [], ◌∷◌, ◌++◌, length, fold, Bool, true, false, Some, refl, if◌then◌else◌}, List.AllByRecursion}, proofs.Common.{ap, sym, ◌∙◌, subst, arith, inl, inr}}
use Rattle.std.proofs.lemmas.{List.{append_assoc, append-nil, Sums.fold-append}, Grind.flat_map-append, Bool.Decides.nat_tests}
use Rattle.cache_policy.specs.{declared.{bounds.TheConstants.{MAX_MARKS, MAX_MOMENT}, life.Limits.Limits, mark.Mark.Mark}, Histories.{History, start_of, with_mark}, Policy.{Reply, policy}}
use Rattle.cache_policy.{specs.{Runs.{last_base, is_spent, turn_over, next_history, IsFollowedBy, IsRun, joined, start_of_run, moment_before, last_history, run_with_mark}, Legal.{NeverFall, IsLegal, IsLegalRun}}, proofs.Lists.all_append}
use Rattle.cache_policy.proofs.Growing.{never_fall_push, legal_with_mark, legal_turn_over}

-- the last history of a run, with the mark: one history, or a full one and the next
abbrev grown_last : History → Mark → Bool → List History
grown_last history mark full = if full then history ∷ with_mark (turn_over history) mark ∷ [] else with_mark history mark ∷ []

-- the run begins alike, and has the mark as its last one
pub joined_run_with_mark : (run : List History) (mark : Mark) → IsRun run → joined (run_with_mark run mark) ≡ joined run ++ mark ∷ []
joined_run_with_mark [] mark is = absurd is
joined_run_with_mark (history ∷ []) mark is =
    elim (length history.marks == MAX_MARKS) as (λ b. joined (grown_last history mark b) ≡ (history.marks ++ []) ++ mark ∷ []) [
      | true ↦ sym (ap (λ (marks : List Mark). marks ++ mark ∷ []) (append-nil history.marks))
      | false ↦ append-nil (history.marks ++ mark ∷ []) ∙ sym (ap (λ (marks : List Mark). marks ++ mark ∷ []) (append-nil history.marks))
    ]
joined_run_with_mark (history ∷ next ∷ later) mark is =
    ap (λ (marks : List Mark). history.marks ++ marks) (joined_run_with_mark (next ∷ later) mark is.1)
    ∙ sym (append_assoc history.marks (joined (next ∷ later)) (mark ∷ []))

pub start_run_with_mark : (run : List History) (mark : Mark) → start_of_run (run_with_mark run mark) ≡ start_of_run run
start_run_with_mark [] mark = refl
start_run_with_mark (history ∷ []) mark = elim (length history.marks == MAX_MARKS) as (λ b. start_of_run (grown_last history mark b) ≡ Some (start_of history)) [ true ↦ refl | false ↦ refl ]
start_run_with_mark (history ∷ next ∷ later) mark = refl

followed_by_turn_over : (history : History) (mark : Mark) → length history.marks ≡ MAX_MARKS → IsFollowedBy history (with_mark (turn_over history) mark)
followed_by_turn_over history mark full = record { full = full; start = refl }

is_run_after : (front history : History) (later : List History) (mark : Mark) → IsFollowedBy front history
    → IsRun (history ∷ later) → IsRun (front ∷ run_with_mark (history ∷ later) mark)
is_run_after front history [] mark followed is =
    elim (length history.marks == MAX_MARKS) as (λ b. (length history.marks == MAX_MARKS) ≡ b → IsRun (front ∷ grown_last history mark b)) [
      | true ↦ λ e. (followed, (followed_by_turn_over history mark (grind (arith, nat_tests)), tt))
      | false ↦ λ e. (record { full = followed.full; start = followed.start }, tt)
    ] refl
is_run_after front history (next ∷ more) mark followed is = (followed, is_run_after history next more mark is.0 is.1)

-- it is a run
pub is_run_run_with_mark : (run : List History) (mark : Mark) → IsRun run → IsRun (run_with_mark run mark)
is_run_run_with_mark [] mark is = absurd is
is_run_run_with_mark (history ∷ []) mark is =
    elim (length history.marks == MAX_MARKS) as (λ b. (length history.marks == MAX_MARKS) ≡ b → IsRun (grown_last history mark b)) [
      | true ↦ λ e. (followed_by_turn_over history mark (grind (arith, nat_tests)), tt)
      | false ↦ λ e. tt
    ] refl
is_run_run_with_mark (history ∷ next ∷ later) mark is = is_run_after history next later mark is.0 is.1

-- a run's marks end with those of its last history
record EndsWith (run : List History) (history : History) : Type 0 where
  pub front : List Mark
  pub marks : joined run ≡ front ++ history.marks

ends_with : (run : List History) (history : History) → last_history run ≡ Some history → EndsWith run history
ends_with [] history last = absurd (cc)
ends_with (first ∷ []) history last =
    let same : first ≡ history = cc in
    record { front = []; marks = append-nil first.marks ∙ ap (λ (h : History). h.marks) same }
ends_with (first ∷ next ∷ later) history last =
    let rest = ends_with (next ∷ later) history last in
    record {
      front = first.marks ++ rest.front;
      marks = ap (λ (marks : List Mark). first.marks ++ marks) rest.marks ∙ sym (append_assoc first.marks rest.front history.marks);
    }

-- the moment of the last mark doesn't depend on what was before, where there is a mark
since_start : (since : ℕ) (marks : List Mark) → fold (λ _ (m : Mark). m.moment) 0 marks ≤ fold (λ _ (m : Mark). m.moment) since marks
since_start since [] = omega arith
since_start since (mark ∷ later) = omega arith

moment_before_last : (run : List History) (history : History) → last_history run ≡ Some history
    → moment_before history.marks ≤ moment_before (joined run)
moment_before_last run history last =
    let ends = ends_with run history last in
    subst (λ (moment : ℕ). moment_before history.marks ≤ moment)
    (sym (ap moment_before ends.marks ∙ fold-append (λ _ (m : Mark). m.moment) 0 ends.front history.marks))
    (since_start (moment_before ends.front) history.marks)

-- the next history of a legal one is legal, and has room for a mark
record HasRoom (limits : Limits) (history : History) : Type 0 where
  pub legal : IsLegal limits history
  pub few : length history.marks < MAX_MARKS

next_has_room : (limits : Limits) (history : History) → IsLegal limits history → HasRoom limits (next_history history)
next_has_room limits history legal =
    elim (length history.marks == MAX_MARKS) as (λ b. (length history.marks == MAX_MARKS) ≡ b → HasRoom limits (if b then turn_over history else history)) [
      | true ↦ λ e. record { legal = legal_turn_over limits history legal (grind (arith, nat_tests)); few = omega arith }
      | false ↦ λ e. record { legal = legal; few = grind (arith, nat_tests, legal.few) }
    ] refl

next_moment : (history : History) → moment_before (next_history history).marks ≤ moment_before history.marks
next_moment history = elim (length history.marks == MAX_MARKS) as (λ b. moment_before (if b then turn_over history else history).marks ≤ moment_before history.marks) [ true ↦ omega arith | false ↦ omega arith ]

all_grown : (limits : Limits) (run : List History) (history : History) (mark : Mark) → last_history run ≡ Some history
    → AllByRecursion (IsLegal limits) run → IsLegal limits (with_mark (next_history history) mark)
    → AllByRecursion (IsLegal limits) (run_with_mark run mark)
all_grown limits [] history mark last each legal = absurd (cc)
all_grown limits (first ∷ []) history mark last each legal =
    let same : history ≡ first = cc in
    elim (length first.marks == MAX_MARKS) as (λ b. IsLegal limits (with_mark (if b then turn_over first else first) mark) → AllByRecursion (IsLegal limits) (grown_last first mark b)) [
      | true ↦ λ l. (each.0, (l, tt))
      | false ↦ λ l. (l, tt)
    ] (subst (λ (h : History). IsLegal limits (with_mark (next_history h) mark)) same legal)
all_grown limits (first ∷ next ∷ later) history mark last each legal = (each.0, all_grown limits (next ∷ later) history mark last each.1 legal)

-- a legal run's last history is legal
pub last_is_legal : (limits : Limits) (run : List History) (history : History) → last_history run ≡ Some history
    → AllByRecursion (IsLegal limits) run → IsLegal limits history
last_is_legal limits [] history last each = absurd (cc)
last_is_legal limits (first ∷ []) history last each = let same : first ≡ history = cc in subst (IsLegal limits) same each.0
last_is_legal limits (first ∷ next ∷ later) history last each = last_is_legal limits (next ∷ later) history last each.1

-- A legal run with one mark more is legal, where the mark follows the policy of the next history, which isn't spent, and its moment
-- doesn't fall.
pub legal_run_with_mark : (limits : Limits) (run : List History) (history : History) (mark : Mark) → IsLegalRun limits run
    → last_history run ≡ Some history → policy limits (next_history history) mark.step mark.moment ≡ Reply mark.reply
    → moment_before (joined run) ≤ mark.moment → mark.moment ≤ MAX_MOMENT → (next_history history).base < last_base
    → IsLegalRun limits (run_with_mark run mark)
legal_run_with_mark limits run history mark legal last rules later within going =
    let next = next_has_room limits history (last_is_legal limits run history last legal.each) in
    record {
      turns_over = is_run_run_with_mark run mark legal.turns_over;
      each = all_grown limits run history mark last legal.each
          (legal_with_mark limits (next_history history) mark next.legal rules (omega (arith, next_moment history, moment_before_last run history last, later)) within going next.few);
      moments = subst (NeverFall 0) (sym (joined_run_with_mark run mark legal.turns_over)) (never_fall_push 0 (joined run) mark legal.moments later within);
    }

-- the mark stands at the end of the last history
pub last_run_with_mark : (run : List History) (history : History) (mark : Mark) → last_history run ≡ Some history
    → last_history (run_with_mark run mark) ≡ Some (with_mark (next_history history) mark)
last_run_with_mark [] history mark last = absurd (cc)
last_run_with_mark (first ∷ []) history mark last =
    let same : first ≡ history = cc in
    subst (λ (h : History). last_history (run_with_mark (first ∷ []) mark) ≡ Some (with_mark (next_history h) mark)) same
    (elim (length first.marks == MAX_MARKS) as (λ b. last_history (grown_last first mark b)
    ≡ Some (with_mark (if b then turn_over first else first) mark)) [ true ↦ refl | false ↦ refl ])
last_run_with_mark (first ∷ next ∷ later) history mark last =
    last_behind first (next ∷ later) mark (with_mark (next_history history) mark) (last_run_with_mark (next ∷ later) history mark last)
  where
    last_behind : (first : History) (rest : List History) (mark : Mark) (end : History) → last_history (run_with_mark rest mark) ≡ Some end
        → last_history (first ∷ run_with_mark rest mark) ≡ Some end
    last_behind first rest mark end is = at (run_with_mark rest mark) is
      where
        at : (run : List History) → last_history run ≡ Some end → last_history (first ∷ run) ≡ Some end
        at [] e = absurd (cc)
        at (one ∷ more) e = e

-- a spent agent has made all its marks
pub spent_all : (limits : Limits) (history : History) → IsLegal limits history → is_spent (next_history history) ≡ true
    → history.base + length history.marks ≡ last_base
spent_all limits history legal spent =
    elim (length history.marks == MAX_MARKS) as (λ b. (length history.marks == MAX_MARKS) ≡ b
    → is_spent (if b then turn_over history else history) ≡ true → history.base + length history.marks ≡ last_base) [
      | true ↦ λ full is. grind (arith, nat_tests)
      | false ↦ λ few is. elim legal.not_spent [
        | inl going ↦ absurd (below going (grind (arith, nat_tests)))
        | inr none ↦ none_yet none (grind (arith, nat_tests))
      ]
    ] refl spent
  where
    below : history.base < last_base → history.base ≡ last_base → ⊥
    below going is = omega (arith, going, is)

    none_yet : history.marks ≡ [] → history.base ≡ last_base → history.base + length history.marks ≡ last_base
    none_yet none is = omega (arith, is, ap (λ (l : List Mark). length l) none)

turned_over_run : (run : List History) (history : History) → IsRun run → last_history run ≡ Some history → length history.marks ≡ MAX_MARKS
    → IsRun (run ++ turn_over history ∷ [])
turned_over_run [] history is last full = absurd is
turned_over_run (first ∷ []) history is last full =
    let same : history ≡ first = cc in
    subst (λ (h : History). length h.marks ≡ MAX_MARKS → IsRun (first ∷ turn_over h ∷ [])) (sym same) (λ f. (record { full = f; start = refl }, tt)) full
turned_over_run (first ∷ next ∷ later) history is last full = (is.0, turned_over_run (next ∷ later) history is.1 last full)

-- a run whose last history is full goes on by an empty one
pub legal_turned_over : (limits : Limits) (run : List History) (history : History) → IsLegalRun limits run → last_history run ≡ Some history
    → length history.marks ≡ MAX_MARKS
    → IsLegalRun limits (run ++ turn_over history ∷ []) × (joined (run ++ turn_over history ∷ []) ≡ joined run)
legal_turned_over limits run history legal last full = (
  record {
    turns_over = turned_over_run run history legal.turns_over last full;
    each =
        all_append (IsLegal limits) run (turn_over history ∷ []) legal.each
        (legal_turn_over limits history (last_is_legal limits run history last legal.each) full, tt);
    moments = subst (NeverFall 0) (sym same) legal.moments;
  },
  same,
)
  where
    same : joined (run ++ turn_over history ∷ []) ≡ joined run
    same = flat_map-append (λ (h : History). h.marks) run (turn_over history ∷ []) ∙ append-nil (joined run)
