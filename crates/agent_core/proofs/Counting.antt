-- The tally of a run with one mark more.
use Rattle.std.specs.{Prelude.{◌≡◌, ℕ, ◌+◌, ◌<◌, ◌≤◌, ◌==◌, List, [], ◌∷◌, ◌++◌, length, filter, Bool, true, false, not, Option, Some, None, refl, if◌then◌else◌}, List.flat_map, Option.option_map}
use Rattle.std.proofs.{Common.{ap, sym, ◌∙◌, subst, arith, length-append}, lemmas.List.Elements.filter-append}
use Rattle.cache_policy.specs.declared.{bounds.TheConstants.MAX_MARKS, entry.Entry.Entry, life.{Life.{Life, TheVariants.Default}, Limits.Limits}, mode.Mode.Mode, mark.{Under.Under, Mark.Mark, MarkStep.MarkStep}}
use Rattle.cache_policy.specs.{declared.{mark.MarkStep.TheVariants.{Ask, Seat, Close, Put, Clear, Flush, Peek, Stop}, tally.Tally.Tally}, Bare.bare_step, Entries.{entry_of, kept_under, kept, stored, entries, entries_after}}
use Rattle.cache_policy.specs.{Histories.{History, next_number, start_of, with_mark}, Legal.IsLegalRun, Lifetimes.{ttl_of, is_zero}, Runs.{last_base, turn_over, next_history, IsRun, joined, last_history, run_with_mark}}
use Rattle.cache_policy.{specs.{Seat.{seat, stopped, is_open}, Tallies.{is_given, is_empty, is_clear, is_flush, how_many, one_if}}, proofs.{EntriesLemmas.entries_with_mark, GrowingRuns.joined_run_with_mark}}
use Rattle.agent_core.specs.Tallies.{tally_of, counted, CanCount, Tallied}

-- one mark more that is counted or not
count_push : (test : Mark → Bool) (marks : List Mark) (mark : Mark) → how_many test (marks ++ mark ∷ []) ≡ how_many test marks + one_if (test mark)
count_push test marks mark =
    ap (λ (l : List Mark). length l) (filter-append test marks (mark ∷ []))
    ∙ (length-append (filter test marks) (filter test (mark ∷ []))
    ∙ ap (λ (n : ℕ). how_many test marks + n) (elim (test mark) as (λ b. length (if b then mark ∷ [] else []) ≡ one_if b) [ true ↦ refl | false ↦ refl ]))

count_less : (test : Mark → Bool) (marks : List Mark) → how_many test marks ≤ length marks
count_less test [] = omega arith
count_less test (mark ∷ later) =
    elim (test mark) as (λ b. length (if b then mark ∷ filter test later else filter test later) ≤ length (mark ∷ later)) [
      | true ↦ omega (arith, count_less test later)
      | false ↦ omega (arith, count_less test later)
    ]

-- what a step stores is one entry or none
length_cond : {A : Type 0} (b : Bool) (x : A) → length (if b then [] else x ∷ []) ≡ one_if (not b)
length_cond true x = refl
length_cond false x = refl

entry_one : (limits : Limits) (number moment : ℕ) (id : List ℕ) (mode : Mode) (life : Life) (secret : List ℕ)
    → length (entry_of limits number moment id mode life secret) ≡ one_if (not (is_zero (ttl_of limits mode life)))
entry_one limits number moment id mode life secret = length_cond (is_zero (ttl_of limits mode life)) _

entry_less : (limits : Limits) (number moment : ℕ) (id : List ℕ) (mode : Mode) (life : Life) (secret : List ℕ)
    → length (entry_of limits number moment id mode life secret) ≤ 1
entry_less limits number moment id mode life secret =
    let same = entry_one limits number moment id mode life secret in
    elim (is_zero (ttl_of limits mode life)) as (λ b. length (entry_of limits number moment id mode life secret) ≡ one_if (not b) → length (entry_of limits number moment id mode life secret) ≤ 1)
    [ true ↦ λ e. omega (arith, e) | false ↦ λ e. omega (arith, e) ] same

kept_less : (limits : Limits) (number moment : ℕ) (under : Option Under) (keep : Option (List ℕ)) → length (kept limits number moment under keep) ≤ 1
kept_less limits number moment None keep = omega arith
kept_less limits number moment (Some under) None = omega arith
kept_less limits number moment (Some under) (Some secret) = entry_less limits number moment under.id under.mode Default secret

stored_less_two : (limits : Limits) (next : History) (asked : MarkStep) (moment : ℕ) → length (stored limits next asked moment) ≤ 1
stored_less_two limits next (Ask id mode way since) moment = omega arith
stored_less_two limits next (Seat under since) moment = omega arith
stored_less_two limits next (Close ticket keep) moment = kept_less limits (next_number next) moment (kept_under (seat next) ticket) keep
stored_less_two limits next (Put id mode life secret) moment = entry_less limits (next_number next) moment id mode life secret
stored_less_two limits next (Clear id mode) moment = omega arith
stored_less_two limits next Flush moment = omega arith
stored_less_two limits next (Peek id mode) moment = omega arith
stored_less_two limits next Stop moment = omega arith

-- as many without the bytes of its secret
kept_bare : (limits : Limits) (number moment : ℕ) (under : Option Under) (keep : Option (List ℕ))
    → length (kept limits number moment under (option_map (λ secret. []) keep)) ≡ length (kept limits number moment under keep)
kept_bare limits number moment None None = refl
kept_bare limits number moment None (Some secret) = refl
kept_bare limits number moment (Some under) None = refl
kept_bare limits number moment (Some under) (Some secret) =
    entry_one limits number moment under.id under.mode Default [] ∙ sym (entry_one limits number moment under.id under.mode Default secret)

pub stored_bare : (limits : Limits) (next : History) (asked : MarkStep) (moment : ℕ) → length (stored limits next (bare_step asked) moment) ≡ length (stored limits next asked moment)
stored_bare limits next (Ask id mode way since) moment = refl
stored_bare limits next (Seat under since) moment = refl
stored_bare limits next (Close ticket keep) moment = kept_bare limits (next_number next) moment (kept_under (seat next) ticket) keep
stored_bare limits next (Put id mode life secret) moment =
    entry_one limits (next_number next) moment id mode life [] ∙ sym (entry_one limits (next_number next) moment id mode life secret)
stored_bare limits next (Clear id mode) moment = refl
stored_bare limits next Flush moment = refl
stored_bare limits next (Peek id mode) moment = refl
stored_bare limits next Stop moment = refl

entries_less : (limits : Limits) (before : History) (marks : List Mark) → length (entries_after limits before marks) ≤ length marks
entries_less limits before [] = omega arith
entries_less limits before (mark ∷ later) =
    let a = length-append (stored limits before mark.step mark.moment) (entries_after limits (with_mark before mark) later) in
    let b = stored_less_two limits before mark.step mark.moment in
    let c = entries_less limits (with_mark before mark) later in
    omega (arith, a, b, c)

stored_less : (limits : Limits) (run : List History) → length (flat_map (entries limits) run) ≤ length (joined run)
stored_less limits [] = omega arith
stored_less limits (history ∷ later) =
    let a = length-append (entries limits history) (flat_map (entries limits) later) in
    let b = length-append history.marks (joined later) in
    let c = entries_less limits (start_of history) history.marks in
    let d = stored_less limits later in
    omega (arith, a, b, c, d)

-- what the last mark stores
stored_added : (limits : Limits) (run : List History) (last : History) (mark : Mark) → last_history run ≡ Some last
    → length (flat_map (entries limits) (run_with_mark run mark))
    ≡ length (flat_map (entries limits) run) + length (stored limits (next_history last) mark.step mark.moment)
stored_added limits [] last mark is = absurd (cc)
stored_added limits (history ∷ []) last mark is =
    let same : history ≡ last = cc in
    subst (λ (h : History). length (flat_map (entries limits) (run_with_mark (history ∷ []) mark))
    ≡ length (flat_map (entries limits) (history ∷ [])) + length (stored limits (next_history h) mark.step mark.moment)) same
    (elim (length history.marks == MAX_MARKS) as (λ b. length (flat_map (entries limits) (if b then history ∷ with_mark (turn_over history) mark ∷ [] else with_mark history mark ∷ []))
    ≡ length (flat_map (entries limits) (history ∷ [])) + length (stored limits (if b then turn_over history else history) mark.step mark.moment)) [
      | true ↦
          let a = length-append (entries limits history) (flat_map (entries limits) (with_mark (turn_over history) mark ∷ [])) in
          let b = length-append (entries limits (with_mark (turn_over history) mark)) [] in
          let c = ap (λ (l : List Entry). length l) (entries_with_mark limits (turn_over history) mark) in
          let d = length-append (entries limits history) [] in
          omega (arith, a, b, c, d)
      | false ↦
          let b = length-append (entries limits (with_mark history mark)) [] in
          let c = ap (λ (l : List Entry). length l) (entries_with_mark limits history mark) in
          let d = length-append (entries limits history) [] in
          let e = length-append (entries limits history) (stored limits history mark.step mark.moment) in
          omega (arith, b, c, d, e)
    ])
stored_added limits (history ∷ next ∷ later) last mark is =
    let a = length-append (entries limits history) (flat_map (entries limits) (run_with_mark (next ∷ later) mark)) in
    let b = length-append (entries limits history) (flat_map (entries limits) (next ∷ later)) in
    let c = stored_added limits (next ∷ later) last mark is in
    omega (arith, a, b, c)

-- the marks of a run are fewer than the numbers up to its last one
unfoldable pub first_base : List History → ℕ
first_base [] = 0
first_base (history ∷ later) = history.base

pub numbers : (run : List History) (last : History) → IsRun run → last_history run ≡ Some last → length (joined run) + first_base run ≡ last.base + length last.marks
unfolding first_base
numbers [] last is last_is = absurd is
numbers (history ∷ []) last is last_is =
    let same : history ≡ last = cc in
    let a = length-append history.marks [] in
    let b = ap (λ (h : History). h.base) same in
    let c = ap (λ (h : History). length h.marks) same in
    omega (arith, a, b, c)
numbers (history ∷ next ∷ later) last is last_is =
    let a = length-append history.marks (joined (next ∷ later)) in
    let b = numbers (next ∷ later) last is.1 last_is in
    let c = ap (λ (h : History). h.base) is.0.start in
    omega (arith, a, b, c, is.0.full)

-- there are numbers left for a mark
pub can_count : (limits : Limits) (run : List History) (last : History) (tally : Tally) → IsLegalRun limits run → last_history run ≡ Some last → last.base < last_base
    → length last.marks ≤ MAX_MARKS → Tallied limits run tally → CanCount tally
can_count limits run last tally legal last_is below few is =
    let all = numbers run last legal.turns_over last_is in
    let given = count_less (λ mark. is_given mark.reply) (joined run) in
    let empty = count_less (λ mark. is_empty mark.reply) (joined run) in
    let opened = count_less (λ mark. is_open mark.reply) (joined run) in
    let cleared = count_less (λ mark. is_clear mark.step) (joined run) in
    let flushed = count_less (λ mark. is_flush mark.step) (joined run) in
    let stored = stored_less limits run in
    record {
      marks = omega (arith, all, below, few, is.marks);
      given = omega (arith, all, below, few, is.given, given);
      empty = omega (arith, all, below, few, is.empty, empty);
      opened = omega (arith, all, below, few, is.opened, opened);
      stored = omega (arith, all, below, few, is.stored, stored);
      cleared = omega (arith, all, below, few, is.cleared, cleared);
      flushed = omega (arith, all, below, few, is.flushed, flushed);
    }

added : (test : Mark → Bool) (run : List History) (mark : Mark) (before : ℕ) → IsRun run → before ≡ how_many test (joined run)
    → before + one_if (test mark) ≡ how_many test (joined (run_with_mark run mark))
added test run mark before is same =
    ap (λ (n : ℕ). n + one_if (test mark)) same ∙ (sym (count_push test (joined run) mark) ∙ ap (how_many test) (sym (joined_run_with_mark run mark is)))

pub tally_counted : (limits : Limits) (run : List History) (last : History) (mark : Mark) (tally : Tally) (stored_now : Bool) → IsRun run → last_history run ≡ Some last
    → Tallied limits run tally → length (stored limits (next_history last) mark.step mark.moment) ≡ one_if stored_now → Tallied limits (run_with_mark run mark) (counted tally mark stored_now)
tally_counted limits run last mark tally stored_now is last_is tallied now = record {
  marks =
      let a = ap (λ (l : List Mark). length l) (joined_run_with_mark run mark is) in
      let b = length-append (joined run) (mark ∷ []) in
      omega (arith, a, b, tallied.marks);
  given = added (λ mark. is_given mark.reply) run mark tally.given is tallied.given;
  empty = added (λ mark. is_empty mark.reply) run mark tally.empty is tallied.empty;
  opened = added (λ mark. is_open mark.reply) run mark tally.opened is tallied.opened;
  stored =
      ap (λ (n : ℕ). n + one_if stored_now) tallied.stored
      ∙ (ap (λ (n : ℕ). length (flat_map (entries limits) run) + n) (sym now)
      ∙ sym (stored_added limits run last mark last_is));
  cleared = added (λ mark. is_clear mark.step) run mark tally.cleared is tallied.cleared;
  flushed = added (λ mark. is_flush mark.step) run mark tally.flushed is tallied.flushed;
}

-- whether it has stopped beside the rest
pub tally_is : (limits : Limits) (run : List History) (last : History) (tally : Tally) → last_history run ≡ Some last → Tallied limits run tally
    → record tally { stopped = stopped last } ≡ tally_of limits run
tally_is limits run last tally last_is is =
    rw (last_is, is.marks, is.given, is.empty, is.opened, is.stored, is.cleared, is.flushed) refl

-- a run that stays has the same tally
pub tally_stays : (limits later : Limits) (run items : List History) (tally : Tally) → later ≡ limits → items ≡ run → Tallied limits run tally → Tallied later items tally
tally_stays limits later run items tally same list is =
    subst (λ (l : Limits). Tallied l items tally) (sym same) (subst (λ (r : List History). Tallied limits r tally) (sym list) is)
