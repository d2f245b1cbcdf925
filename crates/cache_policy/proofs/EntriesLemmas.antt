-- The entries of a history that goes on by one mark.
use Rattle.std.{specs.Prelude.{◌≡◌, List, [], ◌∷◌, ◌++◌}, proofs.{Common.{ap, sym, ◌∙◌, append_assoc}, lemmas.List.append-nil}}
use Rattle.cache_policy.specs.{declared.{life.Limits.Limits, mark.Mark.Mark, entry.Entry.Entry}, Histories.{History, start_of, with_marks, with_mark}, Entries.{stored, entries, entries_after}}

-- what one mark more stores comes last
entries_after_push : (limits : Limits) (before : History) (marks : List Mark) (mark : Mark) →
    entries_after limits before (marks ++ mark ∷ [])
    ≡ entries_after limits before marks ++ stored limits (with_marks before marks) mark.step mark.moment
entries_after_push limits before [] mark =
    append-nil (stored limits before mark.step mark.moment)
    ∙ sym (ap (λ (marks : List Mark). stored limits (record before { marks = marks }) mark.step mark.moment)
    (append-nil before.marks))
entries_after_push limits before (first ∷ later) mark =
    let new : List Entry = stored limits before first.step first.moment in
    ap (λ (list : List Entry). new ++ list) (entries_after_push limits (with_mark before first) later mark)
    ∙ (sym (append_assoc new (entries_after limits (with_mark before first) later) (stored limits (with_marks
    (with_mark before first) later) mark.step mark.moment))
    ∙ ap (λ (marks : List Mark). (new ++ entries_after limits (with_mark before first) later) ++ stored limits
    (record before { marks = marks }) mark.step mark.moment) (append_assoc before.marks (first ∷ []) later))

pub entries_with_mark : (limits : Limits) (history : History) (mark : Mark) →
    entries limits (with_mark history mark) ≡ entries limits history ++ stored limits history mark.step mark.moment
entries_with_mark limits history mark = entries_after_push limits (start_of history) history.marks mark
