-- One prompt: while a ticket is out, no other is opened. This is the project's own.
use Rattle.std.specs.{Prelude.{◌≡◌, ℕ, ◌+◌, List, ◌∷◌, ◌++◌, length, take_while, false, not, IfSome}, List.AllByRecursion}
use Rattle.cache_policy.specs.{declared.mark.{Mark.Mark, MarkReply.TheVariants.Open}, Histories.History, Seat.{is_open, gives_back}}

-- the marks before the first Close of this ticket, or all of them where none is
abbrev pub before_close : ℕ → List Mark → List Mark
before_close ticket marks = take_while (λ mark. not (gives_back ticket mark.step)) marks

-- none of the marks is replied Open
abbrev pub NoneOpens : List Mark → Type 0
NoneOpens marks = AllByRecursion (λ mark. is_open mark.reply ≡ false) marks

-- In the marks of a run that began so, none is replied Open between one that is and the Close of its ticket, which has the number of
-- that mark; nor before the Close of a ticket that was out when the run began. A ticket that is never given back is out up to the end.
pub record HasOnePrompt (start : History) (marks : List Mark) : Type 0 where
  pub opened : (before later : List Mark) (mark : Mark) → marks ≡ before ++ mark ∷ later → mark.reply ≡ Open
      → NoneOpens (before_close (start.base + length before) later)
  pub held : IfSome start.held (λ held. NoneOpens (before_close held.ticket marks))
