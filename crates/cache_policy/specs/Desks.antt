-- A desk, at which a session takes its turns while other sessions take theirs: what each turn does to what a desk shows. This is the
-- project's own.
use Rattle.std.specs.{Prelude.{◌≡◌, ◌≤◌, ℕ, ◌+◌, List, [], ◌∷◌, ◌++◌, Bool, true, false, length, Option, Some, None, IfSome, ⊤}, List.AllByRecursion}
use Rattle.agent_ports.specs.declared.session.SessionId.{SessionId}
use Rattle.cache_policy.specs.{declared.{life.Limits.Limits, mark.{Mark.Mark, MarkStep.MarkStep}}, Histories.{History, next_number, with_mark}, Live.{last_use, live}, Runs.{last_base, joined, start_of_run, last_history, moment_before}}
use Rattle.cache_policy.specs.{Legal.IsLegalRun, Turns.{Turn, Given, Empty, Open, Stand, Done, Held, Stopping, Late, Refused, FitsStep, opens, out_after, since_of, with_since}, Waits.is_session}
use Rattle.cache_policy.specs.declared.mark.MarkReply.TheVariants as answer

-- what a desk shows: by which lifetimes it goes, whose turns they are, the histories so far where they are known, and the number of the
-- ticket that the session has
pub record AtDesk : Type 0 where
  pub limits : Limits
  pub session : SessionId
  pub run : Option (List History)
  pub out : Option ℕ

-- the mark is one of the session
abbrev pub is_of : SessionId → Mark → Bool
is_of session mark = is_session session mark.session

-- A mark on this history says how the turn came out. A passphrase that is given is that of the live entry, and a ticket has the
-- mark's number.
abbrev pub Shows : Limits → History → Mark → Turn → Type 0
Shows limits before mark (Given grant) =
    (mark.reply ≡ answer.Given grant.entry.number) × (live limits before grant.id grant.mode mark.moment ≡ Some grant.entry)
    × (grant.last ≡ last_use before grant.entry) × (grant.moment ≡ mark.moment)
Shows limits before mark Empty = mark.reply ≡ answer.Empty
Shows limits before mark (Open number) = (mark.reply ≡ answer.Open) × (number ≡ next_number before)
Shows limits before mark (Stand wait) = ⊥
Shows limits before mark Done = mark.reply ≡ answer.Done
Shows limits before mark (Held held) = mark.reply ≡ answer.Held held
Shows limits before mark Stopping = mark.reply ≡ answer.Stopping
Shows limits before mark Late = mark.reply ≡ answer.Late
Shows limits before mark Refused = ⊥

-- The last mark of a run is the session's own, with the step that was asked, but for its since, and the turn's answer. Only a step that
-- wants the prompt has a since, and it isn't below `called`, the moment of the last mark of the run when the turn was called. No history
-- without a mark comes behind it.
pub record IsOwnMark (limits : Limits) (session : SessionId) (called : ℕ) (asked : MarkStep) (turn : Turn) (run : List History) (mark : Mark) : Type 0 where
  pub by : mark.session ≡ session
  pub asked_is : mark.step ≡ with_since (since_of mark.step) asked
  pub waited : IfSome (since_of mark.step) (λ since. (opens asked ≡ true) × (called ≤ since))
  pub before : History
  pub last : last_history run ≡ Some (with_mark before mark)
  pub shows : Shows limits before mark turn

-- a run has had all its marks
pub record IsSpentRun (run : List History) : Type 0 where
  pub last : History
  pub last_is : last_history run ≡ Some last
  pub all : last.base + length last.marks ≡ last_base

-- the marks that a turn makes: its own, but none where it is refused, or where it is replied Stopping by a spent agent
pub data MakesMarks (limits : Limits) (session : SessionId) (called : ℕ) (asked : MarkStep) (run : List History) : Turn → List Mark → Type 0 where
  marked : {turn : Turn} (own : Mark) → IsOwnMark limits session called asked turn run own → MakesMarks limits session called asked run turn (own ∷ [])
  refused : MakesMarks limits session called asked run Refused []
  spent : IsSpentRun run → MakesMarks limits session called asked run Stopping []

-- The run after a turn goes on from the run before: first by marks of other sessions, and then by the turn's own. It is legal where
-- that was.
pub record GoesOn (limits : Limits) (session : SessionId) (before : List History) (asked : MarkStep) (turn : Turn) (after : List History) : Type 0 where
  pub start : start_of_run after ≡ start_of_run before
  pub others : List Mark
  pub foreign : AllByRecursion (λ mark. is_of session mark ≡ false) others
  pub own : List Mark
  pub makes : MakesMarks limits session (moment_before (joined before)) asked after turn own
  pub marks : joined after ≡ joined before ++ (others ++ own)
  pub legal : IsLegalRun limits before → IsLegalRun limits after

-- the same where the run is known. Whether it is doesn't change
abbrev pub GoesOnWhereKnown : Limits → SessionId → Option (List History) → MarkStep → Turn → Option (List History) → Type 0
GoesOnWhereKnown limits session None asked turn None = ⊤
GoesOnWhereKnown limits session (Some before) asked turn (Some after) = GoesOn limits session before asked turn after
GoesOnWhereKnown limits session None asked turn (Some after) = ⊥
GoesOnWhereKnown limits session (Some before) asked turn None = ⊥

-- what each turn does at each desk
pub record IsTurn (before : AtDesk) (asked : MarkStep) (turn : Turn) (after : AtDesk) : Type 0 where
  pub fits : FitsStep asked turn
  pub run : GoesOnWhereKnown before.limits before.session before.run asked turn after.run
  pub limits : after.limits ≡ before.limits
  pub session : after.session ≡ before.session
  pub out : after.out ≡ out_after before.out asked turn
