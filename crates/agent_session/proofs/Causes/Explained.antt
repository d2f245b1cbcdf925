-- Exchanges in which the request has its one answer, and the error line its cause.
use Rattle.std.{specs.{List.AllByRecursion, Prelude.⊤}, proofs.Common.{◌≡◌, ◌⊎◌, List, [], ◌∷◌, ◌++◌, ℕ, refl, sym, subst, append_assoc, inl, inr}}
use Rattle.{agent_ask.specs.Session.{PortCalls.PortCall, SessionEvents.Sent}, assuan_server.specs.{Errors.error_text, declared.errors.Origin.Origin}, session_client.specs.declared.code.Code.Code, assuan_text.specs.LineEnds.line_of}
use Rattle.{agent_commands.specs.{Events.EventWith, declared.went.{SessionEnd.TheVariants.{Bye, Killed, Ended, TooLong, Spent, ReadFault, WriteFault}, Went.{Went, TheVariants.{On, End}}}}, key_commands.proofs.EachEvent.each_append}
use Rattle.agent_session.{specs.{Causes.{IsSaid, Has, here, later}, Completeness.{AnswersNothing, AnswersAtLast, IsAnsweredBy, HasError, EndsInOk, done, error}}, proofs.Causes.ErrorLines.{same_code, same_origin, no_reply, no_status}}
use Rattle.agent_session.proofs.{Causes.Replying.{IsReply, begins}, Standing.each_has}
use Rattle.session_client.specs.declared.code.Code.TheVariants as code
use Rattle.session_client.specs.declared.client_error.Gone.TheVariants as gone
use Rattle.session_client.specs.declared.client_error.ClientError.TheVariants as client_error

-- a request that went so is answered, or its client is gone
abbrev pub IsLast : Went → Type 0
IsLast On = ⊤
IsLast (End Bye) = ⊤
IsLast (End Killed) = ⊤
IsLast (End TooLong) = ⊤
IsLast _ = ⊥

-- after an error line the session goes on, unless its client is told that a line was too long
abbrev pub GoesOnAfter : Went → Code → Type 0
GoesOnAfter On why = ⊤
GoesOnAfter (End TooLong) why = why ≡ code.LineTooLong
GoesOnAfter (End Bye) why = ⊥
GoesOnAfter (End Killed) why = ⊥
GoesOnAfter (End Ended) why = ⊥
GoesOnAfter (End Spent) why = ⊥
GoesOnAfter (End ReadFault) why = ⊥
GoesOnAfter (End WriteFault) why = ⊥

is_last : (went : Went) (why : Code) → GoesOnAfter went why → IsLast went
is_last On why goes = tt
is_last (End TooLong) why goes = tt
is_last (End Bye) why goes = tt
is_last (End Killed) why goes = tt
is_last (End Ended) why goes = absurd goes
is_last (End Spent) why goes = absurd goes
is_last (End ReadFault) why goes = absurd goes
is_last (End WriteFault) why goes = absurd goes

pub went_on : (went : Went) (why : Code) → GoesOnAfter went why → (why ≡ code.LineTooLong → ⊥) → went ≡ On
went_on On why goes other = refl
went_on (End TooLong) why goes other = absurd (other goes)
went_on _ why goes other = absurd goes

abbrev pub IsLost : List (EventWith PortCall) → Went → Type 0
IsLost events (End Ended) = IsSaid events (client_error.Gone gone.Ended)
IsLost events (End Spent) = IsSaid events (client_error.Gone gone.Spent)
IsLost events (End ReadFault) = IsSaid events (client_error.Gone gone.ReadFault)
IsLost events (End WriteFault) = ⊤
IsLost events _ = ⊥

abbrev pub error_line : Code → Origin → EventWith PortCall
error_line why origin = Sent (line_of (error_text why origin))

-- these events of an exchange with all those
pub data Explained (whole : List (EventWith PortCall)) (Caused : Code → Origin → Type 0) : List (EventWith PortCall) → Went → Type 0 where
  replied : (before : List (EventWith PortCall)) (text : List ℕ) {went : Went} → AllByRecursion AnswersNothing before → IsReply text → IsLast went → Explained whole Caused (before ++ Sent text ∷ []) went
  failed : (before : List (EventWith PortCall)) {went : Went} (why : Code) (origin : Origin) → AllByRecursion AnswersNothing before → Caused why origin → GoesOnAfter went why
      → Explained whole Caused (before ++ error_line why origin ∷ []) went
  silent : {events : List (EventWith PortCall)} {went : Went} → AllByRecursion AnswersNothing events → IsLost whole went → Explained whole Caused events went

pub has_split : {event : EventWith PortCall} (first more : List (EventWith PortCall)) → Has event (first ++ more) → Has event first ⊎ Has event more
has_split [] more has = inr has
has_split (event ∷ first) more here = inl here
has_split (other ∷ first) more (later has) = elim (has_split first more has) [ inl before ↦ inl (later before) | inr behind ↦ inr behind ]

has_only : {event only : EventWith PortCall} → Has event (only ∷ []) → event ≡ only
has_only here = refl
has_only (later has) = elim has [ ]

module _ (whole : List (EventWith PortCall)) (Caused : Code → Origin → Type 0) where
  -- after events that answer nothing
  pub after_these : (first : List (EventWith PortCall)) {events : List (EventWith PortCall)} {went : Went} → AllByRecursion AnswersNothing first → Explained whole Caused events went → Explained whole Caused (first ++ events) went
  after_these first each (replied before text {went} nothing reply last) =
      subst (λ e. Explained whole Caused e went) (append_assoc first before (Sent text ∷ [])) (replied (first ++ before) text (each_append AnswersNothing first before each nothing) reply last)
  after_these first each (failed before {went} why origin nothing caused last) =
      subst (λ e. Explained whole Caused e went) (append_assoc first before (error_line why origin ∷ [])) (failed (first ++ before) why origin (each_append AnswersNothing first before each nothing) caused last)
  after_these first each (silent {events} nothing lost) = silent (each_append AnswersNothing first events each nothing) lost

  last_answers : (went : Went) (events : List (EventWith PortCall)) → IsLast went → AnswersAtLast events → IsAnsweredBy went events
  last_answers On events last answers = answers
  last_answers (End Bye) events last answers = answers
  last_answers (End Killed) events last answers = answers
  last_answers (End TooLong) events last answers = answers
  last_answers (End Ended) events last answers = absurd last
  last_answers (End Spent) events last answers = absurd last
  last_answers (End ReadFault) events last answers = absurd last
  last_answers (End WriteFault) events last answers = absurd last

  lost_answers : (went : Went) → IsLost whole went → AllByRecursion AnswersNothing whole → IsAnsweredBy went whole
  lost_answers On lost each = absurd lost
  lost_answers (End Bye) lost each = absurd lost
  lost_answers (End Killed) lost each = absurd lost
  lost_answers (End TooLong) lost each = absurd lost
  lost_answers (End Ended) lost each = (each, lost)
  lost_answers (End Spent) lost each = (each, lost)
  lost_answers (End ReadFault) lost each = (each, lost)
  lost_answers (End WriteFault) lost each = each

  reply_ends_in_ok : {text : List ℕ} → IsReply text → EndsInOk text
  reply_ends_in_ok (begins other ends) = ends

  pub is_answered : {events : List (EventWith PortCall)} {went : Went} → Explained whole Caused events went → whole ≡ events → IsAnsweredBy went whole
  is_answered (replied before text {went} nothing reply last) is = last_answers went whole last (record { before = before; text = text; is = is; nothing_before = nothing; answer = done (reply_ends_in_ok reply) })
  is_answered (failed before {went} why origin nothing caused goes) is = last_answers went whole (is_last went why goes) (record { before = before; text = _; is = is; nothing_before = nothing; answer = error why origin refl })
  is_answered (silent {events} {went} nothing lost) is = lost_answers went lost (subst (AllByRecursion AnswersNothing) (sym is) nothing)

  -- no error line is among events that answer nothing
  no_error : (why : Code) (origin : Origin) (events : List (EventWith PortCall)) → AllByRecursion AnswersNothing events → HasError why origin events → ⊥
  no_error why origin events nothing has = no_status why origin (each_has AnswersNothing events nothing has)

  abbrev sent_event : List ℕ → EventWith PortCall
  sent_event text = Sent text

  sent_same : (one other : List ℕ) → sent_event one ≡ sent_event other → one ≡ other
  sent_same one other is = cc

  is_same : (given why : Code) (from origin : Origin) → line_of (error_text why origin) ≡ line_of (error_text given from) → Caused given from → Caused why origin
  is_same given why from origin is caused =
      subst (λ o. Caused why o) (sym (same_origin why given origin from is)) (subst (λ c. Caused c from) (sym (same_code why given origin from is)) caused)

  pub is_caused : {events : List (EventWith PortCall)} {went : Went} → Explained whole Caused events went → (why : Code) (origin : Origin) → HasError why origin events → Caused why origin
  is_caused (replied before text nothing reply last) why origin has =
      elim (has_split before (Sent text ∷ []) has) [ inl first ↦ absurd (no_error why origin before nothing first) | inr only ↦ absurd (no_reply why origin reply (sent_same _ _ (has_only only))) ]
  is_caused (failed before given from nothing caused last) why origin has =
      elim (has_split before (error_line given from ∷ []) has) [
        | inl first ↦ absurd (no_error why origin before nothing first)
        | inr only ↦ is_same given why from origin (sent_same _ _ (has_only only)) caused
      ]
  is_caused (silent {events} nothing lost) why origin has = absurd (no_error why origin events nothing has)

  -- how the session goes on after one
  pub goes_on : {events : List (EventWith PortCall)} {went : Went} → Explained whole Caused events went → (why : Code) (origin : Origin) → HasError why origin events → GoesOnAfter went why
  goes_on (replied before text nothing reply last) why origin has =
      elim (has_split before (Sent text ∷ []) has) [ inl first ↦ absurd (no_error why origin before nothing first) | inr only ↦ absurd (no_reply why origin reply (sent_same _ _ (has_only only))) ]
  goes_on (failed before {went} given from nothing caused goes) why origin has =
      elim (has_split before (error_line given from ∷ []) has) [
        | inl first ↦ absurd (no_error why origin before nothing first)
        | inr only ↦ subst (GoesOnAfter went) (sym (same_code why given origin from (sent_same _ _ (has_only only)))) goes
      ]
  goes_on (silent {events} nothing lost) why origin has = absurd (no_error why origin events nothing has)
