-- A request none of whose errors has a cause is answered by OK.
use Rattle.std.proofs.Common.{ℕ, List, sym, subst}
use Rattle.{agent_ask.specs.Session.{PortCalls.PortCall, SessionEvents.Sent}, session_client.specs.declared.code.Code.Code, assuan_server.specs.declared.errors.Origin.Origin, agent_commands.specs.Events.EventWith}
use Rattle.agent_commands.specs.declared.went.{SessionEnd.TheVariants.{Bye, Killed, Ended, TooLong, Spent, ReadFault, WriteFault}, Went.{Went, TheVariants.{On, End}}}
use Rattle.agent_session.{specs.{Causes.{Has, here}, Completeness.{AnswersAtLast, IsAnswer, done, error, IsAnsweredBy, HasError, HasOk, IsAnsweredOk}}, proofs.Standing.has_right}

module _ (events : List (EventWith PortCall)) (never : (why : Code) (origin : Origin) → HasError why origin events → ⊥) where
  ok_text : (text : List ℕ) → IsAnswer text → Has (Sent text) events → HasOk events
  ok_text text (done ends) has = (text, has, ends)
  ok_text text (error why origin is) has = absurd (never why origin (subst (λ (t : List ℕ). Has (Sent t) events) is has))

  ok_at_last : AnswersAtLast events → HasOk events
  ok_at_last answers = ok_text answers.text answers.answer (subst (λ e. Has (Sent answers.text) e) (sym answers.is) (has_right answers.before here))

  pub ok_by : (went : Went) → IsAnsweredBy went events → IsAnsweredOk went events
  ok_by On answers = ok_at_last answers
  ok_by (End Bye) answers = ok_at_last answers
  ok_by (End Killed) answers = ok_at_last answers
  ok_by (End TooLong) answers = ok_at_last answers
  ok_by (End Ended) answers = tt
  ok_by (End Spent) answers = tt
  ok_by (End ReadFault) answers = tt
  ok_by (End WriteFault) answers = tt
