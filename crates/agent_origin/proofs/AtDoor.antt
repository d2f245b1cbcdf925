-- A line of a session that came in by a door, or by none, by each way that it is answered.
use Rattle.std.proofs.Common.{◌≡◌, ℕ, List, true, false, Option, None, Some}
use Rattle.{agent_ask.{specs.{Events.Call, Session.ActionExchanges.AnyExchange}, proofs.Answered.answered_as}, agent_commands.specs.{Endings.went_after, States.AnswersRequest, declared.went.Went.Went}, assuan_server.specs.Connections.Connection}
use Rattle.{assuan_server.specs.Written.{failed, ok, refusal_line}, session_client.specs.declared.code.Code.TheVariants.Forbidden, cache_policy.specs.{declared.mark.MarkStep.MarkStep, Turns.Turn}}
use Rattle.session_options.specs.declared.rules.Rules.{Rules}
use Rattle.agent_origin.specs.{DoorSessions.{door_help, helped, unset, trusts, any, exchange_at, forbidden, is_allowed}, TrustExchanges.TrustReplies, PortStates.{PortWorld, PortState}}
use Rattle.agent_origin.specs.{TrustRequests.trust_request_of, SessionExchanges.SessionExchange, Serving.{SaysText, may_say, command_at}}
use Rattle.agent_origin.specs.declared.{door.Door.Door, session_state.SessionState.SessionState, door_session.DoorCommand.TheVariants.{Help, Trust, Terminal}}
use Rattle.agent_origin.proofs.Serving.{text_answers}

module _ {D P : Type 0} (turned : D → MarkStep → Turn → D → Type 0) (prompted : P → Call → P → Type 0) where
  -- the line was answered so
  abbrev pub Answers : Option Door → Rules → List ℕ → SessionState → PortState turned prompted → Went → SessionState → PortState turned prompted → Type 0
  Answers door rules line before start went after now = AnswersRequest {w = PortWorld turned prompted} (λ kept. exchange_at door rules kept line) before start went after now

  pub forbidden_is_answered : (door : Option Door) (rules : Rules) (line : List ℕ) (kept : SessionState) (start : PortState turned prompted) (now : Connection) {went : Went} → may_say door line ≡ false
      → start.conn.reader.ended ≡ None → SaysText (failed Forbidden) start.conn went now → Answers door rules line kept start went kept (record start { conn = now })
  forbidden_is_answered None rules line kept start now not_allowed going said = cc not_allowed
  forbidden_is_answered (Some door) rules line kept start now not_allowed going said =
      text_answers {w = PortWorld turned prompted} (λ k. exchange_at (Some door) rules k line) kept start now (forbidden not_allowed) going said

  pub help_is_answered : (door : Option Door) (rules : Rules) (line : List ℕ) → may_say door line ≡ true → (kept : SessionState) (start : PortState turned prompted) (now : Connection) {went : Went}
      → command_at door line ≡ Some Help → start.conn.reader.ended ≡ None → SaysText door_help start.conn went now → Answers door rules line kept start went kept (record start { conn = now })
  help_is_answered None rules line may kept start now named going said = cc named
  help_is_answered (Some door) rules line may kept start now named going said =
      text_answers {w = PortWorld turned prompted} (λ k. exchange_at (Some door) rules k line) kept start now (is_allowed may (rw named helped)) going said

  pub terminal_is_unset : (door : Option Door) (rules : Rules) (line : List ℕ) → may_say door line ≡ true → (kept : SessionState) (start : PortState turned prompted) (now : Connection) {went : Went}
      → command_at door line ≡ Some Terminal → start.conn.reader.ended ≡ None → SaysText ok start.conn went now → Answers door rules line kept start went kept (record start { conn = now })
  terminal_is_unset None rules line may kept start now named going said = cc named
  terminal_is_unset (Some door) rules line may kept start now named going said =
      text_answers {w = PortWorld turned prompted} (λ k. exchange_at (Some door) rules k line) kept start now (is_allowed may (rw named unset)) going said

  pub trust_is_answered : (door : Option Door) (rules : Rules) (line : List ℕ) → may_say door line ≡ true → (kept : SessionState) {start now : PortState turned prompted} {went : Went}
      → command_at door line ≡ Some Trust
      → AnswersRequest {w = PortWorld turned prompted} (λ options. AnyExchange refusal_line went_after (TrustReplies rules options (trust_request_of line)) options) kept.options start went kept.options now
      → Answers door rules line kept start went kept now
  trust_is_answered None rules line may kept named answered = cc named
  trust_is_answered (Some door) rules line may kept named answered = answered_as answered (λ events went exchanged. is_allowed may (rw named (trusts exchanged)))

  -- with the trust file beside
  pub session_line_is_answered : (door : Option Door) (rules : Rules) (line : List ℕ) → may_say door line ≡ true → {before after : SessionState} {start now : PortState turned prompted} {went : Went}
      → command_at door line ≡ None → AnswersRequest {w = PortWorld turned prompted} (λ kept. SessionExchange rules kept line) before start went after now → Answers door rules line before start went after now
  session_line_is_answered None rules line may named answered = answered
  session_line_is_answered (Some door) rules line may named answered = answered_as answered (λ events went exchanged. is_allowed may (rw named (any exchanged)))
