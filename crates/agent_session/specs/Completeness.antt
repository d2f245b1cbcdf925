-- Sessions whose requests are all answered. This is the project's own.
use Rattle.std.specs.{List.AllByRecursion, Prelude.{◌≡◌, ◌⊎◌, ◌++◌, ℕ, Bool, true, List, [], ◌∷◌, codes, Option, Some, None, ⊤, false}}
use Rattle.{agent_ask.specs.{Events.Call, Session.{PortCalls.PortEnds, SessionEvents.{Received, Sent, CacheTurn, cache_turn}}, Prompters.{AtPrompter, is_failed}}, agent_ports.specs.Counts.Rose, assuan_server.specs.Errors.error_text}
use Rattle.{assuan_server.specs.{Written.{greeting, failed, ok}, declared.errors.Origin.{Origin, TheVariants.Agent}}, session_client.specs.declared.code.Code.Code, assuan_text.specs.LineEnds.{line_of, has_lf}}
use Rattle.{cache_policy.specs.{Turns.{Turn, Given, Empty, Done, Stopping}, declared.{grant.Grant.Grant, mark.MarkStep.{MarkStep, TheVariants.{Clear, Flush}}}}, key_commands.specs.Events.Event}
use Rattle.{session_options.specs.declared.rules.Rules.Rules, agent_commands.specs.{Answers.IsPassphrase, Events.EventWith as SessionEvent, Exchanges.{put, is_quiet}, Passphrases.ask, Requests.request_of}}
use Rattle.agent_commands.specs.declared.{request.{CacheCommand.TheVariants.{GetPassphrase, PresetPassphrase, ClearPassphrase, ReloadAgent}, Request.{Request, TheVariants.Cache}}, went.SessionEnd.SessionEnd}
use Rattle.{agent_commands.specs.declared.went.{SessionEnd.TheVariants.{Bye, Killed, Ended, TooLong, Spent, ReadFault, WriteFault}, Went.{Went, TheVariants.{On, End}}}, agent_origin.specs.{DoorSessions.DoorExchange, Doors.allowed}}
use Rattle.agent_origin.specs.{PortStates.PortWorld, SessionExchanges.{SessionExchange, kept_at_start}, Sessions.Surroundings, TrustRequests.trust_request_of, declared.{door.Door.Door, session_state.SessionState.SessionState}}
use Rattle.agent_session.specs.{DoorCauses.{IsMarkUnprompted, IsNotTrusted, IsCausedAtDoor}, Causes.{Has, IsCaused, HasOne, HasCall, HasTrustCall, WantsMemory, FailsAtKeysOrDice, FailsAtTrust, is_broken, IsUnprompted, IsSaid}}
use Rattle.assuan_line.specs.declared.reader.Took.TheVariants as took
use Rattle.session_client.specs.declared.code.Code.TheVariants as code
use Rattle.session_client.specs.declared.client_error.Gone.TheVariants as gone
use Rattle.session_client.specs.declared.client_error.ClientError.TheVariants as client_error

-- ---- answers

-- a status line, which answers nothing yet
pub record IsStatus (text : List ℕ) : Type 0 where
  pub rest : List ℕ
  pub is : text ≡ line_of (codes "S " ++ rest)
  pub one_line : has_lf rest ≡ false

-- by this event nothing is answered
abbrev pub AnswersNothing : Event → Type 0
AnswersNothing (Received took) = ⊥
AnswersNothing (Sent text) = IsStatus text
AnswersNothing _ = ⊤

-- a line of data, of a status, or a comment, without its end
pub data IsAside : List ℕ → Type 0 where
  of_data : {rest : List ℕ} → has_lf rest ≡ false → IsAside (codes "D " ++ rest)
  of_status : {rest : List ℕ} → has_lf rest ≡ false → IsAside (codes "S " ++ rest)
  of_comment : {rest : List ℕ} → has_lf rest ≡ false → IsAside (codes "# " ++ rest)

-- such lines, one after another
pub data AreAsides : List ℕ → Type 0 where
  none : AreAsides []
  one_more : {line more : List ℕ} → IsAside line → AreAsides more → AreAsides (line_of line ++ more)

-- a text that is an OK line, before which stand only lines that answer nothing
pub record EndsInOk (text : List ℕ) : Type 0 where
  pub before : List ℕ
  pub asides : AreAsides before
  pub rest : List ℕ
  pub is : text ≡ before ++ line_of (codes "OK" ++ rest)
  pub one_line : has_lf rest ≡ false

-- what a request is answered by: a text that ends in an OK line, or an error line
pub data IsAnswer (text : List ℕ) : Type 0 where
  done : EndsInOk text → IsAnswer text
  error : (why : Code) (origin : Origin) → text ≡ line_of (error_text why origin) → IsAnswer text

-- the last event answers, and no other
pub record AnswersAtLast (events : List Event) : Type 0 where
  pub before : List Event
  pub text : List ℕ
  pub is : events ≡ before ++ Sent text ∷ []
  pub nothing_before : AllByRecursion AnswersNothing before
  pub answer : IsAnswer text

-- Whether a request is answered, by how the session goes on: it is, unless its own inquiry ended the session, or a write failed. A client whose line
-- was too long is told so.
abbrev pub IsAnsweredBy : Went → List Event → Type 0
IsAnsweredBy On events = AnswersAtLast events
IsAnsweredBy (End Bye) events = AnswersAtLast events
IsAnsweredBy (End Killed) events = AnswersAtLast events
IsAnsweredBy (End TooLong) events = AnswersAtLast events
IsAnsweredBy (End Ended) events = AllByRecursion AnswersNothing events × IsSaid events (client_error.Gone gone.Ended)
IsAnsweredBy (End Spent) events = AllByRecursion AnswersNothing events × IsSaid events (client_error.Gone gone.Spent)
IsAnsweredBy (End ReadFault) events = AllByRecursion AnswersNothing events × IsSaid events (client_error.Gone gone.ReadFault)
IsAnsweredBy (End WriteFault) events = AllByRecursion AnswersNothing events

-- an error line was written
abbrev pub HasError : Code → Origin → List Event → Type 0
HasError why origin events = Has (Sent (line_of (error_text why origin))) events

-- what is done for a line, as what is kept before and after it, its events, and how the session goes on show it; and when an error line has its cause
abbrev pub Exchanges : Type 1
Exchanges = SessionState → List ℕ → List Event → SessionState → Went → Type 0

abbrev pub Causes : Type 1
Causes = SessionState → List ℕ → List Event → Code → Origin → Type 0

-- The exchange of a line, in which the request has its one answer, and each error line its cause.
pub record CausedExchange (relation : Exchanges) (cause : Causes) (before : SessionState) (line : List ℕ) (events : List Event) (after : SessionState) (went : Went) : Type 0 where
  pub exchange : relation before line events after went
  pub answered : IsAnsweredBy went events
  pub caused : (why : Code) (origin : Origin) → HasError why origin events → cause before line events why origin

-- no error line has a cause in this exchange
abbrev pub IsUncaused : Causes → SessionState → List ℕ → List Event → Type 0
IsUncaused cause before line events = (why : Code) (origin : Origin) → ¬ cause before line events why origin

-- the request is answered by a text that ends in an OK line
abbrev pub HasOk : List Event → Type 0
HasOk events = (text : List ℕ) × Has (Sent text) events × EndsInOk text

-- it is, unless its inquiry ended the session, or a write failed
abbrev pub IsAnsweredOk : Went → List Event → Type 0
IsAnsweredOk On events = HasOk events
IsAnsweredOk (End Bye) events = HasOk events
IsAnsweredOk (End Killed) events = HasOk events
IsAnsweredOk (End TooLong) events = HasOk events
IsAnsweredOk (End Ended) events = ⊤
IsAnsweredOk (End Spent) events = ⊤
IsAnsweredOk (End ReadFault) events = ⊤
IsAnsweredOk (End WriteFault) events = ⊤

-- A failure among these events has raised its count, between these ends: that of the keys or of the dice, the prompter's, or the trust file's.
pub record FailuresRise {P : Type 0} (at : P → AtPrompter) (events : List Event) (before after : PortEnds P) : Type 0 where
  pub keys_or_dice : HasOne events FailsAtKeysOrDice → Rose before.keys.faults after.keys.faults ⊎ Rose before.dice.faults after.dice.faults
  pub prompter : HasCall events is_failed → Rose (at before.prompter).faults (at after.prompter).faults
  pub trust : HasTrustCall events FailsAtTrust → Rose before.trust.faults after.trust.faults

-- ---- requests without a prompt

-- a turn that was replied Stopping
abbrev pub IsStopped : Event → Type 0
IsStopped (CacheTurn taken) = taken.turn ≡ Stopping
IsStopped _ = ⊥

-- a passphrase by the cache alone: the live entry's, or none
pub data AnswersFromCache (plain : Bool) : Option (List ℕ) → List Event → Type 0 where
  given : {id text : List ℕ} {grant : Grant} → IsPassphrase plain grant.entry.secret text → AnswersFromCache plain (Some id) (cache_turn (ask id) (Given grant) ∷ Sent text ∷ [])
  empty : {id : List ℕ} → AnswersFromCache plain (Some id) (cache_turn (ask id) Empty ∷ Sent (failed code.NoData) ∷ [])
  no_id : AnswersFromCache plain None (Sent (failed code.NoData) ∷ [])

-- one turn was done, and the request is answered OK
abbrev pub AnswersDone : MarkStep → List Event → Type 0
AnswersDone step events = events ≡ cache_turn step Done ∷ Sent ok ∷ []

-- what is done for a request that asks nobody
abbrev pub AnswersAtOnce : Rules → Request → List Event → Type 0
AnswersAtOnce rules (Cache (GetPassphrase plain check no_ask repeat quality id texts)) events = is_quiet no_ask texts ≡ true → AnswersFromCache plain id events
AnswersAtOnce rules (Cache (PresetPassphrase id life (Some secret))) events = rules.allow_preset ≡ true → AnswersDone (put id life secret) events
AnswersAtOnce rules (Cache (ClearPassphrase id mode)) events = AnswersDone (Clear id mode) events
AnswersAtOnce rules (Cache ReloadAgent) events = AnswersDone Flush events
AnswersAtOnce rules _ events = ⊤

-- ---- sessions without a fault

-- no memory is wanted by it
abbrev pub Remembers : Event → Type 0
Remembers event = ¬ WantsMemory event

-- such an exchange, in which nothing failed and no memory was wanted
pub record FaultlessExchange (relation : Exchanges) (unprompted : SessionState → List ℕ → List Event → Type 0) (before : SessionState) (line : List ℕ) (events : List Event) (after : SessionState) (went : Went) : Type 0 where
  pub caused : relation before line events after went
  -- so no error is for want of memory, or without a code of its own
  pub remembers : ¬ HasError code.NoMemory Agent events
  pub specific : ¬ HasError code.General Agent events
  -- and No pinentry is answered only where the client wants no prompt, or the child broke the protocol
  pub asks : HasError code.NoPinentry Agent events → unprompted before line events ⊎ HasCall events is_broken

module _ {S F : Type 0} (exchange : S → List ℕ → List (SessionEvent F) → S → Went → Type 0) where
  -- a session's talk from some request on, in which no write failed
  pub data WholeTalk : S → List (SessionEvent F) → SessionEnd → Type 0 where
    goes_on : {before after : S} {events more : List (SessionEvent F)} {end : SessionEnd} (line : List ℕ) → exchange before line events after On → WholeTalk after more end
        → WholeTalk before (Received (took.Line line) ∷ (events ++ more)) end
    -- the request is the last one
    over : {before after : S} {events : List (SessionEvent F)} {end : SessionEnd} (line : List ℕ) → exchange before line events after (End end)
        → WholeTalk before (Received (took.Line line) ∷ events) end
    -- no request comes
    ended : {before : S} → WholeTalk before (Received took.End ∷ []) Ended
    spent : {before : S} → WholeTalk before (Received took.Spent ∷ []) Spent
    too_long : {before : S} → WholeTalk before (Received took.TooLong ∷ Sent (failed code.LineTooLong) ∷ []) TooLong

  -- a whole session
  pub data WholeSession (start : S) : List (SessionEvent F) → SessionEnd → Type 0 where
    greeted : {events : List (SessionEvent F)} {end : SessionEnd} → WholeTalk start events end → WholeSession start (Sent (line_of greeting) ∷ events) end

-- the ends that are no fault of the link
abbrev pub IsFaultless : SessionEnd → Type 0
IsFaultless ReadFault = ⊥
IsFaultless WriteFault = ⊥
IsFaultless _ = ⊤

-- no count of faults has risen: of neither side of the link, nor of the prompter, the keys, the dice and the trust file
pub record NoCountRose {D P : Type 0} (turned : D → MarkStep → Turn → D → Type 0) (prompted : P → Call → P → Type 0) (at : P → AtPrompter)
    (before after : Surroundings (PortWorld turned prompted)) : Type 0 where
  pub input : ¬ Rose before.input.faults after.input.faults
  pub output : ¬ Rose before.output.faults after.output.faults
  pub prompter : ¬ Rose (at before.ends.prompter).faults (at after.ends.prompter).faults
  pub keys : ¬ Rose before.ends.keys.faults after.ends.keys.faults
  pub dice : ¬ Rose before.ends.dice.faults after.ends.dice.faults
  pub trust : ¬ Rose before.ends.trust.faults after.ends.trust.faults

-- The session ended by no fault of its link, and each of its requests was answered, but a last one whose own inquiry ended the session.
pub record AnswersAll (faultless : Exchanges) (rules : Rules) (events : List Event) (end : SessionEnd) : Type 0 where
  pub ended : IsFaultless end
  pub session : WholeSession faultless (kept_at_start rules) events end

-- ---- the sessions of `serve_session`

module _ (rules : Rules) where
  abbrev pub SessionCauses : Causes
  SessionCauses before line events why origin = IsCaused events rules before (request_of line) why origin

  abbrev pub CausedInSession : Exchanges
  CausedInSession = CausedExchange (SessionExchange rules) SessionCauses

  abbrev pub FaultlessInSession : Exchanges
  FaultlessInSession = FaultlessExchange CausedInSession (λ before line events. IsUnprompted events rules before (request_of line))

-- ---- the sessions of `serve_door`

-- the client wants no prompt
pub data WantsNoPrompt (rules : Rules) (before : SessionState) (line : List ℕ) (events : List Event) : Type 0 where
  any : IsUnprompted events rules before (request_of line) → WantsNoPrompt rules before line events
  on_trust : IsMarkUnprompted events (trust_request_of line) before.options → WantsNoPrompt rules before line events

-- The exchange of a line, in which the request has its one answer, and each error line its cause.
pub record CausedAtDoor (door : Door) (rules : Rules) (before : SessionState) (line : List ℕ) (events : List Event) (after : SessionState) (went : Went) : Type 0 where
  pub by_cause : CausedExchange (DoorExchange door rules) (IsCausedAtDoor door rules) before line events after went
  -- and Not trusted is answered wherever a read of the trust file has that cause
  pub not_trusted : IsNotTrusted events (trust_request_of line) → HasError code.NotTrusted Agent events
  -- a line that isn't allowed is answered by Forbidden, and nothing else is done for it
  pub forbidden : allowed door line ≡ false → events ≡ Sent (failed code.Forbidden) ∷ []
  -- one that is allowed is never answered so
  pub is_allowed : allowed door line ≡ true → ¬ HasError code.Forbidden Agent events

abbrev pub FaultlessAtDoor : Door → Rules → Exchanges
FaultlessAtDoor door rules = FaultlessExchange (CausedAtDoor door rules) (WantsNoPrompt rules)
