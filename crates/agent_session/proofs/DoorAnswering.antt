-- Lines at a door: each exchange is caused, and is one of any session, where its command isn't the door's own.
use Rattle.std.{specs.List.AllByRecursion, proofs.Common.{◌≡◌, ◌⊎◌, ℕ, true, false, List, [], ◌∷◌, Option, Some, None, refl, sym, ap, subst, inl, inr, ◌∙◌}}
use Rattle.{agent_ask.specs.{Prompters.is_failed, Session.SessionEvents.Sent}, agent_commands.specs.{Requests.request_of, declared.went.Went.{Went, TheVariants.On}}, assuan_server.specs.Written.{failed as failed_line, ok}}
use Rattle.{assuan_server.specs.declared.errors.Origin.{Origin, TheVariants.Agent}, session_client.specs.declared.code.Code.Code, key_commands.{specs.Events.Event, proofs.EachRequest.IsBesideTrust}}
use Rattle.{session_options.specs.declared.rules.Rules.Rules, agent_origin.specs.{DoorSessions.{door_help, AllowedExchange, DoorExchange, door_command}, Doors.allowed, TrustExchanges.TrustExchange}}
use Rattle.agent_origin.specs.{TrustRequests.{trust_request_of, trust_command}, SessionExchanges.SessionExchange, declared.{door.Door.Door, session_state.SessionState.SessionState, trust.request.TrustRequest.TheVariants.Bad}}
use Rattle.{agent_origin.proofs.{EachLine.each_request, OwnCommands.{trust_named, other_is_no_trust}}, command_table.specs.{Commands.{command_in, commands, names_told}, declared.commands.TrustCommandName.TrustCommandName}}
use Rattle.agent_session.specs.{Causes.{HasOne, HasCall, WantsMemory, is_broken}, Completeness.{IsAnsweredBy, HasError, CausedAtDoor, WantsNoPrompt, any, on_trust}}
use Rattle.agent_session.{specs.DoorCauses.{IsTrustCaused, IsCausedBy, IsCausedAtDoor, IsReadTrust, read_trust, IsNotTrusted, unsaid, denied, denied_mark, forbidden, is_allowed}, proofs.Answering.{Judging, none_failed, no_trust_failed}}
use Rattle.agent_session.proofs.{Counts.Completing.{IsPossible, IsSteady, never_absent}, Causes.Explained.{Explained, replied, failed, silent, is_answered, is_caused, went_on, goes_on as explained_on}}
use Rattle.agent_session.proofs.{Causes.{KeyExplained.{exchange_caused, exchange_goes_on}, Replying.{IsReply, reply_names, reply_ok}, TrustExplained.{trust_explained, trust_line_form}}, Standing.stand_all}
use Rattle.agent_session.proofs.Decisions.TrustDenied.{none_called, denial_is_said}
use Rattle.session_client.specs.declared.code.Code.TheVariants as code
use Rattle.agent_origin.specs.DoorSessions as doors

-- ---- one exchange

-- the trust file was read
abbrev HasRead : List Event → Type 0
HasRead events = (file : List ℕ) × IsReadTrust events file

none_read_of : (events : List Event) → AllByRecursion IsBesideTrust events → HasRead events → ⊥
none_read_of events each (file, read_trust is has) = none_called events each has

reply_help : IsReply door_help
reply_help = reply_names (names_told true commands) refl refl

module _ (door : Door) (rules : Rules) (before : SessionState) (line : List ℕ) (events : List Event) where
  abbrev Caused : Code → Origin → Type 0
  Caused = IsCausedAtDoor door rules before line events

  record Judged (went : Went) : Type 0 where
    answered : IsAnsweredBy went events
    caused : (why : Code) (origin : Origin) → HasError why origin events → Caused why origin
    goes_on : (why : Code) (origin : Origin) → HasError why origin events → (why ≡ code.LineTooLong → ⊥) → went ≡ On

  judged : {went : Went} → Explained events Caused events went → Judged went
  judged {went} explained = record {
    answered = is_answered events Caused explained refl;
    caused = is_caused events Caused explained;
    goes_on = λ why origin has. went_on went why (explained_on events Caused explained why origin has);
  }

  explained_as : {Of : Code → Origin → Type 0} {some : List Event} {went : Went} → ((why : Code) (origin : Origin) → Of why origin → Caused why origin)
      → Explained events Of some went → Explained events Caused some went
  explained_as each (replied first text nothing reply last) = replied first text nothing reply last
  explained_as each (failed first why origin nothing caused last) = failed first why origin nothing (each why origin caused) last
  explained_as each (silent nothing lost) = silent nothing lost

module _ (door : Door) (rules : Rules) (before : SessionState) (line : List ℕ) where
  abbrev JudgedBy : List Event → Went → Type 0
  JudgedBy events went = Judged door rules before line events went

  -- a request on the trust list
  trust_judged : (found : TrustCommandName) → trust_command (command_in line) ≡ Some found → allowed door line ≡ true → {events : List Event} {went : Went}
      → TrustExchange rules before.options (trust_request_of line) events went → JudgedBy events went
  trust_judged found named allows {events} exchanged =
      judged door rules before line events
      (explained_as door rules before line events (λ why origin cause. is_allowed allows (subst (λ n. IsCausedBy rules before line events n why origin) (sym named) cause))
      (trust_explained rules before (request_of line) (trust_request_of line) events
      (λ why is. subst (λ c. IsTrustCaused events (trust_request_of line) before.options c Agent) (sym (trust_line_form line found named why is))
      (is ∙ ap (λ c. Bad c) (trust_line_form line found named why is)))
      exchanged (stand_all events)))

  -- one of any session
  session_judged : trust_command (command_in line) ≡ None → allowed door line ≡ true → {events : List Event} {after : SessionState} {went : Went}
      → SessionExchange rules before line events after went → AllByRecursion IsPossible events → JudgedBy events went
  session_judged named allows {events} {went} exchanged possible =
      let caused = exchange_caused rules before line (never_absent possible) exchanged in
      record {
        answered = caused.answered;
        goes_on = exchange_goes_on rules before line (never_absent possible) exchanged;
        caused = λ why origin has. is_allowed allows (subst (λ n. IsCausedBy rules before line events n why origin) (sym named) (caused.caused why origin has));
      }

  allowed_judged : {command : _} → door_command door line ≡ command → allowed door line ≡ true → {events : List Event} {after : SessionState} {went : Went}
      → AllowedExchange rules before line command events after went → AllByRecursion IsPossible events → JudgedBy events went
  allowed_judged is allows doors.unset possible = judged door rules before line (Sent ok ∷ []) (replied [] ok tt reply_ok tt)
  allowed_judged is allows doors.helped possible = judged door rules before line (Sent door_help ∷ []) (replied [] door_help tt reply_help tt)
  allowed_judged is allows (doors.trusts exchanged) possible =
      let found = trust_named door line is in
      trust_judged found.0 found.1 allows exchanged
  allowed_judged is allows (doors.any exchanged) possible =
      session_judged (other_is_no_trust door line is) allows exchanged possible

  door_judged : {events : List Event} {after : SessionState} {went : Went} → DoorExchange door rules before line events after went → AllByRecursion IsPossible events → JudgedBy events went
  door_judged (doors.forbidden refuses) possible =
      judged door rules before line (Sent (failed_line code.Forbidden) ∷ []) (failed [] code.Forbidden Agent tt (forbidden refuses) tt)
  door_judged (doors.is_allowed allows exchanged) possible = allowed_judged refl allows exchanged possible

  -- a file that was read has decided the request
  read_first : {events : List Event} → IsNotTrusted events (trust_request_of line) → HasRead events
  read_first (unsaid asked) = (asked.file, asked.is_read)
  read_first (denied asked) = (asked.file, asked.is_read)
  read_first (denied_mark {file} marked) = (file, marked.is_read)

  allowed_denied : {command : _} {events : List Event} {after : SessionState} {went : Went} → AllowedExchange rules before line command events after went → IsNotTrusted events (trust_request_of line)
      → HasError code.NotTrusted Agent events
  allowed_denied doors.helped cause = absurd (none_read_of (Sent door_help ∷ []) (tt, tt) (read_first cause))
  allowed_denied doors.unset cause = absurd (none_read_of (Sent ok ∷ []) (tt, tt) (read_first cause))
  allowed_denied (doors.trusts exchanged) cause = denial_is_said rules before.options exchanged cause
  allowed_denied (doors.any {events} exchanged) cause = absurd (none_read_of events (each_request IsBesideTrust (λ event is. is) (request_of line) exchanged) (read_first cause))

  door_denied : {events : List Event} {after : SessionState} {went : Went} → DoorExchange door rules before line events after went → IsNotTrusted events (trust_request_of line)
      → HasError code.NotTrusted Agent events
  door_denied (doors.forbidden refuses) cause = absurd (none_read_of (Sent (failed_line code.Forbidden) ∷ []) (tt, tt) (read_first cause))
  door_denied (doors.is_allowed allows exchanged) cause = allowed_denied exchanged cause

  never_forbidden : {events : List Event} → allowed door line ≡ true → IsCausedAtDoor door rules before line events code.Forbidden Agent → ⊥
  never_forbidden allowing (forbidden refuses) = absurd (cc (allowing, refuses))
  never_forbidden {events} allowing (is_allowed allows cause) = never (trust_command (command_in line)) cause
    where
      never : (found : Option TrustCommandName) → IsCausedBy rules before line events found code.Forbidden Agent → ⊥
      never None cause = cause
      never (Some found) cause = cause

  forbidden_alone : {events : List Event} {after : SessionState} {went : Went} → DoorExchange door rules before line events after went → allowed door line ≡ false
      → events ≡ Sent (failed_line code.Forbidden) ∷ []
  forbidden_alone (doors.forbidden refuses) is = refl
  forbidden_alone (doors.is_allowed allows exchanged) is = absurd (cc (allows, is))

  door_caused : {events : List Event} {after : SessionState} {went : Went} → AllByRecursion IsPossible events → DoorExchange door rules before line events after went
      → CausedAtDoor door rules before line events after went
  door_caused possible exchanged =
      let judgement = door_judged exchanged possible in
      record {
        by_cause = record { exchange = exchanged; answered = judgement.answered; caused = judgement.caused };
        not_trusted = door_denied exchanged;
        forbidden = forbidden_alone exchanged;
        is_allowed = λ allows has. never_forbidden allows (judgement.caused code.Forbidden Agent has);
      }

-- ---- without faults

module _ (rules : Rules) (before : SessionState) (line : List ℕ) (events : List Event) where
  abbrev pub Because : Option TrustCommandName → Code → Type 0
  Because found why = IsCausedBy rules before line events found why Agent

  wanted_by : (found : Option TrustCommandName) → Because found code.NoMemory → HasOne events WantsMemory
  wanted_by None cause = cause
  wanted_by (Some found) cause = cause

  failed_by : (found : Option TrustCommandName) → Because found code.General → AllByRecursion IsSteady events → ⊥
  failed_by None cause steady = none_failed events cause steady
  failed_by (Some found) cause steady = no_trust_failed events cause steady

  unopened_by : (found : Option TrustCommandName) → Because found code.NoPinentry → WantsNoPrompt rules before line events ⊎ (HasCall events is_failed ⊎ HasCall events is_broken)
  unopened_by None (inl unprompted) = inl (any unprompted)
  unopened_by None (inr fails) = inr fails
  unopened_by (Some found) (inl unprompted) = inl (on_trust unprompted)
  unopened_by (Some found) (inr fails) = inr fails

  module _ (door : Door) where
    -- an error line but Forbidden has a cause that the line's command says
    pub because : (why : Code) → ¬ (code.Forbidden ≡ why) → IsCausedAtDoor door rules before line events why Agent → Because (trust_command (command_in line)) why
    because why other (forbidden refuses) = absurd (other refl)
    because why other (is_allowed allows cause) = cause

pub at_door : (door : Door) (rules : Rules) → Judging (DoorExchange door rules) (CausedAtDoor door rules) (IsCausedAtDoor door rules) (WantsNoPrompt rules)
at_door door rules = record {
  judged = λ before line events after went possible exchanged. door_caused door rules before line possible exchanged;
  has_cause = λ before line events after went caused. caused.by_cause.caused;
  goes_on = λ before line events after went possible exchanged. (door_judged door rules before line exchanged possible).goes_on;
  for_memory = λ before line events cause.
      wanted_by rules before line events (trust_command (command_in line)) (because rules before line events door code.NoMemory (λ e. absurd (cc e)) cause);
  by_failure = λ before line events cause.
      failed_by rules before line events (trust_command (command_in line)) (because rules before line events door code.General (λ e. absurd (cc e)) cause);
  unopened = λ before line events cause.
      unopened_by rules before line events (trust_command (command_in line)) (because rules before line events door code.NoPinentry (λ e. absurd (cc e)) cause);
}

-- ---- lines of any session

module _ {rules : Rules} {before : SessionState} {line : List ℕ} where
  allowed_is_session : {command : _} {events : List Event} {after : SessionState} {went : Went} → AllowedExchange rules before line command events after went → command ≡ None
      → SessionExchange rules before line events after went
  allowed_is_session doors.helped is = absurd (cc is)
  allowed_is_session doors.unset is = absurd (cc is)
  allowed_is_session (doors.trusts exchanged) is = absurd (cc is)
  allowed_is_session (doors.any exchanged) is = exchanged

  -- a line that is allowed, and whose command isn't the door's own
  pub door_is_session : {door : Door} {events : List Event} {after : SessionState} {went : Went} → DoorExchange door rules before line events after went → allowed door line ≡ true → door_command door line ≡ None
      → SessionExchange rules before line events after went
  door_is_session (doors.forbidden refuses) allows is = absurd (cc (refuses, allows))
  door_is_session (doors.is_allowed allows exchanged) allowing is = allowed_is_session exchanged is
