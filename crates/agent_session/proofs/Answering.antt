-- Sessions whose exchanges are all caused, and whose requests are all answered.
use Rattle.std.{specs.List.AllByRecursion, proofs.Common.{◌≡◌, ◌⊎◌, ℕ, List, [], ◌∷◌, ◌++◌, refl, sym, subst, inl, inr}}
use Rattle.{agent_ask.specs.{Events.Call, Session.{PortCalls.{NotDrawn, Keys, Dice, NoMemory}, SessionEvents.{Sent, Cut, Port, CutAtLast}}, Prompters.{AtPrompter, IsCall, is_failed}}, session_client.specs.declared.code.Code.Code}
use Rattle.{assuan_server.specs.declared.errors.Origin.{Origin, TheVariants.Agent}, cache_policy.specs.{declared.mark.MarkStep.MarkStep, Turns.Turn}, session_options.specs.declared.rules.Rules.Rules}
use Rattle.{agent_commands.specs.{Requests.request_of, Talks.Session, declared.went.{SessionEnd.{SessionEnd, TheVariants.{ReadFault, WriteFault}}, Went.{Went, TheVariants.On}}}, agent_origin.specs.PortStates.PortWorld}
use Rattle.{agent_origin.specs.{SessionExchanges.{SessionExchange, kept_at_start}, Sessions.{Surroundings, ServesSession}, declared.session_state.SessionState.SessionState}, key_commands.{specs.Events.Event, proofs.EachEvent.each_append}}
use Rattle.agent_session.specs.Causes.{HasOne, one, HasCall, called, HasTrustCall, called_trust, WantsMemory, FailsAtKeysOrDice, FailsAtTrust, IsUnprompted, is_broken}
use Rattle.agent_session.specs.Completeness.{HasError, Exchanges, Causes, Remembers, FaultlessExchange, IsFaultless, NoCountRose, AnswersAll, SessionCauses, CausedInSession}
use Rattle.agent_session.proofs.{Counts.Completing.{IsPossible, IsSteady, never_absent, StandStill, all_steady, all_possible}, Causes.KeyExplained.{exchange_caused, exchange_goes_on}, Standing.{each_left, each_right, each_has}}
use Rattle.agent_session.proofs.Decisions.Talking.{session_whole, session_moved}
use Rattle.session_client.specs.declared.code.Code.TheVariants as code

-- nothing that stands still has failed
steady_fails : (event : Event) → IsSteady event → FailsAtKeysOrDice event → ⊥
steady_fails (Port (Keys call)) steady fails = steady fails
steady_fails (Port (Dice (NotDrawn count))) steady fails = steady
steady_fails _ steady fails = fails

pub none_failed : (events : List Event) → HasOne events FailsAtKeysOrDice → AllByRecursion IsSteady events → ⊥
none_failed events (one event fails has) steady = steady_fails event (each_has IsSteady events steady has) fails

pub no_trust_failed : (events : List Event) → HasTrustCall events FailsAtTrust → AllByRecursion IsSteady events → ⊥
no_trust_failed events (called_trust call fails has) steady = each_has IsSteady events steady has fails

-- Exchanges of lines that are judged: each is caused, where its events are possible. What is said of the causes of three errors makes one faultless in
-- which nothing failed and no memory was wanted.
pub record Judging (exchange caused : Exchanges) (cause : Causes) (unprompted : SessionState → List ℕ → List Event → Type 0) : Type 0 where
  pub judged : (before : SessionState) (line : List ℕ) (events : List Event) (after : SessionState) (went : Went) → AllByRecursion IsPossible events → exchange before line events after went
      → caused before line events after went
  pub has_cause : (before : SessionState) (line : List ℕ) (events : List Event) (after : SessionState) (went : Went) → caused before line events after went
      → (why : Code) (origin : Origin) → HasError why origin events → cause before line events why origin
  pub for_memory : (before : SessionState) (line : List ℕ) (events : List Event) → cause before line events code.NoMemory Agent → HasOne events WantsMemory
  pub by_failure : (before : SessionState) (line : List ℕ) (events : List Event) → cause before line events code.General Agent → AllByRecursion IsSteady events → ⊥
  pub goes_on : (before : SessionState) (line : List ℕ) (events : List Event) (after : SessionState) (went : Went) → AllByRecursion IsPossible events → exchange before line events after went
      → (why : Code) (origin : Origin) → HasError why origin events → (why ≡ code.LineTooLong → ⊥) → went ≡ On
  pub unopened : (before : SessionState) (line : List ℕ) (events : List Event) → cause before line events code.NoPinentry Agent
      → unprompted before line events ⊎ (HasCall events is_failed ⊎ HasCall events is_broken)

-- what holds of the events of a session whose requests are all answered
record Calm (events : List Event) : Type 0 where
  possible : AllByRecursion IsPossible events
  steady : AllByRecursion IsSteady events
  remembers : AllByRecursion Remembers events

calm_left : (first more : List Event) → Calm (first ++ more) → Calm first
calm_left first more calm = record {
  possible = each_left IsPossible first more calm.possible;
  steady = each_left IsSteady first more calm.steady;
  remembers = each_left Remembers first more calm.remembers;
}

calm_right : (first more : List Event) → Calm (first ++ more) → Calm more
calm_right first more calm = record {
  possible = each_right IsPossible first more calm.possible;
  steady = each_right IsSteady first more calm.steady;
  remembers = each_right Remembers first more calm.remembers;
}

possible_uncut : (events done : List Event) → CutAtLast events done → AllByRecursion IsPossible done → AllByRecursion IsPossible events
possible_uncut events done last possible =
    subst (AllByRecursion IsPossible) (sym last.whole)
    (each_append IsPossible last.before (Sent (last.sent ++ last.unsent) ∷ []) (each_left IsPossible last.before (Cut last.sent ∷ []) (subst (AllByRecursion IsPossible) last.done_is possible)) (tt, tt))

module _ {exchange caused : Exchanges} {cause : Causes} {unprompted : SessionState → List ℕ → List Event → Type 0} (judging : Judging exchange caused cause unprompted) where
  module _ (before : SessionState) (line : List ℕ) (events : List Event) (after : SessionState) (went : Went) (calm : Calm events) where
    none_wanted : HasOne events WantsMemory → ⊥
    none_wanted (one event wants has) = each_has Remembers events calm.remembers has wants

    no_call_failed : HasCall events is_failed → ⊥
    no_call_failed (called call fails has) = each_has IsSteady events calm.steady has fails

    not_failed : unprompted before line events ⊎ (HasCall events is_failed ⊎ HasCall events is_broken) → unprompted before line events ⊎ HasCall events is_broken
    not_failed (inl none) = inl none
    not_failed (inr (inl failed)) = absurd (no_call_failed failed)
    not_failed (inr (inr broken)) = inr broken

    faultless : exchange before line events after went → FaultlessExchange caused unprompted before line events after went
    faultless exchanged =
        let is_caused = judging.judged before line events after went calm.possible exchanged in
        let because = judging.has_cause before line events after went is_caused in
        record {
          caused = is_caused;
          remembers = λ has. none_wanted (judging.for_memory before line events (because code.NoMemory Agent has));
          specific = λ has. judging.by_failure before line events (because code.General Agent has) calm.steady;
          asks = λ has. not_failed (judging.unopened before line events (because code.NoPinentry Agent has));
        }

  module _ {D P : Type 0} (turned : D → MarkStep → Turn → D → Type 0) (prompted : P → Call → P → Type 0) (at : P → AtPrompter)
      (promise : (before : P) (call : Call) (after : P) → prompted before call after → IsCall (at before) call (at after))
      (rules : Rules) (before after : Surroundings (PortWorld turned prompted)) (end : SessionEnd)
      (served : ServesSession {w = PortWorld turned prompted} exchange (kept_at_start rules) before end after) where
    pub each_caused : Session caused (kept_at_start rules) served.events end
    each_caused =
        session_moved exchange caused (AllByRecursion IsPossible) (each_left IsPossible) (each_right IsPossible)
        (λ kept line events now went possible exchanged. judging.judged kept line events now went possible exchanged) possible_uncut served.session
        (all_possible turned prompted at promise served.leads)

    ends_faultless : (how : SessionEnd) → how ≡ end → NoCountRose turned prompted at before after → IsFaultless how
    ends_faultless ReadFault is still = still.input (served.read_fault (sym is))
    ends_faultless WriteFault is still = still.output (served.write_fault (sym is))
    ends_faultless _ is still = tt

    pub all_answered : NoCountRose turned prompted at before after → AllByRecursion Remembers served.events → AnswersAll (FaultlessExchange caused unprompted) rules served.events end
    all_answered still remembers =
        let well : IsFaultless end = ends_faultless end refl still in
        let calm : StandStill turned prompted at promise before.ends after.ends = record { prompter = still.prompter; keys = still.keys; dice = still.dice; trust = still.trust } in
        record {
          ended = well;
          session =
              session_whole exchange (FaultlessExchange caused unprompted) Calm calm_left calm_right
              (λ kept line events now went fine exchanged. faultless kept line events now went fine exchanged) served.session well
              (record { possible = all_possible turned prompted at promise served.leads; steady = all_steady turned prompted at promise served.leads calm; remembers = remembers });
        }

-- ---- sessions without doors

pub in_session : (rules : Rules) → Judging (SessionExchange rules) (CausedInSession rules) (SessionCauses rules) (λ before line events. IsUnprompted events rules before (request_of line))
in_session rules = record {
  judged = λ before line events after went possible exchanged. exchange_caused rules before line (never_absent possible) exchanged;
  has_cause = λ before line events after went caused. caused.caused;
  goes_on = λ before line events after went possible exchanged. exchange_goes_on rules before line (never_absent possible) exchanged;
  for_memory = λ before line events cause. cause;
  by_failure = λ before line events cause steady. none_failed events cause steady;
  unopened = λ before line events cause. cause;
}
