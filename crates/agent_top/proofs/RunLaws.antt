-- Runs of `--server`, and sessions of a daemon: the laws on single requests hold of each of their exchanges, and their prompts have their children.
use Rattle.std.{proofs.Common.{◌≡◌, ◌<◌, ◌+◌, ℕ, Bool, List, Option, Some, None, length, refl, ap, subst, ◌∙◌, arith}, specs.{List.AllByRecursion, Prelude.{⊤, IfSome, true}}}
use Rattle.{agent_ask.specs.{Events.Call, Prompters.IsCall, Session.Worlds.{Outside, Does}}, agent_commands.specs.{Requests.request_of, declared.went.{SessionEnd.SessionEnd, Went.Went}}}
use Rattle.{agent_core.{specs.{Known.{MayRefuse, TakesStep, wants, begins, leaves}, Solos.{AtSolo, TurnsSolo, at_desk}, Cores.WantsMemory}, proofs.Alone.{IsAlone, alone_turn}}, agent_origin.specs.DoorSessions.{DoorExchange, door_command}}
use Rattle.{agent_origin.specs.{Doors.allowed, PortStates.PortWorld, SessionExchanges.SessionExchange, declared.{door.Door.Door, session_state.SessionState.SessionState}}, agent_ports.specs.{HostParts.Views, Leads.Leads, Readings.Readings}}
use Rattle.{agent_ports.specs.{TrustFiles.TrustState, declared.session.SessionId.SessionId}, agent_serve.{proofs.{PromptedLines.request_prompted, PromptedSessions.{session_prompted, have_prompts}}, specs.Serves.{LinkSides, ServesOne}}}
use Rattle.agent_session.proofs.{Answering.in_session, AtOnce.all_fit, DoorAnswering.{at_door, door_is_session}, Fair.{all_fair, alone}, LongLines.{long_session, session_long, door_long}}
use Rattle.agent_session.{proofs.RunExchanges.{session_between, lawful, lawful_session}, specs.{Completeness.{IsStopped, SessionCauses}, DoorCauses.IsCausedAtDoor, Refusals.AnswersAlone, RunExchanges.LawfulExchange}}
use Rattle.{assuan_server.specs.Reading.Supply, cache_policy.specs.declared.{entry.Entry.Entry, bounds.TheConstants.MAX_MARKS, history.Held.Held, life.Limits.Limits, mark.MarkStep.MarkStep}}
use Rattle.cache_policy.specs.{declared.mark.{MarkStep.TheVariants.{Ask, Seat, Peek, Close, Put, Clear, Flush, Stop}, Way.TheVariants.{Quiet, Prompt}}, Histories.History, Policy.{Reply, ask_ruling}, Runs.{last_history, next_history}}
use Rattle.{cache_policy.specs.Turns.{Turn, Refused, MayWantMemory, with_since}, counted_lock.specs.{Passes.AtPass, Turns.{AtCountedDesk, CountedTurn, at_counted}}, key_commands.specs.Events.Event}
use Rattle.{pinentry_client.specs.{Dialogues.PinentryDoes, States.{AtPinentry, at_prompter}}, session_options.specs.declared.rules.Rules.Rules}
use Rattle.agent_top.{proofs.Answered.{server_caused, daemon_caused}, specs.{Runs.{IsWithinHistory, IsOfEverySession, IsLawfulRun, IsLawfulSession, RunHasPrompts}, Top.{Machine, RunsServer, ran}}}
use Rattle.agent_ask.specs.Session.Worlds as worlds
use Rattle.agent_core.specs.Known as known
use Rattle.cache_policy.specs.declared.mark.MarkReply.TheVariants as reply
use Rattle.agent_top.specs.Top as top

-- ---- the desk of a run: nobody else steps there

quiet_never_opens : (entry : Option Entry) (stops : Bool) (held : Option Held) (late : Bool) → ask_ruling entry Quiet stops held late ≡ Reply reply.Open → ⊥
quiet_never_opens None stops held late is = cc is
quiet_never_opens (Some found) stops held late is = cc is

-- what wants memory for itself may want some
what_wants_memory_may_want_some : (limits : Limits) (next : History) (asked : MarkStep) (moment : ℕ) → WantsMemory limits next asked moment → MayWantMemory asked
what_wants_memory_may_want_some limits next (Put id mode life secret) moment wanted = tt
what_wants_memory_may_want_some limits next (Ask id mode Prompt since) moment wanted = tt
what_wants_memory_may_want_some limits next (Ask id mode Quiet since) moment wanted = quiet_never_opens _ _ _ _ wanted
what_wants_memory_may_want_some limits next (Seat under since) moment wanted = wanted.0
what_wants_memory_may_want_some limits next (Peek id mode) moment wanted = wanted
what_wants_memory_may_want_some limits next (Close ticket keep) moment wanted = wanted
what_wants_memory_may_want_some limits next (Clear id mode) moment wanted = wanted
what_wants_memory_may_want_some limits next Flush moment wanted = wanted
what_wants_memory_may_want_some limits next Stop moment wanted = wanted

refused_within_may_want_some : (limits : Limits) (last : History) (session : SessionId) (asked : MarkStep) (moment : ℕ) → length last.marks + 1 < MAX_MARKS → MayRefuse limits last session asked moment → MayWantMemory asked
refused_within_may_want_some limits last session asked moment within (wants wanted) = what_wants_memory_may_want_some limits (next_history last) asked moment wanted
refused_within_may_want_some limits last session asked moment within (begins no_close full free) = absurd (omega (arith, within, full))
refused_within_may_want_some limits last session asked moment within (leaves answer no_close full rules out) = absurd (omega (arith, within, full))

refused_step_may_want_some : {limits : Limits} {run after : List History} {session : SessionId} {moment : ℕ} {asked : MarkStep} → IfSome (last_history run) (λ last. length last.marks + 1 < MAX_MARKS)
    → TakesStep limits run session moment asked Refused after → MayWantMemory asked
refused_step_may_want_some within (known.marked last answer last_is below rules shows is) = absurd shows
refused_step_may_want_some {limits} {session} {moment} {asked} within (known.refused last last_is below why is) =
    refused_within_may_want_some limits last session asked moment (subst (λ (h : Option History). IfSome h (λ last. length last.marks + 1 < MAX_MARKS)) last_is within) why

-- a turn within a history finds no memory only for a step that may want some
refused_turn_may_want_some : (before : AtSolo) (asked : MarkStep) (after : AtSolo) → IsAlone before → IsWithinHistory before → TurnsSolo before asked Refused after → MayWantMemory asked
refused_turn_may_want_some before asked after alone within turns = refused_step_may_want_some within (alone_turn asked before Refused after alone turns).takes.takes

-- nor does one at the counted lock
wants_as_asked : (since : Option ℕ) (asked : MarkStep) → MayWantMemory (with_since since asked) → MayWantMemory asked
wants_as_asked since (Put id mode life secret) wanted = tt
wants_as_asked since (Ask id mode Prompt first) wanted = tt
wants_as_asked since (Ask id mode Quiet first) wanted = wanted
wants_as_asked since (Seat under first) wanted = wanted
wants_as_asked since (Peek id mode) wanted = wanted
wants_as_asked since (Close ticket keep) wanted = wanted
wants_as_asked since (Clear id mode) wanted = wanted
wants_as_asked since Flush wanted = wanted
wants_as_asked since Stop wanted = wanted

refused_at_the_lock_may_want_some : {before after : AtCountedDesk Readings} {asked : MarkStep} → CountedTurn (λ (readings : Readings). readings) before asked Refused after → MayWantMemory asked
refused_at_the_lock_may_want_some {before} {asked = asked} does =
    let wanted = does.turns.refused refl in
    wants_as_asked does.turns.handed asked (what_wants_memory_may_want_some before.pass.limits (next_history wanted.last) (with_since does.turns.handed asked) _ wanted.wants)

turn_leaves_alone : (before : AtSolo) (asked : MarkStep) (turn : Turn) (after : AtSolo) → TurnsSolo before asked turn after → IsAlone before → IsAlone after
turn_leaves_alone before asked turn after turns alone =
    let step = alone_turn asked before turn after alone turns in
    record { script = ap (λ (s : AtSolo). s.script) step.same ∙ alone.script; nobody = ap (λ (s : AtSolo). s.holder) step.same ∙ alone.nobody }

event_leaves_alone : {supply : Supply} (before : Outside (PortWorld TurnsSolo PinentryDoes)) (event : Event) (after : Outside (PortWorld TurnsSolo PinentryDoes))
    → Does (PortWorld TurnsSolo PinentryDoes) supply before event after → IsAlone before.desk → IsAlone after.desk
event_leaves_alone before event after (worlds.received known_so needed) alone = alone
event_leaves_alone before event after worlds.sent alone = alone
event_leaves_alone before event after worlds.cut alone = alone
event_leaves_alone before event after (worlds.asked known_so needed) alone = alone
event_leaves_alone before event after (worlds.not_asked unsent split) alone = alone
event_leaves_alone before event after (worlds.turned {taken} {desk} does) alone = turn_leaves_alone before.desk taken.asked taken.turn desk does alone
event_leaves_alone before event after (worlds.ported does) alone = alone

-- ---- the laws

module _ (promise : (before : AtPinentry) (call : Call) (after : AtPinentry) → PinentryDoes before call after → IsCall (at_prompter before) call (at_prompter after)) where
  pub server_prompts : {rules : Rules} {before after : Machine} {number : ℕ} (runs : RunsServer rules before number after) → RunHasPrompts runs
  server_prompts {rules} {before} {after} (ran run) =
      have_prompts TurnsSolo promise rules.pinentry.items before.launches after.launches refl refl
      (session_prompted (SessionExchange rules) (λ kept line events now went exchanged. request_prompted _ exchanged) run.served.session) run.served.leads
  server_prompts top.no_memory = tt

  pub server_lawful : {rules : Rules} {before after : Machine} {number : ℕ} (runs : RunsServer rules before number after) → IsLawfulRun runs
  server_lawful {rules} {before} (ran run) =
      lawful_session TurnsSolo PinentryDoes at_prompter promise
      (session_between (SessionExchange rules) (LawfulExchange TurnsSolo PinentryDoes at_prompter rules (SessionCauses rules) (λ line. ⊤) IsWithinHistory) IsAlone event_leaves_alone
      (lawful TurnsSolo PinentryDoes at_desk at_prompter (λ b asked turn a turns. turns.is) promise rules IsWithinHistory IsAlone (λ b asked a alone within refused. refused_turn_may_want_some b asked a alone within refused)
      (in_session rules) (λ b line events a went caused. caused.answered) (λ line. ⊤) (λ b line events a went exchange is. exchange))
      _ _ (record { script = refl; nobody = refl }) run.served.session run.served.leads)
      (long_session (session_long rules) (server_caused promise (ran run))) run.served.leads
  server_lawful top.no_memory = tt

  module _ {La C R K T : Type 0} {views : Views La C R K} {trusts : T → TrustState} {folder : List ℕ} {rules : Rules} {door : Door} {session : SessionId} {before after : LinkSides} {pass now : AtPass} {end : SessionEnd}
      (one : ServesOne views trusts folder rules door session before pass end after now) where
    pub daemon_lawful : IsLawfulSession one
    daemon_lawful =
        lawful_session (CountedTurn (λ (readings : Readings). readings)) PinentryDoes at_prompter promise
        (session_between (DoorExchange door rules)
        (LawfulExchange (CountedTurn (λ (readings : Readings). readings)) PinentryDoes at_prompter rules (IsCausedAtDoor door rules) (IsOfEverySession door) (λ (desk : AtCountedDesk Readings). ⊤))
        (λ (desk : AtCountedDesk Readings). ⊤) (λ b event a does so. tt)
        (lawful (CountedTurn (λ (readings : Readings). readings)) PinentryDoes (λ (desk : AtCountedDesk Readings). at_counted desk.pass desk.session desk.out) at_prompter
        (λ b asked turn a does. does.is) promise rules (λ (desk : AtCountedDesk Readings). ⊤) (λ (desk : AtCountedDesk Readings). ⊤) (λ b asked a so spares does. refused_at_the_lock_may_want_some does)
        (at_door door rules) (λ b line events a went caused. caused.by_cause.answered) (IsOfEverySession door) (λ b line events a went exchange is. door_is_session exchange is.0 is.1))
        _ _ tt one.served.session one.served.leads)
        (long_session (door_long door rules) (daemon_caused promise one)) one.served.leads

-- a request on the cache alone that is allowed wants no memory
pub daemon_alone : {door : Door} {rules : Rules} {kept now : SessionState} {line : List ℕ} {events : List Event} {went : Went} {supply : Supply} {before after : Outside (PortWorld (CountedTurn (λ (readings : Readings). readings)) PinentryDoes)}
    → DoorExchange door rules kept line events now went → allowed door line ≡ true → door_command door line ≡ None
    → Leads (Does (PortWorld (CountedTurn (λ (readings : Readings). readings)) PinentryDoes) supply) before events after → AllByRecursion (λ event. ¬ IsStopped event) events → AnswersAlone (request_of line) events
daemon_alone {rules = rules} {line = line} exchange allows is leads still =
    alone rules (request_of line) (door_is_session exchange allows is)
    (all_fit (CountedTurn (λ (readings : Readings). readings)) PinentryDoes (λ (desk : AtCountedDesk Readings). at_counted desk.pass desk.session desk.out) (λ before asked turn after does. does.is) leads)
    (all_fair (CountedTurn (λ (readings : Readings). readings)) PinentryDoes (λ before after asked does. refused_at_the_lock_may_want_some does) leads) still
