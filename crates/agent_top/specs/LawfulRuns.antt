-- What the laws on whole runs say of what the agent does: of a run of a server, of a daemon with each of its workers and each of their sessions, and of a load. This is the project's own.
use Rattle.std.specs.{List.AllByRecursion, Prelude.{◌<◌, ◌+◌, ◌-◌, ◌^◌, ℕ, List, [], ◌∷◌, Option, None, ⊤}}
use Rattle.{agent_ask.specs.Session.SessionEvents.turns_in, agent_commands.specs.{Requests.request_of, Talks.Session, declared.went.SessionEnd.SessionEnd}, agent_origin.specs.{DoorSessions.DoorExchange, PortStates.PortWorld}}
use Rattle.agent_origin.specs.{OuterPrompts.{no_words, PromptsName}, OuterRuns.LeavesDesk, OuterTurns.LeavesCache, SessionExchanges.kept_at_start}
use Rattle.agent_origin.specs.{Sessions.supply_of, declared.{door.Door.{Door, TheVariants.{Home, Outer}}, session_state.SessionState.SessionState}}
use Rattle.{agent_ports.specs.{Counts.Rose, HostParts.Views, Sides.Side, TrustFiles.TrustState, declared.{listener.Next.TheVariants.Stopped, session.SessionId.SessionId}}, agent_serve.specs.Prompts.HavePrompts}
use Rattle.{agent_serve.specs.{Serves.{LinkSides, ServesOne, at_pass}, Working.{HostViews, Post, ServesLinks, none, one_more, Works, WorkEach}}, agent_session.specs.Causes.Has}
use Rattle.agent_session.specs.{Completeness.{AnswersAll, CausedAtDoor, FaultlessAtDoor, IsStopped, Remembers}, OwnPassphrases.HandsIn, Refusals.AnswersAlone, RunExchanges.{ExchangeBetween, Saying}}
use Rattle.{cache_policy.specs.declared.mark.Mark.Mark, counted_lock.specs.{Passes.AtPass, Turns.{CountedTurn, at_counted}}, pinentry_client.specs.Dialogues.PinentryDoes, session_options.specs.declared.rules.Rules.Rules}
use Rattle.agent_top.specs.{Completeness.{NoLinkFault, NoFault, NoFaultOfOne, SessionEndsWell, IsAnsweredRun, IsCausedRun, DaemonEndsWell, LoadEndsWell}, Daemon.{Rounds, one_round, one_more_round, SumsUp, RunsDaemon, summed, no_listener}}
use Rattle.agent_top.specs.{Load.RunsLoad, OwnPassphrases.{IsOwnTurn, IsOfSession}, Runs.{IsLawfulRun, IsLawfulSession, IsOfEverySession, RunHasPrompts, first_state}, Top.{Machine, RunsServer}}
use Rattle.agent_top.specs.Daemon as daemon

-- a run of a server, and what the laws say of it
pub record LawfulServer (rules : Rules) (before : Machine) (number : ℕ) (after : Machine) : Type 0 where
  pub run : RunsServer rules before number after
  pub each_request : IsLawfulRun run
  pub prompts : RunHasPrompts run
  pub causes : IsCausedRun run
  pub ends_well : NoLinkFault before after → SessionEndsWell number
  pub answered : NoFault before after → IsAnsweredRun rules before number after run

-- a run of a load, and what the law says of it
pub record LawfulLoad (number : ℕ) (before : Side) (result : ℕ) (after : Side) : Type 0 where
  pub run : RunsLoad number before result after
  pub ends_well : ¬ Rose before.faults after.faults → LoadEndsWell result

-- what is said of a restricted session
abbrev pub IfOuter : Door → Type 0 → Type 0
IfOuter Home P = ⊤
IfOuter Outer P = P

-- What is said of an exchange at a door of the daemon: one that is on the cache alone wants no memory.
abbrev pub WantsNone : Door → Saying (PortWorld (CountedTurn (λ readings. readings)) PinentryDoes) SessionState
WantsNone door before line events after went = IsOfEverySession door line → AllByRecursion (λ event. ¬ IsStopped event) events → AnswersAlone (request_of line) events

-- What the laws say of a session of a daemon.
pub record LawfulOne {La C R K T : Type 0} {views : Views La C R K} {trusts : T → TrustState} {folder : List ℕ} {rules : Rules} {door : Door} {session : SessionId} {before after : LinkSides}
    {pass now : AtPass} {end : SessionEnd} (one : ServesOne views trusts folder rules door session before pass end after now) : Type 0 where
  pub each_request : IsLawfulSession one
  pub causes : Session (CausedAtDoor door rules) (kept_at_start rules) one.served.events end
  pub answered : NoFaultOfOne one → AllByRecursion Remembers one.served.events → AnswersAll (FaultlessAtDoor door rules) rules one.served.events end
  pub own : (mark : Mark) → Has mark one.own → HandsIn mark.step → IsOwnTurn door rules one.served.events mark
  pub alone : Session (ExchangeBetween {w = PortWorld (CountedTurn (λ readings. readings)) PinentryDoes} (supply_of before.input.bytes) (DoorExchange door rules) (WantsNone door))
      (first_state (kept_at_start rules)
      (at_pass rules session before (record pass { sessions = session.count + 1 }) (views.readings one.parts.clock) (views.launches one.parts.launcher) (views.keys one.parts.keys)
      (views.draws one.parts.dice) (trusts one.trust_file)))
      one.served.events end
  pub prompts : HavePrompts rules.pinentry.items one.served.events (views.launches one.parts.launcher) one.launches_now
  -- a restricted one stores and clears nothing, and its prompts name no terminal
  pub leaves_cache : IfOuter door (LeavesCache one.served.events)
  pub leaves_run : IfOuter door (LeavesDesk (at_counted (record pass { sessions = session.count + 1 }) session None) (turns_in one.served.events) (at_counted now session None))
  pub names : IfOuter door (PromptsName no_words one.served.events)

module _ {Ls E Li La C R K T : Type 0} (host : HostViews Ls E Li La C R K T) (rules : Rules) where
  -- of each session that a worker served
  abbrev pub LawfulLinks : {post : Post Ls} {first now : AtPass} {early back : E} → ServesLinks host rules post first early now back → Type 0
  LawfulLinks none = ⊤
  LawfulLinks (one_more earlier answered next) = LawfulLinks earlier × LawfulOne next.serves

  -- of a worker, which ends for a cause
  pub record LawfulWork {post : Post Ls} {pass now : AtPass} {ear back : E} (works : Works host rules post pass ear now back) : Type 0 where
    pub each_session : LawfulLinks works.serves
    pub ends : ¬ Rose (host.faults ear) (host.faults back) → now.sessions < 2 ^ 64 - 1 → (last : E) × host.answers post.listener last Stopped back × host.is_told post.listener

  module _ (listener : Ls) (extra : Option Ls) where
    -- of each worker in a round
    abbrev pub LawfulRound : (passes : List AtPass) (ears : List E) (now : List AtPass) (back : List E) → WorkEach host rules listener extra passes ears now back → Type 0
    LawfulRound (pass ∷ []) (ear ∷ ears) (now ∷ later) (back ∷ behind) works = LawfulWork works.0
    LawfulRound (pass ∷ next ∷ passes) (ear ∷ ears) (now ∷ later) (back ∷ behind) works = LawfulWork works.0 × LawfulRound (next ∷ passes) ears later behind works.1
    LawfulRound _ _ _ _ works = ⊤

    -- and in each round
    abbrev pub LawfulRounds : {began now : List AtPass} {early ears : List E} → Rounds host.faults (WorkEach host rules listener extra) began early now ears → Type 0
    LawfulRounds (one_round {began} {worked} {early} {ears} works looks) = LawfulRound began early worked ears works
    LawfulRounds (one_more_round {passes} {worked} {ears} {later} earlier goes_on works looks) = LawfulRounds earlier × LawfulRound passes ears worked later works

  -- of a daemon that came to its end: each passphrase in its one run is of a session's own line
  pub record LawfulSums {listens listens_now number : ℕ} {before after : Side} (sums : SumsUp host rules listens before number listens_now after) : Type 0 where
    pub each_session : LawfulRounds sums.listener sums.extra sums.rounds
    pub own : (mark : Mark) → Has mark sums.closed.run → HandsIn mark.step → IsOfSession host rules mark

  abbrev pub IsLawfulDaemon : {listens listens_now number : ℕ} {before after : Side} → RunsDaemon host rules listens before number listens_now after → Type 0
  IsLawfulDaemon (summed sums) = LawfulSums sums
  IsLawfulDaemon (no_listener rose) = ⊤
  IsLawfulDaemon daemon.no_memory = ⊤

  -- a run of a daemon, and what the laws say of it
  pub record LawfulDaemon (listens : ℕ) (before : Side) (number listens_now : ℕ) (after : Side) : Type 0 where
    pub run : RunsDaemon host rules listens before number listens_now after
    pub lawful : IsLawfulDaemon run
    pub ends_well : ¬ Rose listens listens_now → ¬ Rose before.faults after.faults → DaemonEndsWell number
