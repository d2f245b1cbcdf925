-- Runs of the agent, and sessions of its daemon: each error line has its cause, and where no count rose each request is answered.
use Rattle.std.{specs.List.AllByRecursion, proofs.Common.{◌+◌, ◌-◌, ◌^◌, ℕ, List, min, arith}}
use Rattle.{agent_ask.specs.{Events.Call, Prompters.IsCall}, agent_commands.specs.{Talks.Session, declared.went.SessionEnd.SessionEnd}, agent_core.specs.Solos.TurnsSolo, agent_origin.specs.SessionExchanges.kept_at_start}
use Rattle.{agent_origin.specs.declared.door.Door.Door, agent_ports.specs.{Counts.Rose, HostParts.Views, Readings.Readings, TrustFiles.TrustState, declared.session.SessionId.SessionId}, agent_serve.specs.Serves.{LinkSides, ServesOne}}
use Rattle.{agent_session.{proofs.{Answering.{in_session, each_caused, all_answered}, DoorAnswering.at_door}, specs.Completeness.{Remembers, AnswersAll, CausedAtDoor, FaultlessAtDoor}}, counted_lock.specs.{Passes.AtPass, Turns.CountedTurn}}
use Rattle.{pinentry_client.specs.{Dialogues.PinentryDoes, States.{AtPinentry, at_prompter}}, session_options.specs.declared.rules.Rules.Rules}
use Rattle.agent_top.{specs.{Completeness.{NoFault, NoFaultOfOne, IsAnsweredRun, answered, no_session, IsCausedRun}, Top.{Machine, RunsServer, ran}}, proofs.EndingWell.ends_by_client}
use Rattle.agent_top.specs.Top as top

-- the count of a pinentry without a child is its launcher's
stands_still : (before after : ℕ) → ¬ Rose before after → ¬ Rose (min (before + 0) (2 ^ 64 - 1)) (min (after + 0) (2 ^ 64 - 1))
stands_still before after still rose = still (omega (arith, rose))

module _ (promise : (before : AtPinentry) (call : Call) (after : AtPinentry) → PinentryDoes before call after → IsCall (at_prompter before) call (at_prompter after)) where
  pub server_answered : {rules : Rules} {before after : Machine} {number : ℕ} (runs : RunsServer rules before number after) → NoFault before after
      → IsAnsweredRun rules before number after runs
  server_answered {rules} {before} {after} (ran run) still =
      answered (ends_by_client run still.link)
      (all_answered (in_session rules) TurnsSolo PinentryDoes at_prompter promise rules _ _ run.end run.served (record {
        input = still.link.input;
        output = still.link.output;
        prompter = stands_still before.launches.faults after.launches.faults still.launches;
        keys = still.keys;
        dice = still.dice;
        trust = λ rose. absurd (omega (arith, rose));
      }))
  server_answered top.no_memory still = no_session

  pub server_caused : {rules : Rules} {before after : Machine} {number : ℕ} (runs : RunsServer rules before number after) → IsCausedRun runs
  server_caused {rules} (ran run) = each_caused (in_session rules) TurnsSolo PinentryDoes at_prompter promise rules _ _ run.end run.served
  server_caused top.no_memory = tt

  module _ {La C R K T : Type 0} {views : Views La C R K} {trusts : T → TrustState} {folder : List ℕ} {rules : Rules} {door : Door} {session : SessionId} {before after : LinkSides} {pass now : AtPass} {end : SessionEnd}
      (one : ServesOne views trusts folder rules door session before pass end after now) where
    pub daemon_answered : NoFaultOfOne one → AllByRecursion Remembers one.served.events → AnswersAll (FaultlessAtDoor door rules) rules one.served.events end
    daemon_answered still remembers =
        all_answered (at_door door rules) (CountedTurn (λ (readings : Readings). readings)) PinentryDoes at_prompter promise rules _ _ end one.served
        (record {
          input = still.input;
          output = still.output;
          prompter = stands_still (views.launches one.parts.launcher).faults one.launches_now.faults still.launches;
          keys = still.keys;
          dice = still.dice;
          trust = still.trust;
        })
        remembers

    pub daemon_caused : Session (CausedAtDoor door rules) (kept_at_start rules) one.served.events end
    daemon_caused = each_caused (at_door door rules) (CountedTurn (λ (readings : Readings). readings)) PinentryDoes at_prompter promise rules _ _ end one.served
