-- The laws on whole runs, over what the agent does.
use Rattle.std.{specs.Prelude.⊤, proofs.Common.{◌+◌, ℕ, List, [], ◌∷◌, Option, None, refl}}
use Rattle.{agent_ask.specs.{Events.Call, Prompters.IsCall, Session.SessionEvents.turns_in}, agent_commands.specs.declared.went.SessionEnd.SessionEnd, agent_origin.proofs.{OuterPrompts.session_unnamed, OuterRuns.leaves_desk}}
use Rattle.agent_origin.{proofs.{OuterSessions.outer_leaves, Turning.turns_lead}, specs.{DoorSessions.DoorExchange, OuterPrompts.{no_words, PromptsName}, OuterRuns.LeavesDesk, OuterTurns.LeavesCache, SessionExchanges.kept_at_start}}
use Rattle.{agent_origin.specs.declared.door.Door.{Door, TheVariants.{Home, Outer}}, agent_ports.specs.{HostParts.Views, Readings.Readings, Sides.Side, TrustFiles.TrustState, declared.session.SessionId.SessionId}}
use Rattle.agent_serve.{proofs.{PromptedLines.door_prompted, PromptedSessions.{session_prompted, have_prompts}, Works.told_where_nothing_failed}, specs.Serves.{LinkSides, ServesOne}}
use Rattle.{agent_serve.specs.Working.{HostViews, Post, ServesLinks, none, one_more, Works, WorkEach}, agent_session.proofs.RunExchanges.session_between, counted_lock.specs.{Passes.AtPass, Turns.{AtCountedDesk, CountedTurn, at_counted}}}
use Rattle.{pinentry_client.{proofs.Calling.is_call, specs.{Dialogues.PinentryDoes, States.{AtPinentry, at_prompter}}}, session_options.specs.declared.rules.Rules.Rules}
use Rattle.agent_top.proofs.{Answered.{server_answered, server_caused, daemon_answered, daemon_caused}, EndingWell.{server_ends_well, daemon_ends_well, load_ends_well}, OwnPassphrases.{own_turn, of_session}}
use Rattle.agent_top.{proofs.RunLaws.{server_lawful, server_prompts, daemon_lawful, daemon_alone}, specs.Daemon.{Rounds, one_round, one_more_round, RunsDaemon, summed, no_listener}}
use Rattle.agent_top.specs.{LawfulRuns.{LawfulServer, LawfulLoad, LawfulDaemon, LawfulOne, LawfulLinks, LawfulWork, LawfulRound, LawfulRounds, IsLawfulDaemon, IfOuter, WantsNone}, Load.RunsLoad, Top.{Machine, RunsServer}}
use Rattle.agent_top.specs.Daemon as daemon

-- the pinentry is a prompter
is_prompter : (before : AtPinentry) (call : Call) (after : AtPinentry) → PinentryDoes before call after → IsCall (at_prompter before) call (at_prompter after)
is_prompter before call after does = is_call does

pub lawful_server : {rules : Rules} {before after : Machine} {number : ℕ} → RunsServer rules before number after → LawfulServer rules before number after
lawful_server run = record {
  run = run;
  each_request = server_lawful is_prompter run;
  prompts = server_prompts is_prompter run;
  causes = server_caused is_prompter run;
  ends_well = server_ends_well run;
  answered = server_answered is_prompter run;
}

pub lawful_load : {number result : ℕ} {before after : Side} → RunsLoad number before result after → LawfulLoad number before result after
lawful_load run = record { run = run; ends_well = load_ends_well run }

-- ---- sessions of a daemon

module _ {La C R K T : Type 0} {views : Views La C R K} {trusts : T → TrustState} {folder : List ℕ} {rules : Rules} {session : SessionId} {before after : LinkSides} {pass now : AtPass} {end : SessionEnd} where
  -- a restricted one
  leaves_cache : (door : Door) (one : ServesOne views trusts folder rules door session before pass end after now) → IfOuter door (LeavesCache one.served.events)
  leaves_cache Home one = tt
  leaves_cache Outer one = outer_leaves rules one.served.session

  leaves_run : (door : Door) (one : ServesOne views trusts folder rules door session before pass end after now)
      → IfOuter door (LeavesDesk (at_counted (record pass { sessions = session.count + 1 }) session None) (turns_in one.served.events) (at_counted now session None))
  leaves_run Home one = tt
  leaves_run Outer one =
      leaves_desk (λ (desk : AtCountedDesk Readings). at_counted desk.pass desk.session desk.out) (CountedTurn (λ (readings : Readings). readings)) (λ before asked turn after does. does.is) _ _
      (turns_in one.served.events) (outer_leaves rules one.served.session) (turns_lead one.served.leads)

  names : (door : Door) (one : ServesOne views trusts folder rules door session before pass end after now) → IfOuter door (PromptsName no_words one.served.events)
  names Home one = tt
  names Outer one = session_unnamed rules {start = kept_at_start rules} refl one.served.session

  module _ {door : Door} (one : ServesOne views trusts folder rules door session before pass end after now) where
    lawful_one : LawfulOne one
    lawful_one = record {
      each_request = daemon_lawful is_prompter one;
      causes = daemon_caused is_prompter one;
      answered = daemon_answered is_prompter one;
      own = own_turn one;
      alone =
          session_between (DoorExchange door rules) (WantsNone door) (λ (desk : AtCountedDesk Readings). ⊤) (λ b event a does so. tt)
          (λ link link_now b line events a went so exchanged leads every still. daemon_alone exchanged every.0 every.1 leads still) _ _ tt one.served.session one.served.leads;
      prompts =
          have_prompts (CountedTurn (λ (readings : Readings). readings)) is_prompter rules.pinentry.items _ one.launches_now refl refl
          (session_prompted (DoorExchange door rules) (λ kept line events next went exchanged. door_prompted exchanged) one.served.session) one.served.leads;
      leaves_cache = leaves_cache door one;
      leaves_run = leaves_run door one;
      names = names door one;
    }

-- ---- the daemon

module _ {Ls E Li La C R K T : Type 0} (host : HostViews Ls E Li La C R K T) (rules : Rules) where
  lawful_links : {post : Post Ls} {first now : AtPass} {early back : E} (links : ServesLinks host rules post first early now back) → LawfulLinks host rules links
  lawful_links none = tt
  lawful_links (one_more earlier answered next) = (lawful_links earlier, lawful_one next.serves)

  lawful_work : {post : Post Ls} {pass now : AtPass} {ear back : E} (works : Works host rules post pass ear now back) → LawfulWork host rules works
  lawful_work {post} {pass} {now} {ear} {back} works =
      record { each_session = lawful_links works.serves; ends = told_where_nothing_failed host rules post pass ear now back works }

  module _ (listener : Ls) (extra : Option Ls) where
    lawful_round : (passes : List AtPass) (ears : List E) (now : List AtPass) (back : List E) (works : WorkEach host rules listener extra passes ears now back)
        → LawfulRound host rules listener extra passes ears now back works
    lawful_round [] ears now back works = tt
    lawful_round (pass ∷ []) (ear ∷ ears) (next ∷ now) (behind ∷ back) works = lawful_work works.0
    lawful_round (pass ∷ other ∷ passes) (ear ∷ ears) (next ∷ now) (behind ∷ back) works = (lawful_work works.0, lawful_round (other ∷ passes) ears now back works.1)
    lawful_round (pass ∷ passes) [] now back works = absurd works
    lawful_round (pass ∷ passes) (ear ∷ ears) [] back works = absurd works
    lawful_round (pass ∷ passes) (ear ∷ ears) (next ∷ now) [] works = absurd works

    lawful_rounds : {began now : List AtPass} {early ears : List E} (rounds : Rounds host.faults (WorkEach host rules listener extra) began early now ears) → LawfulRounds host rules listener extra rounds
    lawful_rounds (one_round {began} {worked} {early} {ears} works looks) = lawful_round began early worked ears works
    lawful_rounds (one_more_round {passes} {worked} {ears} {later} earlier goes_on works looks) = (lawful_rounds earlier, lawful_round passes ears worked later works)

  is_lawful : {listens listens_now number : ℕ} {before after : Side} (run : RunsDaemon host rules listens before number listens_now after) → IsLawfulDaemon host rules run
  is_lawful (summed sums) = record { each_session = lawful_rounds sums.listener sums.extra sums.rounds; own = of_session host rules sums }
  is_lawful (no_listener rose) = tt
  is_lawful daemon.no_memory = tt

  pub lawful_daemon : {listens listens_now number : ℕ} {before after : Side} → RunsDaemon host rules listens before number listens_now after → LawfulDaemon host rules listens before number listens_now after
  lawful_daemon run = record { run = run; lawful = is_lawful run; ends_well = daemon_ends_well run }
