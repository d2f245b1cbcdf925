-- Runs of `--server`, and sessions of a daemon: what the laws on single requests say of each of their exchanges, and their prompts. This is the project's own.
use Rattle.std.specs.Prelude.{◌≡◌, ◌<◌, ◌+◌, ℕ, List, true, length, IfSome, None, ⊤}
use Rattle.{agent_commands.specs.{Talks.Session, declared.went.SessionEnd.SessionEnd, Outside.World}, agent_core.specs.Solos.{AtSolo, TurnsSolo}, agent_origin.specs.{DoorSessions.{DoorExchange, door_command}, Doors.allowed}}
use Rattle.{agent_origin.specs.{PortStates.PortWorld, SessionExchanges.{SessionExchange, kept_at_start}, Sessions.{Surroundings, supply_of}, declared.door.Door.Door}, agent_ports.specs.{HostParts.Views, Readings.Readings}}
use Rattle.{agent_ports.specs.{TrustFiles.TrustState, declared.session.SessionId.SessionId}, agent_serve.specs.{Prompts.HavePrompts, Serves.{LinkSides, ServesOne, at_pass}}, agent_session.specs.Completeness.SessionCauses}
use Rattle.{agent_session.specs.{DoorCauses.IsCausedAtDoor, RunExchanges.{Between, ExchangeBetween, LawfulExchange, LawfulSession}}, cache_policy.specs.{Runs.last_history, declared.bounds.TheConstants.MAX_MARKS}}
use Rattle.{counted_lock.specs.{Passes.AtPass, Turns.{AtCountedDesk, CountedTurn}}, pinentry_client.specs.{Dialogues.PinentryDoes, States.at_prompter}, session_options.specs.declared.rules.Rules.Rules}
use Rattle.agent_top.specs.{Cache.{limits_of, fresh_desk}, Top.{Machine, RunsServer, ran, with_desk}}
use Rattle.agent_top.specs.Top as top

-- what stands before the first exchange of a session
abbrev pub first_state : {w : World} {S : Type 0} → S → Surroundings w → Between w S
first_state kept around = record { kept = kept; desk = around.desk; ends = around.ends }

-- The next step isn't at a turn-over: the last history has room for its mark, and isn't full by it.
abbrev pub IsWithinHistory : AtSolo → Type 0
IsWithinHistory desk = IfSome (last_history desk.run) (λ last. length last.marks + 1 < MAX_MARKS)

-- the line's exchange at a door is one of every session: the line is allowed there, and isn't the door's own to answer
abbrev pub IsOfEverySession : Door → List ℕ → Type 0
IsOfEverySession door line = (allowed door line ≡ true) × (door_command door line ≡ None)

-- What the laws say holds of a run, and of each of its exchanges.
abbrev pub IsLawfulRun : {rules : Rules} {before : Machine} {number : ℕ} {after : Machine} → RunsServer rules before number after → Type 0
IsLawfulRun {rules} {before} {after} (ran run) =
    let start = with_desk rules (fresh_desk (limits_of rules) before.clock) before in
    LawfulSession at_prompter
    (Session (ExchangeBetween {w = PortWorld TurnsSolo PinentryDoes} (supply_of before.input.bytes) (SessionExchange rules)
    (LawfulExchange TurnsSolo PinentryDoes at_prompter rules (SessionCauses rules) (λ line. ⊤) IsWithinHistory)) (first_state (kept_at_start rules) start) run.served.events run.end)
    run.served.events run.end start.ends (with_desk rules run.desk after).ends
IsLawfulRun top.no_memory = ⊤

-- the prompts of a run have their children
abbrev pub RunHasPrompts : {rules : Rules} {before : Machine} {number : ℕ} {after : Machine} → RunsServer rules before number after → Type 0
RunHasPrompts {rules} {before} {after} (ran run) = HavePrompts rules.pinentry.items run.served.events before.launches after.launches
RunHasPrompts top.no_memory = ⊤

-- What the laws say holds of a session of a daemon, and of each of its exchanges.
abbrev pub IsLawfulSession : {La C R K T : Type 0} {views : Views La C R K} {trusts : T → TrustState} {folder : List ℕ} {rules : Rules} {door : Door} {session : SessionId} {before after : LinkSides}
    {pass now : AtPass} {end : SessionEnd} → ServesOne views trusts folder rules door session before pass end after now → Type 0
IsLawfulSession {views} {trusts} {rules} {door} {session} {before} {after} {pass} {now} {end} one =
    let start =
    at_pass rules session before (record pass { sessions = session.count + 1 }) (views.readings one.parts.clock) (views.launches one.parts.launcher) (views.keys one.parts.keys) (views.draws one.parts.dice)
    (trusts one.trust_file) in
    LawfulSession at_prompter
    (Session (ExchangeBetween {w = PortWorld (CountedTurn (λ readings. readings)) PinentryDoes} (supply_of before.input.bytes) (DoorExchange door rules)
    (LawfulExchange (CountedTurn (λ (readings : Readings). readings)) PinentryDoes at_prompter rules (IsCausedAtDoor door rules) (IsOfEverySession door) (λ (desk : AtCountedDesk Readings). ⊤)))
    (first_state (kept_at_start rules) start) one.served.events end)
    one.served.events end start.ends (at_pass rules session after now one.clock_now one.launches_now one.keys_now one.dice_now one.trust_now).ends
