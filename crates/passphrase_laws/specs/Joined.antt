-- Whence a passphrase is that a run of the command gives, in the one run of the daemon whose session it spoke with. This is the project's own.
use Rattle.std.specs.{List.AllByRecursion, Prelude.{◌≡◌, ◌≤◌, true, ℕ, List, [], ◌∷◌, ◌++◌, length, Option, Some, ⊤}}
use Rattle.{agent_ask.specs.{Plans.plan_of, Session.SessionEvents.cache_turn, declared.prompt.ask.Asked.TheVariants.Pin}, agent_commands.specs.{Actions.CacheEvent, Passphrases.ask_or_open, Requests.GetFields, declared.request.Texts.Texts}}
use Rattle.{agent_origin.specs.{DoorSessions.DoorExchange, declared.door.Door.TheVariants.Home}, agent_ports.specs.{Sides.Side, declared.session.SessionId.SessionId}, agent_serve.specs.Working.{HostViews, Post, ServesLinks, ServesNext, WorkEach, next_session, none, one_more}}
use Rattle.{agent_session.specs.Causes.{Has, HasPrompt}, agent_top.specs.{Cache.limits_of, Daemon.{Rounds, RunsDaemon, no_listener, one_more_round, one_round, summed}}}
use Rattle.cache_policy.specs.{Histories.{History, with_mark}, Live.live, Return.IsGivenRightly, Runs.last_history, Turns.Open, declared.{life.Limits.Limits, mark.{Mark.Mark, MarkReply.TheVariants.Given}, mode.Mode.TheVariants.User}}
use Rattle.{counted_lock.specs.{Logs.run_of_log, Passes.AtPass}, passphrase_client.specs.{Laws.WasAnswered, Runs.{World, RunsAskpass, RunsBy, refused, helps, tells_version, runs, refused_askpass, runs_askpass}, Steps.{request_of, waits_of}, declared.{ending.Lifetime.Lifetime, steps.Step.Step}}}
use Rattle.passphrase_talk.specs.{Dialogues.options_of, Visits.{Visits, met, no_memory, unmet}, declared.{connector.{Place.Place, Waits.Waits}, told.Told.{Told, TheVariants.Passphrase}, visits.TheConstants.BUDGET}, Contacts.Contacts}
use Rattle.{passphrase_words.specs.{Requests.line_of_request, Tasks.TaskValue}, session_options.specs.{OptionValues.{EnvWords, OptionValues}, declared.rules.Rules.Rules}}
use Rattle.passphrase_laws.specs.{Asking.{HasTexts, fields_of, is_quiet, repeats_of}, Exchanges.texts_of, Roads.IsWhole, Served.{AnswersRequest, lines_read}}
use Rattle.agent_top.specs.Daemon as daemon
use Rattle.passphrase_client.specs.declared.ending.Ending.TheVariants as ending
use Rattle.passphrase_client.specs.declared.steps.Step.TheVariants as step

-- A contact for this line was with a session of these events, whose output stood so before it and behind it: the session read the options and then the line;
-- no write of it failed, and at no inquiry did it take its client for gone; nothing was written to that side of the link before; what was written is what the
-- contact could read, and as much as the command reads. These are the premises that depend on the machine.
pub record Carries (waits : Waits) (terminal : EnvWords) (line : List ℕ) (given : Option (List ℕ)) (events : List CacheEvent) (before after : Side) : Type 0 where
  pub later : List (List ℕ)
  pub reads : lines_read events ≡ options_of waits terminal ++ line ∷ later
  pub whole : AllByRecursion IsWhole events
  pub unwritten : before.bytes ≡ Some []
  pub carried : given ≡ after.bytes
  pub within : length (texts_of events) ≤ BUDGET

-- so of this contact
abbrev pub CarriedIn : {place : Place} {waits : Waits} {line : List ℕ} {terminal : EnvWords} {what : Told} {before after : Contacts} → Visits place waits line terminal what before after
    → List CacheEvent → Side → Side → Type 0
CarriedIn (no_memory un) events start end = ⊥
CarriedIn (unmet un) events start end = ⊥
CarriedIn {waits = waits} {line = line} {terminal = terminal} (met contact) events start end = Carries waits terminal line contact.given events start end

-- By a turn of this session the cache, which goes by these lifetimes, gave the passphrase of this id: the turn's mark stands in the run, and on the history before it the entry that it names was given
-- rightly, in the words of the law that nothing comes back: it was the newest one that serves the id, not taken away, and within both lifetimes at the mark's moment. So it is the live one.
pub record WasLive (limits : Limits) (run : List Mark) (session : SessionId) (id secret : List ℕ) : Type 0 where
  pub earlier : List Mark
  pub mark : Mark
  pub later : List Mark
  pub run_is : run ≡ earlier ++ mark ∷ later
  pub by : mark.session ≡ session
  pub number : ℕ
  pub given : mark.reply ≡ Given number
  pub before : History
  pub last : last_history (run_of_log (earlier ++ mark ∷ [])) ≡ Some (with_mark before mark)
  pub rightly : IsGivenRightly limits before mark number
  pub id_is : rightly.id ≡ id
  pub mode_is : rightly.mode ≡ User
  pub is_live : live limits before id User mark.moment ≡ Some rightly.entry
  pub secret_is : rightly.entry.secret ≡ secret

-- The request itself opened a prompt, where nothing was cached for its id, and the prompt accepted this passphrase.
pub record WasTyped (rules : Rules) (values : OptionValues) (fields : GetFields) (own : List CacheEvent) (id secret : List ℕ) : Type 0 where
  pub ticket : ℕ
  pub opened : Has (cache_turn (ask_or_open id) (Open ticket)) own
  pub texts : Texts
  pub texts_are : fields.texts ≡ Some texts
  pub prompt : HasPrompt own (plan_of rules values texts.error fields.check fields.repeat) (λ pin. ⊤) (Pin secret)

-- whence the passphrase is
pub data IsFrom (rules : Rules) (limits : Limits) (run : List Mark) (session : SessionId) (values : OptionValues) (fields : GetFields) (own : List CacheEvent) (id secret : List ℕ) : Type 0 where
  by_cache : WasLive limits run session id secret → IsFrom rules limits run session values fields own id secret
  by_prompt : WasTyped rules values fields own id secret → IsFrom rules limits run session values fields own id secret

-- The session's own exchange of the line told this passphrase, and it is from there: by a turn of that session in the run, or by its own prompt.
pub record IsAccountedFor (rules : Rules) (limits : Limits) (run : List Mark) (session : SessionId) (waits : Waits) (terminal : EnvWords) (line : List ℕ) (fields : GetFields) (id secret : List ℕ)
    (events : List CacheEvent) : Type 0 where
  pub answers : AnswersRequest rules (DoorExchange Home rules) waits terminal line fields events (Passphrase secret)
  pub from : IsFrom rules limits run session answers.serves.kept.options fields answers.serves.own id secret

-- what is read of a question
abbrev pub fields_at : Step → TaskValue → Option (List ℕ) → List ℕ → GetFields
fields_at step.Ask task prompt description = fields_of task prompt description (is_quiet task.act) (repeats_of task.act)
fields_at other task prompt description = fields_of task prompt description true 0

module _ {Ls E Li La C R K T : Type 0} (host : HostViews Ls E Li La C R K T) (rules : Rules) where
  -- ---- what is so of each session of a daemon

  module _ (Holds : (post : Post Ls) (pass : AtPass) (link : Li) (ear : E) (now : AtPass) (next : E) → ServesNext host rules post pass link ear now next → Type 0) where
    abbrev pub EachLink : {post : Post Ls} {first now : AtPass} {early back : E} → ServesLinks host rules post first early now back → Type 0
    EachLink none = ⊤
    EachLink {post} (one_more {pass} {now} {later} {next} {link} earlier answered serves) = EachLink earlier × Holds post pass link later now next serves

    module _ (listener : Ls) (extra : Option Ls) where
      abbrev pub EachInRound : (passes : List AtPass) (ears : List E) (now : List AtPass) (back : List E) → WorkEach host rules listener extra passes ears now back → Type 0
      EachInRound (pass ∷ []) (ear ∷ ears) (now ∷ later) (back ∷ behind) works = EachLink works.0.serves
      EachInRound (pass ∷ next ∷ passes) (ear ∷ ears) (now ∷ later) (back ∷ behind) works = EachLink works.0.serves × EachInRound (next ∷ passes) ears later behind works.1
      EachInRound _ _ _ _ works = ⊤

      abbrev pub EachSession : {began now : List AtPass} {early ears : List E} → Rounds host.faults (WorkEach host rules listener extra) began early now ears → Type 0
      EachSession (one_round {began} {worked} {early} {ears} works looks) = EachInRound began early worked ears works
      EachSession (one_more_round {passes} {worked} {ears} {later} earlier goes_on works looks) = EachSession earlier × EachInRound passes ears worked later works

  -- ---- a passphrase that was answered to a run of the command

  module _ {task : TaskValue} {terminal : EnvWords} {start stop : World} (prompt : Option (List ℕ)) (description : List ℕ) (answered : WasAnswered task terminal start stop) where
    -- where it was this session that the run's contact was with, in at the user's own door
    abbrev pub AccountsFor : (run : List Mark) (post : Post Ls) (pass : AtPass) (link : Li) (ear : E) (now : AtPass) (next : E) → ServesNext host rules post pass link ear now next → Type 0
    AccountsFor run post pass link ear now next serves =
        post.door ≡ Home → CarriedIn answered.contact.visits serves.serves.served.events (host.output link) (host.output serves.after)
        → IsAccountedFor rules (limits_of rules) run (next_session pass) (waits_of answered.contact.to) terminal (line_of_request task (request_of answered.contact.to task.act answered.contact.held))
        (fields_at answered.contact.to task prompt description) task.id answered.secret serves.serves.served.events

    -- so of each session of a daemon, in its one run
    abbrev pub IsAccountedIn : {listens listens_now number : ℕ} {before after : Side} → RunsDaemon host rules listens before number listens_now after → Type 0
    IsAccountedIn (summed sums) = EachSession (AccountsFor sums.closed.run) sums.listener sums.extra sums.rounds
    IsAccountedIn (no_listener rose) = ⊤
    IsAccountedIn daemon.no_memory = ⊤

  -- ---- a run of the command, and a daemon's

  -- The words' task gave a passphrase that one of its contacts was told, and wherever this was with a session of this daemon, it is accounted for.
  pub record IsAccounted (words : List (List ℕ)) (task : TaskValue) (terminal : EnvWords) (start stop : World) {listens listens_now number : ℕ} {before after : Side}
      (daemon : RunsDaemon host rules listens before number listens_now after) : Type 0 where
    pub texts : HasTexts words task
    pub answered : WasAnswered task terminal start stop
    pub in_daemon : IsAccountedIn texts.prompt texts.description answered daemon

  -- so of a run that gave a passphrase, by what it was read as
  abbrev pub IsJoined : {words : List (List ℕ)} {terminal : EnvWords} {reason : List ℕ} {start stop : World} {status : ℕ} → RunsBy words terminal reason start stop status
      → {listens listens_now number : ℕ} {before after : Side} → RunsDaemon host rules listens before number listens_now after → Type 0
  IsJoined {words} {terminal} {start = start} {stop = stop} (runs {task} reads run) daemon = (lasts : Lifetime) → run.ending ≡ ending.Given lasts → IsAccounted words task terminal start stop daemon
  IsJoined (refused never why told) daemon = ⊤
  IsJoined (helps reads told) daemon = ⊤
  IsJoined (tells_version reads told) daemon = ⊤

  -- and of a run as an askpass
  abbrev pub IsJoinedAskpass : {words : List (List ℕ)} {terminal : EnvWords} {reason : List ℕ} {start stop : World} {status : ℕ} → RunsAskpass words terminal reason start stop status
      → {listens listens_now number : ℕ} {before after : Side} → RunsDaemon host rules listens before number listens_now after → Type 0
  IsJoinedAskpass {words} {terminal} {start = start} {stop = stop} (runs_askpass {task} reads run) daemon = (lasts : Lifetime) → run.ending ≡ ending.Given lasts → IsAccounted words task terminal start stop daemon
  IsJoinedAskpass (refused_askpass never why told) daemon = ⊤
