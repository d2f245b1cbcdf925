-- The road from a run of the command to the daemon's one run.
use mathlib.Core.List.{IsPrefix}
use Rattle.std.{specs.Prelude.⊤, proofs.Common.{◌≡◌, ℕ, suc, true, List, [], ◌∷◌, ◌++◌, Option, Some, None, Result, Ok, refl, ap, sym, subst, ◌∙◌}}
use Rattle.{agent_ask.specs.Session.SessionEvents.{cache_turn, said_last}, agent_commands.specs.{Actions.CacheEvent, Passphrases.Passphrase, Requests.GetFields, Talks.Session, declared.request.Texts.Texts}}
use Rattle.{agent_origin.specs.{DoorSessions.DoorExchange, SessionExchanges.kept_at_start, declared.door.Door.{Door, TheVariants.Home}}, agent_ports.specs.{Readings.Readings, Sides.Side}}
use Rattle.{agent_serve.specs.Working.{HostViews, Post, ServesLinks, ServesNext, WorkEach, none, one_more}, agent_session.specs.Causes.{Has, later}, agent_top.specs.{Cache.limits_of, Daemon.{FirstLooks, Rounds, RunsDaemon, no_listener, one_more_round, one_round, summed}}}
use Rattle.cache_policy.specs.{Turns.Given, declared.{life.Limits.Limits, mark.{Mark.Mark, MarkStep.TheVariants.Ask}, mode.Mode.TheVariants.User}}
use Rattle.{counted_lock.specs.{Passes.{AllStandIn, AreNewPasses, AtCounted, AtPass}, Turns.CountedTurn}, passphrase_client.specs.{Laws.{WasAnswered, is_question}, Runs.{GoesTo, HasRun, RunsAskpass, RunsBy, World}, Steps.{request_of, waits_of}, declared.{ending.{Ending.Ending, Lifetime.Lifetime}, steps.Step.Step}}}
use Rattle.{passphrase_talk.specs.{Contacts.Contacts, Dialogues.{options_of, told_of}, Turns.Turn, Visits.{Talk, Visits, met, no_memory, unmet}, declared.{connector.{Place.Place, Waits.Waits}, told.Told.Told}}, passphrase_words.specs.{Requests.line_of_request, Tasks.{TaskValue, WantsTask}, Words.{Reads, ReadsAskpass}}}
use Rattle.{pinentry_client.specs.Dialogues.PinentryDoes, session_client.specs.declared.refusal.Refusal.Refusal, session_options.specs.{OptionValues.EnvWords, declared.rules.Rules.Rules}}
use Rattle.passphrase_laws.specs.{Asking.{HasTexts, Means, SaysRequest, asks, looks}, Joined.{AccountsFor, CarriedIn, EachInRound, EachLink, EachSession, IsAccounted, IsAccountedIn, IsJoined, IsJoinedAskpass, by_cache, by_prompt, fields_at}}
use Rattle.passphrase_laws.{specs.{Roads.Hears, Served.{AnswersRequest, SpeaksWith}}, proofs.{Closing.at_home, Passing.AsSession, Serving.written, Sourcing.{IsTypedIn, has_behind, has_front, source, typed_front, was_given, was_typed}, Turning.{given_was_live, prefix_trans}}}
use Rattle.agent_top.specs.Daemon as daemon
use Rattle.passphrase_client.specs.Runs as client
use Rattle.passphrase_client.specs.declared.ending.Ending.TheVariants as ending
use Rattle.passphrase_client.specs.declared.steps.Step.TheVariants as step
use Rattle.passphrase_laws.specs.Roads as road
use Rattle.passphrase_talk.specs.declared.told.Told.TheVariants as told

-- ---- the contact

record IsSpoken (waits : Waits) (terminal : EnvWords) (line secret : List ℕ) (events : List CacheEvent) (start end : Side) : Type 0 where
  turns : List Turn
  speaks : SpeaksWith waits terminal line turns events start end
  told_is : told_of turns ≡ told.Passphrase secret

spoken : {place : Place} {waits : Waits} {line : List ℕ} {terminal : EnvWords} {what : Told} {before after : Contacts} {secret : List ℕ} {events : List CacheEvent} {start end : Side}
    (visits : Visits place waits line terminal what before after) → what ≡ told.Passphrase secret → CarriedIn visits events start end → IsSpoken waits terminal line secret events start end
spoken (no_memory un) is carried = absurd carried
spoken (unmet un) is carried = absurd carried
spoken {waits = waits} {line = line} {terminal = terminal} (met contact) is carried = record {
  turns = contact.turns;
  speaks = record {
    later = carried.later;
    reads = carried.reads;
    whole = carried.whole;
    unwritten = carried.unwritten;
    within = carried.within;
    left = contact.left;
    written = contact.written;
    talk = subst (λ (g : Option (List ℕ)). Talk (options_of waits terminal) line contact.turns g contact.left contact.written) carried.carried contact.talk;
  };
  told_is = sym contact.told_is ∙ is;
}

-- ---- its request

says_request : (task : TaskValue) (prompt : Option (List ℕ)) (description held : List ℕ) (at : Step) → is_question at ≡ true
    → SaysRequest task prompt description (line_of_request task (request_of at task.act held)) (fields_at at task prompt description)
says_request task prompt description held (step.Look place) is = looks
says_request task prompt description held step.Ask is = asks
says_request task prompt description held (step.Forget place) is = absurd (cc is)
says_request task prompt description held step.Store is = absurd (cc is)
says_request task prompt description held step.Probe is = absurd (cc is)
says_request task prompt description held step.Keep is = absurd (cc is)

-- the texts for a prompt, as they are read
record HasFields (fields : GetFields) (id : List ℕ) : Type 0 where
  id_is : fields.id ≡ Some id
  texts : Texts
  texts_are : fields.texts ≡ Some texts

has_fields : (task : TaskValue) (prompt : Option (List ℕ)) (description : List ℕ) (at : Step) → HasFields (fields_at at task prompt description) task.id
has_fields task prompt description (step.Look place) = record { id_is = refl; texts = _; texts_are = refl }
has_fields task prompt description step.Ask = record { id_is = refl; texts = _; texts_are = refl }
has_fields task prompt description (step.Forget place) = record { id_is = refl; texts = _; texts_are = refl }
has_fields task prompt description step.Store = record { id_is = refl; texts = _; texts_are = refl }
has_fields task prompt description step.Probe = record { id_is = refl; texts = _; texts_are = refl }
has_fields task prompt description step.Keep = record { id_is = refl; texts = _; texts_are = refl }

heard : {launched : _} {result : Result (List ℕ) Refusal} {what : Told} {secret : List ℕ} → Hears launched result what → what ≡ told.Passphrase secret → result ≡ Ok secret
heard road.unread is = absurd (cc is)
heard road.unwritten is = absurd (cc is)
heard (road.passphrase {byte} {secret = rest}) is = cc is
heard road.empty is = absurd (cc is)
heard (road.refused code origin line) is = absurd (cc is)

module _ {Ls E Li La C R K T : Type 0} (host : HostViews Ls E Li La C R K T) (rules : Rules) where
  module _ (law : AsSession) (words : List (List ℕ)) {task : TaskValue} {terminal : EnvWords} {start stop : World} (prompt : Option (List ℕ)) (description : List ℕ) (means : Means words task prompt description)
      (answered : WasAnswered task terminal start stop) (run : List Mark) where
    accounts_for : {post : Post Ls} {pass : AtPass} {link : Li} {ear : E} {now : AtPass} {next : E} (serves : ServesNext host rules post pass link ear now next) → IsPrefix now.seen run → pass.limits ≡ limits_of rules
        → AccountsFor host rules prompt description answered run post pass link ear now next serves
    accounts_for {post} {pass} {now} serves stands lasts home carried =
        let one = serves.serves in
        let events = one.served.events in
        let at = answered.contact.to in
        let fields = fields_at at task prompt description in
        let line = line_of_request task (request_of at task.act answered.contact.held) in
        let said = spoken answered.contact.visits answered.told_is carried in
        let session = subst (λ (d : Door). Session (DoorExchange d rules) (kept_at_start rules) events serves.end) home one.served.session in
        let read =
        at_home law rules words task prompt description means (waits_of at) terminal (says_request task prompt description answered.contact.held at answered.asks) session
        (written (CountedTurn (λ (readings : Readings). readings)) PinentryDoes _ one.served.leads) said.speaks
        in
        let answers : AnswersRequest rules (DoorExchange Home rules) (waits_of at) terminal line fields events (told.Passphrase answered.secret) =
        subst (λ (w : Told). AnswersRequest rules (DoorExchange Home rules) (waits_of at) terminal line fields events w) said.told_is read
        in
        let values = answers.serves.kept.options in
        let own = answers.serves.own in
        let by = answers.reaches.told in
        let has = has_fields task prompt description at in
        record {
          answers = answers;
          from =
              let came =
              subst (λ (r : Result (List ℕ) Refusal). Passphrase rules values fields None by.work r by.held) (heard answers.reaches.hears refl) by.came
              in
              elim (source rules values fields has.texts by.held answers.serves.mode has.id_is has.texts_are came) [
                | was_given given ↦
                    let in_own =
                    subst (λ (l : List CacheEvent). Has (cache_turn (Ask task.id User given.way None) (Given given.grant)) l) (sym by.events_are) (has_front (by.back ++ said_last by.last) given.has)
                    in
                    let in_events =
                    subst (λ (l : List CacheEvent). Has (cache_turn (Ask task.id User given.way None) (Given given.grant)) l) (sym answers.serves.at)
                    (later (has_behind answers.serves.front (later (has_front answers.serves.later in_own))))
                    in
                    by_cache (given_was_live events one.turns stands lasts in_events given.fits given.secret_is)
                | was_typed typed ↦
                    let in_own =
                    subst (λ (l : List CacheEvent). IsTypedIn rules values has.texts fields.check fields.repeat task.id answered.secret l) (sym by.events_are)
                    (typed_front (by.back ++ said_last by.last) typed)
                    in
                    by_prompt (record { ticket = in_own.ticket; opened = in_own.opened; texts = has.texts; texts_are = has.texts_are; prompt = in_own.prompt })
              ];
        }

  -- ---- the rounds of a daemon

  -- what each of these passes has seen is a beginning of the run
  abbrev AllSeen : List Mark → List AtPass → Type 0
  AllSeen run [] = ⊤
  AllSeen run (pass ∷ passes) = IsPrefix pass.seen run × AllSeen run passes

  all_seen : (run : List Mark) (passes : List AtPass) → AllStandIn run passes → AllSeen run passes
  all_seen run [] all = tt
  all_seen run (pass ∷ passes) all = (all.0.seen, all_seen run passes all.1)

  looked_back : (run : List Mark) (worked now : List AtPass) → FirstLooks worked now → AllSeen run now → AllSeen run worked
  looked_back run (first ∷ others) (next ∷ further) saw seen =
      (prefix_trans first.seen next.seen run (saw.0.others, sym (ap (λ (p : AtPass). p.seen) saw.0.now)) seen.0, subst (λ (l : List AtPass). AllSeen run l) saw.1 seen.1)
  looked_back run (first ∷ others) [] saw seen = absurd saw
  looked_back run [] now saw seen = absurd saw

  grew : {post : Post Ls} {pass now : AtPass} {link : Li} {ear next : E} → ServesNext host rules post pass link ear now next → IsPrefix pass.seen now.seen
  grew serves = (serves.serves.more, sym (ap (λ (p : AtPass). p.seen) serves.serves.now_is))

  links_back : {post : Post Ls} {first now : AtPass} {early back : E} (run : List Mark) → ServesLinks host rules post first early now back → IsPrefix now.seen run → IsPrefix first.seen run
  links_back run none stands = stands
  links_back run (one_more {pass} {now} earlier answered serves) stands = links_back run earlier (prefix_trans pass.seen now.seen run (grew serves) stands)

  -- they go by these lifetimes
  abbrev AllLast : Limits → List AtPass → Type 0
  AllLast limits [] = ⊤
  AllLast limits (pass ∷ passes) = (pass.limits ≡ limits) × AllLast limits passes

  new_last : (counted : AtCounted) (number : ℕ) (passes : List AtPass) → AreNewPasses counted number passes → AllLast counted.limits passes
  new_last counted number [] new = tt
  new_last counted number (pass ∷ passes) new = (ap (λ (p : AtPass). p.limits) new.0, new_last counted (suc number) passes new.1)

  looked_last : (limits : Limits) (worked now : List AtPass) → FirstLooks worked now → AllLast limits worked → AllLast limits now
  looked_last limits (first ∷ others) (next ∷ further) saw last = (ap (λ (p : AtPass). p.limits) saw.0.now ∙ last.0, subst (λ (l : List AtPass). AllLast limits l) (sym saw.1) last.1)
  looked_last limits (first ∷ others) [] saw last = absurd saw
  looked_last limits [] now saw last = absurd saw

  links_limits : {post : Post Ls} {first now : AtPass} {early back : E} → ServesLinks host rules post first early now back → now.limits ≡ first.limits
  links_limits none = refl
  links_limits (one_more earlier answered serves) = ap (λ (p : AtPass). p.limits) serves.serves.now_is ∙ links_limits earlier

  module _ (run : List Mark) (limits : Limits) (Holds : (post : Post Ls) (pass : AtPass) (link : Li) (ear : E) (now : AtPass) (next : E) → ServesNext host rules post pass link ear now next → Type 0)
      (holds : (post : Post Ls) (pass : AtPass) (link : Li) (ear : E) (now : AtPass) (next : E) (serves : ServesNext host rules post pass link ear now next) → IsPrefix now.seen run → pass.limits ≡ limits → Holds post pass link ear now next serves) where
    each_link : {post : Post Ls} {first now : AtPass} {early back : E} (links : ServesLinks host rules post first early now back) → IsPrefix now.seen run → first.limits ≡ limits → EachLink host rules Holds links
    each_link none stands lasts = tt
    each_link {post} (one_more {pass} {now} {later = ear} {next} {link} earlier answered serves) stands lasts =
        (each_link earlier (prefix_trans pass.seen now.seen run (grew serves) stands) lasts, holds post pass link ear now next serves stands (links_limits earlier ∙ lasts))

    module _ (listener : Ls) (extra : Option Ls) where
      each_in_round : (passes : List AtPass) (ears : List E) (now : List AtPass) (back : List E) (works : WorkEach host rules listener extra passes ears now back) → AllSeen run now → AllLast limits passes
          → EachInRound host rules Holds listener extra passes ears now back works
      each_in_round [] ears now back works seen last = tt
      each_in_round (pass ∷ []) (ear ∷ ears) (next ∷ now) (behind ∷ back) works seen last = each_link works.0.serves seen.0 last.0
      each_in_round (pass ∷ other ∷ passes) (ear ∷ ears) (next ∷ now) (behind ∷ back) works seen last =
          (each_link works.0.serves seen.0 last.0, each_in_round (other ∷ passes) ears now back works.1 seen.1 last.1)
      each_in_round (pass ∷ passes) [] now back works seen last = absurd works
      each_in_round (pass ∷ passes) (ear ∷ ears) [] back works seen last = absurd works
      each_in_round (pass ∷ passes) (ear ∷ ears) (next ∷ now) [] works seen last = absurd works

      -- the passes go by the same lifetimes throughout
      round_last : (passes : List AtPass) (ears : List E) (now : List AtPass) (back : List E) → WorkEach host rules listener extra passes ears now back → AllLast limits passes → AllLast limits now
      round_last [] [] [] [] works last = tt
      round_last [] [] [] (behind ∷ back) works last = absurd works
      round_last [] [] (next ∷ now) back works last = absurd works
      round_last [] (ear ∷ ears) now back works last = absurd works
      round_last (pass ∷ []) (ear ∷ ears) (next ∷ now) (behind ∷ back) works last = (links_limits works.0.serves ∙ last.0, round_last [] ears now back works.1 tt)
      round_last (pass ∷ other ∷ passes) (ear ∷ ears) (next ∷ now) (behind ∷ back) works last = (links_limits works.0.serves ∙ last.0, round_last (other ∷ passes) ears now back works.1 last.1)
      round_last (pass ∷ passes) [] now back works last = absurd works
      round_last (pass ∷ passes) (ear ∷ ears) [] back works last = absurd works
      round_last (pass ∷ passes) (ear ∷ ears) (next ∷ now) [] works last = absurd works

      rounds_last : {began now : List AtPass} {early ears : List E} → Rounds host.faults (WorkEach host rules listener extra) began early now ears → AllLast limits began → AllLast limits now
      rounds_last (one_round {began} {worked} {now} {early} {ears} works saw) last = looked_last limits worked now saw (round_last began early worked ears works last)
      rounds_last (one_more_round {passes} {worked} {now} {ears} {later = behind} earlier goes_on works saw) last =
          looked_last limits worked now saw (round_last passes ears worked behind works (rounds_last earlier last))

      round_back : (passes : List AtPass) (ears : List E) (now : List AtPass) (back : List E) → WorkEach host rules listener extra passes ears now back → AllSeen run now → AllSeen run passes
      round_back [] ears now back works seen = tt
      round_back (pass ∷ []) (ear ∷ ears) (next ∷ now) (behind ∷ back) works seen = (links_back run works.0.serves seen.0, tt)
      round_back (pass ∷ other ∷ passes) (ear ∷ ears) (next ∷ now) (behind ∷ back) works seen = (links_back run works.0.serves seen.0, round_back (other ∷ passes) ears now back works.1 seen.1)
      round_back (pass ∷ passes) [] now back works seen = absurd works
      round_back (pass ∷ passes) (ear ∷ ears) [] back works seen = absurd works
      round_back (pass ∷ passes) (ear ∷ ears) (next ∷ now) [] works seen = absurd works

      each_session : {began now : List AtPass} {early ears : List E} (rounds : Rounds host.faults (WorkEach host rules listener extra) began early now ears) → AllSeen run now → AllLast limits began
          → EachSession host rules Holds listener extra rounds
      each_session (one_round {began} {worked} {now} {early} {ears} works saw) seen last = each_in_round began early worked ears works (looked_back run worked now saw seen) last
      each_session (one_more_round {passes} {worked} {now} {ears} {later = behind} earlier goes_on works saw) seen last =
          let worked_seen = looked_back run worked now saw seen in
          (each_session earlier (round_back passes ears worked behind works worked_seen) last, each_in_round passes ears worked behind works worked_seen (rounds_last earlier last))

  -- ---- the run of a daemon

  pub accounted : AsSession → (words : List (List ℕ)) {task : TaskValue} {terminal : EnvWords} {start stop : World} (prompt : Option (List ℕ)) (description : List ℕ) → Means words task prompt description
      → (answered : WasAnswered task terminal start stop) {listens listens_now number : ℕ} {before after : Side} (runs : RunsDaemon host rules listens before number listens_now after)
      → IsAccountedIn host rules prompt description answered runs
  accounted law words prompt description means answered (summed sums) =
      each_session sums.closed.run (limits_of rules) (AccountsFor host rules prompt description answered sums.closed.run)
      (λ post pass link ear now next serves stands lasts. accounts_for law words prompt description means answered sums.closed.run serves stands lasts) sums.listener sums.extra sums.rounds
      (all_seen sums.closed.run sums.passes sums.closed.all) (subst (λ (l : Limits). AllLast l sums.began) sums.limits (new_last sums.counted 0 sums.began sums.new))
  accounted law words prompt description means answered (no_listener rose) = tt
  accounted law words prompt description means answered daemon.no_memory = tt

  -- ---- the run of the command

  -- what a task's words mean, and whence what is given is
  module _ (law : AsSession) (answers : (task : TaskValue) (terminal : EnvWords) (lasts : Lifetime) (before after : World) → GoesTo task terminal before after (ending.Given lasts) → WasAnswered task terminal before after) where
    accounts : {words : List (List ℕ)} {task : TaskValue} {terminal : EnvWords} {reason : List ℕ} {start stop : World} {status : ℕ} → HasTexts words task → (run : HasRun task terminal reason start stop status)
        → (lasts : Lifetime) → run.ending ≡ ending.Given lasts → {listens listens_now number : ℕ} {before after : Side} (runs : RunsDaemon host rules listens before number listens_now after)
        → IsAccounted host rules words task terminal start stop runs
    accounts {words} {task} {terminal} {start = start} {stop = stop} texts run lasts given runs =
        let answered = answers task terminal lasts start stop (subst (λ (e : Ending). GoesTo task terminal start stop e) given run.goes) in
        record { texts = texts; answered = answered; in_daemon = accounted law words texts.prompt texts.description texts.means answered runs }

  pub joined : AsSession → ((words : List (List ℕ)) (task : TaskValue) → Reads words (WantsTask task) → HasTexts words task)
      → ((task : TaskValue) (terminal : EnvWords) (lasts : Lifetime) (before after : World) → GoesTo task terminal before after (ending.Given lasts) → WasAnswered task terminal before after)
      → {words : List (List ℕ)} {terminal : EnvWords} {reason : List ℕ} {start stop : World} {status : ℕ} (run : RunsBy words terminal reason start stop status) {listens listens_now number : ℕ}
      {before after : Side} (runs : RunsDaemon host rules listens before number listens_now after) → IsJoined host rules run runs
  joined law means answers (client.runs reads run) daemon = λ lasts given. accounts law answers (means _ _ reads) run lasts given daemon
  joined law means answers (client.refused never why told) daemon = tt
  joined law means answers (client.helps reads told) daemon = tt
  joined law means answers (client.tells_version reads told) daemon = tt

  pub joined_askpass : AsSession → ((words : List (List ℕ)) (task : TaskValue) → ReadsAskpass words task → HasTexts words task)
      → ((task : TaskValue) (terminal : EnvWords) (lasts : Lifetime) (before after : World) → GoesTo task terminal before after (ending.Given lasts) → WasAnswered task terminal before after)
      → {words : List (List ℕ)} {terminal : EnvWords} {reason : List ℕ} {start stop : World} {status : ℕ} (run : RunsAskpass words terminal reason start stop status) {listens listens_now number : ℕ}
      {before after : Side} (runs : RunsDaemon host rules listens before number listens_now after) → IsJoinedAskpass host rules run runs
  joined_askpass law means answers (client.runs_askpass reads run) daemon = λ lasts given. accounts law answers (means _ _ reads) run lasts given daemon
  joined_askpass law means answers (client.refused_askpass never why told) daemon = tt
