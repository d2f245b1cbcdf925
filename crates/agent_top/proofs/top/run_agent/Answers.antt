use Rattle.agent_top.proofs.Running.{in_its_folder, no_words_served, no_words_for_daemon, no_words_for_load, no_words_to_settle}
use Rattle.agent_top.proofs.top.run_agent.Goals as goal

pub returns-in-Ok-clause-served : goal.returns-in-Ok-clause-served
returns-in-Ok-clause-served g c =
    rw c.in-Ok.ensures.rules (rw (c.with_pid-rules.ensures, c.pid.ensures)
    at (in_its_folder (record { launches = g.H.Launcher.Launcher.launches; readings = g.H.Clock.Clock.readings; draws = g.H.Dice.Dice.draws; keys = g.H.Keys.Keys.keys })
    _ _ _ _ _ _ _ _ _ c.run_rules.ensures.one))

pub returns-in-Err-NoMemory-clause-homedir : goal.returns-in-Err-NoMemory-clause-homedir
returns-in-Err-NoMemory-clause-homedir g c = no_words_to_settle _ _ _ _ c.number-in-Err-NoMemory.ensures

pub returns-in-Err-NoMemory-clause-served : goal.returns-in-Err-NoMemory-clause-served
returns-in-Err-NoMemory-clause-served g c =
    no_words_served (record { launches = g.H.Launcher.Launcher.launches; readings = g.H.Clock.Clock.readings; draws = g.H.Dice.Dice.draws; keys = g.H.Keys.Keys.keys }) _ _ _ _ _ _ c.requires
    c.number-in-Err-NoMemory.ensures

pub returns-in-Err-NoMemory-clause-daemon : goal.returns-in-Err-NoMemory-clause-daemon
returns-in-Err-NoMemory-clause-daemon g c =
    no_words_for_daemon (λ given. record {
      gives = g.H.Listener.Listener.gives;
      answers = g.H.Listener.Listener.answers;
      is_told = g.H.Listener.Listener.is_told;
      tells = g.H.Listener.Listener.tells;
      hears = g.H.Listener.Listener.hears;
      faults = g.H.Ear.Ear.faults;
      is_home = g.H.Host.is_home;
      is_extra = g.H.Host.is_extra;
      input = g.H.Link.Source.input;
      output = g.H.Link.Sink.output;
      parts = record { launches = g.H.Launcher.Launcher.launches; readings = g.H.Clock.Clock.readings; draws = g.H.Dice.Dice.draws; keys = g.H.Keys.Keys.keys };
      trust = g.H.Trust.TrustFile.trust;
      folder = given.homedir.items;
    }) _ _ _ _ _ _ _ c.number-in-Err-NoMemory.ensures

pub returns-in-Err-NoMemory-clause-load : goal.returns-in-Err-NoMemory-clause-load
returns-in-Err-NoMemory-clause-load g c =
    no_words_for_load (record { launches = g.H.Launcher.Launcher.launches; readings = g.H.Clock.Clock.readings; draws = g.H.Dice.Dice.draws; keys = g.H.Keys.Keys.keys }) _ _ _ _ _
    c.number-in-Err-NoMemory.ensures
