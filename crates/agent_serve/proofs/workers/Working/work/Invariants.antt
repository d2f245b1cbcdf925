use Rattle.std.{proofs.Common.{◌≡◌, ◌≤◌}, specs.Option.option_copied}
use Rattle.agent_serve.specs.Working.{ServesLinks, post_at}
use Rattle.agent_serve.proofs.workers.Working.work.Given as goal

abbrev pub invariant-loop : goal.invariant-loop
invariant-loop g l = record {
  serves : ServesLinks (record {
    gives = g.H.Listener.Listener.gives;
    answers = g.H.Listener.Listener.answers;
    is_told = g.H.Listener.Listener.is_told;
    tells = g.H.Listener.Listener.tells;
    hears = g.H.Listener.Listener.hears;
    faults = g.H.Ear.Ear.faults;
    is_home = g.H.Host.is_home;
    is_extra = g.H.Host.is_extra;
    input = g.H.Link.Source.input;
    output = g.H.Link.Sink.output;
    parts = record { launches = g.H.Launcher.Launcher.launches; readings = g.H.Clock.Clock.readings; draws = g.H.Dice.Dice.draws; keys = g.H.Keys.Keys.keys };
    trust = g.H.Trust.TrustFile.trust;
    folder = g.H.Host.homedir l.self.host.now;
  }) l.self.rules.now (post_at l.self.door l.self.listener.now (option_copied l.self.other)) l.fn.pass l.fn.ear l.pass l.ear;
  own : l.pass.table ≡ l.fn.pass.table;
  faults : g.H.Ear.Ear.faults l.fn.ear ≤ g.H.Ear.Ear.faults l.ear;
  own_ear : g.H.Listener.Listener.hears l.self.listener.now l.fn.ear → g.H.Listener.Listener.hears l.self.listener.now l.ear;
}
