use Rattle.std.{proofs.Common.{◌≡◌, vec_len}, specs.Option.option_copied}
use Rattle.{counted_lock.specs.Passes.AreOf, agent_serve.specs.Working.WorkEach}
use Rattle.agent_top.proofs.Rounds.{NewOrGoOn}
use Rattle.agent_top.proofs.daemon.serve_rounds.Given as goal

abbrev pub invariant-loop : goal.invariant-loop
invariant-loop g l = record {
  own : AreOf l.counted.table l.passes.items;
  passes : vec_len l.passes ≡ vec_len l.fn.passes;
  ears : vec_len l.ears ≡ vec_len l.fn.ears;
  rounds : NewOrGoOn g.H.Ear.Ear.faults (WorkEach (record {
    gives = g.H.Listener.Listener.gives;
    answers = g.H.Listener.Listener.answers;
    is_told = g.H.Listener.Listener.is_told;
    tells = g.H.Listener.Listener.tells;
    hears = g.H.Listener.Listener.hears;
    faults = g.H.Ear.Ear.faults;
    is_home = g.H.Host.is_home;
    is_extra = g.H.Host.is_extra;
    input = g.H.Link.Source.input;
    output = g.H.Link.Sink.output;
    parts = record { launches = g.H.Launcher.Launcher.launches; readings = g.H.Clock.Clock.readings; draws = g.H.Dice.Dice.draws; keys = g.H.Keys.Keys.keys };
    trust = g.H.Trust.TrustFile.trust;
    folder = g.H.Host.homedir l.host;
  }) l.rules l.listener (option_copied l.extra)) l.fn.passes.items l.fn.ears.items l.passes.items l.ears.items;
}
