use Rattle.std.proofs.Common.{◌≡◌}
use Rattle.agent_top.proofs.Ears.{GaveBack}
use Rattle.agent_top.proofs.daemon.give_ears_back.Given as goal

abbrev pub invariant-loop-ear : goal.invariant-loop-ear
invariant-loop-ear g l =
    GaveBack g.H.Ear.Ear.faults l.fn.ears.items (g.H.Host.listens l.fn.host) l.ears.items (g.H.Host.listens l.host)
    × (g.H.Host.server l.host ≡ g.H.Host.server l.fn.host) × (g.H.Host.process l.host ≡ g.H.Host.process l.fn.host)
    × (g.H.Host.homedir l.host ≡ g.H.Host.homedir l.fn.host)

abbrev pub decreases-loop-ear : goal.decreases-loop-ear
decreases-loop-ear g l = goal.left-loop-ear g l
