use Rattle.std.specs.Prelude.{◌≡◌, ◌≤◌, None}
use Rattle.agent_core.specs.Openings.{opening_step}
use Rattle.agent_lock.proofs.shared_desk.SharedDeskDesk.turn.Given as goal

-- only the clock was read since the start
abbrev pub invariant-loop : goal.invariant-loop
invariant-loop g l = record {
  counts : l.self.counts ≡ l.fn.self.counts;
  session : l.self.session ≡ l.fn.self.session;
  out : l.self.out ≡ l.fn.self.out;
  readings : (g.C.Clock.readings l.fn.self.clock).count ≤ (g.C.Clock.readings l.self.clock).count;
  asked : opening_step l.opening None ≡ l.fn.step;
}
