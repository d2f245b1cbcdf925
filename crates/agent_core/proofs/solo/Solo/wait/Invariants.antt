use Rattle.std.specs.Prelude.{◌≡◌, length, Some, None, IsSome}
use Rattle.cache_policy.specs.Turns.{Turn, asked_step, with_since}
use Rattle.agent_core.specs.{Openings.opening_step, Solos.{AtSolo, seen, Waits}}
use Rattle.agent_core.proofs.solo.Solo.wait.Given as goal

-- what comes of the step from here on completes its waiting so far, and it has waited since the same moment
abbrev pub invariant-loop-self : goal.invariant-loop-self
invariant-loop-self g l = record {
  waits : (turn : Turn) (after : AtSolo)
      → Waits (with_since (Some l.fn.first.since) (asked_step (opening_step l.opening None))) (seen g.C.Clock.readings l.self) turn after
      → Waits (with_since (Some l.fn.first.since) (asked_step (opening_step l.opening None))) (seen g.C.Clock.readings l.fn.self) turn after;
  wait : l.wait ≡ l.fn.first;
  session : l.self.session ≡ l.fn.self.session;
  free : l.self.out ≡ None;
  held : IsSome l.self.holder;
  lent : l.self.lent ≡ l.fn.self.lent;
}

abbrev pub decreases-loop-self : goal.decreases-loop-self
decreases-loop-self g l = length l.self.script
