use Rattle.std.specs.Prelude.{◌≡◌, Some}
use Rattle.cache_policy.specs.Turns.{asked_step}
use Rattle.counted_lock.specs.Trying.{Waited}
use Rattle.counted_lock.proofs.desk.CountedDeskDesk.turn.Given as goal

-- the step has stood since its first try
abbrev pub invariant-loop : goal.invariant-loop
invariant-loop g l = record {
  own : l.stood.session ≡ l.fn.self.session;
  waited : Waited g.C.Clock.readings l.fn.self (asked_step l.fn.step) (Some l.stood.since) l.self;
}
