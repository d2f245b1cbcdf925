use Rattle.std.{proofs.Common.{◌≡◌, vec_len, vec_capacity}, specs.List.AllByRecursion}
use Rattle.agent_top.specs.Daemon.{NoneFailed}
use Rattle.agent_top.proofs.daemon.with_ears.Given as goal

abbrev pub invariant-loop : goal.invariant-loop
invariant-loop g l = record {
  many : vec_len l.room ≡ l.counter;
  room : vec_capacity l.room ≡ vec_capacity l.fn.room;
  own : AllByRecursion (g.H.Listener.Listener.hears l.listener) l.room.items;
  fresh : NoneFailed g.H.Ear.Ear.faults l.room.items;
}
