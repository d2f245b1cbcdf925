-- The run that a session's turns make of an empty cache: it goes on by them, is legal, and replays them.
use Rattle.std.proofs.Common.{inr, refl, arith, List, [], ◌∷◌}
use Rattle.{agent_core.{proofs.Alone.{Replayed, replayed}, specs.Solos.{AtSolo, at_desk, TurnsSolo}}, agent_ports.specs.{Leads.Leads, Readings.Readings}, cache_policy.proofs.Extending.extends}
use Rattle.cache_policy.specs.{Extending.{Taken, TakesTurn, IsExtended}, Legal.IsLegalRun, Replay.first_history, declared.life.Limits.Limits}
use Rattle.agent_top.specs.{Cache.{session, fresh_desk}, Top.ReplaysTurns}

pub first_legal : (limits : Limits) → IsLegalRun limits (first_history ∷ [])
first_legal limits = record {
  turns_over = tt;
  each = (record { replies = tt; moments = tt; base = refl; not_spent = inr refl; few = omega arith; held = tt }, tt);
  moments = tt;
}

module _ {limits : Limits} {clock : Readings} {turns : List Taken} {after : AtSolo} (leads : Leads (TakesTurn TurnsSolo) (fresh_desk limits clock) turns after) where
  pub turns_extend : IsExtended limits session (first_history ∷ []) turns after.run
  turns_extend = extends at_desk TurnsSolo (λ before asked turn then takes. takes.is) (fresh_desk limits clock) after turns leads

  pub turns_are_legal : IsLegalRun limits after.run
  turns_are_legal = turns_extend.legal (first_legal limits)

  pub turns_replay : ReplaysTurns limits clock turns after.run after.clock
  turns_replay =
      let replays : Replayed (fresh_desk limits clock) turns after = replayed (record { script = refl; nobody = refl }) leads in
      record {
        readings = replays.readings;
        given = replays.given;
        steps = replays.steps;
        read = replays.read;
        marked = replays.marked;
        firsts = replays.firsts;
        replays = record {
          start = turns_extend.start;
          legal = turns_are_legal;
          by = rw replays.marks replays.by;
          steps_are = rw replays.marks replays.steps_are;
          moments_are = rw replays.marks replays.moments_are;
          none_empty = replays.none_empty tt;
        };
      }
