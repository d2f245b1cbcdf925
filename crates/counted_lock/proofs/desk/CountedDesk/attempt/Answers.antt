use Rattle.std.proofs.Common.{subst}
use Rattle.cache_policy.specs.Turns.{asked_step, mark_step, turn_of}
use Rattle.counted_lock.{specs.{Trying.TriesAt, Turns.AtCountedDesk}, proofs.Desks.tried_at}
use Rattle.counted_lock.proofs.desk.CountedDesk.attempt.Goals as goal

pub returns-clause-tries : goal.returns-clause-tries
returns-clause-tries g c =
    let after : AtCountedDesk g.row.C.Denot = record { pass = c.attempt-answer.new.pass; session = c.self.inside.session; out = c.out_then-self-inside.result; clock = c.attempt-answer.new.clock } in
    subst (λ (before : AtCountedDesk g.row.C.Denot). TriesAt g.C.Clock.readings before (asked_step c.args.step) (mark_step before.session c.args.step) (turn_of c.attempt-answer.result) after) c.self.view_is
    (tried_at g.C.Clock.readings (record { pass = c.self.inside.pass; session = c.self.inside.session; out = c.self.inside.out; clock = c.self.inside.clock }) _ _ _ _ _ c.attempt-answer.result
    c.attempt-answer.ensures.tries c.attempt-answer.ensures.fits (c.out_then-self-inside.ensures (asked_step c.args.step) c.is_close-gives_back.ensures))
