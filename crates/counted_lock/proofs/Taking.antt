-- A whole step at the core.
use Rattle.std.{proofs.Common.{◌≡◌, ℕ, List, ◌++◌, length, sym, ap, ◌∙◌, subst, Option, unwrap_or}, specs.Option.is_some}
use Rattle.{agent_ports.specs.declared.session.SessionId.SessionId, cache_policy.specs.{declared.{life.Limits.Limits, mark.{Mark.Mark, MarkStep.MarkStep}, tally.Tally.Tally}, Histories.History, Legal.IsLegal, Runs.moment_of}}
use Rattle.{cache_policy.specs.{Tallies.one_if, Turns.{Turn, turn_of}}, agent_core.{specs.{Cores.{AtCore, StandsFor, IsStep}, Known.TakesStep, Recording.KeepsRun, Tallies.Tallied}, proofs.Knowing.legal_last}}
use Rattle.counted_lock.specs.{declared.{board.{Claim.Claim, Cored.Cored}, trial.Trial.Trial, turn.Tried.Tried}, Logs.{run_of_log, IsLegalLog}, Plays.{Enters, Gives}, Claims.{Sat, own}, Settling.{IsTrial, moment_on, Stepped, Settles}}
use Rattle.counted_lock.{specs.{Taking.TakesTurn, Turns.WantsMemoryAt}, proofs.LogLemmas.{joined_log, keeps_legal, stopped_log, moment_log}}

-- the core's contract, at the run that the place has seen
pub stepped : (m m1 : Sat) (cored : Cored) (after : AtCore) (trial : Trial) (session : SessionId) (reading : ℕ) (asked : MarkStep) (turn : Turn) → Enters m m1 cored → trial.session ≡ session
    → trial.reading ≡ reading → trial.tally ≡ cored.tally → IsTrial cored.core asked trial
    → ((history : History) → IsLegal cored.core.limits history → StandsFor cored.core history → IsStep cored.core history session (moment_of cored.core.moment reading) asked turn after)
    → after.limits ≡ cored.core.limits → Stepped (own m1).limits (own m1).seen asked turn trial after
stepped m m1 cored after trial session reading asked turn e by read tally is does limits =
    let keeps = e.stands.keeps in
    let run : List History = run_of_log (own m1).seen in
    let same : cored.core.limits ≡ (own m1).limits = e.limits_is ∙ sym (ap (λ (c : Claim). c.limits) e.seen) in record {
      before = cored.core;
      keeps = keeps;
      tally_is = subst (Tallied cored.core.limits run) (sym tally) e.stands.tally_is;
      step = subst (λ (z : SessionId × ℕ). IsStep cored.core keeps.last z.0 z.1 asked turn after)
          (λ i. (sym by i, (ap (moment_of cored.core.moment) (sym read) ∙ moment_log cored.core (own m1).seen trial.reading keeps) i)) (does keeps.last (legal_last cored.core run keeps) keeps.stands);
      before_is = same;
      limits_is = limits ∙ same;
      trial_is = is;
    }

-- how many marks there are
pub marks_are : (cored : Cored) (log : List Mark) (keeps : KeepsRun cored.core (run_of_log log)) → Tallied cored.core.limits (run_of_log log) cored.tally → cored.tally.marks ≡ length log
marks_are cored log keeps tally = tally.marks ∙ ap (λ (l : List Mark). length l) (joined_log log)

pub takes_turn : (m m1 m2 m3 : Sat) (cored : Cored) (after : AtCore) (trial : Trial) (asked : MarkStep) (made : Option Tally) (tried : Tried) → Enters m m1 cored
    → after.limits ≡ cored.core.limits → Settles trial asked (turn_of tried.answer) after made m1 m2 → Gives m2 m3
    → tried.made ≡ is_some made → tried.front ≡ (unwrap_or made trial.tally).marks → tried.stopped ≡ after.stopped
    → TakesTurn trial.session trial.reading asked m tried m3
takes_turn m m1 m2 m3 cored after trial asked made tried e limits s g is front stops =
    let found : List Mark = (own m1).seen in
    let limits_found : (own m1).limits ≡ (own m).limits = ap (λ (c : Claim). c.limits) e.seen in
    let seen_is : (own m2).seen ≡ found ++ s.marks = ap (λ (c : Claim). c.seen) s.seen in
    let there : Cored = record { core = after; tally = unwrap_or made trial.tally } in
    let kept : KeepsRun after (run_of_log (found ++ s.marks)) = subst (λ (l : List Mark). KeepsRun after (run_of_log l)) seen_is s.stands.keeps in
    let tallied : Tallied after.limits (run_of_log (found ++ s.marks)) there.tally = subst (λ (l : List Mark). Tallied after.limits (run_of_log l) there.tally) seen_is s.stands.tally_is in
    record {
      others = e.more;
      foreign = e.foreign;
      found = found;
      found_is = ap (λ (c : Claim). c.seen) e.seen;
      marks = s.marks;
      many = s.many ∙ ap one_if (sym is);
      takes = subst (λ (l : Limits). TakesStep l (run_of_log found) trial.session (moment_on found trial) asked (turn_of tried.answer) (run_of_log (found ++ s.marks))) limits_found s.takes;
      refused = λ is. subst (λ (l : Limits). WantsMemoryAt l found asked (moment_on found trial)) limits_found (s.refused is);
      seen = g.same ∙ (s.seen ∙ (λ i. record (own m) { limits = limits_found i; number = (ap (λ (c : Claim). c.number) e.seen) i; seen = found ++ s.marks }));
      idle = g.idle;
      legal = subst (λ (l : Limits). IsLegalLog l (found ++ s.marks)) (limits ∙ e.limits_is) (keeps_legal after (found ++ s.marks) kept);
      front_is = front ∙ marks_are there (found ++ s.marks) kept tallied;
      stopped_is = stops ∙ stopped_log after (found ++ s.marks) kept;
    }
