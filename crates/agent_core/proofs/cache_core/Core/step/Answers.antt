use Rattle.std.{specs.Prelude.{◌≡◌, ◌≢◌, ◌+◌}, proofs.Common.rules}
use Rattle.cache_policy.specs.{Turns.{mark_step, turn_of}, Runs.last_base}
use Rattle.agent_core.proofs.Whole.{spent_step, whole_step}
use Rattle.agent_core.proofs.cache_core.Core.step.Goals as goal

pub returns-then-spent-clause-step : goal.returns-then-spent-clause-step
returns-then-spent-clause-step c = λ history legal stands.
    let all : c.args.self.now.base + c.args.self.now.count ≡ last_base = search rules in
    spent_step c.args.self.now c.self.inside.state history c.args.session _ (mark_step c.args.session c.args.step)
    (record { seen_is = c.self.view_is; state_is = c.self.invariant }) all legal stands

pub returns-clause-step : goal.returns-clause-step
returns-clause-step c = λ history legal stands.
    let more : c.args.self.now.base + c.args.self.now.count ≢ last_base = search rules in
    whole_step c.args.self.now c.self.inside.state c.take_step.new.self history c.args.session c.args.reading c.moment_at-moment.result
    (mark_step c.args.session c.args.step) (turn_of c.take_step.result) (record { seen_is = c.self.view_is; state_is = c.self.invariant }) more
    (record {
      takes = c.take_step.ensures.takes;
      state = c.take_step.ensures.state;
      moment_is = c.moment_at-moment.ensures.value;
      later = c.moment_at-moment.ensures.later;
      within = c.moment_at-moment.ensures.within;
    }) legal stands
