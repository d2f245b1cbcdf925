use Rattle.cache_policy.specs.Turns.{mark_step}
use Rattle.agent_core.proofs.Coming.{comes_to_seat_is}
use Rattle.agent_core.proofs.cache_core.Core.comes_to_seat.Goals as goal

pub returns : goal.returns
returns c = λ history legal stands.
    comes_to_seat_is c.args.self.now c.self.inside.state history c.args.reading c.moment_at-moment.result (mark_step c.args.session c.args.step.now) c.comes_to_seat.result
    c.self.view_is c.moment_at-moment.ensures.value c.moment_at-moment.ensures.later c.moment_at-moment.ensures.within c.comes_to_seat.ensures legal stands
