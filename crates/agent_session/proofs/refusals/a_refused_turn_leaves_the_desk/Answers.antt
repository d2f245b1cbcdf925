use Rattle.cache_policy.specs.Turns.{Refused}
use Rattle.agent_session.proofs.Courses.Refusing.{desk_left}
use Rattle.agent_session.proofs.refusals.a_refused_turn_leaves_the_desk.Goals as goal

pub returns : goal.returns
returns g c before after asked turned = desk_left (g.D.Desk.at before) (g.D.Desk.at after) asked (g.met.D.Desk.promise before asked Refused after turned)
