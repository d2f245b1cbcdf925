use Rattle.agent_session.proofs.Causes.Uncaused.{ok_by}
use Rattle.agent_session.proofs.completeness.without_a_cause_the_answer_is_ok.Goals as goal

pub returns-clause-session : goal.returns-clause-session
returns-clause-session c rules kept now line events went caused never = ok_by events (λ why origin has. never why origin (caused.caused why origin has)) went caused.answered

pub returns-clause-door : goal.returns-clause-door
returns-clause-door c door rules kept now line events went caused never =
    ok_by events (λ why origin has. never why origin (caused.by_cause.caused why origin has)) went caused.by_cause.answered
