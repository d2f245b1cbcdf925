use Rattle.agent_serve.proofs.Works.{told_where_nothing_failed}
use Rattle.agent_serve.proofs.laws.a_worker_ends_for_a_cause.Goals as goal

pub returns : goal.returns
returns g c path rules post pass now ear back works still numbered = told_where_nothing_failed _ rules post pass ear now back works still numbered
