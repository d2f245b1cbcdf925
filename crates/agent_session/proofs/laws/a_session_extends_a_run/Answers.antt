use Rattle.{agent_ask.specs.Session.SessionEvents.turns_in, agent_origin.proofs.Turning.turns_lead}
use Rattle.agent_session.proofs.laws.a_session_extends_a_run.Goals as goal

pub returns-clause-session : goal.returns-clause-session
returns-clause-session g c rules before after end served =
    c.turns_extend_a_run.ensures before.desk after.desk (turns_in served.events) (turns_lead served.leads)

pub returns-clause-door : goal.returns-clause-door
returns-clause-door g c door rules before after end served =
    c.turns_extend_a_run.ensures before.desk after.desk (turns_in served.events) (turns_lead served.leads)
