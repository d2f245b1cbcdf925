use Rattle.agent_ask.specs.Session.SessionEvents.{turns_in}
use Rattle.agent_origin.proofs.{OuterRuns.leaves_desk, OuterSessions.outer_leaves, Turning.turns_lead}
use Rattle.agent_origin.proofs.laws.an_outer_session_leaves_the_run.Goals as goal

pub returns : goal.returns
returns g c = λ rules before after end served.
    leaves_desk g.D.Desk.at g.D.Desk.turned g.met.D.Desk.promise before.desk after.desk (turns_in served.events) (outer_leaves rules served.session) (turns_lead served.leads)
