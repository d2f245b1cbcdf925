use Rattle.agent_ask.specs.Session.SessionEvents.{turns_in}
use Rattle.agent_origin.proofs.{OuterRuns.{steps_outer, give_nothing}, OuterSessions.outer_leaves, Turning.turns_lead}
use Rattle.agent_origin.proofs.laws.an_outer_session_leaves_the_cache.Goals as goal

pub returns-clause-leaves : goal.returns-clause-leaves
returns-clause-leaves g c = λ rules before after end served. outer_leaves rules served.session

pub returns-clause-ungiven : goal.returns-clause-ungiven
returns-clause-ungiven g c = λ rules before after end served.
    give_nothing g.D.Desk.at g.D.Desk.turned g.met.D.Desk.promise before.desk after.desk (turns_in served.events) (steps_outer (outer_leaves rules served.session)) (turns_lead served.leads)
