use Rattle.agent_top.proofs.LawfulRuns.{lawful_server}
use Rattle.agent_top.proofs.lawful.run_lawful_server.Goals as goal

pub returns-clause-lawful : goal.returns-clause-lawful
returns-clause-lawful g c = let uses = c.run_server.ensures.served in record { had = uses.had; has = uses.has; had_is = uses.had_is; has_is = uses.has_is; goes_on = lawful_server uses.goes_on }
