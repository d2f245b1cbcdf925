use Rattle.agent_top.proofs.Running.{if_server, uses_settled}
use Rattle.agent_top.proofs.top.run_rules.Goals as goal

pub returns-in-Server-clause-one : goal.returns-in-Server-clause-one
returns-in-Server-clause-one g c =
    if_server _ (uses_settled (record { launches = g.H.Launcher.Launcher.launches; readings = g.H.Clock.Clock.readings; draws = g.H.Dice.Dice.draws; keys = g.H.Keys.Keys.keys })
    _ _ _ _ _ _ _ _ _ c.requires c.settle.ensures.parts c.run_server.ensures.served)
