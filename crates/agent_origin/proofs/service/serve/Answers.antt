use Rattle.std.proofs.Common.{rules}
use Rattle.assuan_server.proofs.Saying.{said}
use Rattle.agent_origin.{specs.{DoorSessions.exchange_at, PortStates.{PortWorld, port_state}}, proofs.Meeting.{met, met_cut, on_link}}
use Rattle.agent_origin.proofs.service.serve.Goals as goal

pub returns-in-Ok-clause-serves : goal.returns-in-Ok-clause-serves
returns-in-Ok-clause-serves g c =
    let start = port_state g.D.Desk.turned g.P.Prompter.prompted c.new-conn.result c.args.desk.now c.args.prompter.now (g.K.Keys.keys c.args.keys.now) (g.R.Dice.draws c.args.dice.now) (g.T.TrustFile.trust c.args.trust.now) in
    on_link {w = PortWorld g.D.Desk.turned g.P.Prompter.prompted} (exchange_at c.args.door c.args.rules.now) _
    c.new-conn.ensures.input c.new-conn.ensures.output (search rules) (search rules)
    (met {w = PortWorld g.D.Desk.turned g.P.Prompter.prompted} (exchange_at c.args.door c.args.rules.now) _ start c.new-conn.ensures.reader c.greet.new.self _ _ (said c.in-Ok.ensures c.greet.ensures)
    (rw c.new-kept.ensures at c.serve_requests-end.ensures.serves))

pub returns-in-Err-clause-serves : goal.returns-in-Err-clause-serves
returns-in-Err-clause-serves g c =
    let start = port_state g.D.Desk.turned g.P.Prompter.prompted c.new-conn.result c.args.desk.now c.args.prompter.now (g.K.Keys.keys c.args.keys.now) (g.R.Dice.draws c.args.dice.now) (g.T.TrustFile.trust c.args.trust.now) in
    on_link {w = PortWorld g.D.Desk.turned g.P.Prompter.prompted} (exchange_at c.args.door c.args.rules.now) _
    c.new-conn.ensures.input c.new-conn.ensures.output (search rules) (search rules)
    (met_cut {w = PortWorld g.D.Desk.turned g.P.Prompter.prompted} (exchange_at c.args.door c.args.rules.now) _ start c.new-conn.ensures.reader c.greet.new.self _ (said c.in-Err.ensures c.greet.ensures))
