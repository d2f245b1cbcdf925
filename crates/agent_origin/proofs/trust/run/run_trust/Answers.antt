use Rattle.agent_commands.{proofs.Replying.answers, specs.Steps.ok_by}
use Rattle.agent_origin.{specs.{PortStates.port_ends, TrustExchanges.TrustReplies}, proofs.TrustDone.carried_out}
use Rattle.agent_origin.proofs.trust.run.run_trust.Goals as goal

pub returns-clause-answers : goal.returns-clause-answers
returns-clause-answers g c = λ keys dice.
    answers (λ options. TrustReplies c.args.rules.now options c.args.request.now) c.args.options.now _ c.carry_out-carried.new.held
    c.carry_out-carried.new.conn c.respond.new.conn c.carry_out-carried.new.desk c.close.new.desk
    (port_ends c.carry_out-carried.new.prompter keys dice (g.T.TrustFile.trust c.carry_out-carried.new.trust)) (ok_by c.carry_out-carried.result) c.args.options.now c.respond.result
    (carried_out g.D.Desk.turned g.P.Prompter.prompted c.args.rules.now c.args.options.now c.args.request.now c.carry_out-carried.result (c.carry_out-carried.ensures.carries keys dice))
    c.close.ensures.given c.respond.ensures
