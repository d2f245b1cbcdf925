use Rattle.std.proofs.Common.{refl}
use Rattle.agent_ask.{specs.Session.Actions.refuses, proofs.ActionsDone.action_still}
use Rattle.agent_origin.proofs.TrustDone.{beside_all}
use Rattle.agent_origin.proofs.trust.run.carry_out.Goals as goal

pub returns-in-IsTrusted-clause-carries : goal.returns-in-IsTrusted-clause-carries
returns-in-IsTrusted-clause-carries g c =
    rw (c.in-IsTrusted.is, c.requires.none)
    (beside_all g.D.Desk.turned g.P.Prompter.prompted c.args.conn.now c.args.desk.now c.args.prompter.now _ c.requires.open c.trusted_now.ensures)

pub returns-in-Bad-clause-carries : goal.returns-in-Bad-clause-carries
returns-in-Bad-clause-carries g c = λ keys dice.
    rw (c.in-Bad.is, c.requires.none)
    (action_still c.requires.open refl refuses)
