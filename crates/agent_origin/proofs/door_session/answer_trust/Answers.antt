use Rattle.agent_origin.proofs.door_session.answer_trust.Goals as goal

pub returns-clause-answers : goal.returns-clause-answers
returns-clause-answers g c = rw c.read_trust_cut-request.ensures at c.run_trust.ensures.answers
