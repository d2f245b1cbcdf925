use Rattle.std.proofs.Common.{refl}
use Rattle.agent_ask.{specs.Session.Actions.returns, proofs.ActionsDone.action_still}
use Rattle.key_commands.proofs.Partial.{beside_prompts}
use Rattle.key_commands.proofs.consent.consent.Goals as goal

pub returns-then-force-clause-consents : goal.returns-then-force-clause-consents
returns-then-force-clause-consents g c =
    rw c.if-force.true (action_still c.requires.open refl returns)

pub returns-clause-consents : goal.returns-clause-consents
returns-clause-consents g c =
    rw (c.if-force.false, ← c.delete_description.ensures, ← c.described-question.ensures) (beside_prompts c.agree_by_mode.ensures.agrees)
