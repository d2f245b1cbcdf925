use Rattle.passphrase_talk.proofs.Leading.{requests}
use Rattle.passphrase_talk.proofs.dialogue.request.Goals as goal

pub returns-clause-leads : goal.returns-clause-leads
returns-clause-leads g c = requests c.command-answer.ensures c.settle.ensures.leads
