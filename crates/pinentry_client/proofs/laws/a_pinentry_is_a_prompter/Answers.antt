use Rattle.pinentry_client.proofs.Calling.{is_call}
use Rattle.pinentry_client.proofs.laws.a_pinentry_is_a_prompter.Goals as goal

pub returns : goal.returns
returns c before call after does = is_call does
