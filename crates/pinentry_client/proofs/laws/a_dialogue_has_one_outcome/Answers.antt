use Rattle.pinentry_client.proofs.OnlyDialogue.{dialogue_same}
use Rattle.pinentry_client.proofs.laws.a_dialogue_has_one_outcome.Goals as goal

pub returns : goal.returns
returns c calls others given left rest written other one two asks = dialogue_same calls others given left rest written other one two asks
