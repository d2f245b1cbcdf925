use Rattle.assuan_client.proofs.OnlyAnswer.{only_answer}
use Rattle.assuan_client.proofs.peer.answers_are_the_only_ones.Goals as goal

pub returns : goal.returns
returns c = only_answer
