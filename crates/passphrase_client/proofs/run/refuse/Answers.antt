use Rattle.passphrase_client.proofs.run.refuse.Goals as goal

pub returns-clause-says : goal.returns-clause-says
returns-clause-says g c = rw c.pieces-words.ensures at c.say.ensures
