use Rattle.std.proofs.Common.{sym}
use Rattle.passphrase_talk.specs.Dialogues.{said, unsaid}
use Rattle.passphrase_talk.proofs.dialogue.tell.Goals as goal

pub returns-in-Some-clause-tells : goal.returns-in-Some-clause-tells
returns-in-Some-clause-tells g c = rw (sym c.in-Some.ensures, c.passed.ensures) (said c.command.result c.command.ensures)

pub returns-in-None-clause-tells : goal.returns-in-None-clause-tells
returns-in-None-clause-tells g c = rw (sym c.in-None.ensures) unsaid
