use Rattle.std.proofs.Common.{sym}
use Rattle.passphrase_client.proofs.Refusing.{was_refused}
use Rattle.passphrase_client.proofs.laws.what_is_refused_has_its_reply.Goals as goal

pub returns : goal.returns
returns c = λ task terminal reason before after run. was_refused (sym run.status_is) run.goes
