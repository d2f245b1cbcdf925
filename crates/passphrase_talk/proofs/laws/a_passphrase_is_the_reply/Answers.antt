use Rattle.passphrase_talk.proofs.ItsReply.{passphrase_reply}
use Rattle.passphrase_talk.proofs.laws.a_passphrase_is_the_reply.Goals as goal

pub returns : goal.returns
returns c options line secret turns follows is = passphrase_reply options line secret turns follows is
