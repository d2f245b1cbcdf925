use Rattle.agent_top.proofs.OwnPassphrases.{own_turn}
use Rattle.agent_top.proofs.own_passphrases.a_session_of_a_daemon_stores_its_own.Goals as goal

pub returns : goal.returns
returns g c path rules door session before after pass now end one mark has hands = own_turn one mark has hands
