use Rattle.agent_top.proofs.OwnPassphrases.{of_session}
use Rattle.agent_top.proofs.own_passphrases.a_daemon_stores_its_sessions_own.Goals as goal

pub returns : goal.returns
returns g c path rules listens listens_now before after number sums mark has hands = of_session _ rules sums mark has hands
