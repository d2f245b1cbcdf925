use Rattle.agent_top.proofs.Answered.{daemon_answered}
use Rattle.agent_top.proofs.completeness.a_session_of_a_daemon_without_faults_is_answered.Goals as goal

pub returns : goal.returns
returns g c path rules door session before after pass now end one still remembers = daemon_answered c.a_pinentry_is_a_prompter.ensures one still remembers
