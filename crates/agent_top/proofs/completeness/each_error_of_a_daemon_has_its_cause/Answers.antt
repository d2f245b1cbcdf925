use Rattle.agent_top.proofs.Answered.{daemon_caused}
use Rattle.agent_top.proofs.completeness.each_error_of_a_daemon_has_its_cause.Goals as goal

pub returns : goal.returns
returns g c path rules door session before after pass now end one = daemon_caused c.a_pinentry_is_a_prompter.ensures one
