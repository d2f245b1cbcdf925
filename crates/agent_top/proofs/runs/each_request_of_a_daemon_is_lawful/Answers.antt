use Rattle.agent_top.proofs.RunLaws.{daemon_lawful}
use Rattle.agent_top.proofs.runs.each_request_of_a_daemon_is_lawful.Goals as goal

pub returns : goal.returns
returns g c path rules door session before after pass now end one = daemon_lawful c.a_pinentry_is_a_prompter.ensures one
