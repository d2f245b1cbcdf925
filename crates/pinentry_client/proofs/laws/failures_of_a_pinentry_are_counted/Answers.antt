use Rattle.agent_ask.proofs.Counting.{failures}
use Rattle.pinentry_client.{proofs.Calling.is_call, specs.{Dialogues.PinentryDoes, States.at_prompter}}
use Rattle.pinentry_client.proofs.laws.failures_of_a_pinentry_are_counted.Goals as goal

pub returns : goal.returns
returns c before after calls leads = failures at_prompter PinentryDoes (λ was call is does. is_call does) before after calls leads
