use Rattle.std.proofs.Common.{refl, ap}
use Rattle.passphrase_talk.{specs.declared.told.Loss.Loss, proofs.Leading.{greets, greets_not, not_ok}}
use Rattle.passphrase_talk.specs.declared.told.Told.TheVariants as told
use Rattle.passphrase_talk.proofs.dialogue.lead.Goals as goal

pub returns-in-Answer-clause-leads : goal.returns-in-Answer-clause-leads
returns-in-Answer-clause-leads g c = rw c.in-Answer.is (greets c.in-Ok.ensures (rw c.in-Answer.is at c.request.ensures.leads))

pub returns-in-Prompt-clause-leads : goal.returns-in-Prompt-clause-leads
returns-in-Prompt-clause-leads g c = rw c.in-Prompt.is (greets c.in-Ok.ensures c.request_with_options.ensures.leads)

pub returns-in_default : goal.returns-in_default
returns-in_default g c = record {
  leads = greets_not c.hello.ensures (not_ok c.hello.result c.in_default.not-Ok) (ap (λ (l : Loss). told.Lost l) c.loss_of.ensures);
  contacts = refl;
  terminal = refl;
}
