use Rattle.std.proofs.Common.{ap, ◌∙◌}
use Rattle.passphrase_talk.specs.Contacts.{Contacts, with_launches}
use Rattle.passphrase_talk.proofs.Leading.{not_asked, ends, replies}
use Rattle.passphrase_talk.proofs.dialogue.settle.Goals as goal

pub loop-answer-preserved : goal.loop-answer-preserved
loop-answer-preserved g c = (
  c.inquired-next.ensures.state,
  c.inquired-next.ensures.contacts ∙ ap (λ (all : Contacts). with_launches all (g.C.Connector.contacts c.inquired-next.new.connector).launches) c.loop-answer.invariant.1,
  c.inquired-next.ensures.terminal ∙ c.loop-answer.invariant.2,
  λ what after launched rest. c.loop-answer.invariant.3 what after launched
      (rw c.in-Asked.is (replies c.inquired-next.ensures.answered c.inquired-next.ensures.course c.inquired-next.ensures.launches rest)),
)

pub returns : goal.returns
returns g c =
    let last = not_asked c.loop-answer.answer c.in_default.not-Asked in
    record {
      leads = c.loop-answer.invariant.3 _ _ _ (ends last c.told_by.ensures);
      contacts = c.loop-answer.invariant.1;
      terminal = c.loop-answer.invariant.2;
    }
