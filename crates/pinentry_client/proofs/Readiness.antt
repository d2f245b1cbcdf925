-- After which answers a child can be asked again.
use Rattle.std.proofs.Common.{◌≡◌, true, refl}
use Rattle.assuan_client.specs.{Answers.state_after, declared.answer.{Answer.{Answer, TheVariants.{Ok, Got, Err, Asked, Broken, ReadFault, WriteFault}}, State.TheVariants.Ready}}
use Rattle.pinentry_client.specs.{Answers.{pin_outcome, consent_of}, Dialogues.{stays_ready, stays_open}}

pub pin_ready : (said : Answer) → stays_ready (pin_outcome said) ≡ true → state_after said ≡ Ready
pin_ready Ok ready = refl
pin_ready (Got bytes) ready = refl
pin_ready (Err number) ready = refl
pin_ready (Asked word text) ready = absurd (cc ready)
pin_ready (Broken why) ready = absurd (cc ready)
pin_ready ReadFault ready = absurd (cc ready)
pin_ready WriteFault ready = absurd (cc ready)

pub consent_ready : (said : Answer) → stays_open (consent_of said) ≡ true → state_after said ≡ Ready
consent_ready Ok ready = refl
consent_ready (Got bytes) ready = absurd (cc ready)
consent_ready (Err number) ready = refl
consent_ready (Asked word text) ready = absurd (cc ready)
consent_ready (Broken why) ready = absurd (cc ready)
consent_ready ReadFault ready = absurd (cc ready)
consent_ready WriteFault ready = absurd (cc ready)
