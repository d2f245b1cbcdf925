use Rattle.std.proofs.Common.{codes, sym}
use Rattle.pinentry_client.{specs.{Talking.{PinTalk, Commands}, declared.answers.Trouble.TheVariants.{Failed, Broken}}, proofs.{Talks.said_as, Readiness.pin_ready}}
use Rattle.pinentry_client.proofs.talk.pin_talk.Goals as goal

pub returns-in-Ok-clause-talk : goal.returns-in-Ok-clause-talk
returns-in-Ok-clause-talk g c =
    let sent : Commands (codes "GETPIN") c.command-answer.result c.show_error.new.peer c.command-answer.new.self = said_as c.plain_line.ensures c.command-answer.ensures in
    rw c.pin_outcome.ensures (PinTalk.asked c.command-answer.result c.settled.result c.in-Ok.ensures.talk sent c.settled.ensures.settles)

pub returns-in-Err-Failed-clause-talk : goal.returns-in-Err-Failed-clause-talk
returns-in-Err-Failed-clause-talk g c = PinTalk.stopped Failed (rw (sym c.in-Err-Failed.field-0-is) c.in-Err-Failed.ensures.talk)

pub returns-in-Err-Broken-clause-talk : goal.returns-in-Err-Broken-clause-talk
returns-in-Err-Broken-clause-talk g c = PinTalk.stopped (Broken c.in-Err-Broken.breach) (rw (sym c.in-Err-Broken.field-0-is) c.in-Err-Broken.ensures.talk)

pub returns-in-Ok-clause-ready : goal.returns-in-Ok-clause-ready
returns-in-Ok-clause-ready g c ready = let there = c.settled.ensures.state in rw there (pin_ready c.settled.result (rw (sym c.pin_outcome.ensures) ready))
