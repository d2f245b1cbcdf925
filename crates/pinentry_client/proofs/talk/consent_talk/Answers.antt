use Rattle.std.proofs.Common.{codes, sym}
use Rattle.pinentry_client.{specs.Talking.{ConsentTalk, Commands}, proofs.{Talks.said_as, Readiness.consent_ready}}
use Rattle.pinentry_client.proofs.talk.consent_talk.Goals as goal

pub returns-clause-talk : goal.returns-clause-talk
returns-clause-talk g c =
    let sent : Commands (codes "CONFIRM") c.command-answer.result c.args.peer.now c.command-answer.new.self = said_as c.plain_line.ensures c.command-answer.ensures in
    rw c.consent_of.ensures (ConsentTalk.asked c.command-answer.result c.settled.result sent c.settled.ensures.settles)

pub returns-clause-ready : goal.returns-clause-ready
returns-clause-ready g c ready = let there = c.settled.ensures.state in rw there (consent_ready c.settled.result (rw (sym c.consent_of.ensures) ready))
