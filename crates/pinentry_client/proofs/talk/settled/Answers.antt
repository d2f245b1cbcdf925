use Rattle.pinentry_client.{specs.Talking.{is_asked, answered, inquired}, proofs.Talks.{not_asked, fewer_left}}
use Rattle.pinentry_client.proofs.talk.settled.Goals as goal

pub loop-answer-smaller : goal.loop-answer-smaller
loop-answer-smaller g c = rw c.in-Asked.is (fewer_left (is_asked c.inquired-next.result) _ _ c.inquired-next.ensures.progress)

pub loop-answer-preserved : goal.loop-answer-preserved
loop-answer-preserved g c =
    (c.inquired-next.ensures.state, λ last after rest. c.loop-answer.invariant.1 last after (rw c.in-Asked.is (inquired c.inquired-next.ensures.inquires rest)))

pub returns : goal.returns
returns g c =
    let last = not_asked c.loop-answer.answer c.in_default.not-Asked in
    record { settles = c.loop-answer.invariant.1 _ _ (answered last); state = c.loop-answer.invariant.0; last = last }
