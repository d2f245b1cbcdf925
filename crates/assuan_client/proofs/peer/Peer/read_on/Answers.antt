use Rattle.std.proofs.Common.{◌≡◌, ◌∙◌, ◌∷◌, [], rules}
use Rattle.assuan_client.{specs.Skipping.coded, proofs.{Answering.{goes_on, answered}, Skipping.behind_itself}}
use Rattle.assuan_client.proofs.peer.Peer.read_on.Goals as goal

pub invariant_of-self : goal.invariant_of-self
invariant_of-self g c = λ whole.
    let read = c.next_after_skipped-took.ensures.read (coded c.self.inside.tally ∷ []) (behind_itself c.self.inside.tally) in
    read.ended ∙ c.answer-answer.ensures.ended ∙ goes_on c.answer-answer.result (λ broken. whole (c.state-self-inside.ensures ∙ broken))

pub returns : goal.returns
returns g c =
    let took = c.next_after_skipped-took in
    let answer = c.answer-answer in
    let output : g.L.Sink.output took.new.source ≡ g.L.Sink.output c.self.inside.link = search rules in
    rw (← c.self.view_is)
    (answered c.self.inside.tally took.new.filter took.result answer.result _ _ (took.ensures.read (coded c.self.inside.tally ∷ []) (behind_itself c.self.inside.tally))
    (record {
      says = answer.ensures.says;
      asked = λ word text is. c.settle.ensures.asked word text is ∙ answer.ensures.asked word text is;
      ended = answer.ensures.ended;
      no_write = answer.ensures.no_write;
    })
    output c.state-self-inside.ensures c.settle.ensures.cleared)
