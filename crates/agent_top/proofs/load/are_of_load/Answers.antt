use Rattle.std.proofs.Common.{ap, arith}
use Rattle.agent_top.proofs.{Loading.{at_end, before_mark, before_none, next_left}, load.are_of_load.Goals.{then-word-lt7+in-Some, else-word-lt7}}
use Rattle.agent_top.proofs.load.are_of_load.Goals as goal

pub loop-request-preserved : goal.loop-request-preserved
loop-request-preserved c =
    let left = next_left c.loop-request.request c.loop-request.random c.next_word-word.result c.next_word-word.new.self c.loop-request-test.true c.next_word-word.ensures in
    elim c.if-word-lt7.branch [
      | then-word-lt7+in-Some w ↦ record {
        within = omega arith;
        made = λ more. c.loop-request.invariant.made
            (before_mark c.loop-request.moment c.if-word-lt7.moment c.next_word-word.result _ _ w.in-Some.mark.now _ w.in-Some.later.now c.if-word-lt7.rest.now left
            w.in-Some.ensures.cases.0 (w.is_of_word.ensures w.if-is_of_word.true) w.moment-is (ap (λ r. r.now) w.rest-is) more);
      }
      | else-word-lt7 w ↦ record {
        within = omega arith;
        made = λ more. c.loop-request.invariant.made
            (before_none c.loop-request.moment c.if-word-lt7.moment c.next_word-word.result _ _ _ c.if-word-lt7.rest.now left w.if-word-lt7.false w.moment-is (ap (λ r. r.now) w.rest-is) more);
      }
    ]

pub returns : goal.returns
returns c = λ is. c.loop-request.invariant.made
    (at_end c.loop-request.request c.loop-request.moment c.loop-request.random c.loop-request.rest.now c.loop-request-test.false (let e = c.is_empty.ensures in cc))
