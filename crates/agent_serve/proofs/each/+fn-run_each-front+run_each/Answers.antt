use Rattle.agent_serve.proofs.Pairs.{paired_with_last}
use Rattle.agent_serve.proofs.each.+fn-run_each-front+run_each.Goals as goal

pub returns-clause-each : goal.returns-clause-each
returns-clause-each g t c =
    let r = c.join-job.result in
    let p = c.in-Some.ensures.some in
    rw (p.first_is, p.second_is, c.push_reserved-2.ensures.items, c.push_reserved-3.ensures.items)
    (paired_with_last (g.T.Task.did c.args.task.now) (g.T.Task.did c.args.last.now) c.pop_pair.new.jobs.items c.pop_pair.new.ears.items r.1.0.items r.1.1.items c.in-Some.job c.in-Some.ear r.0.0 r.0.1
    c.join-job.ensures.second.4 c.join-job.ensures.first)
