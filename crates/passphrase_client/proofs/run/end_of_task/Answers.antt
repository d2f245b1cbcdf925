use Rattle.std.proofs.Common.{refl, ◌∙◌}
use Rattle.passphrase_client.{specs.Runs.{refused_input, not_found, ended, given}, proofs.Unprompted.all_wait}
use Rattle.passphrase_client.proofs.run.end_of_task.Goals as goal

pub returns-in-Err-clause-goes : goal.returns-in-Err-clause-goes
returns-in-Err-clause-goes g c = λ errors later. refused_input c.in-Err.ensures refl refl

pub returns-in-Err-find-clause-goes : goal.returns-in-Err-find-clause-goes
returns-in-Err-find-clause-goes g c =
    let find = c.in-Err-find.ensures in
    λ errors later. rw c.end_of_unmet.ensures (not_found c.in-Ok.held c.in-Ok.ensures (record { sought = find.sought; coming = find.coming; opened = find.opened; met = find.met; launches = find.launches; failed = find.failed; faults = find.faults; no_memory = find.no_memory; shortages = find.shortages }) refl)

pub returns-in-Gives-clause-goes : goal.returns-in-Gives-clause-goes
returns-in-Gives-clause-goes g c =
    let find = c.in-Ok-find.ensures in
    let comes = rw (find.terminal, c.steps_of-steps.ensures, c.in-Gives.is) at c.come_to-course.ensures.comes in
    λ errors later. rw c.end_of.ensures (given (record {
      held = c.in-Ok.held;
      agents = c.in-Ok-find.agents;
      between = g.C.Connector.contacts c.find.new.self;
      replies = comes.0;
      holds = c.in-Ok.ensures;
      finds = record { sought = find.sought; coming = find.coming; opened = find.opened; met = find.met; launches = find.launches; failed = find.failed; faults = find.faults; no_memory = find.no_memory; shortages = find.shortages };
      comes = comes.1;
    }) c.give.ensures)

pub returns-clause-goes : goal.returns-clause-goes
returns-clause-goes g c =
    let find = c.in-Ok-find.ensures in
    let comes = rw (find.terminal, c.steps_of-steps.ensures, c.in-Ends.is) at c.come_to-course.ensures.comes in
    λ errors later. ended (record {
      held = c.in-Ok.held;
      agents = c.in-Ok-find.agents;
      between = g.C.Connector.contacts c.find.new.self;
      replies = comes.0;
      holds = c.in-Ok.ensures;
      finds = record { sought = find.sought; coming = find.coming; opened = find.opened; met = find.met; launches = find.launches; failed = find.failed; faults = find.faults; no_memory = find.no_memory; shortages = find.shortages };
      comes = comes.1;
    }) refl

pub returns-in-Gives-clause-unprompted : goal.returns-in-Gives-clause-unprompted
returns-in-Gives-clause-unprompted g c = λ never.
    c.come_to-course.ensures.unprompted (rw c.steps_of-steps.ensures (all_wait c.args.task.now.act c.in-Ok-find.agents never)) ∙ c.in-Ok-find.ensures.launches

pub returns-clause-unprompted : goal.returns-clause-unprompted
returns-clause-unprompted g c = λ never.
    c.come_to-course.ensures.unprompted (rw c.steps_of-steps.ensures (all_wait c.args.task.now.act c.in-Ok-find.agents never)) ∙ c.in-Ok-find.ensures.launches
