use Rattle.std.proofs.{Common.{[]}, lemmas.Result.err_from_is_err_and}
use Rattle.agent_ports.specs.Leads.{none}
use Rattle.agent_ask.{specs.Prompts.{unopened, client_error, tried}, proofs.{Clients.not_fine, Making.{made_as, made_then, made_beside}, Trying.never_heard}}
use Rattle.agent_ask.proofs.prompt.ask.ask_before_shut.Goals as goal

pub returns-in_err-open_prompt-clause-asked : goal.returns-in_err-open_prompt-clause-asked
returns-in_err-open_prompt-clause-asked g c =
    let p = err_from_is_err_and c.from_residual.result c.from_residual.ensures.1 in
    rw (p.1, p.2)
    (made_as _ (λ events opens. record { tests = []; done = client_error (not_fine c.in_err-open_prompt.field-0.0) opens; tested_so = none }) c.in_err-open_prompt.ensures.opened)

pub returns-then-not-branch-clause-asked : goal.returns-then-not-branch-clause-asked
returns-then-not-branch-clause-asked g c =
    made_as _ (λ events opens. record { tests = []; done = unopened opens; tested_so = none }) (rw c.if-not-branch.true at c.in_ok-open_prompt.ensures.opened)

pub returns-clause-asked : goal.returns-clause-asked
returns-clause-asked g c =
    made_then _ (λ events more opens with_tests. record { tests = with_tests.tests; done = tried opens with_tests.done; tested_so = with_tests.tested_so })
    (rw c.if-not-branch.false at c.in_ok-open_prompt.ensures.opened) (made_beside c.open_prompt.new.caller c.ask_tries.ensures)

pub returns-clause-tried : goal.returns-clause-tried
returns-clause-tried g c = λ heard is.
    never_heard heard (rw is at c.ask_tries.ensures.are.done)
