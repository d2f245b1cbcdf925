use Rattle.std.proofs.{Common.{◌≡◌}, lemmas.Result.{err_from_is_err_and}}
use Rattle.agent_ask.proofs.{Clients.{left_noted}, Trying.{accepted_by, memory_by, found_no_memory}}
use Rattle.agent_ask.specs.declared.prompt.ask.Asked.TheVariants as asked
use Rattle.agent_ask.proofs.prompt.given.ask_user.Goals as goal

pub returns-in_err-prompt_pin-clause-left : goal.returns-in_err-prompt_pin-clause-left
returns-in_err-prompt_pin-clause-left g c =
    let p = err_from_is_err_and c.from_residual.result c.from_residual.ensures.1 in
    rw (p.1, p.2) (left_noted g.C.Client.views g.C.Client.wished c.in_err-prompt_pin.field-0.0 c.in_err-prompt_pin.ensures.left.1)

pub returns-clause-accepted : goal.returns-clause-accepted
returns-clause-accepted g c = λ pin is.
    let gives : c.in_ok-prompt_pin.field-0 ≡ asked.Pin pin = rw is at c.given.ensures.gives in
    accepted_by (rw gives at c.in_ok-prompt_pin.ensures.asked.are)

pub returns-clause-no_memory : goal.returns-clause-no_memory
returns-clause-no_memory g c = λ is. memory_by (rw (found_no_memory _ (rw is at c.given.ensures.gives)) at c.in_ok-prompt_pin.ensures.asked.are)
