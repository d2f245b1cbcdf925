use Rattle.agent_ask.{specs.{Session.ActionStates.{DoesPrompts, NoTurn}, PinActions.prompted}, proofs.{ActionsAtClient.{prompt_answered, planned}, Trying.wants_no_memory}}
use Rattle.{assuan_server.specs.Clients.connection_views, agent_commands.proofs.Carrying.each_prompted}
use Rattle.agent_commands.proofs.passphrase.prompt.Goals as goal

pub returns-clause-prompts : goal.returns-clause-prompts
returns-clause-prompts g c =
    let asked = c.ask_user.ensures.asked in
    rw (← c.ticket.ensures)
    (prompt_answered connection_views NoTurn tt (DoesPrompts g.P.Prompter.prompted) (λ same. same) each_prompted asked
    (λ events prompts. prompted c.prompt_spec-spec.result c.prompt_spec-spec.ensures (planned c.ask_plan-plan.ensures prompts) (wants_no_memory asked.are.asks, asked.are.gives))
    c.ask_user.ensures.left)
