use Rattle.std.proofs.Common.{true}
use Rattle.{assuan_server.specs.Clients.connection_views, agent_ask.{specs.{Session.ActionStates.NoTurn, PinActions.prompted}, proofs.{ActionsAtClient.{prompt_answered, planned}, Trying.wants_no_memory}}}
use Rattle.key_commands.{proofs.{Partial.each_prompted, AtPrompt.{spec_says, plan_says}}, specs.Partial.DoesBesideKeys}
use Rattle.key_commands.proofs.prompting.prompt_new.Goals as goal

pub returns-clause-prompts : goal.returns-clause-prompts
returns-clause-prompts g c =
    let asked = c.ask_user.ensures.asked in
    let spec = spec_says c.new_description.ensures c.field_text.ensures c.prompt_spec-spec.ensures in
    let plan = plan_says c.args.asking.now.rules.now c.args.asking.now.options.now true 1 c.ask_plan-plan.ensures c.new.ensures in
    rw (← c.ticket.ensures)
    (prompt_answered connection_views NoTurn tt (DoesBesideKeys g.P.Prompter.prompted) (λ same. same) each_prompted asked
    (λ events prompts. prompted c.prompt_spec-spec.result spec (planned plan prompts) (wants_no_memory asked.are.asks, asked.are.gives)) c.ask_user.ensures.left)
