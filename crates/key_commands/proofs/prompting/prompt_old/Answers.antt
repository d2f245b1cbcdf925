use Rattle.std.proofs.{Common.{false, refl}, lemmas.Result.err_from_is_err_and}
use Rattle.{assuan_server.specs.Clients.connection_views, agent_ask.{specs.{Session.ActionStates.NoTurn, PinActions.prompted}, proofs.ActionsAtClient.{prompt_answered, planned}}}
use Rattle.key_commands.{proofs.{Partial.each_prompted, AtPrompt.{opened_last, opens_last, spec_says, plan_says}}, specs.{Partial.DoesBesideKeys, Passphrases.{opens_by, refused}}}
use Rattle.key_commands.proofs.prompting.prompt_old.Goals as goal

pub unreachable-requires : goal.unreachable-requires
unreachable-requires g c =
    let last = opened_last (λ test. test.locked.now) (λ test. test.opened) (c.in_ok-pin.ensures.accepted _ refl) in
    cc (last.is, c.into_opened.ensures, c.in-None.is)

pub returns-in_err-pin-clause-prompts : goal.returns-in_err-pin-clause-prompts
returns-in_err-pin-clause-prompts g c =
    let p = err_from_is_err_and c.from_residual.result c.from_residual.ensures.1 in
    let asked = c.in_err-pin.ensures.asked in
    let spec = spec_says (rw c.old_description.ensures at c.described.ensures) c.field_text.ensures c.prompt_spec-spec.ensures in
    let plan = plan_says c.args.asking.now.rules.now c.args.asking.now.options.now false 0 c.ask_plan-plan.ensures c.new.ensures in
    rw (← c.ticket.ensures, p.1, p.2)
    (prompt_answered connection_views NoTurn tt (DoesBesideKeys g.P.Prompter.prompted) (λ same. same) each_prompted asked
    (λ events prompts. prompted c.prompt_spec-spec.result spec (planned plan prompts) (refused asked.are.gives)) c.in_err-pin.ensures.left)

pub returns-clause-prompts : goal.returns-clause-prompts
returns-clause-prompts g c =
    let asked = c.in_ok-pin.ensures.asked in
    let last = opened_last (λ test. test.locked.now) (λ test. test.opened) (c.in_ok-pin.ensures.accepted _ refl) in
    let spec = spec_says (rw c.old_description.ensures at c.described.ensures) c.field_text.ensures c.prompt_spec-spec.ensures in
    let plan = plan_says c.args.asking.now.rules.now c.args.asking.now.options.now false 0 c.ask_plan-plan.ensures c.new.ensures in
    rw (← c.ticket.ensures)
    (prompt_answered connection_views NoTurn tt (DoesBesideKeys g.P.Prompter.prompted) (λ same. same) each_prompted asked
    (λ events prompts. prompted c.prompt_spec-spec.result spec (planned plan (rw asked.are.gives at prompts)) (opens_by (opens_last last c.in-Some.ensures).0)) c.in_ok-pin.ensures.left)

pub returns-clause-usable : goal.returns-clause-usable
returns-clause-usable g c =
    let last = opened_last (λ test. test.locked.now) (λ test. test.opened) (c.in_ok-pin.ensures.accepted _ refl) in
    (opens_last last c.in-Some.ensures).1
