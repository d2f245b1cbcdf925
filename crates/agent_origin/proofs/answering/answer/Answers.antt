use Rattle.std.proofs.Common.{sym, ap, ◌∙◌, Some}
use Rattle.agent_commands.specs.Requests.{request_of}
use Rattle.agent_origin.{specs.declared.door_session.DoorCommand.DoorCommand, proofs.{AtDoor.{forbidden_is_answered, help_is_answered, terminal_is_unset, trust_is_answered, session_line_is_answered}, Beside.{quiet_beside, trust_beside}}}
use Rattle.agent_origin.proofs.answering.answer.Goals as goal

pub returns-then-not-may_say-clause-answers : goal.returns-then-not-may_say-clause-answers
returns-then-not-may_say-clause-answers g c =
    forbidden_is_answered g.D.Desk.turned g.P.Prompter.prompted c.args.door c.args.rules.now c.args.line.now c.args.kept.now _ _ (sym c.may_say.ensures ∙ c.if-not-may_say.true) c.requires.open c.refuse.ensures

pub returns-in-Some-Help-clause-answers : goal.returns-in-Some-Help-clause-answers
returns-in-Some-Help-clause-answers g c =
    help_is_answered g.D.Desk.turned g.P.Prompter.prompted c.args.door c.args.rules.now c.args.line.now (sym c.may_say.ensures ∙ c.if-not-may_say.false) c.args.kept.now _ _
    (sym c.door_command.ensures ∙ c.in-Some-Help.is ∙ ap (λ (d : DoorCommand). Some d) c.in-Some-Help.field-0-is)
    c.requires.open c.help.ensures

pub returns-in-Some-Terminal-clause-answers : goal.returns-in-Some-Terminal-clause-answers
returns-in-Some-Terminal-clause-answers g c =
    terminal_is_unset g.D.Desk.turned g.P.Prompter.prompted c.args.door c.args.rules.now c.args.line.now (sym c.may_say.ensures ∙ c.if-not-may_say.false) c.args.kept.now _ _
    (sym c.door_command.ensures ∙ c.in-Some-Terminal.is ∙ ap (λ (d : DoorCommand). Some d) c.in-Some-Terminal.field-0-is)
    c.requires.open c.say_ok.ensures

pub returns-in-Some-Trust-clause-answers : goal.returns-in-Some-Trust-clause-answers
returns-in-Some-Trust-clause-answers g c =
    trust_is_answered g.D.Desk.turned g.P.Prompter.prompted c.args.door c.args.rules.now c.args.line.now (sym c.may_say.ensures ∙ c.if-not-may_say.false) c.args.kept.now
    (sym c.door_command.ensures ∙ c.in-Some-Trust.is ∙ ap (λ (d : DoorCommand). Some d) c.in-Some-Trust.field-0-is)
    (c.answer_trust.ensures.answers (g.K.Keys.keys c.args.keys.now) (g.R.Dice.draws c.args.dice.now))

pub returns-in-Some-clause-answers : goal.returns-in-Some-clause-answers
returns-in-Some-clause-answers g c =
    session_line_is_answered g.D.Desk.turned g.P.Prompter.prompted c.args.door c.args.rules.now c.args.line.now (sym c.may_say.ensures ∙ c.if-not-may_say.false) (sym c.door_command.ensures ∙ c.in-None.is)
    (trust_beside g.D.Desk.turned g.P.Prompter.prompted (g.T.TrustFile.trust c.args.trust.now)
    (quiet_beside g.D.Desk.turned g.P.Prompter.prompted c.args.rules.now (g.K.Keys.keys c.args.keys.now) (g.R.Dice.draws c.args.dice.now) c.args.kept.now.wraps (request_of c.args.line.now) c.args.prompter.now
    (c.run_quiet.ensures.answers c.args.rules.now c.args.kept.now.options c.args.line.now (sym (rw c.of_cut-request.ensures at c.quiet.ensures) ∙ c.in-Some.is))))

pub returns-clause-answers : goal.returns-clause-answers
returns-clause-answers g c =
    session_line_is_answered g.D.Desk.turned g.P.Prompter.prompted c.args.door c.args.rules.now c.args.line.now (sym c.may_say.ensures ∙ c.if-not-may_say.false) (sym c.door_command.ensures ∙ c.in-None.is)
    (trust_beside g.D.Desk.turned g.P.Prompter.prompted (g.T.TrustFile.trust c.args.trust.now) c.answer_whole-went.ensures.answers)
