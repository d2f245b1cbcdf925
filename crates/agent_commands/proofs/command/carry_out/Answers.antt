use Rattle.std.proofs.{Common.refl, lemmas.Result.err_from_is_err_and}
use Rattle.agent_ask.{specs.Session.{ActionStates.DoesPrompts, Actions.{returns, goes_on}, ActionReplies.{comes_to, stops_at}}, proofs.ActionsDone.{action_then, action_stops, action_still}}
use Rattle.agent_commands.{specs.Exchanges.tells, proofs.{Asking.asks_nobody, Carrying.{beside_desk, carries_beside, replies_ok}}}
use Rattle.agent_commands.proofs.command.carry_out.Goals as goal

pub get_passphrase-requires-clause-get : goal.get_passphrase-requires-clause-get
get_passphrase-requires-clause-get g c = rw c.in-GetPassphrase.is tt

pub carry_alone-requires : goal.carry_alone-requires
carry_alone-requires g c = asks_nobody c.args.command.now c.in_default.not-GetPassphrase c.in_default.not-PresetPassphrase c.in_default.not-GetConfirmation

pub returns-in_err-secret-in-GetPassphrase-clause-carries : goal.returns-in_err-secret-in-GetPassphrase-clause-carries
returns-in_err-secret-in-GetPassphrase-clause-carries g c =
    let p = err_from_is_err_and c.from_residual.result c.from_residual.ensures.1 in
    rw (c.in-GetPassphrase.is, p.1, p.2)
    (stops_at (action_stops (rw (c.in-GetPassphrase.is, c.requires.none) at c.in_err-secret-in-GetPassphrase.ensures.comes)))

pub returns-in_ok-secret-in-GetPassphrase-clause-carries : goal.returns-in_ok-secret-in-GetPassphrase-clause-carries
returns-in_ok-secret-in-GetPassphrase-clause-carries g c =
    let comes = rw (c.in-GetPassphrase.is, c.requires.none) at c.in_ok-secret-in-GetPassphrase.ensures.comes in
    rw c.in-GetPassphrase.is
    (comes_to (λ text is. action_then comes (action_still comes.fits.0 refl (goes_on (tells is) returns))))

pub returns-in_err-preset-in-PresetPassphrase-clause-carries : goal.returns-in_err-preset-in-PresetPassphrase-clause-carries
returns-in_err-preset-in-PresetPassphrase-clause-carries g c =
    let p = err_from_is_err_and c.from_residual-in_err-preset-in-PresetPassphrase.result c.from_residual-in_err-preset-in-PresetPassphrase.ensures.1 in
    rw (c.in-PresetPassphrase.is, c.requires.none, p.1, p.2)
    (stops_at (action_stops (beside_desk g.D.Desk.turned g.P.Prompter.prompted c.args.prompter.now c.in_err-preset-in-PresetPassphrase.ensures.presets)))

pub returns-in_ok-preset-in-PresetPassphrase-clause-carries : goal.returns-in_ok-preset-in-PresetPassphrase-clause-carries
returns-in_ok-preset-in-PresetPassphrase-clause-carries g c =
    rw (c.in-PresetPassphrase.is, c.requires.none)
    (replies_ok g.D.Desk.turned (DoesPrompts g.P.Prompter.prompted) c.preset.new.conn c.preset.new.desk c.args.prompter.now
    (beside_desk g.D.Desk.turned g.P.Prompter.prompted c.args.prompter.now c.in_ok-preset-in-PresetPassphrase.ensures.presets))

pub returns-in_err-agree_by_mode-in-GetConfirmation-clause-carries : goal.returns-in_err-agree_by_mode-in-GetConfirmation-clause-carries
returns-in_err-agree_by_mode-in-GetConfirmation-clause-carries g c =
    let p = err_from_is_err_and c.from_residual-in_err-agree_by_mode-in-GetConfirmation.result c.from_residual-in_err-agree_by_mode-in-GetConfirmation.ensures.1 in
    rw (c.in-GetConfirmation.is, p.1, p.2)
    (stops_at (action_stops (rw c.requires.none at c.in_err-agree_by_mode-in-GetConfirmation.ensures.agrees)))

pub returns-in_ok-agree_by_mode-in-GetConfirmation-clause-carries : goal.returns-in_ok-agree_by_mode-in-GetConfirmation-clause-carries
returns-in_ok-agree_by_mode-in-GetConfirmation-clause-carries g c =
    rw c.in-GetConfirmation.is
    (replies_ok g.D.Desk.turned (DoesPrompts g.P.Prompter.prompted) c.agree_by_mode.new.client c.agree_by_mode.new.desk c.agree_by_mode.new.prompter
    (rw c.requires.none at c.in_ok-agree_by_mode-in-GetConfirmation.ensures.agrees))

pub returns-in_default-clause-carries : goal.returns-in_default-clause-carries
returns-in_default-clause-carries g c =
    rw c.requires.none (carries_beside g.D.Desk.turned g.P.Prompter.prompted c.args.prompter.now (c.carry_alone.ensures.carries c.args.conn.now c.requires.open))
