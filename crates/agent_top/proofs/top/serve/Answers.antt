use Rattle.std.proofs.Common.{ap}
use Rattle.agent_top.{specs.Top.exit_number, proofs.Lifting.{session_ran, clock_stays_lent, launcher_stays_lent}}
use Rattle.agent_top.proofs.top.serve.Goals as goal

pub returns-clause-runs : goal.returns-clause-runs
returns-clause-runs g c =
    session_ran g.C.Clock.readings g.La.Launcher.launches c.args.rules.now _ _ _ _ c.args.desk.now c.serve_session.new.desk c.args.pinentry.now c.serve_session.new.prompter _ _ _ _ c.serve_session.result
    c.requires.desk c.requires.pinentry c.serve_session.ensures.serves c.serve_session.ensures.free c.serve_session.ensures.shut
    _ (ap exit_number c.of.ensures)

pub returns-clause-lent : goal.returns-clause-lent
returns-clause-lent g c =
    clock_stays_lent g.C.Clock.readings g.La.Launcher.launches c.args.rules.now _ _ _ _ c.args.desk.now c.serve_session.new.desk c.args.pinentry.now c.serve_session.new.prompter _ _ _ _ c.serve_session.result
    c.requires.desk c.requires.pinentry c.serve_session.ensures.serves c.serve_session.ensures.free c.serve_session.ensures.shut

pub returns-clause-launcher : goal.returns-clause-launcher
returns-clause-launcher g c =
    launcher_stays_lent g.C.Clock.readings g.La.Launcher.launches c.args.rules.now _ _ _ _ c.args.desk.now c.serve_session.new.desk c.args.pinentry.now c.serve_session.new.prompter _ _ _ _ c.serve_session.result
    c.requires.desk c.requires.pinentry c.serve_session.ensures.serves c.serve_session.ensures.free c.serve_session.ensures.shut
