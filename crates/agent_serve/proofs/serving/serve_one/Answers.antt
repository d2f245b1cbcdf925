use Rattle.std.proofs.Common.{refl}
use Rattle.agent_serve.proofs.Lifting.{one_is_served}
use Rattle.agent_serve.proofs.serving.serve_one.Goals as goal

pub returns : goal.returns
returns g c =
    rw c.into_pass.ensures
    (one_is_served _ g.H.Trust.TrustFile.trust (g.H.Host.homedir c.args.host.now)
    c.args.rules.now c.args.door c.args.session _ _ c.args.pass c.session_parts-parts.result c.trust-trust.result c.new-desk.result c.serve_door-end.new.desk
    c.new-prompter.result c.serve_door-end.new.prompter (g.H.Keys.Keys.keys c.serve_door-end.new.keys) (g.H.Dice.Dice.draws c.serve_door-end.new.dice) (g.H.Trust.TrustFile.trust c.serve_door-end.new.trust)
    c.serve_door-end.result c.new-desk.ensures
    (rw c.new-prompter.ensures (rw (c.new-pinentry.ensures.program, c.new-pinentry.ensures.child, c.new-pinentry.ensures.ready, c.copied.ensures) refl))
    c.session_parts-parts.ensures.new c.trust-trust.ensures.unused c.session_parts-parts.ensures.folder c.trust-trust.ensures.folder (rw (c.new-prompter.ensures, c.new-pinentry.ensures.launcher) refl)
    c.serve_door-end.ensures.serves c.serve_door-end.ensures.free c.serve_door-end.ensures.shut)
