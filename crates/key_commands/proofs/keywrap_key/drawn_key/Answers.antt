use Rattle.std.{proofs.Common.{◌≡◌, Some, None, sym, ap, ◌∙◌, refl}, specs.Option.option_copied}
use Rattle.agent_ask.specs.Session.Actions.{returns}
use Rattle.key_commands.specs.{Exchanges.wrap_key, Steps.{no_draw, one_draw}}
use Rattle.key_commands.proofs.keywrap_key.drawn_key.Goals as goal

pub returns-in-Some : goal.returns-in-Some
returns-in-Some g c =
    let kept : wrap_key c.args.way c.args.wraps.now ≡ Some c.in-Some.key.now = sym c.key.ensures ∙ ap option_copied c.in-Some.is in
    rw (kept, c.copy.ensures) (no_draw (λ held. returns) refl)

pub returns-in-None : goal.returns-in-None
returns-in-None g c =
    let none : wrap_key c.args.way c.args.wraps.now ≡ None = sym c.key.ensures ∙ ap option_copied c.in-None.is in
    rw none (one_draw c.draw.ensures)
