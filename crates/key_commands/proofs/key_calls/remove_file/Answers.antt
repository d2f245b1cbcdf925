use Rattle.agent_ask.specs.Session.PortCalls.{Removed}
use Rattle.key_commands.{specs.KeyActions.{done, not_done}, proofs.Doing.change_made}
use Rattle.key_commands.proofs.key_calls.remove_file.Goals as goal

pub returns : goal.returns
returns g c = change_made (λ answer. Removed c.args.grip.now answer) c.remove.result c.changed.result c.remove.ensures c.changed.ensures (λ held. done) (λ code refused held. not_done refused)
