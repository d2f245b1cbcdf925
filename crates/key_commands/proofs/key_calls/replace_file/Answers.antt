use Rattle.agent_ask.specs.Session.PortCalls.{Replaced}
use Rattle.key_commands.{specs.KeyActions.{done, not_done}, proofs.Doing.change_made}
use Rattle.key_commands.proofs.key_calls.replace_file.Goals as goal

pub returns : goal.returns
returns g c = change_made (λ answer. Replaced c.args.grip.now c.args.file.now answer) c.replace.result c.changed.result c.replace.ensures c.changed.ensures (λ held. done) (λ code refused held. not_done refused)
