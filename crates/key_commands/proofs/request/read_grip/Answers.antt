use Rattle.std.proofs.Common.{ap, ◌∙◌}
use Rattle.session_client.specs.Fields.{in_form}
use Rattle.key_commands.proofs.Reading.{reads_grip}
use Rattle.key_commands.proofs.request.read_grip.Goals as goal

pub returns : goal.returns
returns c = c.ok_or.ensures.value ∙ ap in_form (reads_grip c.args.word.now c.of_hex.result c.of_hex.ensures.value c.of_hex.ensures.found)
