use Rattle.std.proofs.Common.{ap, ◌∙◌}
use Rattle.{session_client.specs.Fields.in_form, key_commands.proofs.Reading.reads_grip}
use Rattle.agent_origin.proofs.trust.read.read_fingerprint.Goals as goal

pub returns : goal.returns
returns c = c.ok_or.ensures.value ∙ ap in_form (reads_grip c.args.word.now c.of_hex.result c.of_hex.ensures.value c.of_hex.ensures.found)
