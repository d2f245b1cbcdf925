use Rattle.std.proofs.Common.{ap, length, ◌∙◌}
use Rattle.secret_file.proofs.Openings.{chained_opening}
use Rattle.secret_file.proofs.secrets.decrypted_key.Goals as goal

pub returns-clause-found : goal.returns-clause-found
returns-clause-found c =
    chained_opening c.args.locked.now c.args.protection.now.salt c.args.protection.now.count c.args.iv.now c.args.protection.now.encrypted.now c.args.pass.now c.as_slice.result.now c.clear_key.result
    (c.as_slice.ensures ∙ c.in_ok-bytes.ensures.value) (ap length c.as_slice.ensures ∙ c.in_ok-bytes.ensures.len) c.clear_key.ensures.found c.clear_key.ensures.none
