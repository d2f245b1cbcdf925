use Rattle.std.proofs.Common.{sym, ◌∙◌}
use Rattle.key_commands.proofs.KeyFiles.{canonical_key, canonical_fault}
use Rattle.key_commands.proofs.files.file_key.Goals as goal

pub returns-then-is_canonical-clause-key : goal.returns-then-is_canonical-clause-key
returns-then-is_canonical-clause-key c = canonical_key c.args.file.now (sym c.is_canonical.ensures ∙ c.if-is_canonical.true) c.key_of.result c.key_of.ensures.found

pub returns-then-is_canonical-clause-fault : goal.returns-then-is_canonical-clause-fault
returns-then-is_canonical-clause-fault c =
    canonical_fault c.args.file.now (sym c.is_canonical.ensures ∙ c.if-is_canonical.true) c.key_of.result c.key_of.ensures.fault
