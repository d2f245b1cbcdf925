use Rattle.std.proofs.Common.{length}
use Rattle.pinentry_script.proofs.Files.{behind_short}
use Rattle.pinentry_script.proofs.entries.text_behind.Goals as goal

pub returns-in-32-clause-short : goal.returns-in-32-clause-short
returns-in-32-clause-short c =
    behind_short (length c.args.word.now) c.args.line.now c.in_ok-strip_prefix.field-0.now c.in_ok-strip_prefix.ensures.cases.1 c.requires
