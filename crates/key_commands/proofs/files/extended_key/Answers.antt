use Rattle.std.proofs.Common.{inr}
use Rattle.key_commands.proofs.KeyFiles.{extended_key, extended_fault, extended_fits, no_key}
use Rattle.key_commands.proofs.files.extended_key.Goals as goal

pub returns-in-Ok : goal.returns-in-Ok
returns-in-Ok c =
    let file = c.args.file.now in
    let lines = c.in-Ok.lines in
    let has = c.in-Ok.ensures.found in
    let found = rw c.tree.ensures at c.of.ensures.found in
    let fault = rw c.tree.ensures at c.of.ensures.fault in
    record {
      key = extended_key file c.requires lines has c.of.result found;
      fault = extended_fault file c.requires lines has c.of.result fault;
      fits = extended_fits file c.requires lines has c.of.result found;
    }

pub returns-in_default-clause-fault : goal.returns-in_default-clause-fault
returns-in_default-clause-fault c = inr (no_key c.args.file.now c.requires c.in-Err.fault c.in_default.not-NoMemory c.in-Err.ensures.fault)
