use Rattle.key_commands.proofs.{KeyFiles.{list_fault, list_read}, files.list_tree.Goals.{in-NoMemory, in_default}}
use Rattle.key_commands.proofs.files.list_tree.Goals as goal

pub prove-unreachable-requires : goal.prove-unreachable-requires
prove-unreachable-requires c =
    let memory = list_fault c.args.list.now c.requires.0 c.requires.1 c.read.result c.read.ensures.again c.in-Err.fault c.in-Err.is in
    elim c.match-matches.branch [
      | in-NoMemory w ↦ cc (c.if-prove.true, w.matches-is)
      | in_default w ↦ w.in_default.not-NoMemory memory
    ]

pub returns-in-Ok : goal.returns-in-Ok
returns-in-Ok c = list_read c.args.list.now c.requires.0 c.requires.1 c.read.result c.read.ensures.again c.in-Ok.tree c.in-Ok.field-0-1 c.in-Ok.is
