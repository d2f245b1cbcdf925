use Rattle.std.proofs.Common.{Ok, inl, inr}
use Rattle.key_commands.proofs.{KeyFiles.has_lines, files.lines_of.Goals.{in-NoMemory, in_default}}
use Rattle.key_commands.proofs.files.lines_of.Goals as goal

pub prove-unreachable-requires : goal.prove-unreachable-requires
prove-unreachable-requires c =
    let some = c.requires.file in
    let lines = has_lines c.args.file.now some.0 c.requires.extended some.1 in
    elim (c.read_lines.ensures.only (Ok lines.0) lines.1) [
      | inl memory ↦ elim c.match-matches.branch [
        | in-NoMemory w ↦ cc (c.if-prove.true, w.matches-is)
        | in_default w ↦ w.in_default.not-NoMemory (cc (c.in-Err.is, memory))
      ]
      | inr same ↦ cc (c.in-Err.is, same)
    ]
