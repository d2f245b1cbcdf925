use Rattle.std.proofs.{Common.{◌+◌, ◌-◌, length, drop, sym, ◌∙◌, arith}, lemmas.List.{take_all, length-drop}}
use Rattle.pinentry_script.proofs.Files.{split_there}
use Rattle.pinentry_script.proofs.entries.next_line.Goals as goal

pub returns-clause-line : goal.returns-clause-line
returns-clause-line c =
    let file = c.args.file.now in
    let end = c.in_ok-end.end in
    let there = split_there file end (sym c.line_feed.ensures ∙ c.in_ok-end.was) in
    (there.0, there.1, take_all (length file - (end + 1)) (drop (end + 1) file) (omega (arith, length-drop (end + 1) file)) ∙ there.2)
