use Rattle.std.proofs.Common.{map, string_bytes, sym, ap, subst, ◌∙◌}
use Rattle.passphrase_words.{specs.{Faults.fault_text, Refusals.Refuses, Spelling.operands_of, Tasks.task_value}, proofs.Reading.{reads_task, no_such_task, no_operands, refuses_word, refuses_task}}
use Rattle.passphrase_words.proofs.words.read_task.Goals as goal

pub returns-in-Ok-task_from-clause-read : goal.returns-in-Ok-task_from-clause-read
returns-in-Ok-task_from-clause-read c =
    reads_task (map string_bytes c.args.words.now) (map string_bytes c.in-Ok.operands.now) (task_value c.in-Ok-task_from.task)
    (ap operands_of (sym c.requires.rest) ∙ c.in-Ok.ensures) c.in-Ok-task_from.ensures.read

pub returns-in-Err-task_from-clause-refused : goal.returns-in-Err-task_from-clause-refused
returns-in-Err-task_from-clause-refused c =
    no_such_task (map string_bytes c.args.words.now) (map string_bytes c.args.rest.now) (map string_bytes c.in-Ok.operands.now)
    c.requires.rest c.requires.other c.in-Ok.ensures c.in-Err-task_from.ensures.refused

pub returns-in-Err-task_from-clause-told : goal.returns-in-Err-task_from-clause-told
returns-in-Err-task_from-clause-told c =
    refuses_task (map string_bytes c.args.words.now) (map string_bytes c.args.rest.now) (map string_bytes c.in-Ok.operands.now) (fault_text c.in-Err-task_from.fault)
    c.requires.rest c.requires.all c.in-Ok.ensures c.in-Err-task_from.ensures.told

pub returns-in-Err-clause-refused : goal.returns-in-Err-clause-refused
returns-in-Err-clause-refused c =
    no_operands (map string_bytes c.args.words.now) (map string_bytes c.args.rest.now) c.requires.rest c.requires.other c.in-Err.ensures.0

pub returns-in-Err-clause-told : goal.returns-in-Err-clause-told
returns-in-Err-clause-told c =
    let word = c.in-Err.word.now in
    subst (Refuses (map string_bytes c.args.words.now)) (sym c.unread.ensures)
    (refuses_word (map string_bytes c.args.words.now) (map string_bytes c.args.rest.now) word c.in-Err.ensures.1 c.requires.rest c.requires.all c.requires.other c.in-Err.ensures.0 c.in-Err.ensures.2)
