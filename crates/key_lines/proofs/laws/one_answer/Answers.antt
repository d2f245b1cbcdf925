use Rattle.key_lines.{specs.KeyItem.key_value, proofs.NoMemory.no_memory}
use Rattle.key_lines.proofs.OneAnswer as answers
use Rattle.key_lines.proofs.laws.one_answer.Goals as goal

pub returns-clause-one : goal.returns-clause-one
returns-clause-one c = answers.one_answer c.one_answer.ensures

pub returns-clause-canon : goal.returns-clause-canon
returns-clause-canon c = answers.one_canon c.one_answer.ensures

pub returns-clause-memory : goal.returns-clause-memory
returns-clause-memory c file = (λ h. h, λ h. no_memory (key_value file) h.1)
