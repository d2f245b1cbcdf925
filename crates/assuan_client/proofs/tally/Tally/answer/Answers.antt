use Rattle.assuan_client.specs.Answers.{ended, too_long, spent, read_fault}
use Rattle.assuan_client.proofs.tally.Tally.answer.Goals as goal

pub returns-in-TooLong-clause-says : goal.returns-in-TooLong-clause-says
returns-in-TooLong-clause-says c = λ stop. rw c.in-TooLong.is too_long

pub returns-in-End-clause-says : goal.returns-in-End-clause-says
returns-in-End-clause-says c = λ stop. rw c.in-End.is ended

pub returns-in-Spent-clause-says : goal.returns-in-Spent-clause-says
returns-in-Spent-clause-says c = λ stop. rw c.in-Spent.is spent

pub returns-in-ReadFault-clause-says : goal.returns-in-ReadFault-clause-says
returns-in-ReadFault-clause-says c = λ stop. rw c.in-ReadFault.is read_fault
