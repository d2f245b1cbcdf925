use Rattle.std.proofs.Common.{refl}
use Rattle.passphrase_client.specs.Runs.{runs, refused}
use Rattle.passphrase_client.proofs.run.run_passphrase.Goals as goal

pub returns-in-Ok-Task-clause-runs : goal.returns-in-Ok-Task-clause-runs
returns-in-Ok-Task-clause-runs g c = runs (rw c.in-Ok-Task.field-0-is at c.in-Ok-Task.ensures.read) c.run_task.ensures.runs

pub returns-in-Ok-Task-clause-unprompted : goal.returns-in-Ok-Task-clause-unprompted
returns-in-Ok-Task-clause-unprompted g c = λ never. c.run_task.ensures.unprompted (never _ (rw c.in-Ok-Task.field-0-is at c.in-Ok-Task.ensures.read))

pub returns-in-Err-clause-runs : goal.returns-in-Err-clause-runs
returns-in-Err-clause-runs g c =
    refused c.in-Err.ensures.refused c.in-Err.ensures.told
    (record { contacts = refl; input = refl; output = refl; says = c.refuse.ensures.says; status_is = c.refuse.ensures.status })
