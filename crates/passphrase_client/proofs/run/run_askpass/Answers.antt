use Rattle.std.proofs.Common.{refl}
use Rattle.passphrase_client.specs.Runs.{runs_askpass, refused_askpass}
use Rattle.passphrase_client.proofs.run.run_askpass.Goals as goal

pub returns-in-Ok : goal.returns-in-Ok
returns-in-Ok g c = runs_askpass c.in-Ok.ensures.read c.run_task.ensures.runs

pub returns-in-Err : goal.returns-in-Err
returns-in-Err g c =
    refused_askpass c.in-Err.ensures.refused c.in-Err.ensures.told
    (record { contacts = refl; input = refl; output = refl; says = c.refuse.ensures.says; status_is = c.refuse.ensures.status })
