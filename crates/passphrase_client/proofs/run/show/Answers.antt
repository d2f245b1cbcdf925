use Rattle.std.proofs.Common.{refl}
use Rattle.passphrase_client.proofs.run.show.Goals as goal

pub returns : goal.returns
returns g c = λ contacts input. record {
  written = c.put.result;
  writes = rw c.as_bytes.ensures.value at c.put.ensures;
  contacts = refl;
  input = refl;
  says = rw c.end_of-ending.ensures at c.tell.ensures;
  status_is = rw c.end_of-ending.ensures at c.status.ensures;
}
