use Rattle.std.proofs.Common.{true, refl}
use Rattle.passphrase_words.specs.Requests.{Looks, Asks, line_of_request}
use Rattle.passphrase_laws.{proofs.{Asked.{looks_read, asks_read}, Reaching.reaches}, specs.Asking.{fields_of, is_quiet, repeats_of}}
use Rattle.passphrase_laws.proofs.road.a_task_is_told_what_its_request_came_to.Goals as goal

pub returns : goal.returns
returns c = record {
  looks = λ task prompt description rules values after replies behind events went options turns left written says exchange not whole are few talk.
      reaches rules values after (fields_of task prompt description true 0) (line_of_request task Looks) replies behind events went options turns left written exchange (looks_read task prompt description says)
      refl not whole are few talk;
  asks = λ task prompt description rules values after replies behind events went options turns left written says exchange not whole are few talk.
      reaches rules values after (fields_of task prompt description (is_quiet task.act) (repeats_of task.act)) (line_of_request task Asks) replies behind events went options turns left written exchange
      (asks_read task prompt description says) refl not whole are few talk;
}
