use Rattle.std.proofs.Common.{◌≡◌, length}
use Rattle.assuan_client.proofs.Sending.{IsPutting}
use Rattle.assuan_client.proofs.data.send_data.Given as goal

abbrev pub invariant-loop-rest : goal.invariant-loop-rest
invariant-loop-rest g l = record {
  putting : IsPutting l.fn.bytes (g.K.Sink.output l.fn.sink) (g.K.Sink.output l.sink) l.rest;
  beside : g.K.Sink.beside_output l.sink ≡ g.K.Sink.beside_output l.fn.sink;
}

abbrev pub decreases-loop-rest : goal.decreases-loop-rest
decreases-loop-rest g l = length l.rest
