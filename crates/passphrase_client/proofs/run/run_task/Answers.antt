use Rattle.passphrase_client.proofs.run.run_task.Goals as goal

pub returns-clause-runs : goal.returns-clause-runs
returns-clause-runs g c = record {
  ending = c.end_of_task-ending.result;
  goes = c.end_of_task-ending.ensures.goes (g.E.Sink.output c.args.errors.now) (g.E.Sink.output c.tell.new.errors);
  says = rw (c.id.ensures.bytes, c.as_bytes.ensures.value, c.reason.ensures) at c.tell.ensures;
  status_is = c.status.ensures;
}
