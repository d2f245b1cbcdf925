use Rattle.agent_top.proofs.top.run_server.Goals as goal

pub returns-clause-served : goal.returns-clause-served
returns-clause-served g c = record {
  had = c.server_parts-parts.result;
  has = record {
    launcher = c.serve_alone-status.new.launcher;
    clock = c.serve_alone-status.new.clock;
    dice = c.serve_alone-status.new.dice;
    keys = c.serve_alone-status.new.keys;
  };
  had_is = c.server_parts-parts.ensures.given;
  has_is = c.parts_back.ensures.back;
  goes_on = rw c.number.ensures c.serve_alone-status.ensures.runs;
}
