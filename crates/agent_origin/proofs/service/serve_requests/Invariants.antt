use Rattle.std.proofs.Common.{◌≡◌, None}
use Rattle.{assuan_line.specs.Next.held, agent_ask.specs.Prompters.IsShut}
use Rattle.agent_origin.{specs.{DoorSessions.exchange_at, PortStates.{PortWorld, port_state}}, proofs.Serving.IsServing}
use Rattle.agent_origin.proofs.service.serve_requests.Given as goal

abbrev pub invariant-loop-line : goal.invariant-loop-line
invariant-loop-line g l =
    record {
      serving : IsServing {w = PortWorld g.D.Desk.turned g.P.Prompter.prompted} (exchange_at l.fn.door l.fn.rules) l.fn.kept
          (port_state g.D.Desk.turned g.P.Prompter.prompted l.fn.conn l.fn.desk l.fn.prompter (g.K.Keys.keys l.fn.keys) (g.R.Dice.draws l.fn.dice) (g.T.TrustFile.trust l.fn.trust))
          (port_state g.D.Desk.turned g.P.Prompter.prompted l.conn l.desk l.prompter (g.K.Keys.keys l.keys) (g.R.Dice.draws l.dice) (g.T.TrustFile.trust l.trust)) l.kept;
      going : l.conn.reader.ended ≡ None;
      free : (g.D.Desk.at l.desk).out ≡ None;
      shut : IsShut (g.P.Prompter.at l.prompter);
    }

abbrev pub decreases-loop-line : goal.decreases-loop-line
decreases-loop-line g l = held l.conn.reader
