use Rattle.std.proofs.Common.{◌<◌, arith}
use Rattle.{assuan_line.specs.Next.held, assuan_server.proofs.Saying.said}
use Rattle.agent_origin.{specs.{DoorSessions.exchange_at, PortStates.PortWorld}, proofs.Serving.{serves_none, stands_on, is_over, at_end, at_spent, at_read_fault, at_too_long, cut_at_too_long}}
use Rattle.agent_origin.proofs.service.serve_requests.Goals as goal

pub loop-line-init : goal.loop-line-init
loop-line-init g c = record {
  serving = serves_none {w = PortWorld g.D.Desk.turned g.P.Prompter.prompted} (exchange_at c.args.door c.args.rules.now) c.args.kept.now _;
  going = c.requires.open;
  free = c.requires.free;
  shut = c.requires.shut;
}

pub next_request-took-requires : goal.next_request-took-requires
next_request-took-requires g c = c.loop-line.invariant.going

pub loop-line-smaller : goal.loop-line-smaller
loop-line-smaller g c =
    let fewer : held c.next_request-took.new.self.reader < held c.loop-line.conn.reader = rw c.in-Line.is at c.next_request-took.ensures.read.progress in
    let answered = rw (c.of.ensures, c.in-On.is) at c.answer-went.ensures.answers in
    omega (arith, fewer, answered.fits.1)

pub loop-line-preserved : goal.loop-line-preserved
loop-line-preserved g c =
    let i = c.loop-line.invariant in
    stands_on {w = PortWorld g.D.Desk.turned g.P.Prompter.prompted} (exchange_at c.args.door c.args.rules.now) c.args.kept.now _ _ _ i.serving
    _ _ i.going c.next_request-took.ensures c.in-Line.line c.in-Line.is _ _ (rw (c.of.ensures, c.in-On.is) at c.answer-went.ensures.answers) c.answer-went.ensures.free c.answer-went.ensures.shut

pub loop-line-preserved-in-On : goal.loop-line-preserved-in-On
loop-line-preserved-in-On g c =
    let i = c.loop-line.invariant in
    stands_on {w = PortWorld g.D.Desk.turned g.P.Prompter.prompted} (exchange_at c.args.door c.args.rules.now) c.args.kept.now _ _ _ i.serving
    _ _ i.going c.next_request-took.ensures c.in-Line.line c.in-Line.is _ _ (rw (c.of.ensures, c.in-On.is) at c.answer-went.ensures.answers) c.answer-went.ensures.free c.answer-went.ensures.shut

pub returns-in-End-went-clause-serves : goal.returns-in-End-went-clause-serves
returns-in-End-went-clause-serves g c =
    let i = c.loop-line.invariant in
    is_over {w = PortWorld g.D.Desk.turned g.P.Prompter.prompted} (exchange_at c.args.door c.args.rules.now) c.args.kept.now _ _ _ i.serving
    _ _ i.going c.next_request-took.ensures c.in-Line.line c.in-Line.is _ _ c.in-End-went.end (rw (c.of.ensures, c.in-End-went.is) at c.answer-went.ensures.answers)

pub returns-in-Ok-clause-serves : goal.returns-in-Ok-clause-serves
returns-in-Ok-clause-serves g c =
    let i = c.loop-line.invariant in
    at_too_long {w = PortWorld g.D.Desk.turned g.P.Prompter.prompted} (exchange_at c.args.door c.args.rules.now) c.args.kept.now _ _ _ i.serving
    _ _ i.going c.next_request-took.ensures c.in-TooLong.is _ (rw c.in-TooLong.is at c.next_request-took.ensures.read.ended) (said c.in-Ok.ensures c.err.ensures)

pub returns-in-Err-clause-serves : goal.returns-in-Err-clause-serves
returns-in-Err-clause-serves g c =
    let i = c.loop-line.invariant in
    cut_at_too_long {w = PortWorld g.D.Desk.turned g.P.Prompter.prompted} (exchange_at c.args.door c.args.rules.now) c.args.kept.now _ _ _ i.serving
    _ _ i.going c.next_request-took.ensures c.in-TooLong.is _ _ (said c.in-Err.ensures c.err.ensures)

pub returns-in-End-clause-serves : goal.returns-in-End-clause-serves
returns-in-End-clause-serves g c =
    let i = c.loop-line.invariant in
    at_end {w = PortWorld g.D.Desk.turned g.P.Prompter.prompted} (exchange_at c.args.door c.args.rules.now) c.args.kept.now _ _ _ i.serving
    _ _ i.going c.next_request-took.ensures c.in-End.is (rw c.in-End.is at c.next_request-took.ensures.read.ended)

pub returns-in-Spent-clause-serves : goal.returns-in-Spent-clause-serves
returns-in-Spent-clause-serves g c =
    let i = c.loop-line.invariant in
    at_spent {w = PortWorld g.D.Desk.turned g.P.Prompter.prompted} (exchange_at c.args.door c.args.rules.now) c.args.kept.now _ _ _ i.serving
    _ _ i.going c.next_request-took.ensures c.in-Spent.is (rw c.in-Spent.is at c.next_request-took.ensures.read.ended)

pub returns-in-ReadFault-clause-serves : goal.returns-in-ReadFault-clause-serves
returns-in-ReadFault-clause-serves g c =
    let i = c.loop-line.invariant in
    at_read_fault {w = PortWorld g.D.Desk.turned g.P.Prompter.prompted} (exchange_at c.args.door c.args.rules.now) c.args.kept.now _ _ _ i.serving
    _ _ i.going c.next_request-took.ensures c.in-ReadFault.is (rw c.in-ReadFault.is at c.next_request-took.ensures.read.ended) (c.next_request-took.ensures.read.fault c.in-ReadFault.is)
