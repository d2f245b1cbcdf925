use Rattle.std.proofs.Common.{rules, sym, subst}
use Rattle.assuan_line.specs.Next.{Reader}
use Rattle.pinentry_script.proofs.Serving.{IsServing, serving_none, cut_greeting, serving_more, cut_answer}
use Rattle.pinentry_script.proofs.run.serve.Goals as goal

pub returns-in-Err : goal.returns-in-Err
returns-in-Err g c =
    let w = c.write_response.ensures in
    let said = rw c.in-Err.is at w.said in
    cut_greeting c.args.file.now (g.S.Source.input c.args.link.now) (g.S.Sink.output c.args.link.now) (g.S.Source.input c.write_response.new.link) (g.S.Sink.output c.write_response.new.link)
    said.went said.faults w.input

pub loop-session-init : goal.loop-session-init
loop-session-init g c =
    let w = c.write_response.ensures in
    let n = c.new-session.ensures in
    let said = rw c.in_default.is at w.said in
    subst (λ (r : Reader). IsServing c.args.file.now (g.S.Source.input c.args.link.now) (g.S.Sink.output c.args.link.now) c.new-session.result r (g.S.Source.input c.write_response.new.link) (g.S.Sink.output c.write_response.new.link))
    (sym c.new-reader.ensures)
    (serving_none c.args.file.now (g.S.Source.input c.args.link.now) (g.S.Sink.output c.args.link.now) c.new-session.result (g.S.Source.input c.write_response.new.link) (g.S.Sink.output c.write_response.new.link)
    said.went said.faults w.input n.pid n.short n.file (sym n.stage))

pub returns-in-Err-write_response : goal.returns-in-Err-write_response
returns-in-Err-write_response g c =
    let i = c.loop-session.invariant in
    let r = c.next_line.ensures in
    let w = c.write_response-in-loop-session.ensures in
    let turn = rw c.bytes.ensures.bytes at c.turn-response.ensures.turn in
    let said = rw c.in-Err-write_response.is at w.said in
    cut_answer c.args.file.now (g.S.Source.input c.args.link.now) (g.S.Sink.output c.args.link.now) c.loop-session.session c.loop-session.reader (g.S.Source.input c.loop-session.link) (g.S.Sink.output c.loop-session.link) i
    c.next_line.result c.next_line.new.reader (g.S.Source.input c.next_line.new.link) (g.S.Sink.output c.next_line.new.link) r.read r.output
    c.in-Line.line c.in-Line.is c.turn-response.result c.turn-response.new.self turn (g.S.Source.input c.write_response-in-loop-session.new.link) (g.S.Sink.output c.write_response-in-loop-session.new.link) w.input said.faults
    (search rules) said.went

pub loop-session-preserved : goal.loop-session-preserved
loop-session-preserved g c =
    let i = c.loop-session.invariant in
    let r = c.next_line.ensures in
    let w = c.write_response-in-loop-session.ensures in
    let turn = rw c.bytes.ensures.bytes at c.turn-response.ensures.turn in
    let said = rw c.in_default-write_response.is at w.said in
    serving_more c.args.file.now (g.S.Source.input c.args.link.now) (g.S.Sink.output c.args.link.now) c.loop-session.session c.loop-session.reader (g.S.Source.input c.loop-session.link) (g.S.Sink.output c.loop-session.link) i
    c.next_line.result c.next_line.new.reader (g.S.Source.input c.next_line.new.link) (g.S.Sink.output c.next_line.new.link) r.read r.output
    c.in-Line.line c.in-Line.is c.turn-response.result c.turn-response.new.self turn (g.S.Source.input c.write_response-in-loop-session.new.link) (g.S.Sink.output c.write_response-in-loop-session.new.link) w.input said.faults
    (search rules) said.went
