use Rattle.assuan_line.specs.Next.{held}
use Rattle.pinentry_script.proofs.Serving.{IsServing}
use Rattle.pinentry_script.proofs.run.serve.Given as goal

abbrev pub invariant-loop-session : goal.invariant-loop-session
invariant-loop-session g l =
    IsServing l.fn.file (g.S.Source.input l.fn.link) (g.S.Sink.output l.fn.link) l.session l.reader (g.S.Source.input l.link) (g.S.Sink.output l.link)

abbrev pub decreases-loop-session : goal.decreases-loop-session
decreases-loop-session g l = held l.reader
