use Rattle.std.{proofs.Common.{◌≡◌, take}, specs.List.flat_map}
use Rattle.assuan_line.proofs.text.write_text.Given as goal

-- the parts so far
abbrev pub invariant-loop-part : goal.invariant-loop-part
invariant-loop-part g l = l.line ≡ flat_map (λ part. part.now) (take l.part-index l.parts)
