use Rattle.std.proofs.Common.{◌+◌, inr, refl}
use Rattle.sexp_canonical.proofs.Steps.{missing_bytes, has_atom}
use Rattle.sexp_canonical.proofs.reading.atom_at.Goals as goal

pub returns-then-text-start-clause-fault : goal.returns-then-text-start-clause-fault
returns-then-text-start-clause-fault c = inr (missing_bytes c.args.text.now c.args.place c.in_ok-count.count c.in_ok-count.start c.in_ok-count.ensures.found c.if-text-start.true)

pub returns-clause-found : goal.returns-clause-found
returns-clause-found c =
    has_atom c.args.text.now c.args.place c.in_ok-count.count c.in_ok-count.start (c.in_ok-count.start + c.in_ok-count.count) c.in_ok-atom.field-0 c.in_ok-count.ensures.found c.if-text-start.false refl c.in_ok-atom.ensures
