use Rattle.std.proofs.Common.{arith}
use Rattle.sexp_canonical.proofs.Steps.{IsNumeralUpTo_first, IsNumeralUpTo_more, bad_length, bad_byte_low, bad_byte_high, cut_short}
use Rattle.sexp_canonical.proofs.reading.length_at.Goals as goal

pub loop-end-init : goal.loop-end-init
loop-end-init c = rw c.from-count.ensures (IsNumeralUpTo_first c.args.text.now c.args.place c.requires)

pub returns-in_default-clause-fault : goal.returns-in_default-clause-fault
returns-in_default-clause-fault c = bad_byte_low c.args.text.now c.args.place c.loop-end.end c.loop-end.count c.loop-end.invariant c.loop-end-test.true (omega arith)

pub returns-in_default-2-clause-fault : goal.returns-in_default-2-clause-fault
returns-in_default-2-clause-fault c = bad_byte_high c.args.text.now c.args.place c.loop-end.end c.loop-end.count c.loop-end.invariant c.loop-end-test.true (omega arith) (λ same. omega arith)

pub returns-clause-fault : goal.returns-clause-fault
returns-clause-fault c = cut_short c.args.text.now c.args.place c.loop-end.end c.loop-end.count c.loop-end.invariant c.loop-end-test.false

pub returns-in_default-with_digit-clause-fault : goal.returns-in_default-with_digit-clause-fault
returns-in_default-with_digit-clause-fault c = bad_length c.args.text.now c.args.place c.loop-end.end c.loop-end.count c.loop-end.invariant c.loop-end-test.true (omega arith) (omega arith) c.in_default-with_digit.ensures

pub loop-end-preserved : goal.loop-end-preserved
loop-end-preserved c =
    IsNumeralUpTo_more c.args.text.now c.args.place c.loop-end.end c.loop-end.count c.in-Some.more c.loop-end.invariant c.loop-end-test.true (omega arith) (omega arith) c.in-Some.ensures.0 c.in-Some.ensures.1 c.in-Some.ensures.2
