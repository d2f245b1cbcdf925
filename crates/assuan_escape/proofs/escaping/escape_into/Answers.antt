use Rattle.std.proofs.{Common.{◌+◌, ◌<◌, length, take, get_or, ◌∙◌, ⊎_elim}, lemmas.Bool.{cases_lt, false≢true}}
use Rattle.assuan_escape.{specs.Escapes.escape_of, proofs.EscapeLemmas.{stays_one_line, no_more_fit}}
use Rattle.assuan_escape.proofs.escaping.escape_into.Goals as goal

pub returns-then-not-push_escape-clause-greatest : goal.returns-then-not-push_escape-clause-greatest
returns-then-not-push_escape-clause-greatest c =
    let bytes = c.args.bytes.now in
    let step = c.if-not-push_escape.ensures in
    let full : 1000 < length c.loop-count.out.items + length (escape_of (get_or bytes c.loop-count.count 0)) =
    ⊎_elim (λ less. less) (λ le. absurd (false≢true (step.fits.1 le))) (cases_lt 1000 (length c.loop-count.out.items + length (escape_of (get_or bytes c.loop-count.count 0)))) in
    no_more_fit bytes c.args.out.now.items c.loop-count.out.items c.loop-count.count c.loop-count-test.true c.loop-count.invariant.written full

pub returns-then-not-push_escape-clause-one_line : goal.returns-then-not-push_escape-clause-one_line
returns-then-not-push_escape-clause-one_line c =
    let step = c.if-not-push_escape.ensures in
    stays_one_line c.args.out.now.items c.push_escape.new.out.items (take c.loop-count.count c.args.bytes.now) (step.refused ∙ c.loop-count.invariant.written)

pub returns-clause-one_line : goal.returns-clause-one_line
returns-clause-one_line c =
    stays_one_line c.args.out.now.items c.loop-count.out.items (take c.loop-count.count c.args.bytes.now) c.loop-count.invariant.written
