use Rattle.std.{proofs.{Common.{[], List, ℕ, length, ap, arith, ◌∙◌}, lemmas.List.{take_all, length_push, Folds.length-flat_map-take}}, specs.List.flat_map}
use Rattle.assuan_line.proofs.Sending.{has_sent}
use Rattle.assuan_line.proofs.text.write_text.Goals as goal

pub unwrap-requires : goal.unwrap-requires
unwrap-requires g c =
    c.try_extend_from_slice.ensures.within.1
    (omega (arith, ap (λ (x : List ℕ). length x) c.loop-part.invariant, c.requires.short, length-flat_map-take (λ part. part.now) c.args.parts.now c.loop-part.part-index (record { ref_ptr = (0, 0); now = [] }) c.loop-part-test.true))

pub returns-clause-sent : goal.returns-clause-sent
returns-clause-sent g c =
    let all = take_all c.loop-part.part-index c.args.parts.now c.loop-part-test.false in
    let text = rw all at c.loop-part.invariant in
    let line = rw text at (c.bytes.ensures.value ∙ c.push.ensures) in
    has_sent _ _ _ c.put-sent.result (omega (arith, length_push (flat_map (λ part. part.now) c.args.parts.now) 10, c.requires.short)) (rw line at c.put-sent.ensures.cut) (rw line at c.put-sent.ensures.written) c.put-sent.ensures.failed
