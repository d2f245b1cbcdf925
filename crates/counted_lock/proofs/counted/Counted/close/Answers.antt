use Rattle.std.{proofs.{Common.{rules, arith, ◌≡◌, length, ap, sym, ◌∙◌}, lemmas.Grind.common_steps}, specs.Slots.slots_items}
use Rattle.counted_lock.{specs.{declared.board.Cored.Cored, Rule.Closes}, proofs.{Keeps.closes, Passing.{closed, mark_word, core_out}}}
use Rattle.counted_lock.proofs.counted.Counted.close.Goals as goal

pub unreachable-requires : goal.unreachable-requires
unreachable-requires c =
    let all : length c.gather-place.result.me.0.claims ≡ c.self.inside.table.shared.key.passes = first_of (search rules, cc, grind (arith, common_steps)) in
    let cl : Closes c.self.inside.table.shared.key c.gather-place.result.me.0.claims (slots_items c.close_with-closed.result.words) (slots_items c.close_with-closed.result.slots) =
    closes _ _ _ _ _ c.gather-place.ensures.place.idle all c.close_with-closed.ensures.values.2 in
    c.in_default.not-Some cl.core (core_out _ _ _ _ _ cl c.take-cored.ensures.value)

pub returns : goal.returns
returns c =
    let all : length c.gather-place.result.me.0.claims ≡ c.self.inside.table.shared.key.passes = first_of (search rules, cc, grind (arith, common_steps)) in
    let cl : Closes c.self.inside.table.shared.key c.gather-place.result.me.0.claims (slots_items c.close_with-closed.result.words) (slots_items c.close_with-closed.result.slots) =
    closes _ _ _ _ _ c.gather-place.ensures.place.idle all c.close_with-closed.ensures.values.2 in
    let limits : c.self.inside.table.shared.key.limits ≡ c.args.self.limits = first_of (search rules, cc) in
    let count : c.self.inside.table.shared.key.passes ≡ c.args.self.passes = first_of (search rules, cc) in
    let out = core_out _ _ _ _ _ cl c.take-cored.ensures.value in
    let this : c.in-Some.cored ≡ cl.core = let is = c.in-Some.is in cc (out, is) in
    let marks : c.word-marks.result ≡ c.in-Some.cored.tally.marks = mark_word _ _ _ _ _ cl c.word-marks.ensures ∙ ap (λ (z : Cored). z.tally.marks) (sym this) in
    closed c.args.self c.args.passes.items _ c.self.inside.table.shared.key _ _ _ c.in-Some.cored limits count cl c.gather-place.ensures.numbers (λ log f. c.gather-place.ensures.fits _ log f) this
    (λ i. record c.in-Some.cored.tally { marks = marks i; stopped = c.stopped.ensures i })
