use Rattle.std.proofs.{Common.{rules, arith, ◌≡◌, ◌+◌, List, [], ◌∷◌, length, Option, Some, ap, sym, subst, ◌∙◌}, lemmas.Grind.common_steps}
use Rattle.atomic_table.specs.Table.{opening}
use Rattle.counted_lock.{specs.{declared.board.{About.About, Cored.Cored}, Rule.{Kept, first_doing}, Claims.Sat, Passes.{AtCounted, AreNewPasses}}, proofs.{LogLemmas.legal_first, Keeps.{opens, splits}}}
use Rattle.counted_lock.proofs.Passing.{are_of, new_pass, new_rest, new_more}
use Rattle.counted_lock.proofs.counted.Counted.new.Goals as goal

pub new-requires-3 : goal.new-requires-3
new-requires-3 c =
    let about : About = record { limits = c.args.limits; passes = c.args.passes } in
    let cored : Cored = record { core = c.new.result; tally = c.new-2.result } in
    let items : c.push_reserved.new.self.items ≡ Some cored ∷ [] = search rules in
    subst (λ (xs : List (Option Cored)). Kept about (opening (0 ∷ 0 ∷ 0 ∷ []) xs (first_doing about))) (sym items)
    (opens about cored (omega arith) c.new.ensures.limits c.new.ensures.moment c.new.ensures.stands c.new-2.ensures)

pub split_seat-requires : goal.split_seat-requires
split_seat-requires c = (search rules, search rules, splits _ _ _ (ap (λ (z : Sat). z.0.stage) c.loop-number.invariant.place))

pub invariant_of-pass : goal.invariant_of-pass
invariant_of-pass c =
    let legal = legal_first c.args.limits c.new.result c.new.ensures.limits c.new.ensures.moment c.new.ensures.stands in
    (new_pass _ _ _ _ _ legal c.loop-number.invariant.place c.loop-number-test.true c.split_seat.ensures.4).0

pub loop-number-preserved : goal.loop-number-preserved
loop-number-preserved c =
    let counted : AtCounted = record { table = c.in-Ok.table.shared.table_id; limits = c.args.limits; passes = c.args.passes } in
    let legal = legal_first c.args.limits c.new.result c.new.ensures.limits c.new.ensures.moment c.new.ensures.stands in
    let own_is = (new_pass _ _ _ _ _ legal c.loop-number.invariant.place c.loop-number-test.true c.split_seat.ensures.4).1 in
    let table_is : c.split_seat.result.table_id ≡ c.in-Ok.table.shared.table_id = c.split_seat.ensures.3 ∙ c.loop-number.invariant.own in
    let place : c.loop-number.number ≡ 0 + length c.loop-number.all.items = first_of (search rules, omega (arith, c.loop-number.invariant.count), grind (arith, common_steps)) in
    record {
      own = c.split_seat.ensures.0 ∙ c.loop-number.invariant.own;
      place = new_rest _ _ _ _ _ c.loop-number.invariant.place c.loop-number-test.true c.split_seat.ensures.2;
      new = subst (AreNewPasses counted 0) (sym c.push_reserved-in-loop-number.ensures.items)
          (new_more counted 0 _ _ c.loop-number.invariant.new (λ i. record { table = table_is i; limits = (own_is i).limits; number = place i; sessions = 0; seen = (own_is i).seen }));
      count = first_of (search rules, grind (arith, common_steps));
      room = first_of (search rules, grind (arith, common_steps));
    }

pub returns-clause-own : goal.returns-clause-own
returns-clause-own c =
    let counted : AtCounted = record { table = c.in-Ok.table.shared.table_id; limits = c.args.limits; passes = c.args.passes } in
    are_of counted 0 c.loop-number.all.items c.loop-number.invariant.new
