use Rattle.std.proofs.{Common.{rules, arith, ◌≡◌, List, [], ◌∷◌, ◌++◌, length, length-append, ap, sym, subst, ◌∙◌}, lemmas.Grind.common_steps}
use Rattle.counted_lock.{specs.{Claims.Sat, Passes.{AtPass, AreOf, numbered}, Keeping.PassesFit}, proofs.{Keeps.joins, Passing.{of_last, gathers, gathers_one_more, gathers_first, numbers_first, numbers_more}}}
use Rattle.counted_lock.proofs.counted.gather.Goals as goal

pub loop-pass-init : goal.loop-pass-init
loop-pass-init c =
    let items : c.args.passes.items ≡ c.pop.new.self.items ++ c.in-Some.first ∷ [] = first_of (search rules, search (rules, c.in-Some.ensures.items), grind (arith, common_steps)) in
    let both = of_last _ _ _ (subst (AreOf c.args.board.now.shared.table_id) items c.requires.own) in
    record {
      own = c.into_place-place.ensures.table ∙ both.1;
      theirs = both.0;
      idle = ap (λ (z : Sat). z.0.stage) c.into_place-place.ensures.idle;
      empty = ap (λ (z : Sat). z.1) c.into_place-place.ensures.idle;
      all = let a = ap (λ (z : Sat). length z.0.claims) c.into_place-place.ensures.idle in let b = ap (λ (l : List AtPass). length l) items in
          let d = length-append c.pop.new.self.items (c.in-Some.first ∷ []) in omega (arith, a, b, d);
      numbers = λ k. numbers_first _ _ _ c.into_place-place.ensures.idle c.into_place-place.ensures.own k ∙ ap (λ (l : List AtPass). length (numbered k l)) (sym items);
      fits = λ about log f g. subst (PassesFit about log) (sym items) (gathers_first _ _ _ c.into_place-place.ensures.idle c.into_place-place.ensures.own about log f g);
    }

pub join_seat-requires : goal.join_seat-requires
join_seat-requires c =
    let items : c.loop-pass.passes.items ≡ c.pop-in-loop-pass.new.self.items ++ c.in-Some-pop.pass ∷ [] = first_of (search rules, search (rules, c.in-Some-pop.ensures.items), grind (arith, common_steps)) in
    let both = of_last _ _ _ (subst (AreOf c.args.board.now.shared.table_id) items c.loop-pass.invariant.theirs) in (
      c.loop-pass.invariant.own,
      c.into_place.ensures.table ∙ both.1,
      ap (λ (z : Sat). z.1) c.into_place.ensures.idle,
      search rules,
      joins _ _ _ _ _ c.loop-pass.invariant.idle (ap (λ (z : Sat). z.0.stage) c.into_place.ensures.idle),
    )

pub loop-pass-preserved : goal.loop-pass-preserved
loop-pass-preserved c =
    let items : c.loop-pass.passes.items ≡ c.pop-in-loop-pass.new.self.items ++ c.in-Some-pop.pass ∷ [] = first_of (search rules, search (rules, c.in-Some-pop.ensures.items), grind (arith, common_steps)) in
    let both = of_last _ _ _ (subst (AreOf c.args.board.now.shared.table_id) items c.loop-pass.invariant.theirs) in
    let more = c.join_seat.ensures.2 in
    record {
      own = c.join_seat.ensures.0 ∙ c.loop-pass.invariant.own;
      theirs = both.0;
      idle = ap (λ (z : Sat). z.0.stage) more ∙ c.loop-pass.invariant.idle;
      empty = ap (λ (z : Sat). z.1) more ∙ c.loop-pass.invariant.empty;
      all = let a = gathers_one_more _ _ _ c.into_place.ensures.idle more in let b = ap (λ (l : List AtPass). length l) items in
          let d = length-append c.pop-in-loop-pass.new.self.items (c.in-Some-pop.pass ∷ []) in let e = c.loop-pass.invariant.all in omega (arith, a, b, d, e);
      numbers = λ k. let a = numbers_more _ _ _ c.in-Some-pop.pass c.pop-in-loop-pass.new.self.items c.into_place.ensures.idle c.into_place.ensures.own more k in
          let b = ap (λ (l : List AtPass). length (numbered k l)) items in let d = c.loop-pass.invariant.numbers k in omega (arith, a, b, d);
      fits = gathers _ _ _ _ _ _ c.into_place.ensures.idle c.into_place.ensures.own more (λ about log f g. c.loop-pass.invariant.fits about log f (subst (PassesFit about log) (sym items) g));
    }

pub returns-clause-fits : goal.returns-clause-fits
returns-clause-fits c = λ about log f.
    let none : c.loop-pass.passes.items ≡ [] = first_of (search rules, search (rules, c.in_default-pop.ensures.items), grind (arith, common_steps)) in
    c.loop-pass.invariant.fits about log f (subst (PassesFit about log) (sym none) tt)

pub returns-clause-numbers : goal.returns-clause-numbers
returns-clause-numbers c = λ k.
    let none : c.loop-pass.passes.items ≡ [] = first_of (search rules, search (rules, c.in_default-pop.ensures.items), grind (arith, common_steps)) in
    let left = ap (λ (l : List AtPass). length (numbered k l)) none in let all = c.loop-pass.invariant.numbers k in omega (arith, left, all)
