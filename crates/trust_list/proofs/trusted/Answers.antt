use Rattle.std.proofs.{Common.{List, ℕ, Bool, length, Option, Bor, sym, ap, ◌∙◌, rules, tests}, lemmas.Iterator.{Consumers.{YieldsList-at, YieldsList-end, YieldsList-so_far, YieldsList-turn}, Splits.YieldsList-from_slice_split}}
use Rattle.std.specs.{Prelude.{slice_get, is_some}, List.{filter_map, slice_split}}
use Rattle.assuan_text.specs.{LineEnds.is_lf, Words.words}
use Rattle.trust_list.{specs.Entries.judgement_of, proofs.Judgements.{first_judgement, silent_after}}
use Rattle.trust_list.proofs.trusted.Goals as goal

-- the first of what the lines say of the fingerprint of these digits
abbrev first_of : List ℕ → List ℕ → Option Bool
first_of file digits = slice_get (filter_map (λ line. judgement_of digits (words line)) (slice_split is_lf file)) 0

pub returns-then-is_some : goal.returns-then-is_some
returns-then-is_some c =
    let so_far = YieldsList-so_far
    (YieldsList-at c.into_iter-line-iterator.ensures.into_iter_gives
    (YieldsList-from_slice_split _ is_lf c.args.file.now c.split-line-items.ensures.rest c.split-line-items.ensures.done c.split-line-items.ensures.closure (λ x b q k. search (rules, tests))))
    c.loop-line.yielded _ c.loop-line.yielded_by in
    let turn = YieldsList-turn
    (YieldsList-at c.into_iter-line-iterator.ensures.into_iter_gives
    (YieldsList-from_slice_split _ is_lf c.args.file.now c.split-line-items.ensures.rest c.split-line-items.ensures.done c.split-line-items.ensures.closure (λ x b q k. search (rules, tests))))
    c.loop-line.yielded _ c.loop-line.yielded_by _ _ _ c.in-Some.is c.next.ensures.steps in
    let judge = λ (line : List ℕ). judgement_of c.text-digits.result (words line) in
    first_judgement judge (slice_split is_lf c.args.file.now) (length c.loop-line.yielded) c.in-Some.line.now c.judgement_of-judgement.result
    (ap (filter_map judge) (sym so_far) ∙ c.loop-line.invariant) turn.0 turn.1 c.judgement_of-judgement.ensures (sym c.is_some.ensures ∙ c.if-is_some.true)
    ∙ ap (first_of c.args.file.now) c.text-digits.ensures.digits

pub loop-line-preserved : goal.loop-line-preserved
loop-line-preserved c =
    let judge = λ (line : List ℕ). judgement_of c.text-digits.result (words line) in
    silent_after judge (λ (line : Bor (List ℕ)). line.now) c.loop-line.yielded c.in-Some.line c.loop-line.invariant
    (ap (λ (m : Option Bool). is_some m) (sym c.judgement_of-judgement.ensures) ∙ sym c.is_some.ensures ∙ c.if-is_some.false)

pub returns : goal.returns
returns c =
    let seen = YieldsList-end
    (YieldsList-at c.into_iter-line-iterator.ensures.into_iter_gives
    (YieldsList-from_slice_split _ is_lf c.args.file.now c.split-line-items.ensures.rest c.split-line-items.ensures.done c.split-line-items.ensures.closure (λ x b q k. search (rules, tests))))
    c.loop-line.yielded _ c.loop-line.yielded_by _ _ c.in-None.is c.next.ensures.steps in
    let judge = λ (line : List ℕ). judgement_of c.text-digits.result (words line) in
    ap (λ (judgements : List Bool). slice_get judgements 0) (sym c.loop-line.invariant ∙ ap (filter_map judge) seen.0)
    ∙ ap (first_of c.args.file.now) c.text-digits.ensures.digits
