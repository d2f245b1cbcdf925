use Rattle.std.{proofs.Common.{◌≡◌, true, false, ◌++◌, ◌∷◌, ℕ, List, drop, ap, sym, ◌∙◌}, specs.List.{concat, prefix_len, take_while}}
use Rattle.key_lines.{specs.{Lines.{lines_of, line_text}, Items.{goes_on, value_in}, KeyItem.{is_more, piece_of, value_of, after_item}}, proofs.{LineLemmas.concat_lines, KeyLemmas.{joined, join_is, more_step, rest_step, more_stops, add_line}}}
use Rattle.key_lines.proofs.item.item_at.Goals as goal

pub loop-line-init : goal.loop-line-init
loop-line-init c =
    let line = c.in-Some.line.now in
    let after = c.in-Some.after.now in
    let more = take_while is_more (lines_of after) in
    let is = c.in-Some.ensures.lines in
    let piece = c.piece_of.result.now in
    let added : c.extend_from_slice.new.self ≡ piece = c.in_ok-extend_from_slice.ensures.ok ∙ ap (λ (t : List ℕ). t ++ piece) c.new-value.ensures in
    let first = piece_of (value_in (line_text line)) in
    let value : c.extend_from_slice.new.self ≡ first = added ∙ c.piece_of.ensures ∙ ap piece_of (c.value_in.ensures ∙ ap value_in c.line_text.ensures) in
    record {
      value = ap (λ (t : List ℕ). t ++ joined more) value ∙ sym (ap value_of is ∙ ap (λ (t : List ℕ). first ++ t) (join_is more));
      after = sym (ap (λ (ls : List (List ℕ)). concat (after_item ls)) is);
    }

pub returns-then-not-goes_on-clause-after : goal.returns-then-not-goes_on-clause-after
returns-then-not-goes_on-clause-after c =
    let rest = c.loop-line.rest.now in
    let line = c.in-Some-next_line.line.now in
    let lines = lines_of c.in-Some-next_line.after.now in
    let other : is_more line ≡ false = sym (c.goes_on.ensures ∙ ap goes_on c.line_form.ensures) ∙ c.if-not-goes_on.true in
    let none : prefix_len is_more (lines_of rest) ≡ 0 = ap (prefix_len is_more) c.in-Some-next_line.ensures.lines ∙ more_stops line lines other in
    sym (ap (λ n. concat (drop n (lines_of rest))) none ∙ concat_lines rest) ∙ c.loop-line.invariant.after

pub loop-line-preserved : goal.loop-line-preserved
loop-line-preserved c =
    let i = c.loop-line.invariant in
    let rest = c.loop-line.rest.now in
    let line = c.in-Some-next_line.line.now in
    let after = c.in-Some-next_line.after.now in
    let more = take_while is_more (lines_of after) in
    let is = c.in-Some-next_line.ensures.lines in
    let goes : is_more line ≡ true = sym (c.goes_on.ensures ∙ ap goes_on c.line_form.ensures) ∙ c.if-not-goes_on.false in
    let piece = c.piece_of-in-Some-next_line.result.now in
    let is-piece : piece ≡ piece_of (line_text line) = c.piece_of-in-Some-next_line.ensures ∙ ap piece_of c.line_text-in-Some-next_line.ensures in
    let lines : take_while is_more (lines_of rest) ≡ line ∷ more = ap (take_while is_more) is ∙ more_step line (lines_of after) goes in
    record {
      value = ap (λ (t : List ℕ). t ++ joined more) c.in_ok-extend_from_slice-2.ensures.ok
          ∙ add_line c.loop-line.value piece line more is-piece
          ∙ sym (ap (λ (ls : List (List ℕ)). c.loop-line.value ++ joined ls) lines)
          ∙ i.value;
      after = sym (ap (λ (ls : List (List ℕ)). concat (drop (prefix_len is_more ls) ls)) is ∙ ap concat (rest_step line (lines_of after) goes)) ∙ i.after;
    }
