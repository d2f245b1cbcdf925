use Rattle.std.proofs.{Common.{◌≡◌, ◌∷◌, List, ℕ, length, ap, ◌∙◌, arith}, lemmas.List.nil_from_length}
use Rattle.agent_conf.proofs.LineLemmas.{behind_end, cut_lines, lines_behind}
use Rattle.agent_conf.proofs.lines.first_line.Goals as goal

pub returns-in-empty-clause-lines : goal.returns-in-empty-clause-lines
returns-in-empty-clause-lines c =
    let rest = c.split_at.result.1.now in
    let none : length rest ≡ 0 = omega arith in
    cut_lines c.args.text.now c.split_at.result.0.now rest c.line_len.result c.line_len.ensures.place c.split_at.ensures.front c.split_at.ensures.back
    ∙ ap (λ (r : List ℕ). c.split_at.result.0.now ∷ lines_behind r) (nil_from_length rest none)

pub returns-in-len1-up-clause-lines : goal.returns-in-len1-up-clause-lines
returns-in-len1-up-clause-lines c =
    let rest = c.split_at.result.1.now in
    cut_lines c.args.text.now c.split_at.result.0.now rest c.line_len.result c.line_len.ensures.place c.split_at.ensures.front c.split_at.ensures.back
    ∙ ap (λ (ls : List (List ℕ)). c.split_at.result.0.now ∷ ls) (behind_end rest c.in-len1-up.len_at_least)
