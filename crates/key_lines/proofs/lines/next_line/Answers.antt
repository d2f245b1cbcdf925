use Rattle.std.proofs.{Common.{◌≡◌, ◌∷◌, [], ℕ, List, length, ◌<◌, take, drop, arith, ap, sym, ◌∙◌}, lemmas.Bool.Decides.nat_tests}
use Rattle.key_lines.{specs.Lines.lines_of, proofs.LineLemmas.{lines_step, line_len}}
use Rattle.key_lines.proofs.lines.next_line.Goals as goal

step : (bytes : List ℕ) → 0 < length bytes → lines_of bytes ≡ take (line_len bytes) bytes ∷ lines_of (drop (line_len bytes) bytes)
step [] some = absurd (omega (arith, some))
step (byte ∷ bytes) some = lines_step byte bytes

pub returns-clause-lines : goal.returns-clause-lines
returns-clause-lines c =
    let bytes = c.args.bytes.now in
    let some : 0 < length bytes = grind (arith, nat_tests, c.if-is_empty.false, c.is_empty.ensures) in
    step bytes some
    ∙ ap (λ n. take n bytes ∷ lines_of (drop n bytes)) (sym c.line_len.ensures)
    ∙ ap (λ (t : List ℕ). t ∷ lines_of (drop c.line_len.result bytes)) (sym c.split_at.ensures.front)
    ∙ ap (λ (t : List ℕ). c.split_at.result.0.now ∷ lines_of t) (sym c.split_at.ensures.back)
