-- Bytes have one reading: what an inquiry comes to that a line closes.
use Rattle.std.{proofs.Common.{◌≡◌, ℕ, List, [], ◌++◌, get_or, refl, ap, sym, subst, ◌∙◌, arith}, specs.{Prelude.codes, List.flat_map}}
use Rattle.{assuan_line.{specs.{Next.Reader, Skipping.ReadsAfter, declared.reader.Took.Took}, proofs.OnlyReading.only_reading}, assuan_escape.specs.DataLines.carried}
use Rattle.assuan_server.specs.Inquiries.{IsWord, Outcome, ComesTo, Inquiry, IsClosed, is_skipped}
use Rattle.assuan_line.specs.declared.reader.Took.TheVariants as took

-- a line closed the inquiry
closes : {limit : ℕ} {bytes : List ℕ} {answer : Took} {outcome : Outcome} → ComesTo limit bytes answer outcome → IsClosed outcome → (line : List ℕ) × (answer ≡ took.Line line)
closes (ComesTo.can {line} is) closed = (line, refl)
closes (ComesTo.end {line} is within) closed = (line, refl)
closes (ComesTo.past {line} is past) closed = (line, refl)
closes (ComesTo.foreign {line} no_can no_end) closed = (line, refl)
closes ComesTo.ended closed = absurd closed
closes ComesTo.too_long closed = absurd closed
closes ComesTo.spent closed = absurd closed
closes ComesTo.read_fault closed = absurd closed

not_both : (line : List ℕ) → IsWord (codes "can") line → IsWord (codes "end") line → ⊥
not_both line can end = omega (arith, ap (λ (word : List ℕ). get_or word 0 0) (sym can ∙ end))

one_outcome : {limit : ℕ} {bytes line : List ℕ} {outcome other : Outcome} → ComesTo limit bytes (took.Line line) outcome → ComesTo limit bytes (took.Line line) other → outcome ≡ other
one_outcome (ComesTo.can is) (ComesTo.can is') = refl
one_outcome {line = line} (ComesTo.can is) (ComesTo.end is' within) = absurd (not_both line is is')
one_outcome {line = line} (ComesTo.can is) (ComesTo.past is' past) = absurd (not_both line is is')
one_outcome (ComesTo.can is) (ComesTo.foreign no_can no_end) = absurd (no_can is)
one_outcome {line = line} (ComesTo.end is within) (ComesTo.can is') = absurd (not_both line is' is)
one_outcome (ComesTo.end is within) (ComesTo.end is' within') = refl
one_outcome (ComesTo.end is within) (ComesTo.past is' past) = absurd (omega (arith, within, past))
one_outcome (ComesTo.end is within) (ComesTo.foreign no_can no_end) = absurd (no_end is)
one_outcome {line = line} (ComesTo.past is past) (ComesTo.can is') = absurd (not_both line is' is)
one_outcome (ComesTo.past is past) (ComesTo.end is' within) = absurd (omega (arith, within, past))
one_outcome (ComesTo.past is past) (ComesTo.past is' past') = refl
one_outcome (ComesTo.past is past) (ComesTo.foreign no_can no_end) = absurd (no_end is)
one_outcome (ComesTo.foreign no_can no_end) (ComesTo.can is) = absurd (no_can is)
one_outcome (ComesTo.foreign no_can no_end) (ComesTo.end is within) = absurd (no_end is)
one_outcome (ComesTo.foreign no_can no_end) (ComesTo.past is past) = absurd (no_end is)
one_outcome (ComesTo.foreign no_can no_end) (ComesTo.foreign no_can' no_end') = refl

-- an inquiry that a line closes comes to one outcome
pub only_outcome : (limit : ℕ) (bytes : List ℕ) (answer other_answer : Took) (outcome other : Outcome) (after later : Reader) (left rest : List ℕ)
    → IsClosed outcome → IsClosed other → Inquiry limit bytes answer outcome after left → Inquiry limit bytes other_answer other later rest
    → (outcome ≡ other) × (after.ahead ++ left ≡ later.ahead ++ rest)
only_outcome limit bytes answer other_answer outcome other after later left rest closed closed' first second =
    let by = closes first.comes_to closed in
    let by' = closes second.comes_to closed' in
    let reads = subst (λ t. ReadsAfter (λ before line. is_skipped line) [] first.lines bytes t after left) by.1 first.reads in
    let reads' = subst (λ t. ReadsAfter (λ before line. is_skipped line) [] second.lines bytes t later rest) by'.1 second.reads in
    let same = only_reading (λ before line. is_skipped line) [] first.lines second.lines bytes by.0 by'.0 after later left rest reads reads' in
    let to = subst (λ t. ComesTo limit (flat_map carried first.lines) t outcome) by.1 first.comes_to in
    let to' = subst (λ t. ComesTo limit (flat_map carried second.lines) t other) by'.1 second.comes_to in
    let to_lines = subst (λ (l : List (List ℕ)). ComesTo limit (flat_map carried l) (took.Line by'.0) other) (sym same.skipped) to' in
    let to_same = subst (λ (l : List ℕ). ComesTo limit (flat_map carried first.lines) (took.Line l) other) (sym same.stopped) to_lines in
    (one_outcome to to_same, same.left_is)
