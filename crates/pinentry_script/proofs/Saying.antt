-- What is said, as lines.
use Rattle.std.{proofs.{Common.{◌≡◌, ℕ, List, [], ◌∷◌, ◌++◌, length, ◌==◌, false, Result, Ok, Err, refl, ap, sym, ◌∙◌, append-nil, arith}, lemmas.Bool.false≢true}, specs.{Prelude.codes, Result.IsErr}}
use Rattle.{agent_ports.{specs.{Sides.Side, Writing.Writes, declared.link.WriteFault.WriteFault}, proofs.Writing.{writes_as, writes_then, writes_first}}, assuan_text.specs.LineEnds.line_of}
use Rattle.pinentry_script.specs.{Responses.give, Sessions.text_of}

-- the text of one line, and of a text that is given
pub one_line : (line : List ℕ) → text_of (line ∷ []) ≡ line_of line
one_line line = append-nil (line_of line)

pub gives_nothing : (text : List ℕ) → length text ≡ 0 → text_of (give text) ≡ line_of (codes "OK")
gives_nothing [] none = refl
gives_nothing (byte ∷ text) some = absurd (omega (arith, some))

pub gives_text : (text : List ℕ) → (length text ≡ 0 → ⊥) → text_of (give text) ≡ line_of (codes "D " ++ text) ++ line_of (codes "OK")
gives_text [] some = absurd (some refl)
gives_text (byte ∷ text) some = refl

nonempty : (text : List ℕ) → false ≡ (length text == 0) → length text ≡ 0 → ⊥
nonempty text some none = false≢true (some ∙ ap (λ (n : ℕ). n == 0) none)

-- a data line, of its parts
data_line : (text : List ℕ) → line_of (codes "D " ++ (text ++ [])) ≡ line_of (codes "D " ++ text)
data_line text = ap (λ (x : List ℕ). line_of (codes "D " ++ x)) (append-nil text)

-- a text was given, whole or in part
pub gave_then : (text : List ℕ) {before mid after : Side} {result : Result (Unit {0}) WriteFault} → false ≡ (length text == 0)
    → Writes (line_of (codes "D " ++ (text ++ []))) before (Ok tt) mid → Writes (line_of (codes "OK")) mid result after → Writes (text_of (give text)) before result after
gave_then text some line then =
    writes_as (sym (gives_text text (nonempty text some)))
    (writes_then (line_of (codes "D " ++ text)) (line_of (codes "OK")) (writes_as (data_line text) line) then)

pub gave_part : (text : List ℕ) {before after : Side} {fault : WriteFault} (result : Result (Unit {0}) WriteFault) → IsErr result → false ≡ (length text == 0)
    → Writes (line_of (codes "D " ++ (text ++ []))) before (Err fault) after → Writes (text_of (give text)) before result after
gave_part text (Ok done) is some line = absurd (false≢true is)
gave_part text (Err fault) is some line =
    writes_as (sym (gives_text text (nonempty text some)))
    (writes_first (line_of (codes "D " ++ text)) (line_of (codes "OK")) (writes_as (data_line text) line))
