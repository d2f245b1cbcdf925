-- Bytes have one answer, where a line gives it.
use Rattle.std.proofs.{Common.{◌≡◌, ◌+◌, ℕ, List, [], ◌++◌, length, refl, ap, sym, ◌∙◌, arith}, lemmas.Bool.{le-leb, lt-leb, ne_eqb}}
use Rattle.assuan_line.{specs.{Next.Reader, declared.reader.Took.TheVariants.Line}, proofs.OnlyReading.only_reading}
use Rattle.assuan_client.specs.{Answers.{Answers, Says, success_of, inquiry_after}, Forms.{Form, answer_form}, Skipping.{Tally, with_lines, skips_after}, declared.answer.Answer.Answer}
use Rattle.assuan_line.specs.declared.breach.Breach.TheVariants as breach
use Rattle.assuan_client.specs.Forms as form
use Rattle.assuan_client.specs.declared.answer.Answer.TheVariants as answer

-- the answer by a line of this form that isn't skipped
abbrev pub by_form : Tally → List ℕ → Form → Answer
by_form tally line form.Data = answer.Broken breach.TooMuch
by_form tally line form.Note = answer.Broken breach.Many
by_form tally line form.Ok = success_of tally.bytes
by_form tally line (form.Err number) = answer.Err number
by_form tally line (form.Inquiry word text) = inquiry_after tally word text
by_form tally line form.Foreign = answer.Broken (breach.Line line)

pub is_by_form : {tally : Tally} {line : List ℕ} {says : Answer} → Says tally (Line line) says → says ≡ by_form tally line (answer_form line)
is_by_form {tally} (Says.ok is none) = rw (is, none) refl
is_by_form {tally} (Says.got is some) = rw (is, ne_eqb (length tally.bytes) 0 (λ none. omega arith)) refl
is_by_form (Says.err is) = rw is refl
is_by_form {tally} (Says.asked is fewer) = rw (is, le-leb (tally.notes + 1) 10000 (omega arith)) refl
is_by_form (Says.many_notes is many) = rw is refl
is_by_form {tally} (Says.many_inquiries is many) = rw (is, lt-leb (tally.notes + 1) 10000 (omega arith)) refl
is_by_form (Says.too_much is more) = rw is refl
is_by_form (Says.foreign is) = rw is refl

pub only_answer : (tally after later : Tally) (bytes line other : List ℕ) (first second : Answer) (reader reader_later : Reader) (left rest : List ℕ)
    → Answers tally bytes (Line line) first after reader left
    → Answers tally bytes (Line other) second later reader_later rest → (first ≡ second) × (reader.ahead ++ left ≡ reader_later.ahead ++ rest)
only_answer tally after later bytes line other first second reader reader_later left rest one two =
    let same = only_reading (skips_after tally) [] one.lines two.lines bytes line other reader reader_later left rest one.reads two.reads in
    let says : first ≡ by_form (with_lines tally one.lines) line (answer_form line) = is_by_form one.says in
    let says' : second ≡ by_form (with_lines tally two.lines) other (answer_form other) = is_by_form two.says in (
      says ∙ ap (λ (lines : List (List ℕ)). by_form (with_lines tally lines) line (answer_form line)) same.skipped
          ∙ ap (λ (l : List ℕ). by_form (with_lines tally two.lines) l (answer_form l)) same.stopped ∙ sym says',
      same.left_is,
    )
