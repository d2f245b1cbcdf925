-- Lines that are skipped, one after another, and the answer behind them.
use Rattle.std.proofs.{Common.{◌≡◌, ℕ, ◌+◌, List, [], ◌∷◌, ◌++◌, length, refl, ap, sym, ◌∙◌, subst, arith, append_assoc, append-nil, inl, inr}, lemmas.Bool.{leb-false, le-leb, lt-leb, ne_eqb, cases_lt, cases_Bool}}
use Rattle.std.{proofs.lemmas.List.{Concat.flat_map-append, Sums.sum_by-append}, specs.{Prelude.cond, List.flat_map}}
use Rattle.{assuan_text.specs.Forms.is_data, assuan_escape.specs.DataLines.carried, assuan_line.specs.{Skipping.{Skipped, none, one}, declared.{breach.Breach.TheVariants.{Many, TooMuch}, reader.Took.TheVariants.Line}}}
use Rattle.assuan_client.specs.{Answers.{IsStop, Says, ok, got, asked, many_notes, many_inquiries, too_much, success_of, inquiry_after}, Forms.{answer_form, Data, Note, Ok, Inquiry}}
use Rattle.assuan_client.specs.{Skipping.{Tally, with_lines, is_note, skips_after, skips_behind, coded, decoded, IsBehind, with_inquiry}, declared.answer.Answer.TheVariants.Broken}

-- a tally by its parts
pub tally_by : (first second : Tally) → first.notes ≡ second.notes → first.bytes ≡ second.bytes → first ≡ second
tally_by first second notes bytes =
    subst (λ (b : List ℕ). first ≡ record { notes = second.notes; bytes = b }) bytes
    (subst (λ (n : ℕ). first ≡ record { notes = n; bytes = first.bytes }) notes refl)

-- nothing came after it
pub behind_itself : (tally : Tally) → tally ≡ with_lines tally []
behind_itself tally = tally_by tally (with_lines tally []) (omega arith) (sym (append-nil tally.bytes))

pub skipped_after : (tally : Tally) {before lines : List (List ℕ)} {bytes later : List ℕ} → Skipped skips_behind (coded tally ∷ before) bytes lines later → Skipped (skips_after tally) before bytes lines later
skipped_after tally none = none
skipped_after tally (one line next skip more) = one line next skip (skipped_after tally more)

-- the answer by a line, by its form
pub says_too_much : (tally : Tally) (line : List ℕ) → answer_form line ≡ Data → IsStop tally (Line line) → Says tally (Line line) (Broken TooMuch)
says_too_much tally line is stop = too_much is (leb-false (length tally.bytes + length (carried line)) 255 (rw is at stop))

pub says_many : (tally : Tally) (line : List ℕ) → answer_form line ≡ Note → IsStop tally (Line line) → Says tally (Line line) (Broken Many)
says_many tally line is stop =
    let more = leb-false (tally.notes + 1) 10000 (rw is at stop) in
    many_notes is (omega (arith, more))

success_by : (notes : ℕ) (bytes line : List ℕ) → answer_form line ≡ Ok → Says (record { notes = notes; bytes = bytes }) (Line line) (success_of bytes)
success_by notes [] line is = ok is refl
success_by notes (byte ∷ bytes) line is = rw (ne_eqb (length (byte ∷ bytes)) 0 (λ (none : length (byte ∷ bytes) ≡ 0). omega (arith, none))) (got is (omega arith))

pub says_success : (tally : Tally) (line : List ℕ) → answer_form line ≡ Ok → Says tally (Line line) (success_of tally.bytes)
says_success tally line is = success_by tally.notes tally.bytes line is

pub says_inquiry : (tally : Tally) (line word text : List ℕ) → answer_form line ≡ Inquiry word text → Says tally (Line line) (inquiry_after tally word text)
says_inquiry tally line word text is = elim (cases_lt tally.notes 10000) [
  | inl fewer ↦ rw (le-leb (tally.notes + 1) 10000 (omega (arith, fewer))) (asked is fewer)
  | inr many ↦ rw (lt-leb (tally.notes + 1) 10000 (omega (arith, many))) (many_inquiries is many)
]

-- one line more that is skipped
carries_nothing : (line : List ℕ) → answer_form line ≡ Note → carried line ≡ []
carries_nothing line is = elim (cases_Bool (is_data line)) [
  | inl data_ ↦
      let both : Note ≡ Data = sym is ∙ rw data_ refl in
      absurd (cc both)
  | inr other ↦ rw other refl
]

with_more : (start : Tally) (lines : List (List ℕ)) (line : List ℕ) → with_lines start (lines ++ line ∷ []) ≡ with_lines (with_lines start lines) (line ∷ [])
with_more start lines line = tally_by (with_lines start (lines ++ line ∷ [])) (with_lines (with_lines start lines) (line ∷ []))
    (omega (arith, sum_by-append (λ (l : List ℕ). cond (is_note (answer_form l)) 1 0) lines (line ∷ [])))
    (ap (λ (x : List ℕ). start.bytes ++ x) (flat_map-append carried lines (line ∷ [])) ∙ sym (append_assoc start.bytes (flat_map carried lines) (flat_map carried (line ∷ []))))

note_more : (tally : Tally) (line : List ℕ) → answer_form line ≡ Note → with_inquiry tally ≡ with_lines tally (line ∷ [])
note_more tally line is = tally_by (with_inquiry tally) (with_lines tally (line ∷ []))
    (rw is refl)
    (rw (carries_nothing line is) (sym (append-nil tally.bytes)))

data_more : (tally : Tally) (line : List ℕ) → answer_form line ≡ Data → (record { notes = tally.notes; bytes = tally.bytes ++ carried line }) ≡ with_lines tally (line ∷ [])
data_more tally line is = tally_by (record { notes = tally.notes; bytes = tally.bytes ++ carried line }) (with_lines tally (line ∷ []))
    (rw is (omega arith))
    (ap (λ (x : List ℕ). tally.bytes ++ x) (sym (append-nil (carried line))))

behind_more : (tally now : Tally) (line : List ℕ) (before : List (List ℕ)) → now ≡ with_lines tally (line ∷ []) → IsBehind tally before → IsBehind now (before ++ line ∷ [])
behind_more tally now line [] is behind = absurd behind
behind_more tally now line (start ∷ lines) is behind =
    is ∙ ap (λ (t : Tally). with_lines t (line ∷ [])) behind ∙ sym (with_more (decoded start) lines line)

pub note_behind : (tally now : Tally) (line : List ℕ) → answer_form line ≡ Note → now ≡ with_inquiry tally
    → (before : List (List ℕ)) → IsBehind tally before → IsBehind now (before ++ line ∷ [])
note_behind tally now line is same before behind = behind_more tally now line before (same ∙ note_more tally line is) behind

pub data_behind : (tally now : Tally) (line : List ℕ) → answer_form line ≡ Data → now ≡ record { notes = tally.notes; bytes = tally.bytes ++ carried line }
    → (before : List (List ℕ)) → IsBehind tally before → IsBehind now (before ++ line ∷ [])
data_behind tally now line is same before behind = behind_more tally now line before (same ∙ data_more tally line is) behind
