use Rattle.std.{proofs.{Common.{◌≡◌, ◌-◌, true, false, ◌++◌, [], ◌∷◌, ℕ, List, length, take, drop, ap, sym, ◌∙◌, append_assoc, append-nil}, lemmas.List.Folds.{concat-append, list_any-append}}, specs.Prelude.◌||◌}
use Rattle.std.specs.List.{concat, list_any, position_or_len}
use Rattle.key_lines.{specs.{Lines.lines_of, Items.is_key, KeyItem.{is_key_line, has_key, before_key, from_key}}, proofs.KeyLemmas.{place_behind, take_front, drop_front, take_bytes}}
use Rattle.key_lines.proofs.item.cut_at_key.Goals as goal

-- what stands before the Key item, and what begins with it, where none of the lines before begins one
record IsCut (file before rest : List ℕ) : Type 0 where
  has : has_key file ≡ true
  before-is : before ≡ before_key file
  rest-is : lines_of rest ≡ from_key file

cut : (file rest line after : List ℕ) (passed : List (List ℕ)) → lines_of file ≡ passed ++ lines_of rest → file ≡ concat passed ++ rest → list_any is_key_line passed ≡ false
    → lines_of rest ≡ line ∷ lines_of after → is_key_line line ≡ true → IsCut file (take (length file - length rest) file) rest
cut file rest line after passed lines bytes none first key =
    let all : lines_of file ≡ passed ++ line ∷ lines_of after = lines ∙ ap (λ (ls : List (List ℕ)). passed ++ ls) first in
    let place : position_or_len is_key_line (lines_of file) ≡ length passed =
    ap (λ (ls : List (List ℕ)). position_or_len is_key_line ls) all ∙ place_behind is_key_line passed (lines_of after) line none key in
    record {
      has = ap (λ (ls : List (List ℕ)). list_any is_key_line ls) all ∙ list_any-append is_key_line passed (line ∷ lines_of after)
          ∙ ap (λ b. b || list_any is_key_line (line ∷ lines_of after)) none ∙ ap (λ b. b || list_any is_key_line (lines_of after)) key;
      before-is = take_bytes file (concat passed) rest bytes
          ∙ sym (ap (λ n. concat (take n (lines_of file))) place ∙ ap (λ (ls : List (List ℕ)). concat (take (length passed) ls)) lines ∙ ap concat (take_front passed (lines_of rest)));
      rest-is = sym (ap (λ n. drop n (lines_of file)) place ∙ ap (λ (ls : List (List ℕ)). drop (length passed) ls) lines ∙ drop_front passed (lines_of rest));
    }

pub returns-then-is_key : goal.returns-then-is_key
returns-then-is_key c =
    let i = c.loop-line.invariant in
    let is = cut c.args.file.now c.loop-line.rest.now c.in-Some.line.now c.in-Some.after.now i.passed i.lines i.bytes i.none c.in-Some.ensures.lines
    (sym (c.is_key.ensures ∙ ap is_key c.line_form.ensures) ∙ c.if-is_key.true) in
    (is.has, is.before-is, is.rest-is)

pub loop-line-preserved : goal.loop-line-preserved
loop-line-preserved c =
    let i = c.loop-line.invariant in
    let line = c.in-Some.line.now in
    let after = c.in-Some.after.now in
    let other : is_key_line line ≡ false = sym (c.is_key.ensures ∙ ap is_key c.line_form.ensures) ∙ c.if-is_key.false in
    record {
      passed = i.passed ++ line ∷ [];
      lines = i.lines ∙ ap (λ (ls : List (List ℕ)). i.passed ++ ls) c.in-Some.ensures.lines ∙ sym (append_assoc i.passed (line ∷ []) (lines_of after));
      bytes = i.bytes ∙ ap (λ (bs : List ℕ). concat i.passed ++ bs) c.in-Some.ensures.parts ∙ sym (append_assoc (concat i.passed) line after)
          ∙ ap (λ (bs : List ℕ). bs ++ after) (sym (concat-append i.passed (line ∷ []) ∙ ap (λ (bs : List ℕ). concat i.passed ++ bs) (append-nil line)));
      none = list_any-append is_key_line i.passed (line ∷ []) ∙ ap (λ b. b || list_any is_key_line (line ∷ [])) i.none ∙ ap (λ b. b || false) other;
    }
