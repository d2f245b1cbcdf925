-- The file with another key has that key.
use Rattle.std.proofs.Common.{◌≡◌, inr, suc, ◌+◌, ◌≤◌, ℕ, Bool, true, false, cond, List, [], ◌∷◌, ◌++◌, length, map, take, drop, Some, None, Ok, refl, ap, sym, subst, ◌∙◌, arith, append_assoc}
use Rattle.std.{proofs.lemmas.List.{take-append-drop, map-append, append-nil, Folds.{concat-append, list_any-append}}, specs.{Prelude.{not, ◌||◌, ◌&&◌, codes}, List.{concat, list_all, list_any, position_or_len, prefix_len}}}
use Rattle.{assuan_text.specs.Blanks.is_blank, sexp_canonical.specs.{Spelling.{most_bytes, spelling_of}, declared.tree.Sexp.Sexp}, sexp_advanced.specs.{Reading.ReadsAdvanced, Writing.advanced_of}}
use Rattle.key_lines.specs.{Lines.{lines_of, line_text}, Items.{line_form, is_key, goes_on, value_in}, Faults.{first_line_fault, line_fault}}
use Rattle.key_lines.specs.{KeyItem.{is_key_line, is_more, has_key, from_key, key_value, before_key, after_key, after_item, piece_of, value_of}, KeyText.IsKeyText, KeyFile.{KeyFile, IsKeyFile, with_key}, Canon.{is_canonical, Canon}}
use Rattle.key_lines.{specs.declared.forms.LineForm.{LineForm, TheVariants.{Comment, GoesOn, Item, Key, NoForm}}, proofs.{LineLemmas.concat_lines, KeyLemmas.{place_behind, take_front, drop_front}}}
use Rattle.key_lines.proofs.{Plain.{key_text, key_line, text_plain, form_of_key, piece_of_key}, Ended.{line_first, lines_first, before_ended, lines_last, plain_ended}, LeftOut.well_without}

-- ---- where the first that passes stands

record IsFirst (test : List ℕ → Bool) (xs : List (List ℕ)) : Type 0 where
  first : List ℕ
  rest : List (List ℕ)
  parts : xs ≡ take (position_or_len test xs) xs ++ first ∷ rest
  from : drop (position_or_len test xs) xs ≡ first ∷ rest
  passes : test first ≡ true
  none : list_any test (take (position_or_len test xs) xs) ≡ false

first_here : (test : List ℕ → Bool) (x : List ℕ) (xs : List (List ℕ)) → test x ≡ true → IsFirst test (x ∷ xs)
first_here test x xs e =
    let at : position_or_len test (x ∷ xs) ≡ 0 = ap (λ b. cond (not b) (1 + position_or_len test xs) 0) e in
    record {
      first = x;
      rest = xs;
      parts = sym (ap (λ n. take n (x ∷ xs) ++ x ∷ xs) at);
      from = ap (λ n. drop n (x ∷ xs)) at;
      passes = e;
      none = ap (λ n. list_any test (take n (x ∷ xs))) at;
    }

first_later : (test : List ℕ → Bool) (x : List ℕ) (xs : List (List ℕ)) → test x ≡ false → IsFirst test xs → IsFirst test (x ∷ xs)
first_later test x xs e i =
    let place = position_or_len test xs in
    let one : 1 + place ≡ suc place = omega arith in
    let at : position_or_len test (x ∷ xs) ≡ suc place = ap (λ b. cond (not b) (1 + place) 0) e ∙ one in
    record {
      first = i.first;
      rest = i.rest;
      parts = sym (ap (λ n. take n (x ∷ xs) ++ i.first ∷ i.rest) at ∙ ap (λ (ls : List (List ℕ)). x ∷ ls) (sym i.parts));
      from = ap (λ n. drop n (x ∷ xs)) at ∙ i.from;
      passes = i.passes;
      none = ap (λ n. list_any test (take n (x ∷ xs))) at ∙ ap (λ b. b || list_any test (take place xs)) e ∙ i.none;
    }

first_of : (test : List ℕ → Bool) (xs : List (List ℕ)) → list_any test xs ≡ true → IsFirst test xs
first_of test [] some = absurd cc
first_of test (x ∷ xs) some =
    elim (test x) as (λ b. test x ≡ b → (b || list_any test xs) ≡ true → IsFirst test (x ∷ xs)) [
      | true ↦ λ e _. first_here test x xs e
      | false ↦ λ e h. first_later test x xs e (first_of test xs h)
    ] refl some

-- ---- the lines that go on

taken_go_on : (lines : List (List ℕ)) → list_all goes_on (map line_form (take (prefix_len is_more lines) lines)) ≡ true
taken_go_on [] = refl
taken_go_on (line ∷ lines) =
    elim (is_more line) as (λ b. is_more line ≡ b → list_all goes_on (map line_form (take (prefix_len is_more (line ∷ lines)) (line ∷ lines))) ≡ true) [
      | true ↦ λ e.
          let one : 1 + prefix_len is_more lines ≡ suc (prefix_len is_more lines) = omega arith in
          let at : prefix_len is_more (line ∷ lines) ≡ suc (prefix_len is_more lines) = ap (λ b. cond b (1 + prefix_len is_more lines) 0) e ∙ one in
          ap (λ n. list_all goes_on (map line_form (take n (line ∷ lines)))) at
          ∙ ap (λ b. b && list_all goes_on (map line_form (take (prefix_len is_more lines) lines))) e
          ∙ taken_go_on lines
      | false ↦ λ e. ap (λ n. list_all goes_on (map line_form (take (cond n (1 + prefix_len is_more lines) 0) (line ∷ lines)))) e
    ] refl

rest_stops : (lines : List (List ℕ)) → prefix_len is_more (drop (prefix_len is_more lines) lines) ≡ 0
rest_stops [] = refl
rest_stops (line ∷ lines) =
    elim (is_more line) as (λ b. is_more line ≡ b → prefix_len is_more (drop (prefix_len is_more (line ∷ lines)) (line ∷ lines)) ≡ 0) [
      | true ↦ λ e.
          let one : 1 + prefix_len is_more lines ≡ suc (prefix_len is_more lines) = omega arith in
          let at : prefix_len is_more (line ∷ lines) ≡ suc (prefix_len is_more lines) = ap (λ b. cond b (1 + prefix_len is_more lines) 0) e ∙ one in
          ap (λ n. prefix_len is_more (drop n (line ∷ lines))) at ∙ rest_stops lines
      | false ↦ λ e.
          let at : prefix_len is_more (line ∷ lines) ≡ 0 = ap (λ b. cond b (1 + prefix_len is_more lines) 0) e in
          ap (λ n. prefix_len is_more (drop n (line ∷ lines))) at ∙ at
    ] refl

-- ---- the value

-- what is written in the advanced form is read again
abbrev pub IsReadAgain : Sexp → Type 0
IsReadAgain tree = ReadsAdvanced (advanced_of tree) (Ok (tree, length (advanced_of tree)))

drop_all : (bytes : List ℕ) → drop (length bytes) bytes ≡ []
drop_all [] = refl
drop_all (byte ∷ bytes) = drop_all bytes

text_again : (tree : Sexp) → IsReadAgain tree → length (spelling_of tree) ≤ most_bytes → IsKeyText (advanced_of tree) tree
text_again tree again short =
    (record { len = length (advanced_of tree); reads = again; blank = ap (list_all is_blank) (drop_all (advanced_of tree)) }, short)

-- ---- the file

-- the lines of the file with another key
record HasLines (file new : List ℕ) (tree : Sexp) : Type 0 where
  passed : List (List ℕ)
  rest : List (List ℕ)
  lines : lines_of new ≡ passed ++ key_line tree ∷ rest
  none : list_any is_key_line passed ≡ false
  stops : prefix_len is_more rest ≡ 0
  formed : first_line_fault [] (map line_form passed ++ Key ∷ map line_form rest) ≡ None
  before : before_key file ≡ concat passed
  after : after_key file ≡ concat rest

only_key : (form : LineForm) → is_key form ≡ true → form ≡ Key
only_key Comment e = absurd cc
only_key GoesOn e = absurd cc
only_key Item e = absurd cc
only_key Key e = refl
only_key NoForm e = absurd cc

key_form : (line : List ℕ) → is_key_line line ≡ true → line_form line ≡ Key
key_form line e = only_key (line_form line) e

new_lines : (file : List ℕ) (tree : Sexp) → line_fault file ≡ None → has_key file ≡ true → HasLines file (before_key file ++ (key_line tree ++ after_key file)) tree
new_lines file tree formed has =
    let all = lines_of file in
    let i = first_of is_key_line all has in
    let passed = take (position_or_len is_key_line all) all in
    let more = take (prefix_len is_more i.rest) i.rest in
    let rest = drop (prefix_len is_more i.rest) i.rest in
    let cut : i.rest ≡ more ++ rest = sym (take-append-drop (prefix_len is_more i.rest) i.rest) in
    let parts : all ≡ (passed ++ i.first ∷ more) ++ rest =
    i.parts ∙ ap (λ (ls : List (List ℕ)). passed ++ i.first ∷ ls) cut ∙ sym (append_assoc passed (i.first ∷ more) rest) in
    let ended = before_ended passed i.rest i.first file i.parts in
    let line = plain_ended (key_text tree) (text_plain tree) in
    let last = lines_last (passed ++ i.first ∷ more) rest file parts in
    let after : after_key file ≡ concat rest = ap (λ (ls : List (List ℕ)). concat (after_item ls)) i.from in
    record {
      passed = passed;
      rest = rest;
      lines = lines_first passed (key_line tree ++ after_key file) ended
          ∙ ap (λ (ls : List (List ℕ)). passed ++ ls)
          (line_first (key_line tree) (after_key file) line ∙ ap (λ (ls : List (List ℕ)). key_line tree ∷ ls) (ap lines_of after ∙ last));
      none = i.none;
      stops = rest_stops i.rest;
      formed = well_without (map line_form passed) (map line_form more) (map line_form rest) (taken_go_on i.rest)
          (sym (ap (λ (ls : List (List ℕ)). first_line_fault [] (map line_form ls)) (i.parts ∙ ap (λ (ls : List (List ℕ)). passed ++ i.first ∷ ls) cut)
          ∙ ap (λ (fs : List LineForm). first_line_fault [] fs)
          (map-append line_form passed (i.first ∷ (more ++ rest))
          ∙ ap (λ (f : LineForm). map line_form passed ++ f ∷ map line_form (more ++ rest)) (key_form i.first i.passes)
          ∙ ap (λ (fs : List LineForm). map line_form passed ++ Key ∷ fs) (map-append line_form more rest)))
          ∙ formed);
      before = refl;
      after = after;
    }

with_key_is_read : (file new : List ℕ) (tree : Sexp) → HasLines file new tree → IsReadAgain tree → length (spelling_of tree) ≤ most_bytes
    → IsKeyFile new (record { before = before_key file; tree = tree; after = after_key file })
with_key_is_read file new tree h again short =
    let line = key_line tree in
    let is : is_key_line line ≡ true = ap is_key (form_of_key tree) in
    let place : position_or_len is_key_line (lines_of new) ≡ length h.passed =
    ap (λ (ls : List (List ℕ)). position_or_len is_key_line ls) h.lines ∙ place_behind is_key_line h.passed h.rest line h.none is in
    let from : from_key new ≡ line ∷ h.rest =
    ap (λ n. drop n (lines_of new)) place ∙ ap (λ (ls : List (List ℕ)). drop (length h.passed) ls) h.lines ∙ drop_front h.passed (line ∷ h.rest) in
    let value : key_value new ≡ advanced_of tree =
    ap value_of from ∙ ap (λ n. concat (map piece_of (value_in (line_text line) ∷ map line_text (take n h.rest)))) h.stops
    ∙ append-nil (piece_of (value_in (line_text line))) ∙ piece_of_key tree in
    record {
      item = record {
        formed = ap (λ (ls : List (List ℕ)). first_line_fault [] (map line_form ls)) h.lines
            ∙ ap (λ (fs : List LineForm). first_line_fault [] fs)
            (map-append line_form h.passed (line ∷ h.rest) ∙ ap (λ (f : LineForm). map line_form h.passed ++ f ∷ map line_form h.rest) (form_of_key tree))
            ∙ h.formed;
        has = ap (λ (ls : List (List ℕ)). list_any is_key_line ls) h.lines ∙ list_any-append is_key_line h.passed (line ∷ h.rest)
            ∙ ap (λ b. b || list_any is_key_line (line ∷ h.rest)) h.none ∙ ap (λ b. b || list_any is_key_line h.rest) is;
      };
      before = h.before
          ∙ sym (ap (λ n. concat (take n (lines_of new))) place ∙ ap (λ (ls : List (List ℕ)). concat (take (length h.passed) ls)) h.lines ∙ ap concat (take_front h.passed (line ∷ h.rest)));
      text = subst (λ (v : List ℕ). IsKeyText v tree) (sym value) (text_again tree again short);
      after = h.after ∙ sym (ap (λ (ls : List (List ℕ)). concat (after_item ls)) from ∙ ap (λ n. concat (drop n h.rest)) h.stops);
    }

-- the file with another key, in one way of joining its parts
with_parts : (before after : List ℕ) (tree : Sexp) → before ++ codes "Key: " ++ advanced_of tree ++ 10 ∷ after ≡ before ++ (key_line tree ++ after)
with_parts before after tree =
    let name = codes "Key: " in
    let text = advanced_of tree in
    append_assoc (before ++ name) text (10 ∷ after)
    ∙ append_assoc before name (text ++ 10 ∷ after)
    ∙ ap (λ (bs : List ℕ). before ++ bs) (sym (append_assoc name text (10 ∷ after)) ∙ sym (append_assoc (key_text tree) (10 ∷ []) after))

abbrev record_of : List ℕ → Sexp → List ℕ → KeyFile
record_of before tree after = record { before = before; tree = tree; after = after }

pub replaced : (file : List ℕ) (key : KeyFile) (tree : Sexp) → IsKeyFile file key → IsReadAgain tree → length (spelling_of tree) ≤ most_bytes
    → IsKeyFile (with_key key tree) (record { before = key.before; tree = tree; after = key.after })
replaced file key tree h again short =
    let lines = new_lines file tree h.item.formed h.item.has in
    let new = with_key_is_read file (before_key file ++ (key_line tree ++ after_key file)) tree lines again short in
    let same : with_key key tree ≡ before_key file ++ (key_line tree ++ after_key file) =
    with_parts key.before key.after tree ∙ ap (λ (b : List ℕ). b ++ (key_line tree ++ key.after)) h.before ∙ ap (λ (b : List ℕ). before_key file ++ (key_line tree ++ b)) h.after in
    let parts : record_of (before_key file) tree (after_key file) ≡ record_of key.before tree key.after =
    ap (λ (b : List ℕ). record_of b tree (after_key file)) (sym h.before) ∙ ap (λ (b : List ℕ). record_of key.before tree b) (sym h.after) in
    subst (λ (k : KeyFile). IsKeyFile (with_key key tree) k) parts
    (subst (λ (f : List ℕ). IsKeyFile f (record_of (before_key file) tree (after_key file))) (sym same) new)

-- ---- its canonical file

first_byte : (file before rest : List ℕ) (tree : Sexp) (after : List ℕ) → is_canonical file ≡ false → file ≡ before ++ rest
    → is_canonical (before ++ codes "Key: " ++ advanced_of tree ++ 10 ∷ after) ≡ false
first_byte file [] rest tree after e parts = refl
first_byte file (byte ∷ before) rest tree after e parts = sym (ap is_canonical parts) ∙ e

key_parts : (file : List ℕ) → file ≡ before_key file ++ concat (from_key file)
key_parts file =
    let all = lines_of file in
    let place = position_or_len is_key_line all in
    sym (concat_lines file) ∙ ap concat (sym (take-append-drop place all)) ∙ concat-append (take place all) (drop place all)

pub replaced_canon : (file : List ℕ) (key : KeyFile) (tree : Sexp) → is_canonical file ≡ false → IsKeyFile file key → IsReadAgain tree → length (spelling_of tree) ≤ most_bytes
    → Canon (with_key key tree) (Some (spelling_of tree))
replaced_canon file key tree extended h again short = inr (record {
  extended = first_byte file key.before (concat (from_key file)) tree key.after extended (key_parts file ∙ ap (λ (b : List ℕ). b ++ concat (from_key file)) (sym h.before));
  key = record_of key.before tree key.after;
  has = replaced file key tree h again short;
  spelled = refl;
})
