-- The text of the Key item that is written: it is one line, of the item Key, and its value is one piece.
use Rattle.std.proofs.{Common.{◌≡◌, ◌+◌, ◌-◌, ◌/◌, ◌%◌, ◌<◌, ◌≤◌, ℕ, Bool, true, false, get_or, List, [], ◌∷◌, ◌++◌, length, take, refl, ap, sym, ◌∙◌, arith}, lemmas.{Bool.{eqb-true, cond_both}, List.{length-append, Sums.suffix_len_is}}}
use Rattle.std.{proofs.{lemmas.List.Folds.{list_all-append, list_all_at}, Math.Seq.{take-append_seam, take-length, get_or-append_seam}}, specs.{Prelude.{not, ◌||◌, ◌&&◌, ◌==◌, nat_lt, codes, if◌then◌else◌}, Char.is_ascii_digit, List.{list_all, suffix_len}}}
use Rattle.{assuan_text.specs.{Blanks.is_blank, LineEnds.{is_lf, without_cr}}, sexp_canonical.specs.{Tree.{Tree, Row, leaf, branch, end, item}, View.tree_of, declared.tree.Sexp.Sexp}, sexp_advanced.specs.Bytes.{is_token_start, is_token_byte, is_token_mark}}
use Rattle.sexp_advanced.specs.Writing.{advanced, advanced_of, row_text, spaced_row, hex_glyph, hex_pairs, is_token, are_token_bytes}
use Rattle.key_lines.specs.{Lines.{last_byte, without_last, line_text}, Items.{line_form, form_of_text, value_in}, KeyItem.piece_of, declared.forms.LineForm.TheVariants.Key}

-- neither LF nor CR
abbrev pub is_plain : ℕ → Bool
is_plain byte = not (byte == 10) && not (byte == 13)

abbrev pub are_plain : List ℕ → Bool
are_plain bytes = list_all is_plain bytes

isnt : (b : Bool) → (b ≡ true → ⊥) → b ≡ false
isnt true h = absurd (h refl)
isnt false h = refl

pub both : (a b : Bool) → (a && b) ≡ true → (a ≡ true) × (b ≡ true)
both true b e = (refl, e)
both false b e = absurd cc

plain_where : (b : ℕ) → (b ≡ 10 → ⊥) → (b ≡ 13 → ⊥) → is_plain b ≡ true
plain_where b lf cr =
    ap (λ t. not t && not (b == 13)) (isnt (b == 10) (λ e. lf (eqb-true b 10 e)))
    ∙ ap (λ t. not t) (isnt (b == 13) (λ e. cr (eqb-true b 13 e)))

plain_append : (a b : List ℕ) → are_plain a ≡ true → are_plain b ≡ true → are_plain (a ++ b) ≡ true
plain_append a b e f = list_all-append is_plain a b ∙ ap (λ t. t && are_plain b) e ∙ f

-- ---- tokens

token_byte_plain : (b : ℕ) → is_token_byte b ≡ true → is_plain b ≡ true
unfolding is_token_byte is_token_start is_token_mark
token_byte_plain b token = plain_where b
    (λ at. let e : true ≡ false = sym token ∙ ap is_token_byte at in absurd (cc e))
    (λ at. let e : true ≡ false = sym token ∙ ap is_token_byte at in absurd (cc e))

start_byte : (b : ℕ) → is_token_start b ≡ true → is_token_byte b ≡ true
unfolding is_token_byte
start_byte b start = ap (λ t. t || is_ascii_digit b) start

tokens_plain : (bytes : List ℕ) → are_token_bytes bytes ≡ true → are_plain bytes ≡ true
tokens_plain [] e = refl
tokens_plain (b ∷ more) e =
    let parts = both (is_token_byte b) (are_token_bytes more) e in
    ap (λ t. t && are_plain more) (token_byte_plain b parts.0) ∙ tokens_plain more parts.1

token_plain : (bytes : List ℕ) → is_token bytes ≡ true → are_plain bytes ≡ true
token_plain [] e = refl
token_plain (b ∷ more) e =
    let parts = both (is_token_start b) (are_token_bytes more) e in
    ap (λ t. t && are_plain more) (token_byte_plain b (start_byte b parts.0)) ∙ tokens_plain more parts.1

-- ---- hexadecimal atoms

glyph_high : (n : ℕ) → 48 ≤ hex_glyph n
glyph_high n = cond_both (nat_lt n 10) (48 + n) (65 + (n - 10)) (λ g. 48 ≤ g) (λ _. omega arith) (λ _. omega arith)

glyph_plain : (n : ℕ) → is_plain (hex_glyph n) ≡ true
glyph_plain n = let high = glyph_high n in plain_where (hex_glyph n) (λ e. absurd (omega (arith, e, high))) (λ e. absurd (omega (arith, e, high)))

pairs_plain : (bytes : List ℕ) → are_plain (hex_pairs bytes) ≡ true
pairs_plain [] = refl
pairs_plain (b ∷ more) =
    ap (λ t. t && (is_plain (hex_glyph (b % 16)) && are_plain (hex_pairs more))) (glyph_plain (b / 16))
    ∙ ap (λ t. t && are_plain (hex_pairs more)) (glyph_plain (b % 16))
    ∙ pairs_plain more

-- ---- expressions

mutual
  plain_tree : (t : Tree) → are_plain (advanced t) ≡ true
  plain_tree (leaf bytes) = cond_both (is_token bytes) bytes (35 ∷ hex_pairs bytes ++ 35 ∷ []) (λ (text : List ℕ). are_plain text ≡ true)
      (λ token. token_plain bytes token)
      (λ _. plain_append (hex_pairs bytes) (35 ∷ []) (pairs_plain bytes) refl)
  plain_tree (branch items) = plain_append (row_text items) (41 ∷ []) (plain_row items) refl

  plain_row : (items : Row) → are_plain (row_text items) ≡ true
  plain_row end = refl
  plain_row (item t more) = plain_append (advanced t) (spaced_row more) (plain_tree t) (plain_spaced more)

  plain_spaced : (items : Row) → are_plain (spaced_row items) ≡ true
  plain_spaced end = refl
  plain_spaced (item t more) = plain_append (advanced t) (spaced_row more) (plain_tree t) (plain_spaced more)

-- ---- the line

-- the text of the Key item, and its line
abbrev pub key_text : Sexp → List ℕ
key_text tree = codes "Key: " ++ advanced_of tree

abbrev pub key_line : Sexp → List ℕ
key_line tree = key_text tree ++ 10 ∷ []

pub text_plain : (tree : Sexp) → are_plain (key_text tree) ≡ true
text_plain tree = plain_tree (tree_of tree)

-- a line of plain bytes that LF ends: its text is all but that
plain_last : (bytes : List ℕ) → 0 < length bytes → are_plain bytes ≡ true → is_plain (last_byte bytes) ≡ true
plain_last bytes some plain =
    let inside : length bytes - 1 < length bytes = omega arith in
    elim (is_plain (last_byte bytes)) as (λ b. is_plain (last_byte bytes) ≡ b → b ≡ true) [
      | true ↦ λ _. refl
      | false ↦ λ fails. absurd (let none = list_all_at is_plain bytes (length bytes - 1) 0 inside fails in cc (none, plain))
    ] refl

no_cr : (byte : ℕ) → is_plain byte ≡ true → (byte == 13) ≡ false
no_cr byte plain = isnt (byte == 13) (λ e. let at : is_plain byte ≡ is_plain 13 = ap is_plain (eqb-true byte 13 e) in let f : true ≡ false = sym plain ∙ at in absurd (cc f))

pub text_of_line : (text : List ℕ) → 0 < length text → are_plain text ≡ true → line_text (text ++ 10 ∷ []) ≡ text
text_of_line text some plain =
    let line = text ++ 10 ∷ [] in
    let long : length line - 1 ≡ length text = omega (arith, length-append text (10 ∷ [])) in
    let last : last_byte line ≡ 10 = ap (λ n. get_or line n 0) long ∙ get_or-append_seam text 10 [] 0 in
    let rest : without_last line ≡ text = ap (λ n. take n line) long ∙ take-append_seam text (10 ∷ []) in
    ap (λ b. if is_lf b then without_cr (without_last line) else line) last
    ∙ ap without_cr rest
    ∙ ap (λ b. if b then without_last text else text) (no_cr (last_byte text) (plain_last text some plain))

pub text_of_key : (tree : Sexp) → line_text (key_line tree) ≡ key_text tree
text_of_key tree = text_of_line (key_text tree) (omega arith) (text_plain tree)

pub form_of_key : (tree : Sexp) → line_form (key_line tree) ≡ Key
form_of_key tree = ap form_of_text (text_of_key tree)

-- ---- the value

-- the last byte is no blank
abbrev is_solid : List ℕ → Bool
is_solid text = not (is_blank (last_byte text))

abbrev no_blank : ℕ → Bool
no_blank byte = not (is_blank byte)

token_no_blank : (b : ℕ) → is_token_byte b ≡ true → no_blank b ≡ true
unfolding is_token_byte is_token_start is_token_mark
token_no_blank b token =
    let blank : (b == 32) ≡ false = isnt (b == 32) (λ e. let f : true ≡ false = sym token ∙ ap is_token_byte (eqb-true b 32 e) in absurd (cc f)) in
    let tab : (b == 9) ≡ false = isnt (b == 9) (λ e. let f : true ≡ false = sym token ∙ ap is_token_byte (eqb-true b 9 e) in absurd (cc f)) in
    ap (λ t. not (t || b == 9)) blank ∙ ap (λ t. not t) tab

tokens_no_blank : (bytes : List ℕ) → are_token_bytes bytes ≡ true → list_all no_blank bytes ≡ true
tokens_no_blank [] e = refl
tokens_no_blank (b ∷ more) e =
    let parts = both (is_token_byte b) (are_token_bytes more) e in
    ap (λ t. t && list_all no_blank more) (token_no_blank b parts.0) ∙ tokens_no_blank more parts.1

token_solid : (bytes : List ℕ) → is_token bytes ≡ true → is_solid bytes ≡ true
token_solid [] e = absurd cc
token_solid (b ∷ more) e =
    let bytes = b ∷ more in
    let parts = both (is_token_start b) (are_token_bytes more) e in
    let all : list_all no_blank bytes ≡ true = ap (λ t. t && list_all no_blank more) (token_no_blank b (start_byte b parts.0)) ∙ tokens_no_blank more parts.1 in
    let inside : length bytes - 1 < length bytes = omega arith in
    elim (is_solid bytes) as (λ t. is_solid bytes ≡ t → t ≡ true) [
      | true ↦ λ _. refl
      | false ↦ λ fails. absurd (let none = list_all_at no_blank bytes (length bytes - 1) 0 inside fails in cc (none, all))
    ] refl

end_solid : (front : List ℕ) (byte : ℕ) → no_blank byte ≡ true → is_solid (front ++ byte ∷ []) ≡ true
end_solid front byte e =
    let text = front ++ byte ∷ [] in
    let long : length text - 1 ≡ length front = omega (arith, length-append front (byte ∷ [])) in
    ap (λ n. no_blank (get_or text n 0)) long ∙ ap no_blank (get_or-append_seam front byte [] 0) ∙ e

tree_solid : (t : Tree) → is_solid (advanced t) ≡ true
tree_solid (leaf bytes) = cond_both (is_token bytes) bytes (35 ∷ hex_pairs bytes ++ 35 ∷ []) (λ (text : List ℕ). is_solid text ≡ true)
    (λ token. token_solid bytes token)
    (λ _. end_solid (35 ∷ hex_pairs bytes) 35 refl)
tree_solid (branch items) = end_solid (40 ∷ row_text items) 41 refl

-- such a text behind a blank is a piece
solid_piece : (text : List ℕ) → is_solid text ≡ true → piece_of (32 ∷ text) ≡ text
solid_piece text solid =
    let blank : is_blank (last_byte text) ≡ false = isnt (is_blank (last_byte text)) (λ e. let f : true ≡ false = sym solid ∙ ap (λ t. not t) e in absurd (cc f)) in
    let none : suffix_len is_blank text ≡ length text - length text =
    suffix_len_is is_blank text (length text) 0 (omega arith) (λ k from below. absurd (omega (arith, from, below))) (λ _. blank) in
    let long : length text - suffix_len is_blank text ≡ length text = omega (arith, none) in
    ap (λ n. take n text) long ∙ take-length text

pub piece_of_key : (tree : Sexp) → piece_of (value_in (line_text (key_line tree))) ≡ advanced_of tree
piece_of_key tree = ap (λ (t : List ℕ). piece_of (value_in t)) (text_of_key tree) ∙ solid_piece (advanced_of tree) (tree_solid (tree_of tree))
