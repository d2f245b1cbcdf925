-- The words of a text, one after the other.
use Rattle.std.proofs.{Common.{◌≡◌, suc, ◌+◌, ◌<◌, ◌≤◌, ℕ, Bool, true, false, cond, List, [], ◌∷◌, length, take, drop, refl, ap, sym, subst, ◌∙◌, arith}, lemmas.{Bool.{cond_both, le-leb}, List.Splits.slice_split-cons_yes}}
use Rattle.std.specs.{Prelude.{nat_le, not}, List.{filter, slice_split, onto_first, prefix_len, position_or_len, before_first}}
use Rattle.assuan_text.specs.{Blanks.{is_blank, without_blanks}, Words.words}

-- the pieces that hold something
abbrev filled : List (List ℕ) → List (List ℕ)
filled pieces = filter (λ word. nat_le 1 (length word)) pieces

-- how many bytes stand before the first blank
abbrev place : List ℕ → ℕ
place text = position_or_len is_blank text

-- the first word, and the words of what comes after it
abbrev first_and_rest : List ℕ → List (List ℕ)
first_and_rest text = before_first is_blank text ∷ words (drop (place text) text)

drop_next : (count byte : ℕ) (text : List ℕ) → drop (1 + count) (byte ∷ text) ≡ drop count text
drop_next count byte text = let one : 1 + count ≡ suc count = omega arith in ap (λ n. drop n (byte ∷ text)) one

take_next : (count byte : ℕ) (text : List ℕ) → take (1 + count) (byte ∷ text) ≡ byte ∷ take count text
take_next count byte text = let one : 1 + count ≡ suc count = omega arith in ap (λ n. take n (byte ∷ text)) one

pub words_blank : (byte : ℕ) (text : List ℕ) → is_blank byte ≡ true → words (byte ∷ text) ≡ words text
words_blank byte text blank = ap filled (slice_split-cons_yes is_blank byte text blank)

pieces_after : List ℕ → List (List ℕ)
pieces_after [] = []
pieces_after (byte ∷ text) = slice_split is_blank text

first_piece : (text : List ℕ) → slice_split is_blank text ≡ before_first is_blank text ∷ pieces_after (drop (place text) text)
unfolding pieces_after
first_piece [] = refl
first_piece (byte ∷ text) =
    elim (is_blank byte) as (λ b. cond b ([] ∷ slice_split is_blank text) (onto_first byte (slice_split is_blank text))
    ≡ take (cond (not b) (1 + place text) 0) (byte ∷ text) ∷ pieces_after (drop (cond (not b) (1 + place text) 0) (byte ∷ text))) [
      | true ↦ refl
      | false ↦ ap (onto_first byte) (first_piece text)
          ∙ sym (ap (λ (w : List ℕ). w ∷ pieces_after (drop (1 + place text) (byte ∷ text))) (take_next (place text) byte text)
          ∙ ap (λ (r : List ℕ). (byte ∷ take (place text) text) ∷ pieces_after r) (drop_next (place text) byte text))
    ]

not_false : (b : Bool) → not b ≡ false → b ≡ true
not_false true e = refl
not_false false e = sym e

words_after : (text : List ℕ) → filled (pieces_after (drop (place text) text)) ≡ words (drop (place text) text)
unfolding pieces_after
words_after [] = refl
words_after (byte ∷ text) =
    cond_both (not (is_blank byte)) (1 + place text) 0
    (λ n. filled (pieces_after (drop n (byte ∷ text))) ≡ words (drop n (byte ∷ text)))
    (λ _. ap (λ (r : List ℕ). filled (pieces_after r)) (drop_next (place text) byte text) ∙ words_after text ∙ sym (ap words (drop_next (place text) byte text)))
    (λ e. sym (words_blank byte text (not_false (is_blank byte) e)))

starts_word : (byte : ℕ) (text : List ℕ) → is_blank byte ≡ false → place (byte ∷ text) ≡ 1 + place text
starts_word byte text plain = ap (λ b. cond (not b) (1 + place text) 0) plain

kept : (word : List ℕ) (pieces : List (List ℕ)) → 1 ≤ length word → filled (word ∷ pieces) ≡ word ∷ filled pieces
kept word pieces some = ap (λ b. cond b (word ∷ filled pieces) (filled pieces)) (le-leb 1 (length word) some)

some_byte : (byte : ℕ) (text : List ℕ) → is_blank byte ≡ false → 1 ≤ length (before_first is_blank (byte ∷ text))
some_byte byte text plain =
    let word : before_first is_blank (byte ∷ text) ≡ byte ∷ take (place text) text =
    ap (λ n. take n (byte ∷ text)) (starts_word byte text plain) ∙ take_next (place text) byte text in
    omega (arith, ap (λ (w : List ℕ). length w) word)

words_cut : (byte : ℕ) (text : List ℕ) → is_blank byte ≡ false → words (byte ∷ text) ≡ first_and_rest (byte ∷ text)
words_cut byte text plain =
    ap filled (first_piece (byte ∷ text))
    ∙ kept (before_first is_blank (byte ∷ text)) (pieces_after (drop (place (byte ∷ text)) (byte ∷ text))) (some_byte byte text plain)
    ∙ ap (λ (ws : List (List ℕ)). before_first is_blank (byte ∷ text) ∷ ws) (words_after (byte ∷ text))

words_without_blanks : (text : List ℕ) → words (without_blanks text) ≡ words text
words_without_blanks [] = refl
words_without_blanks (byte ∷ text) =
    cond_both (is_blank byte) (1 + prefix_len is_blank text) 0
    (λ n. words (drop n (byte ∷ text)) ≡ words (byte ∷ text))
    (λ blank. ap words (drop_next (prefix_len is_blank text) byte text) ∙ words_without_blanks text ∙ sym (words_blank byte text blank))
    (λ _. refl)

-- where all is blank there is no word
pub no_words : (text : List ℕ) → without_blanks text ≡ [] → words text ≡ []
no_words text none = sym (words_without_blanks text) ∙ ap words none

-- else the first word comes after the blanks, and has a byte
pub record HasWord (text rest : List ℕ) : Type 0 where
  pub words_are : words text ≡ first_and_rest rest
  pub some : 1 ≤ place rest

pub next_is : (text : List ℕ) → 0 < length (without_blanks text) → HasWord text (without_blanks text)
next_is [] = λ some. absurd (omega (arith, some))
next_is (byte ∷ text) =
    cond_both (is_blank byte) (1 + prefix_len is_blank text) 0
    (λ n. 0 < length (drop n (byte ∷ text)) → HasWord (byte ∷ text) (drop n (byte ∷ text)))
    (λ blank. subst (λ (r : List ℕ). 0 < length r → HasWord (byte ∷ text) r) (sym (drop_next (prefix_len is_blank text) byte text))
    (λ some. let rest = next_is text some in record { words_are = words_blank byte text blank ∙ rest.words_are; some = rest.some }))
    (λ plain _. record { words_are = words_cut byte text plain; some = omega (arith, starts_word byte text plain) })
