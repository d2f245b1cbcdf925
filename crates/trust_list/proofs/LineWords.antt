-- The words of a line, and where they stand in it.
use Rattle.std.proofs.{Common.{◌≡◌, ◌≤◌, ℕ, true, false, cond, List, [], ◌∷◌, ◌++◌, length, refl, sym, ap, ◌∙◌, arith, inl, inr, append-nil}, lemmas.{Bool.{and_from, and_parts, cases_Bool, le-leb}, List.Elements.{All-cons, All-nil}}}
use Rattle.std.{proofs.lemmas.List.Splits.{slice_split-cons_yes, slice_split_at, slice_split_none}, specs.{Prelude.nat_le, List.{All, filter, list_all, slice_split}}}
use Rattle.assuan_text.{specs.{Blanks.is_blank, Words.words}, proofs.WordLemmas.words_blank}
use Rattle.trust_list.specs.Written.{EndsWord}

abbrev AreNotBlank : List ℕ → Type 0
AreNotBlank word = All (λ c. is_blank c ≡ false) word

abbrev filled : List (List ℕ) → List (List ℕ)
filled parts = filter (λ word. nat_le 1 (length word)) parts

kept : (word : List ℕ) (parts : List (List ℕ)) → 1 ≤ length word → filled (word ∷ parts) ≡ word ∷ filled parts
kept word parts some = ap (λ b. cond b (word ∷ filled parts) (filled parts)) (le-leb 1 (length word) some)

pub words_blanks : (front text : List ℕ) → list_all is_blank front ≡ true → words (front ++ text) ≡ words text
words_blanks [] text blank = refl
words_blanks (byte ∷ front) text blank =
    let parts = and_parts (is_blank byte) (list_all is_blank front) blank in
    words_blank byte (front ++ text) parts.0 ∙ words_blanks front text parts.1

-- a word, and then the words of what comes after it
pub words_word : (word rest : List ℕ) → AreNotBlank word → 1 ≤ length word → EndsWord rest → words (word ++ rest) ≡ word ∷ words rest
words_word word [] plain some ends =
    ap words (append-nil word) ∙ ap filled (slice_split_none is_blank word plain) ∙ kept word [] some
words_word word (byte ∷ rest) plain some ends =
    ap filled (slice_split_at is_blank word byte rest plain ends)
    ∙ kept word (slice_split is_blank rest) some
    ∙ ap (λ (ws : List (List ℕ)). word ∷ ws) (sym (words_blank byte rest ends))

-- a text up to its first blank
record IsCut (text : List ℕ) : Type 0 where
  word : List ℕ
  rest : List ℕ
  whole : text ≡ word ++ rest
  plain : AreNotBlank word
  ends : EndsWord rest

cut : (text : List ℕ) → IsCut text
cut [] = record { word = []; rest = []; whole = refl; plain = All-nil (λ c. is_blank c ≡ false); ends = tt }
cut (c ∷ text) =
    elim (cases_Bool (is_blank c)) [
      | inl blank ↦ record { word = []; rest = c ∷ text; whole = refl; plain = All-nil (λ c. is_blank c ≡ false); ends = blank }
      | inr other ↦
          let behind = cut text in
          record {
            word = c ∷ behind.word;
            rest = behind.rest;
            whole = ap (λ (t : List ℕ). c ∷ t) behind.whole;
            plain = All-cons (λ c. is_blank c ≡ false) c behind.word other behind.plain;
            ends = behind.ends;
          }
    ]

-- where the first word of a text stands
pub record HasWord (text word : List ℕ) (others : List (List ℕ)) : Type 0 where
  pub front : List ℕ
  pub rest : List ℕ
  pub whole : text ≡ front ++ (word ++ rest)
  pub blanks : list_all is_blank front ≡ true
  pub behind : words rest ≡ others
  pub ends : EndsWord rest

at_word : (c : ℕ) (text word : List ℕ) (others : List (List ℕ)) → is_blank c ≡ false → words (c ∷ text) ≡ word ∷ others → HasWord (c ∷ text) word others
at_word c text word others plain are =
    let behind = cut text in
    let first = c ∷ behind.word in
    let whole : c ∷ text ≡ first ++ behind.rest = ap (λ (t : List ℕ). c ∷ t) behind.whole in
    let is : words (c ∷ text) ≡ first ∷ words behind.rest =
    ap words whole ∙ words_word first behind.rest (All-cons (λ c. is_blank c ≡ false) c behind.word plain behind.plain) (omega arith) behind.ends in
    let same : first ∷ words behind.rest ≡ word ∷ others = sym is ∙ are in
    let word_is : first ≡ word = cc in
    record {
      front = [];
      rest = behind.rest;
      whole = whole ∙ ap (λ (w : List ℕ). w ++ behind.rest) word_is;
      blanks = refl;
      behind = cc;
      ends = behind.ends;
    }

pub HasWord_from_words : (text word : List ℕ) (others : List (List ℕ)) → words text ≡ word ∷ others → HasWord text word others
HasWord_from_words [] word others are = cc are
HasWord_from_words (c ∷ text) word others are =
    elim (cases_Bool (is_blank c)) [
      | inl blank ↦
          let more = HasWord_from_words text word others (sym (words_blank c text blank) ∙ are) in
          record {
            front = c ∷ more.front;
            rest = more.rest;
            whole = ap (λ (t : List ℕ). c ∷ t) more.whole;
            blanks = and_from (is_blank c) (list_all is_blank more.front) blank more.blanks;
            behind = more.behind;
            ends = more.ends;
          }
      | inr other ↦ at_word c text word others other are
    ]
