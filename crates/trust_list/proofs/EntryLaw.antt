-- A line is judged so exactly where it is an entry that is written so.
use Rattle.std.proofs.Common.{◌≡◌, ◌≤◌, ◌==◌, ℕ, Bool, true, false, cond, ◌||◌, List, [], ◌∷◌, ◌++◌, length, map, Some, None, refl, sym, ap, subst, ◌∙◌, arith, inl, inr}
use Rattle.std.proofs.lemmas.{Bool.{and_from, and_parts, both_ways, cases_Bool, eqb-true, false_from_ne_true, or_cases}, List.{Elements.{All-cons, All-nil}, Sums.{AllPass-from_list_all, list_all-from_AllPass}}, Slice.Eq.bytes_eq-Decides}
use Rattle.std.specs.{Prelude.{codes, not}, Char.to_ascii_uppercase, List.{All, filter, list_all}, Str.bytes_eq}
use Rattle.assuan_text.specs.{Blanks.is_blank, Words.words}
use Rattle.trust_list.specs.{Entries.{capital_digits, first_word_judgement, is_colon, is_flag, is_in_pairs, judgement_of, spells}, Written.{EndsWord, InPairs, IsEntry, IsFirstWord, IsFlag, IsSpelled, joined, last, parted}}
use Rattle.trust_list.proofs.{LineWords.{HasWord_from_words, words_blanks, words_word}, NewEntries.{AreDigits, is_plain, IsPlain_from_test}, Pairs.{InPairs_from_test, is_in_pairs_written}}

-- ---- a spelling has no blank, and no `!` in front

capital_cons : (c : ℕ) (word : List ℕ) → is_colon c ≡ false → capital_digits (c ∷ word) ≡ to_ascii_uppercase c ∷ capital_digits word
capital_cons c word other =
    let others = filter (λ byte. not (is_colon byte)) word in
    ap (λ b. map to_ascii_uppercase (cond (not b) (c ∷ others) others)) other

capital_colon : (c : ℕ) (word : List ℕ) → is_colon c ≡ true → capital_digits (c ∷ word) ≡ capital_digits word
capital_colon c word colon =
    let others = filter (λ byte. not (is_colon byte)) word in
    ap (λ b. map to_ascii_uppercase (cond (not b) (c ∷ others) others)) colon

plain_parts : (c : ℕ) (word : List ℕ) → is_colon c ≡ false → list_all is_plain (capital_digits (c ∷ word)) ≡ true
    → (is_plain (to_ascii_uppercase c) ≡ true) × (list_all is_plain (capital_digits word) ≡ true)
plain_parts c word other plain =
    and_parts (is_plain (to_ascii_uppercase c)) (list_all is_plain (capital_digits word)) (sym (ap (list_all is_plain) (capital_cons c word other)) ∙ plain)

blank_stays : (c : ℕ) → is_blank c ≡ true → is_blank (to_ascii_uppercase c) ≡ true
blank_stays c blank =
    elim (or_cases (c == 32) (c == 9) blank) [
      | inl e ↦ ap (λ x. is_blank (to_ascii_uppercase x)) (eqb-true c 32 e)
      | inr e ↦ ap (λ x. is_blank (to_ascii_uppercase x)) (eqb-true c 9 e)
    ]

not_blank : (c : ℕ) → is_plain (to_ascii_uppercase c) ≡ true → is_blank c ≡ false
not_blank c plain =
    false_from_ne_true (is_blank c)
    (λ blank. both_ways (is_blank (to_ascii_uppercase c)) (IsPlain_from_test (to_ascii_uppercase c) plain).blank (blank_stays c blank))

no_blanks : (word : List ℕ) → list_all is_plain (capital_digits word) ≡ true → All (λ c. is_blank c ≡ false) word
no_blanks [] plain = All-nil (λ c. is_blank c ≡ false)
no_blanks (c ∷ word) plain =
    elim (cases_Bool (is_colon c)) [
      | inl colon ↦
          All-cons (λ c. is_blank c ≡ false) c word (ap is_blank (eqb-true c 58 colon))
          (no_blanks word (sym (ap (list_all is_plain) (capital_colon c word colon)) ∙ plain))
      | inr other ↦
          let parts = plain_parts c word other plain in
          All-cons (λ c. is_blank c ≡ false) c word (not_blank c parts.0) (no_blanks word parts.1)
    ]

no_exclamation : (c : ℕ) (word : List ℕ) → list_all is_plain (capital_digits (c ∷ word)) ≡ true → (c == 33) ≡ false
no_exclamation c word plain =
    false_from_ne_true (c == 33)
    (λ e. let is : c ≡ 33 = eqb-true c 33 e in
    let parts = plain_parts c word (ap is_colon is) plain in
    both_ways (to_ascii_uppercase c == 33) (IsPlain_from_test (to_ascii_uppercase c) parts.0).exclamation (ap (λ x. to_ascii_uppercase x == 33) is))

-- ---- the first word

some_pair : {word : List ℕ} → InPairs word → 1 ≤ length word
some_pair (last a b) = omega arith
some_pair (joined a b pairs) = omega arith
some_pair (parted a b c pairs) = omega arith

module _ (digits : List ℕ) where
  spells_written : (word : List ℕ) → IsSpelled digits word → spells digits word ≡ true
  spells_written word is =
      and_from (is_in_pairs word) (bytes_eq (capital_digits word) digits) (is_in_pairs_written is.pairs)
      ((bytes_eq-Decides (capital_digits word) digits).1 is.same)

  IsSpelled_from_test : (word : List ℕ) → spells digits word ≡ true → IsSpelled digits word
  IsSpelled_from_test word is =
      let parts = and_parts (is_in_pairs word) (bytes_eq (capital_digits word) digits) is in
      record { pairs = InPairs_from_test word parts.0; same = (bytes_eq-Decides (capital_digits word) digits).0 parts.1 }

  -- what a first word that is written so gives
  record FirstIs (word : List ℕ) (trusted : Bool) : Type 0 where
    plain : All (λ c. is_blank c ≡ false) word
    some : 1 ≤ length word
    judged : first_word_judgement digits word ≡ Some trusted

  spelled_first : (word : List ℕ) → AreDigits digits → IsSpelled digits word → FirstIs word true
  spelled_first [] are is = absurd (omega (arith, some_pair is.pairs))
  spelled_first (c ∷ word) are is =
      let plain : list_all is_plain (capital_digits (c ∷ word)) ≡ true = ap (list_all is_plain) is.same ∙ are.plain in
      record {
        plain = no_blanks (c ∷ word) plain;
        some = omega arith;
        judged =
            ap (λ b. cond b (cond (spells digits word) (Some false) None) (cond (spells digits (c ∷ word)) (Some true) None)) (no_exclamation c word plain)
            ∙ ap (λ b. cond b (Some true) None) (spells_written (c ∷ word) is);
      }

  marked_first : (spelled : List ℕ) → AreDigits digits → IsSpelled digits spelled → FirstIs (33 ∷ spelled) false
  marked_first spelled are is =
      record {
        plain = All-cons (λ c. is_blank c ≡ false) 33 spelled refl (no_blanks spelled (ap (list_all is_plain) is.same ∙ are.plain));
        some = omega arith;
        judged = ap (λ b. cond b (Some false) None) (spells_written spelled is);
      }

  first_is : (word : List ℕ) (trusted : Bool) → AreDigits digits → IsFirstWord digits trusted word → FirstIs word trusted
  first_is word true are is = spelled_first word are is
  first_is word false are is = subst (λ (w : List ℕ). FirstIs w false) (sym is.1) (marked_first is.0 are is.2)

  marked : (c : ℕ) (spelled : List ℕ) (trusted : Bool) → c ≡ 33 → cond (spells digits spelled) (Some false) None ≡ Some trusted → IsFirstWord digits trusted (c ∷ spelled)
  marked c spelled trusted is judged =
      elim (cases_Bool (spells digits spelled)) [
        | inl e ↦ by_answer trusted (sym (ap (λ b. cond b (Some false) None) e) ∙ judged) (IsSpelled_from_test spelled e)
        | inr e ↦ let none : None ≡ Some trusted = sym (ap (λ b. cond b (Some false) None) e) ∙ judged in cc
      ]
    where
      by_answer : (trusted : Bool) → Some false ≡ Some trusted → IsSpelled digits spelled → IsFirstWord digits trusted (c ∷ spelled)
      by_answer true e spelling = cc e
      by_answer false e spelling = (spelled, ap (λ x. x ∷ spelled) is, spelling)

  unmarked : (word : List ℕ) (trusted : Bool) → cond (spells digits word) (Some true) None ≡ Some trusted → IsFirstWord digits trusted word
  unmarked word trusted judged =
      elim (cases_Bool (spells digits word)) [
        | inl e ↦ by_answer trusted (sym (ap (λ b. cond b (Some true) None) e) ∙ judged) (IsSpelled_from_test word e)
        | inr e ↦ let none : None ≡ Some trusted = sym (ap (λ b. cond b (Some true) None) e) ∙ judged in cc
      ]
    where
      by_answer : (trusted : Bool) → Some true ≡ Some trusted → IsSpelled digits word → IsFirstWord digits trusted word
      by_answer true e spelling = spelling
      by_answer false e spelling = cc e

  IsFirstWord_from_judgement : (word : List ℕ) (trusted : Bool) → first_word_judgement digits word ≡ Some trusted → IsFirstWord digits trusted word
  IsFirstWord_from_judgement [] trusted judged = cc judged
  IsFirstWord_from_judgement (c ∷ word) trusted judged =
      let chosen = λ (b : Bool). cond b (cond (spells digits word) (Some false) None) (cond (spells digits (c ∷ word)) (Some true) None) in
      elim (cases_Bool (c == 33)) [
        | inl e ↦ marked c word trusted (eqb-true c 33 e) (sym (ap chosen e) ∙ judged)
        | inr e ↦ unmarked (c ∷ word) trusted (sym (ap chosen e) ∙ judged)
      ]

-- ---- the flag

is_flag_IsFlag : (flag : ℕ) → IsFlag flag → is_flag (flag ∷ []) ≡ true
is_flag_IsFlag flag known =
    elim known [
      | inl is ↦ ap (λ c. is_flag (c ∷ [])) is
      | inr other ↦ elim other [ inl is ↦ ap (λ c. is_flag (c ∷ [])) is | inr is ↦ ap (λ c. is_flag (c ∷ [])) is ]
    ]

is_blank_IsFlag : (flag : ℕ) → IsFlag flag → is_blank flag ≡ false
is_blank_IsFlag flag known =
    elim known [
      | inl is ↦ ap is_blank is
      | inr other ↦ elim other [ inl is ↦ ap is_blank is | inr is ↦ ap is_blank is ]
    ]

record FlagWord (word : List ℕ) : Type 0 where
  flag : ℕ
  is : word ≡ flag ∷ []
  known : IsFlag flag

FlagWord_from_test : (word : List ℕ) → is_flag word ≡ true → FlagWord word
FlagWord_from_test word is =
    elim (or_cases (bytes_eq word (codes "S") || bytes_eq word (codes "P")) (bytes_eq word (codes "*")) is) [
      | inl one ↦
          elim (or_cases (bytes_eq word (codes "S")) (bytes_eq word (codes "P")) one) [
            | inl e ↦ record { flag = 83; is = (bytes_eq-Decides word (codes "S")).0 e; known = inl refl }
            | inr e ↦ record { flag = 80; is = (bytes_eq-Decides word (codes "P")).0 e; known = inr (inl refl) }
          ]
      | inr e ↦ record { flag = 42; is = (bytes_eq-Decides word (codes "*")).0 e; known = inr (inr refl) }
    ]

-- ---- the line

gap_ends : (gap rest : List ℕ) → list_all is_blank gap ≡ true → 1 ≤ length gap → EndsWord (gap ++ rest)
gap_ends [] rest blank some = absurd (omega (arith, some))
gap_ends (byte ∷ gap) rest blank some = (and_parts (is_blank byte) (list_all is_blank gap) blank).0

some_gap : (gap : List ℕ) (flag : ℕ) (rest text : List ℕ) → text ≡ gap ++ flag ∷ rest → EndsWord text → is_blank flag ≡ false → 1 ≤ length gap
some_gap [] flag rest text whole ends plain = absurd (both_ways (is_blank flag) plain (subst EndsWord whole ends))
some_gap (byte ∷ gap) flag rest text whole ends plain = omega arith

module _ (digits line : List ℕ) (trusted : Bool) where
  pub judgement_written : AreDigits digits → IsEntry digits line trusted → judgement_of digits (words line) ≡ Some trusted
  judgement_written are entry =
      let first = first_is digits entry.word trusted are entry.first in
      let gap = list_all-from_AllPass is_blank entry.gap entry.apart in
      let behind = entry.gap ++ entry.flag ∷ entry.rest in
      let plain = All-cons (λ c. is_blank c ≡ false) entry.flag [] (is_blank_IsFlag entry.flag entry.known) (All-nil (λ c. is_blank c ≡ false)) in
      let are_words : words line ≡ entry.word ∷ (entry.flag ∷ []) ∷ words entry.rest =
      ap words entry.written
      ∙ words_blanks entry.front (entry.word ++ behind) (list_all-from_AllPass is_blank entry.front entry.indented)
      ∙ words_word entry.word behind first.plain first.some (gap_ends entry.gap (entry.flag ∷ entry.rest) gap entry.some_gap)
      ∙ ap (λ (ws : List (List ℕ)). entry.word ∷ ws)
      (words_blanks entry.gap (entry.flag ∷ entry.rest) gap ∙ words_word (entry.flag ∷ []) entry.rest plain (omega arith) entry.ends) in
      ap (judgement_of digits) are_words
      ∙ ap (λ b. cond b (first_word_judgement digits entry.word) None) (is_flag_IsFlag entry.flag entry.known)
      ∙ first.judged

  from_words : (parts : List (List ℕ)) → words line ≡ parts → judgement_of digits parts ≡ Some trusted → IsEntry digits line trusted
  from_words [] are judged = cc judged
  from_words (word ∷ []) are judged = cc judged
  from_words (word ∷ flagged ∷ more) are judged =
      let chosen = λ (b : Bool). cond b (first_word_judgement digits word) None in
      elim (cases_Bool (is_flag flagged)) [
        | inl known ↦
            let flag = FlagWord_from_test flagged known in
            let at = HasWord_from_words line word (flagged ∷ more) are in
            let next = HasWord_from_words at.rest flagged more at.behind in
            let behind : at.rest ≡ next.front ++ flag.flag ∷ next.rest = next.whole ∙ ap (λ (w : List ℕ). next.front ++ (w ++ next.rest)) flag.is in
            record {
              front = at.front;
              word = word;
              gap = next.front;
              flag = flag.flag;
              rest = next.rest;
              written = at.whole ∙ ap (λ (r : List ℕ). at.front ++ (word ++ r)) behind;
              indented = AllPass-from_list_all is_blank at.front at.blanks;
              first = IsFirstWord_from_judgement digits word trusted (sym (ap chosen known) ∙ judged);
              apart = AllPass-from_list_all is_blank next.front next.blanks;
              some_gap = some_gap next.front flag.flag next.rest at.rest behind at.ends (is_blank_IsFlag flag.flag flag.known);
              known = flag.known;
              ends = next.ends;
            }
        | inr other ↦ let none : None ≡ Some trusted = sym (ap chosen other) ∙ judged in cc
      ]

  pub IsEntry_from_judgement : judgement_of digits (words line) ≡ Some trusted → IsEntry digits line trusted
  IsEntry_from_judgement judged = from_words (words line) refl judged
