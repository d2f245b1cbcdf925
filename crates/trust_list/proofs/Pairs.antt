-- Digits are in pairs exactly where what stands between the colons is.
use Rattle.std.proofs.{Common.{◌≡◌, ◌≤◌, ◌%◌, ◌==◌, ℕ, true, false, List, [], ◌∷◌, length, refl, sym, ap, ◌∙◌, arith, inl, inr}, lemmas.Bool.{and_parts, and_from, both_ways, cases_Bool, eq-eqb, eqb-true, false_from_ne_true, le-leb}}
use Rattle.std.{proofs.lemmas.List.Splits.{slice_split-cons_no, slice_split-cons_yes}, specs.{Prelude.nat_le, List.{list_all, slice_split, onto_first}}}
use Rattle.trust_list.{specs.{Entries.{are_pairs, is_colon, is_in_pairs}, Written.{InPairs, last, joined, parted}}, proofs.LastLines.some_part}

abbrev parts_of : List ℕ → List (List ℕ)
parts_of word = slice_split is_colon word

two_off : (a b : ℕ) (word : List ℕ) → is_colon a ≡ false → is_colon b ≡ false → parts_of (a ∷ b ∷ word) ≡ onto_first a (onto_first b (parts_of word))
two_off a b word plain plain' = slice_split-cons_no is_colon a (b ∷ word) plain ∙ ap (onto_first a) (slice_split-cons_no is_colon b word plain')

-- a pair more
pairs_more : (a b : ℕ) (part : List ℕ) → are_pairs part ≡ true → are_pairs (a ∷ b ∷ part) ≡ true
pairs_more a b part are =
    let parts = and_parts (nat_le 1 (length part)) (length part % 2 == 0) are in
    let even : length part % 2 ≡ 0 = eqb-true (length part % 2) 0 parts.1 in
    let even' : length (a ∷ b ∷ part) % 2 ≡ 0 = omega (arith, even) in
    and_from (nat_le 1 (length (a ∷ b ∷ part))) (length (a ∷ b ∷ part) % 2 == 0) (le-leb 1 (length (a ∷ b ∷ part)) (omega arith)) (eq-eqb (length (a ∷ b ∷ part) % 2) 0 even')

-- a pair less, where something is left
pairs_less : (a b c : ℕ) (part : List ℕ) → are_pairs (a ∷ b ∷ c ∷ part) ≡ true → are_pairs (c ∷ part) ≡ true
pairs_less a b c part are =
    let parts = and_parts (nat_le 1 (length (a ∷ b ∷ c ∷ part))) (length (a ∷ b ∷ c ∷ part) % 2 == 0) are in
    let even : length (a ∷ b ∷ c ∷ part) % 2 ≡ 0 = eqb-true (length (a ∷ b ∷ c ∷ part) % 2) 0 parts.1 in
    let even' : length (c ∷ part) % 2 ≡ 0 = omega (arith, even) in
    and_from (nat_le 1 (length (c ∷ part))) (length (c ∷ part) % 2 == 0) (le-leb 1 (length (c ∷ part)) (omega arith)) (eq-eqb (length (c ∷ part) % 2) 0 even')

all_more : (a b : ℕ) (parts : List (List ℕ)) → 1 ≤ length parts → list_all are_pairs parts ≡ true → list_all are_pairs (onto_first a (onto_first b parts)) ≡ true
all_more a b [] some all = absurd (omega (arith, some))
all_more a b (part ∷ parts) some all =
    let both = and_parts (are_pairs part) (list_all are_pairs parts) all in
    and_from (are_pairs (a ∷ b ∷ part)) (list_all are_pairs parts) (pairs_more a b part both.0) both.1

all_less : (a b c : ℕ) (parts : List (List ℕ)) → 1 ≤ length parts → list_all are_pairs (onto_first a (onto_first b (onto_first c parts))) ≡ true → list_all are_pairs (onto_first c parts) ≡ true
all_less a b c [] some all = absurd (omega (arith, some))
all_less a b c (part ∷ parts) some all =
    let both = and_parts (are_pairs (a ∷ b ∷ c ∷ part)) (list_all are_pairs parts) all in
    and_from (are_pairs (c ∷ part)) (list_all are_pairs parts) (pairs_less a b c part both.0) both.1

pub is_in_pairs_written : {word : List ℕ} → InPairs word → is_in_pairs word ≡ true
is_in_pairs_written (last {a} {b} plain plain') = ap (list_all are_pairs) (two_off a b [] plain plain')
is_in_pairs_written (joined {a} {b} {more} plain plain' pairs) =
    ap (list_all are_pairs) (two_off a b more plain plain')
    ∙ all_more a b (parts_of more) (some_part is_colon more) (is_in_pairs_written pairs)
is_in_pairs_written (parted {a} {b} {c} {more} plain plain' colon pairs) =
    ap (list_all are_pairs) (two_off a b (c ∷ more) plain plain' ∙ ap (λ parts. onto_first a (onto_first b parts)) (slice_split-cons_yes is_colon c more colon))
    ∙ is_in_pairs_written pairs

first_plain : (a : ℕ) (word : List ℕ) → is_in_pairs (a ∷ word) ≡ true → is_colon a ≡ false
first_plain a word is =
    false_from_ne_true (is_colon a) (λ colon. both_ways (is_in_pairs (a ∷ word)) (ap (list_all are_pairs) (slice_split-cons_yes is_colon a word colon)) is)

second_plain : (a b : ℕ) (word : List ℕ) → is_in_pairs (a ∷ b ∷ word) ≡ true → is_colon a ≡ false → is_colon b ≡ false
second_plain a b word is plain =
    false_from_ne_true (is_colon b)
    (λ colon. both_ways (is_in_pairs (a ∷ b ∷ word))
    (ap (list_all are_pairs) (slice_split-cons_no is_colon a (b ∷ word) plain ∙ ap (onto_first a) (slice_split-cons_yes is_colon b word colon))) is)

pub InPairs_from_test : (word : List ℕ) → is_in_pairs word ≡ true → InPairs word
InPairs_from_test [] is = absurd (both_ways (is_in_pairs []) refl is)
InPairs_from_test (a ∷ []) is =
    let plain = first_plain a [] is in
    absurd (both_ways (is_in_pairs (a ∷ [])) (ap (list_all are_pairs) (slice_split-cons_no is_colon a [] plain)) is)
InPairs_from_test (a ∷ b ∷ []) is =
    let plain = first_plain a (b ∷ []) is in
    last plain (second_plain a b [] is plain)
InPairs_from_test (a ∷ b ∷ c ∷ more) is =
    let plain = first_plain a (b ∷ c ∷ more) is in
    let plain' = second_plain a b (c ∷ more) is plain in
    let parts = two_off a b (c ∷ more) plain plain' in
    elim (cases_Bool (is_colon c)) [
      | inl colon ↦
          let behind = sym (ap (list_all are_pairs) (parts ∙ ap (λ ps. onto_first a (onto_first b ps)) (slice_split-cons_yes is_colon c more colon))) ∙ is in
          parted plain plain' colon (InPairs_from_test more behind)
      | inr other ↦
          let cut = slice_split-cons_no is_colon c more other in
          let behind = all_less a b c (parts_of more) (some_part is_colon more)
          (sym (ap (list_all are_pairs) (parts ∙ ap (λ ps. onto_first a (onto_first b ps)) cut)) ∙ is) in
          joined plain plain' (InPairs_from_test (c ∷ more) (ap (list_all are_pairs) cut ∙ behind))
    ]
