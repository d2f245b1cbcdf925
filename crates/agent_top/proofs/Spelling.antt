-- The words of the command line are spelled by the settings that they are read as.
use Rattle.std.proofs.Common.{◌≡◌, ◌<◌, ◌≤◌, ◌+◌, ℕ, Bool, true, false, cond, List, [], ◌∷◌, ◌++◌, zero, suc, length, take, drop, get_or, Option, Some, None, refl, ap, sym, ◌∙◌, subst, arith, inl, inr}
use Rattle.std.proofs.lemmas.{Bool.{and_parts, or_from, cond_both, cases_lt, eqb-true}, List.{Folds.list_any_more, Sums.{prefix_len-le-length, split_at_first, passes_at_first, fails_before_first}}, Slice.Eq.bytes_eq-Decides}
use Rattle.std.{proofs.Math.Seq.{take-append_seam, drop-append-add}, specs.{Prelude.{not, ◌&&◌, ◌||◌}, Option.option_map_or, List.{list_all, list_any, position_or_len, before_first, after_first}, Str.bytes_eq}}
use Rattle.{assuan_line.proofs.Places.place_after, assuan_text.specs.Rows.found}
use Rattle.agent_top.specs.{Forms.{forms, form_of, is_of_form, fits}, Settings.{Setting, is_equals, holds_equals, begins_with_dash, alone, is_value_of, settings, Spells, none, bare, joined, apart}, declared.words.forms.Form.Form}

and_false : (b : Bool) → (b && false) ≡ false
and_false true = refl
and_false false = refl

or_right : (a : Bool) {b : Bool} → b ≡ true → (a || b) ≡ true
or_right true h = refl
or_right false h = h

not_true : (b : Bool) → not b ≡ true → b ≡ false
not_true true h = absurd (cc h)
not_true false h = refl

holds_later : (b : Bool) (word : List ℕ) → cond (not b) (1 + position_or_len is_equals word) 0 ≡ 1 + length word
    → (position_or_len is_equals word ≡ length word → holds_equals word ≡ false) → (b || holds_equals word) ≡ false
holds_later true word e rest = absurd (omega (arith, e))
holds_later false word e rest = rest (omega (arith, e))

none_holds : (word : List ℕ) → position_or_len is_equals word ≡ length word → holds_equals word ≡ false
none_holds [] e = refl
none_holds (byte ∷ word) e = holds_later (is_equals byte) word (omega (arith, e)) (none_holds word)

place_within : (word : List ℕ) → position_or_len is_equals word ≤ length word
place_within word = prefix_len-le-length (λ byte. not (is_equals byte)) word

place_below : (word : List ℕ) → holds_equals word ≡ true → position_or_len is_equals word < length word
place_below word holds = elim (cases_lt (position_or_len is_equals word) (length word)) [
  | inl below ↦ below
  | inr above ↦ absurd (cc (holds, none_holds word (omega (arith, above, place_within word))))
]

-- there is no `=` before the first
none_so_far : (word : List ℕ) (count : ℕ) → count ≤ position_or_len is_equals word → holds_equals (take count word) ≡ false
none_so_far word zero within = refl
none_so_far word (suc count) within =
    let more : count + 1 ≡ suc count = omega arith in
    subst (λ (n : ℕ). holds_equals (take n word) ≡ false) more
    (list_any_more is_equals word count 0 (omega (arith, within, place_within word))
    ∙ or_from (list_any is_equals (take count word)) (is_equals (get_or word count 0)) (none_so_far word count (omega (arith, within)))
    (fails_before_first is_equals word count 0 (omega (arith, within))))

-- a word by itself is spelled so
alone_spells : (word : List ℕ) (given : List Setting) (words : List (List ℕ)) → Spells given words → Spells (alone word ∷ given) (word ∷ words)
alone_spells word given words rest =
    cond_both (holds_equals word) (before_first is_equals word, Some (after_first is_equals word)) (word, None)
    (λ setting. Spells (setting ∷ given) (word ∷ words))
    (λ holds.
    let below = place_below word holds in
    let mark : get_or word (position_or_len is_equals word) 0 ≡ 61 = eqb-true _ 61 (passes_at_first is_equals word 0 below) in
    let whole : word ≡ before_first is_equals word ++ 61 ∷ after_first is_equals word =
    split_at_first is_equals word 0 below ∙ ap (λ (b : ℕ). before_first is_equals word ++ b ∷ after_first is_equals word) mark in
    subst (λ (w : List ℕ). Spells ((before_first is_equals word, Some (after_first is_equals word)) ∷ given) (w ∷ words)) (sym whole)
    (joined (none_so_far word (position_or_len is_equals word) (omega arith)) rest))
    (λ plain. bare plain rest)

pub spelled : (words : List (List ℕ)) → Spells (settings words) words
spelled [] = none
spelled (word ∷ []) = alone_spells word [] [] none
spelled (word ∷ next ∷ words) =
    cond_both (is_value_of word next) ((word, Some next) ∷ settings words) (alone word ∷ settings (next ∷ words))
    (λ given. Spells given (word ∷ next ∷ words))
    (λ value.
    let parts = and_parts (not (holds_equals word)) (not (begins_with_dash next)) value in
    apart (not_true (holds_equals word) parts.0) (not_true (begins_with_dash next) parts.1) (spelled words))
    (λ _. alone_spells word (settings (next ∷ words)) (next ∷ words) (spelled (next ∷ words)))

-- the row of a name that begins with a dash
row_begins : (name : List ℕ) (row : List ℕ × Form) (rows : List (List ℕ × Form)) (form : Form) (same : Bool)
    → bytes_eq row.0 name ≡ same → cond same (Some row.1) (found name rows) ≡ Some form → begins_with_dash row.0 ≡ true
    → (found name rows ≡ Some form → begins_with_dash name ≡ true) → begins_with_dash name ≡ true
row_begins name row rows form true same is dash later =
    let names : row.0 ≡ name = (bytes_eq-Decides row.0 name).0 same in
    subst (λ (n : List ℕ). begins_with_dash n ≡ true) names dash
row_begins name row rows form false same is dash later = later is

found_begins : (name : List ℕ) (rows : List (List ℕ × Form)) (form : Form) → list_all (λ row. begins_with_dash row.0) rows ≡ true → found name rows ≡ Some form → begins_with_dash name ≡ true
found_begins name [] form dashes is = absurd (cc is)
found_begins name (row ∷ rows) form dashes is =
    let parts = and_parts (begins_with_dash row.0) (list_all (λ r. begins_with_dash r.0) rows) dashes in
    row_begins name row rows form (bytes_eq row.0 name) refl is parts.0 (found_begins name rows form parts.1)

form_begins : (name : List ℕ) (value : Option (List ℕ)) (o : Option Form) → found name forms ≡ o → option_map_or (λ form. is_of_form form value) o false ≡ true → begins_with_dash name ≡ true
form_begins name value (Some form) is fit = found_begins name forms form refl is
form_begins name value None is fit = absurd (cc fit)

-- an option's name begins with a dash
name_begins : (name : List ℕ) (value : Option (List ℕ)) → fits (name, value) ≡ true → begins_with_dash name ≡ true
unfolding form_of
name_begins name value fit = form_begins name value (found name forms) refl fit

dash_in_front : (name more : List ℕ) → begins_with_dash name ≡ true → begins_with_dash (name ++ more) ≡ true
dash_in_front [] more dash = absurd (cc dash)
dash_in_front (byte ∷ name) more dash = dash

-- the word behind a setting is no value, where the next setting fits
next_begins : (given : List Setting) (next : List ℕ) (words : List (List ℕ)) → Spells given (next ∷ words) → list_all fits given ≡ true → begins_with_dash next ≡ true
next_begins [] next words spells fit = elim spells [ ]
next_begins ((name, None) ∷ given) next words (bare plain rest) fit =
    name_begins name None (and_parts (fits (name, None)) (list_all fits given) fit).0
next_begins ((name, Some value) ∷ given) next words (joined plain rest) fit =
    dash_in_front name (61 ∷ value) (name_begins name (Some value) (and_parts (fits (name, Some value)) (list_all fits given) fit).0)
next_begins ((name, Some value) ∷ given) next words (apart plain no_dash rest) fit =
    name_begins name (Some value) (and_parts (fits (name, Some value)) (list_all fits given) fit).0

alone_bare : (name : List ℕ) → holds_equals name ≡ false → alone name ≡ (name, None)
alone_bare name plain = ap (λ b. cond b (before_first is_equals name, Some (after_first is_equals name)) (name, None)) plain

holds_it : (name value : List ℕ) → holds_equals (name ++ 61 ∷ value) ≡ true
holds_it [] value = refl
holds_it (byte ∷ name) value = or_right (is_equals byte) (holds_it name value)

alone_joined : (name value : List ℕ) → holds_equals name ≡ false → alone (name ++ 61 ∷ value) ≡ (name, Some value)
alone_joined name value plain =
    let place : position_or_len is_equals (name ++ 61 ∷ value) ≡ length name = place_after is_equals name 61 value plain refl in
    let before : before_first is_equals (name ++ 61 ∷ value) ≡ name = ap (λ (n : ℕ). take n (name ++ 61 ∷ value)) place ∙ take-append_seam name (61 ∷ value) in
    let after : after_first is_equals (name ++ 61 ∷ value) ≡ value = ap (λ (n : ℕ). drop (n + 1) (name ++ 61 ∷ value)) place ∙ drop-append-add name (61 ∷ value) 1 in
    ap (λ b. cond b (before_first is_equals (name ++ 61 ∷ value), Some (after_first is_equals (name ++ 61 ∷ value))) (name ++ 61 ∷ value, None)) (holds_it name value)
    ∙ ap (λ (n : List ℕ). (n, Some (after_first is_equals (name ++ 61 ∷ value)))) before ∙ ap (λ (v : List ℕ). (name, Some v)) after

-- a word that has its value in it, or is followed by no value, is a setting by itself
by_itself : (word : List ℕ) (words : List (List ℕ)) → ((next : List ℕ) (more : List (List ℕ)) → words ≡ next ∷ more → is_value_of word next ≡ false) → settings (word ∷ words) ≡ alone word ∷ settings words
by_itself word [] no_value = refl
by_itself word (next ∷ words) no_value =
    ap (λ b. cond b ((word, Some next) ∷ settings words) (alone word ∷ settings (next ∷ words))) (no_value next words refl)

pub only : (given : List Setting) (words : List (List ℕ)) → Spells given words → list_all fits given ≡ true → settings words ≡ given
only [] words none fit = refl
only ((name, None) ∷ given) [] spells fit = elim spells [ ]
only ((name, Some value) ∷ given) [] spells fit = elim spells [ ]
only ((name, None) ∷ given) (word ∷ words) (bare plain rest) fit =
    let fits_rest = (and_parts (fits (name, None)) (list_all fits given) fit).1 in
    by_itself name words (λ next more is.
    let dash = next_begins given next more (subst (λ (w : List (List ℕ)). Spells given w) is rest) fits_rest in
    ap (λ d. not (holds_equals name) && not d) dash ∙ and_false (not (holds_equals name)))
    ∙ ap (λ (s : Setting). s ∷ settings words) (alone_bare name plain) ∙ ap (λ (g : List Setting). (name, None) ∷ g) (only given words rest fits_rest)
only ((name, Some value) ∷ given) (word ∷ words) (joined plain rest) fit =
    let fits_rest = (and_parts (fits (name, Some value)) (list_all fits given) fit).1 in
    by_itself (name ++ 61 ∷ value) words (λ next more is. ap (λ b. not b && not (begins_with_dash next)) (holds_it name value))
    ∙ ap (λ (s : Setting). s ∷ settings words) (alone_joined name value plain) ∙ ap (λ (g : List Setting). (name, Some value) ∷ g) (only given words rest fits_rest)
only ((name, Some value) ∷ given) (word ∷ next ∷ words) (apart plain no_dash rest) fit =
    let fits_rest = (and_parts (fits (name, Some value)) (list_all fits given) fit).1 in
    ap (λ b. cond (not b && not (begins_with_dash value)) ((name, Some value) ∷ settings words) (alone name ∷ settings (value ∷ words))) plain
    ∙ ap (λ b. cond (not b) ((name, Some value) ∷ settings words) (alone name ∷ settings (value ∷ words))) no_dash
    ∙ ap (λ (g : List Setting). (name, Some value) ∷ g) (only given words rest fits_rest)
