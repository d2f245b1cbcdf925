-- What clap keeps of readable settings, looked up by the names of options.
use Rattle.std.proofs.{Common.{◌≡◌, ◌∙◌, ℕ, Bool, true, false, cond, List, [], ◌∷◌, ◌++◌, map, Option, Some, None, is_some, refl, ap, sym, subst, codes, true≢false, ◌<◌, ◌+◌, length, take, get_or}, lemmas.Bool.{and_parts, and_from}}
use Rattle.std.{proofs.lemmas.{Slice.Eq.bytes_eq-Decides, List.{take_more, map-append}}, specs.{Prelude.{not, ◌&&◌, ◌||◌, find, fold, slice_get, option_map, option_and_then}, List.{list_all, list_any}, Option.option_map_or, Str.bytes_eq}}
use Rattle.std.specs.Borrow.{Bor}
use Rattle.{assuan_text.specs.Rows.{found, rows_of}, clap.specs.{Facts.explicit_source, Simple.{filled, with_rule}, Walk.{Row, Rule, at_row, more_values, with_default, has_row, first_of, one_of, row_text}}}
use Rattle.clap.specs.declared.{builder.value_parser.Reading.TheVariants.AsWritten, parser.matches.ValueSource.TheVariants.DefaultValue}
use Rattle.agent_top.specs.{Forms.{forms, form_of, fits, is_of_form}, Options.{IsRead, command_of, rule_for, is_readable, has_its_value, row_for, text_of, value_in, given_in, rows_for, is_flag, flag_in, takes, takes_row}}
use Rattle.agent_top.specs.{Settings.{Setting, is_set, value_given, are_distinct}, declared.words.forms.Form.{Form, TheVariants.{Flag, Path, Number}}}

abbrev pub built : List ℕ × Form → Rule
built row = filled (rule_for row)

abbrev pub has_name : List ℕ → Row → Bool
has_name name row = bytes_eq row.id name

abbrev bare_row : Bor (List ℕ) × Form → List ℕ × Form
bare_row row = (row.0.now, row.1)

-- one more option
pub one_more : (options : List (Bor (List ℕ) × Form)) (count : ℕ) (other : Bor (List ℕ) × Form) → count < length options
    → with_rule (command_of (rows_of (take count options))) (rule_for ((get_or options count other).0.now, (get_or options count other).1)) ≡ command_of (rows_of (take (count + 1) options))
one_more options count other below =
    let more : rows_of (take (count + 1) options) ≡ rows_of (take count options) ++ bare_row (get_or options count other) ∷ [] =
    ap rows_of (take_more options count other below) ∙ map-append bare_row (take count options) (get_or options count other ∷ []) in
    ap (λ (rules : List Rule). record { top = record (command_of []).top { rules = rules }; subs = [] })
    (sym (map-append rule_for (rows_of (take count options)) (bare_row (get_or options count other) ∷ []))) ∙ ap command_of (sym more)

-- ---- names

pub same_name : (a b : List ℕ) → bytes_eq a b ≡ true → a ≡ b
same_name a b e = (bytes_eq-Decides a b).0 e

pub own_name : (a : List ℕ) → bytes_eq a a ≡ true
own_name a = (bytes_eq-Decides a a).1 refl

cond_same : {X : Type 0} (b : Bool) (x : X) → cond b x x ≡ x
cond_same true x = refl
cond_same false x = refl

and_no : (b : Bool) → (b && false) ≡ false
and_no true = refl
and_no false = refl

and_yes : (b : Bool) → (b && true) ≡ b
and_yes true = refl
and_yes false = refl

or_no : (b : Bool) → (b || false) ≡ b
or_no true = refl
or_no false = refl

is_false_of_not : (b : Bool) → not b ≡ true → b ≡ false
is_false_of_not true e = absurd (true≢false (sym e))
is_false_of_not false e = refl

-- ---- a table in which no name stands twice

pub distinct : {X : Type 0} → List (List ℕ × X) → Bool
distinct [] = true
distinct (row ∷ rows) = not (is_some (found row.0 rows)) && distinct rows

pub distinct_settings : (given : List Setting) → are_distinct given ≡ distinct given
unfolding distinct
distinct_settings [] = refl
distinct_settings (setting ∷ more) = ap (λ b. not (is_set setting.0 more) && b) (distinct_settings more)

not_found : {X : Type 0} (o : Option X) → not (is_some o) ≡ true → o ≡ None
not_found None e = refl
not_found (Some x) e = absurd (true≢false (sym e))

-- what holds of each row that is found holds of all
pub all_by_name : {X : Type 0} (p : List ℕ × X → Bool) (rows : List (List ℕ × X)) → distinct rows ≡ true
    → ((name : List ℕ) (x : X) → found name rows ≡ Some x → p (name, x) ≡ true) → list_all p rows ≡ true
unfolding distinct
all_by_name p [] apart holds = refl
all_by_name {X} p (row ∷ rows) apart holds =
    let parts = and_parts (not (is_some (found row.0 rows))) (distinct rows) apart in
    let gone : found row.0 rows ≡ None = not_found (found row.0 rows) parts.0 in
    let first : found row.0 (row ∷ rows) ≡ Some row.1 = ap (λ b. cond b (Some row.1) (found row.0 rows)) (own_name row.0) in
    and_from (p row) (list_all p rows) (holds row.0 row.1 first)
    (all_by_name p rows parts.1 (λ name x is. holds name x (later name x is gone (bytes_eq row.0 name) refl)))
  where
    later : (name : List ℕ) (x : X) → found name rows ≡ Some x → found row.0 rows ≡ None → (b : Bool) → bytes_eq row.0 name ≡ b → cond (bytes_eq row.0 name) (Some row.1) (found name rows) ≡ Some x
    later name x is gone true e =
        let same : row.0 ≡ name = same_name row.0 name e in
        let none : found name rows ≡ None = subst (λ (n : List ℕ). found n rows ≡ None) same gone in
        absurd (cc)
    later name x is gone false e = ap (λ b. cond b (Some row.1) (found name rows)) e ∙ is

-- what holds of all rows holds of one that is found
pub found_holds : {X : Type 0} (p : List ℕ × X → Bool) (rows : List (List ℕ × X)) (name : List ℕ) (x : X) → list_all p rows ≡ true → found name rows ≡ Some x → p (name, x) ≡ true
found_holds p [] name x all is = absurd (cc)
found_holds {X} p (row ∷ rows) name x all is = go (bytes_eq row.0 name) refl (λ rest. found_holds p rows name x parts.1 rest)
  where
    parts : (p row ≡ true) × (list_all p rows ≡ true)
    parts = and_parts (p row) (list_all p rows) all

    go : (b : Bool) → bytes_eq row.0 name ≡ b → (found name rows ≡ Some x → p (name, x) ≡ true) → p (name, x) ≡ true
    go true e later =
        let here : Some row.1 ≡ Some x = ap (λ b. cond b (Some row.1) (found name rows)) (sym e) ∙ is in
        let value : row.1 ≡ x = cc in
        let same : row.0 ≡ name = same_name row.0 name e in
        subst (λ (y : X). p (name, y) ≡ true) value (subst (λ (n : List ℕ). p (n, row.1) ≡ true) same parts.0)
    go false e later = later (ap (λ b. cond b (Some row.1) (found name rows)) (sym e) ∙ is)

-- ---- flags in the table

no_flag : (name : List ℕ) (rows : List (List ℕ × Form)) → found name rows ≡ None → flag_in name rows ≡ false
no_flag name [] none = refl
no_flag name (row ∷ rows) none = go (bytes_eq row.0 name) refl (no_flag name rows)
  where
    go : (b : Bool) → bytes_eq row.0 name ≡ b → (found name rows ≡ None → flag_in name rows ≡ false) → ((bytes_eq row.0 name && is_flag row.1) || flag_in name rows) ≡ false
    go true e later =
        let here : Some row.1 ≡ None = ap (λ b. cond b (Some row.1) (found name rows)) (sym e) ∙ none in
        absurd (cc)
    go false e later =
        let rest : found name rows ≡ None = ap (λ b. cond b (Some row.1) (found name rows)) (sym e) ∙ none in
        ap (λ b. (b && is_flag row.1) || flag_in name rows) e ∙ later rest

flag_at : (name : List ℕ) (rows : List (List ℕ × Form)) (form : Form) → distinct rows ≡ true → found name rows ≡ Some form → flag_in name rows ≡ is_flag form
unfolding distinct
flag_at name [] form apart is = absurd (cc)
flag_at name (row ∷ rows) form apart is = go (bytes_eq row.0 name) refl (flag_at name rows form parts.1)
  where
    parts : (not (is_some (found row.0 rows)) ≡ true) × (distinct rows ≡ true)
    parts = and_parts (not (is_some (found row.0 rows))) (distinct rows) apart

    go : (b : Bool) → bytes_eq row.0 name ≡ b → (found name rows ≡ Some form → flag_in name rows ≡ is_flag form)
        → ((bytes_eq row.0 name && is_flag row.1) || flag_in name rows) ≡ is_flag form
    go true e later =
        let here : Some row.1 ≡ Some form = ap (λ b. cond b (Some row.1) (found name rows)) (sym e) ∙ is in
        let value : row.1 ≡ form = cc in
        let same : row.0 ≡ name = same_name row.0 name e in
        let none : flag_in name rows ≡ false = no_flag name rows (subst (λ (n : List ℕ). found n rows ≡ None) same (not_found (found row.0 rows) parts.0)) in
        ap (λ b. (b && is_flag row.1) || flag_in name rows) e ∙ ap (λ b. is_flag row.1 || b) none ∙ or_no (is_flag row.1) ∙ ap is_flag value
    go false e later =
        ap (λ b. (b && is_flag row.1) || flag_in name rows) e
        ∙ later (ap (λ b. cond b (Some row.1) (found name rows)) (sym e) ∙ is)

pub forms_are_distinct : distinct forms ≡ true
unfolding distinct
forms_are_distinct = refl

pub flag_is : (name : List ℕ) (form : Form) → form_of name ≡ Some form → flag_in name forms ≡ is_flag form
unfolding form_of
flag_is name form is = flag_at name forms form forms_are_distinct is

-- ---- the value of a readable setting

none_for : (form : Form) (value : Option (List ℕ)) → has_its_value form value ≡ true → is_flag form ≡ true → value ≡ None
none_for Flag None has flag = refl
none_for Flag (Some w) has flag = absurd (true≢false (sym has))
none_for Path value has flag = absurd (true≢false (sym flag))
none_for (Number a b) value has flag = absurd (true≢false (sym flag))

some_for : (form : Form) (value : Option (List ℕ)) → has_its_value form value ≡ true → is_flag form ≡ false → (w : List ℕ) × (value ≡ Some w)
some_for Flag value has flag = absurd (true≢false flag)
some_for Path None has flag = absurd (true≢false (sym has))
some_for Path (Some w) has flag = (w, refl)
some_for (Number a b) None has flag = absurd (true≢false (sym has))
some_for (Number a b) (Some w) has flag = (w, refl)

-- the form of a readable setting's option
pub form_for : (setting : Setting) → is_readable setting ≡ true → (form : Form) × (form_of setting.0 ≡ Some form) × (has_its_value form setting.1 ≡ true)
form_for setting readable = go (form_of setting.0) refl readable
  where
    go : (o : Option Form) → form_of setting.0 ≡ o → option_map_or (λ form. has_its_value form setting.1) o false ≡ true
        → (form : Form) × (form_of setting.0 ≡ Some form) × (has_its_value form setting.1 ≡ true)
    go None is has = absurd (true≢false (sym has))
    go (Some form) is has = (form, is, has)

pub value_is_none : (name : List ℕ) (value : Option (List ℕ)) → is_readable (name, value) ≡ true → flag_in name forms ≡ true → value ≡ None
value_is_none name value readable flag =
    let form = form_for (name, value) readable in
    none_for form.0 value form.2 (sym (flag_is name form.0 form.1) ∙ flag)

pub value_is_some : (name : List ℕ) (value : Option (List ℕ)) → is_readable (name, value) ≡ true → flag_in name forms ≡ false → (w : List ℕ) × (value ≡ Some w)
value_is_some name value readable flag =
    let form = form_for (name, value) readable in
    some_for form.0 value form.2 (sym (flag_is name form.0 form.1) ∙ flag)

-- ---- rows

find_append : (p : Row → Bool) (xs ys : List Row) → find p (xs ++ ys) ≡ cond (list_any p xs) (find p xs) (find p ys)
find_append p [] ys = refl
find_append p (x ∷ xs) ys = go (p x) (find_append p xs ys)
  where
    go : (b : Bool) → find p (xs ++ ys) ≡ cond (list_any p xs) (find p xs) (find p ys) → cond b (Some x) (find p (xs ++ ys)) ≡ cond (b || list_any p xs) (cond b (Some x) (find p xs)) (find p ys)
    go true later = refl
    go false later = later

any_append : (p : Row → Bool) (xs ys : List Row) → list_any p (xs ++ ys) ≡ (list_any p xs || list_any p ys)
any_append p [] ys = refl
any_append p (x ∷ xs) ys = go (p x) (any_append p xs ys)
  where
    go : (b : Bool) → list_any p (xs ++ ys) ≡ (list_any p xs || list_any p ys) → (b || list_any p (xs ++ ys)) ≡ ((b || list_any p xs) || list_any p ys)
    go true later = refl
    go false later = later

none_found : (p : Row → Bool) (xs : List Row) → list_any p xs ≡ false → find p xs ≡ None
none_found p [] none = refl
none_found p (x ∷ xs) none = go (p x) none (none_found p xs)
  where
    go : (b : Bool) → (b || list_any p xs) ≡ false → (list_any p xs ≡ false → find p xs ≡ None) → cond b (Some x) (find p xs) ≡ None
    go true e later = absurd (true≢false e)
    go false e later = later e

-- a row of a name that no row has comes last
pub at_end : (id : List ℕ) (change : Row → List Row) (missing rows : List Row) → has_row id rows ≡ false → at_row id change missing rows ≡ rows ++ missing
at_end id change missing [] none = refl
at_end id change missing (row ∷ rows) none = go (bytes_eq row.id id) none (at_end id change missing rows)
  where
    go : (b : Bool) → (b || has_row id rows) ≡ false → (has_row id rows ≡ false → at_row id change missing rows ≡ rows ++ missing) → cond b (change row ++ rows) (row ∷ at_row id change missing rows) ≡ row ∷ rows ++ missing
    go true e later = absurd (true≢false e)
    go false e later = ap (λ (more : List Row). row ∷ more) (later e)

abbrev pub unset_row : List ℕ → Row
unset_row name = record { id = name; values = codes "false" ∷ []; count = None; source = Some DefaultValue; reading = AsWritten }

abbrev by_default : Row → List Row
by_default = more_values DefaultValue (codes "false" ∷ [])

-- a flag that no row is of gets a row
flag_default : (rows : List Row) (name : List ℕ) → has_row name rows ≡ false → with_default rows (built (name, Flag)) ≡ rows ++ unset_row name ∷ []
flag_default rows name none =
    ap (λ b. cond b rows (at_row name by_default (unset_row name ∷ []) rows)) none ∙ at_end name by_default (unset_row name ∷ []) rows none

flag_kept : (rows : List Row) (name : List ℕ) → has_row name rows ≡ true → with_default rows (built (name, Flag)) ≡ rows
flag_kept rows name some = ap (λ b. cond b rows (at_row name by_default (unset_row name ∷ []) rows)) some

abbrev looked_up : List ℕ → List Row → Bool → Option Row
looked_up name rows flag = cond (has_row name rows) (find (has_name name) rows) (cond flag (Some (unset_row name)) None)

flag_after : (name n : List ℕ) (xs : List (List ℕ × Form)) (rows : List Row)
    → ((rs : List Row) → with_default rows (built (n, Flag)) ≡ rs
    → find (has_name name) (fold with_default (with_default rows (built (n, Flag))) (map built xs)) ≡ looked_up name rs (flag_in name xs))
    → (has same has_this : Bool) → has_row n rows ≡ has → bytes_eq n name ≡ same → has_row name rows ≡ has_this
    → find (has_name name) (fold with_default (with_default rows (built (n, Flag))) (map built xs)) ≡ looked_up name rows ((bytes_eq n name && true) || flag_in name xs)
flag_after name n xs rows after true true has_this e f g =
    let here : has_row name rows ≡ true = subst (λ (w : List ℕ). has_row w rows ≡ true) (same_name n name f) e in
    after rows (flag_kept rows n e) ∙ rw here refl
flag_after name n xs rows after true false has_this e f g = after rows (flag_kept rows n e) ∙ rw f refl
flag_after name n xs rows after false true has_this e f g =
    let name_is : n ≡ name = same_name n name f in
    let none : has_row name rows ≡ false = subst (λ (w : List ℕ). has_row w rows ≡ false) name_is e in
    let any : has_row name (rows ++ unset_row n ∷ []) ≡ true = any_append (has_name name) rows (unset_row n ∷ []) ∙ ap (λ b. b || (bytes_eq n name || false)) none ∙ ap (λ b. b || false) f in
    let last : find (has_name name) (rows ++ unset_row n ∷ []) ≡ Some (unset_row name) =
    find_append (has_name name) rows (unset_row n ∷ []) ∙ ap (λ b. cond b (find (has_name name) rows) (cond (bytes_eq n name) (Some (unset_row n)) None)) none
    ∙ ap (λ b. cond b (Some (unset_row n)) None) f ∙ ap (λ (w : List ℕ). Some (unset_row w)) name_is in
    after (rows ++ unset_row n ∷ []) (flag_default rows n e)
    ∙ ap (λ b. cond b (find (has_name name) (rows ++ unset_row n ∷ [])) (cond (flag_in name xs) (Some (unset_row name)) None)) any ∙ last
    ∙ rw (none, f) refl
flag_after name n xs rows after false false true e f g =
    let any : has_row name (rows ++ unset_row n ∷ []) ≡ true = any_append (has_name name) rows (unset_row n ∷ []) ∙ ap (λ b. b || (bytes_eq n name || false)) g in
    let same : find (has_name name) (rows ++ unset_row n ∷ []) ≡ find (has_name name) rows =
    find_append (has_name name) rows (unset_row n ∷ []) ∙ ap (λ b. cond b (find (has_name name) rows) (find (has_name name) (unset_row n ∷ []))) g in
    after (rows ++ unset_row n ∷ []) (flag_default rows n e)
    ∙ ap (λ b. cond b (find (has_name name) (rows ++ unset_row n ∷ [])) (cond (flag_in name xs) (Some (unset_row name)) None)) any ∙ same
    ∙ rw g refl
flag_after name n xs rows after false false false e f g =
    let any : has_row name (rows ++ unset_row n ∷ []) ≡ false = any_append (has_name name) rows (unset_row n ∷ []) ∙ ap (λ b. b || (bytes_eq n name || false)) g ∙ ap (λ b. b || false) f in
    after (rows ++ unset_row n ∷ []) (flag_default rows n e)
    ∙ ap (λ b. cond b (find (has_name name) (rows ++ unset_row n ∷ [])) (cond (flag_in name xs) (Some (unset_row name)) None)) any
    ∙ rw (g, f) refl

-- what is found once each flag has its row
pub found_after : (name : List ℕ) (xs : List (List ℕ × Form)) (rows : List Row)
    → find (has_name name) (fold with_default rows (map built xs)) ≡ looked_up name rows (flag_in name xs)
found_after name [] rows = go (has_row name rows) refl
  where
    go : (b : Bool) → has_row name rows ≡ b → find (has_name name) rows ≡ cond (has_row name rows) (find (has_name name) rows) None
    go true e = ap (λ b. cond b (find (has_name name) rows) None) (sym e)
    go false e = none_found (has_name name) rows e ∙ ap (λ b. cond b (find (has_name name) rows) None) (sym e)
found_after name ((n, Path) ∷ xs) rows =
    ap (λ rs. find (has_name name) (fold with_default rs (map built xs))) (cond_same (has_row n rows) rows) ∙ found_after name xs rows
    ∙ ap (λ b. looked_up name rows (b || flag_in name xs)) (sym (and_no (bytes_eq n name)))
found_after name ((n, Number a b) ∷ xs) rows =
    ap (λ rs. find (has_name name) (fold with_default rs (map built xs))) (cond_same (has_row n rows) rows) ∙ found_after name xs rows
    ∙ ap (λ b. looked_up name rows (b || flag_in name xs)) (sym (and_no (bytes_eq n name)))
found_after name ((n, Flag) ∷ xs) rows =
    flag_after name n xs rows (λ rs is. ap (λ rs. find (has_name name) (fold with_default rs (map built xs))) is ∙ found_after name xs rs)
    (has_row n rows) (bytes_eq n name) (has_row name rows) refl refl refl

-- ---- rows of settings

pub row_found : (name : List ℕ) (given : List Setting) → find (has_name name) (map row_for given) ≡ option_map (λ value. row_for (name, value)) (found name given)
row_found name [] = refl
row_found name (setting ∷ more) = go (bytes_eq setting.0 name) refl (row_found name more)
  where
    go : (b : Bool) → bytes_eq setting.0 name ≡ b → find (has_name name) (map row_for more) ≡ option_map (λ value. row_for (name, value)) (found name more)
        → cond (bytes_eq setting.0 name) (Some (row_for setting)) (find (has_name name) (map row_for more))
        ≡ option_map (λ value. row_for (name, value)) (cond (bytes_eq setting.0 name) (Some setting.1) (found name more))
    go true e later =
        ap (λ b. cond b (Some (row_for setting)) (find (has_name name) (map row_for more))) e ∙ ap (λ (w : List ℕ). Some (row_for (w, setting.1))) (same_name setting.0 name e)
        ∙ ap (λ b. option_map (λ value. row_for (name, value)) (cond b (Some setting.1) (found name more))) (sym e)
    go false e later =
        ap (λ b. cond b (Some (row_for setting)) (find (has_name name) (map row_for more))) e ∙ later
        ∙ ap (λ b. option_map (λ value. row_for (name, value)) (cond b (Some setting.1) (found name more))) (sym e)

pub has_given : (name : List ℕ) (given : List Setting) → has_row name (map row_for given) ≡ is_set name given
has_given name [] = refl
has_given name (setting ∷ more) = go (bytes_eq setting.0 name) (has_given name more)
  where
    go : (b : Bool) → has_row name (map row_for more) ≡ is_set name more → (b || has_row name (map row_for more)) ≡ is_some (cond b (Some setting.1) (found name more))
    go true later = refl
    go false later = later

-- what is found among the rows of settings
pub found_in : (name : List ℕ) (given : List Setting) (flag : Bool) (o : Option (Option (List ℕ))) → flag_in name forms ≡ flag → found name given ≡ o
    → find (has_name name) (rows_for given) ≡ option_map_or (λ value. Some (row_for (name, value))) o (cond flag (Some (unset_row name)) None)
found_in name given flag o flags is =
    found_after name forms (map row_for given)
    ∙ ap (λ b. cond b (find (has_name name) (map row_for given)) (cond (flag_in name forms) (Some (unset_row name)) None)) (has_given name given ∙ ap is_some is)
    ∙ ap (λ r. cond (is_some o) r (cond (flag_in name forms) (Some (unset_row name)) None)) (row_found name given ∙ ap (option_map (λ value. row_for (name, value))) is)
    ∙ ap (λ b. cond (is_some o) (option_map (λ value. row_for (name, value)) o) (cond b (Some (unset_row name)) None)) flags ∙ go o
  where
    go : (o : Option (Option (List ℕ))) → cond (is_some o) (option_map (λ value. row_for (name, value)) o) (cond flag (Some (unset_row name)) None)
        ≡ option_map_or (λ value. Some (row_for (name, value))) o (cond flag (Some (unset_row name)) None)
    go None = refl
    go (Some value) = refl

pub flag_read : (name : List ℕ) (given : List Setting) → list_all is_readable given ≡ true → flag_in name forms ≡ true
    → one_of name (rows_for given) ≡ Some (cond (is_set name given) (codes "true") (codes "false"))
flag_read name given readable flag = go (found name given) refl
  where
    go : (o : Option (Option (List ℕ))) → found name given ≡ o → one_of name (rows_for given) ≡ Some (cond (is_set name given) (codes "true") (codes "false"))
    go None is = ap (option_and_then row_text) (found_in name given true None flag is) ∙ ap (λ (s : Bool). Some (cond s (codes "true") (codes "false"))) (sym (ap is_some is))
    go (Some value) is =
        let none : value ≡ None = value_is_none name value (found_holds is_readable given name value readable is) flag in
        ap (option_and_then row_text) (found_in name given true (Some value) flag is) ∙ ap (λ (v : Option (List ℕ)). row_text (row_for (name, v))) none
        ∙ ap (λ (s : Bool). Some (cond s (codes "true") (codes "false"))) (sym (ap is_some is))

pub value_read : (name : List ℕ) (given : List Setting) → list_all is_readable given ≡ true → flag_in name forms ≡ false
    → (first_of name (rows_for given) ≡ value_given name given) × (is_some (value_given name given) ≡ is_set name given)
value_read name given readable flag = go (found name given) refl
  where
    go : (o : Option (Option (List ℕ))) → found name given ≡ o → (first_of name (rows_for given) ≡ value_given name given) × (is_some (value_given name given) ≡ is_set name given)
    go None is = (
      ap (option_and_then (λ (r : Row). slice_get r.values 0)) (found_in name given false None flag is) ∙ ap (option_and_then (λ v. v)) (sym is),
      ap (λ o. is_some (option_and_then (λ v. v) o)) is ∙ ap is_some (sym is),
    )
    go (Some value) is =
        let some = value_is_some name value (found_holds is_readable given name value readable is) flag in
        let found_is : found name given ≡ Some (Some some.0) = is ∙ ap Some some.1 in (
          ap (option_and_then (λ (r : Row). slice_get r.values 0)) (found_in name given false (Some (Some some.0)) flag found_is) ∙ ap (option_and_then (λ v. v)) (sym found_is),
          ap (λ o. is_some (option_and_then (λ v. v) o)) found_is ∙ ap is_some (sym found_is),
        )

-- ---- the settings of the rows

given_append : (rows : List Row) (name : List ℕ) → given_in (rows ++ unset_row name ∷ []) ≡ given_in rows
unfolding given_in
given_append [] name = refl
given_append (row ∷ rows) name = go (explicit_source row.source) (given_append rows name)
  where
    go : (b : Bool) → given_in (rows ++ unset_row name ∷ []) ≡ given_in rows → cond b ((row.id, value_in (form_of row.id) row.values) ∷ given_in (rows ++ unset_row name ∷ [])) (given_in (rows ++ unset_row name ∷ []))
        ≡ cond b ((row.id, value_in (form_of row.id) row.values) ∷ given_in rows) (given_in rows)
    go true later = ap (λ (more : List Setting). (row.id, value_in (form_of row.id) row.values) ∷ more) later
    go false later = later

given_kept : (xs : List (List ℕ × Form)) (rows : List Row) → given_in (fold with_default rows (map built xs)) ≡ given_in rows
given_kept [] rows = refl
given_kept ((n, Path) ∷ xs) rows = ap (λ rs. given_in (fold with_default rs (map built xs))) (cond_same (has_row n rows) rows) ∙ given_kept xs rows
given_kept ((n, Number a b) ∷ xs) rows = ap (λ rs. given_in (fold with_default rs (map built xs))) (cond_same (has_row n rows) rows) ∙ given_kept xs rows
given_kept ((n, Flag) ∷ xs) rows = go (has_row n rows) refl (given_kept xs)
  where
    go : (b : Bool) → has_row n rows ≡ b → ((rs : List Row) → given_in (fold with_default rs (map built xs)) ≡ given_in rs) → given_in (fold with_default (with_default rows (built (n, Flag))) (map built xs)) ≡ given_in rows
    go true e later = ap (λ rs. given_in (fold with_default rs (map built xs))) (flag_kept rows n e) ∙ later rows
    go false e later =
        ap (λ rs. given_in (fold with_default rs (map built xs))) (flag_default rows n e) ∙ later (rows ++ unset_row n ∷ []) ∙ given_append rows n

value_back : (form : Form) (value : Option (List ℕ)) → has_its_value form value ≡ true → value_in (Some form) (text_of value ∷ []) ≡ value
value_back Flag None has = refl
value_back Flag (Some w) has = absurd (true≢false (sym has))
value_back Path None has = absurd (true≢false (sym has))
value_back Path (Some w) has = refl
value_back (Number a b) None has = absurd (true≢false (sym has))
value_back (Number a b) (Some w) has = refl

back : (given : List Setting) → list_all is_readable given ≡ true → given_in (map row_for given) ≡ given
unfolding given_in
back [] readable = refl
back (setting ∷ more) readable =
    let parts = and_parts (is_readable setting) (list_all is_readable more) readable in
    let form = form_for setting parts.0 in
    ap (λ o. (setting.0, value_in o (text_of setting.1 ∷ [])) ∷ given_in (map row_for more)) form.1
    ∙ ap (λ v. (setting.0, v) ∷ given_in (map row_for more)) (value_back form.0 setting.1 form.2) ∙ ap (λ (g : List Setting). setting ∷ g) (back more parts.1)

pub given_back : (given : List Setting) → list_all is_readable given ≡ true → given_in (rows_for given) ≡ given
given_back given readable = given_kept forms (map row_for given) ∙ back given readable

-- ---- the forms of values

takes_none : (form : Form) → takes form None ≡ true
takes_none Flag = refl
takes_none Path = refl
takes_none (Number a b) = refl

takes_flag : (form : Form) (value : Option (List ℕ)) → is_flag form ≡ true → takes form value ≡ true
takes_flag Flag value flag = refl
takes_flag Path value flag = absurd (true≢false (sym flag))
takes_flag (Number a b) value flag = absurd (true≢false (sym flag))

takes_some : (form : Form) (w : List ℕ) → is_flag form ≡ false → takes form (Some w) ≡ is_of_form form (Some w)
takes_some Flag w flag = absurd (true≢false flag)
takes_some Path w flag = refl
takes_some (Number a b) w flag = refl

flag_fits : (form : Form) (value : Option (List ℕ)) → is_flag form ≡ true → has_its_value form value ≡ true → is_of_form form value ≡ true
flag_fits Flag None flag has = refl
flag_fits Flag (Some w) flag has = absurd (true≢false (sym has))
flag_fits Path value flag has = absurd (true≢false (sym flag))
flag_fits (Number a b) value flag has = absurd (true≢false (sym flag))

both_agree : (a b : Bool) → (a ≡ true → b ≡ true) → (b ≡ true → a ≡ true) → a ≡ b
both_agree true b to from = sym (to refl)
both_agree false true to from = from refl
both_agree false false to from = refl

module _ (given : List Setting) (readable : list_all is_readable given ≡ true) (apart : are_distinct given ≡ true) where
  fit_of : list_all (takes_row (rows_for given)) forms ≡ true → (name : List ℕ) (value : Option (List ℕ)) → found name given ≡ Some value → fits (name, value) ≡ true
  unfolding form_of
  fit_of all name value is =
      let ready = found_holds is_readable given name value readable is in
      let form = form_for (name, value) ready in
      let row : takes form.0 (first_of name (rows_for given)) ≡ true = found_holds (takes_row (rows_for given)) forms name form.0 all form.1 in
      ap (λ o. option_map_or (λ f. is_of_form f value) o false) form.1 ∙ go form (is_flag form.0) refl row
    where
      go : (form : (form : Form) × (form_of name ≡ Some form) × (has_its_value form value ≡ true)) (flag : Bool) → is_flag form.0 ≡ flag → takes form.0 (first_of name (rows_for given)) ≡ true
          → is_of_form form.0 value ≡ true
      go form true flag row = flag_fits form.0 value flag form.2
      go form false flag row =
          let some = some_for form.0 value form.2 flag in
          let read : first_of name (rows_for given) ≡ Some some.0 =
          (value_read name given readable (flag_is name form.0 form.1 ∙ flag)).0 ∙ ap (option_and_then (λ v. v)) (is ∙ ap Some some.1) in
          ap (is_of_form form.0) some.1 ∙ sym (takes_some form.0 some.0 flag) ∙ ap (takes form.0) (sym read) ∙ row

  row_of_fit : list_all fits given ≡ true → (name : List ℕ) (form : Form) → found name forms ≡ Some form → takes_row (rows_for given) (name, form) ≡ true
  unfolding form_of
  row_of_fit all name form known = go (is_flag form) refl (found name given) refl
    where
      go : (flag : Bool) → is_flag form ≡ flag → (o : Option (Option (List ℕ))) → found name given ≡ o → takes form (first_of name (rows_for given)) ≡ true
      go true flag o is = takes_flag form (first_of name (rows_for given)) flag
      go false flag None is =
          ap (takes form) ((value_read name given readable (flag_is name form known ∙ flag)).0 ∙ ap (option_and_then (λ v. v)) is) ∙ takes_none form
      go false flag (Some value) is =
          let some = value_is_some name value (found_holds is_readable given name value readable is) (flag_is name form known ∙ flag) in
          let read : first_of name (rows_for given) ≡ Some some.0 =
          (value_read name given readable (flag_is name form known ∙ flag)).0 ∙ ap (option_and_then (λ v. v)) (is ∙ ap Some some.1) in
          let fit : fits (name, value) ≡ true = found_holds fits given name value all is in
          let of_form : is_of_form form value ≡ true = ap (λ o. option_map_or (λ f. is_of_form f value) o false) (sym known) ∙ fit in
          ap (takes form) read ∙ takes_some form some.0 flag ∙ ap (is_of_form form) (sym some.1) ∙ of_form

  pub fit_rows : list_all (takes_row (rows_for given)) forms ≡ list_all fits given
  fit_rows = both_agree _ _
      (λ all. all_by_name fits given (sym (distinct_settings given) ∙ apart) (fit_of all))
      (λ all. all_by_name (takes_row (rows_for given)) forms forms_are_distinct (row_of_fit all))

-- ---- what getters read of read rows

-- read rows and the settings in them
pub record ReadAs (rows : List Row) (given : List Setting) : Type 0 where
  pub rows_are : rows ≡ rows_for given
  pub readable : list_all is_readable given ≡ true
  pub apart : are_distinct given ≡ true

pub read_as : (rows : List Row) (given : List Setting) → IsRead rows → given_in rows ≡ given → ReadAs rows given
read_as rows given read is =
    let parts = and_parts (list_all is_readable (given_in rows)) (are_distinct (given_in rows)) read.readable in
    record {
      rows_are = read.rows_are ∙ ap rows_for is;
      readable = subst (λ (g : List Setting). list_all is_readable g ≡ true) is parts.0;
      apart = subst (λ (g : List Setting). are_distinct g ≡ true) is parts.1;
    }
