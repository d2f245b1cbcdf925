-- What clap makes of plain words is what their settings say, and it refuses those that aren't readable.
use Rattle.std.proofs.{Common.{◌≡◌, ◌∙◌, ℕ, Bool, true, false, cond, List, [], ◌∷◌, ◌++◌, map, Option, Some, None, is_some, refl, ap, ap₂, sym, subst, codes, true≢false, ⊎_elim}, lemmas.Bool.{and_parts, and_from, or_parts}}
use Rattle.std.{proofs.lemmas.Slice.Eq.bytes_eq-Decides, specs.{Prelude.{not, ◌&&◌, ◌||◌, fold, option_map, option_and_then, Result, Ok, Err, IfErr, IsErrAnd}, Option.option_map_or, List.{list_all, list_any, before_first, after_first}}}
use Rattle.std.specs.Str.{bytes_eq}
use Rattle.{assuan_text.specs.Rows.found, clap.specs.{Kinds.{Kinds, check_kinds, or_else, HasKind, IsAmong}, Takes.is_given, Values.kind_of}}
use Rattle.clap.specs.Faults.{walk_fault, settle_fault, fault_of, defaults_fault, default_fault, given_default_fault, check_fault, built_fault, is_simple_and_free}
use Rattle.clap.specs.{Simple.{App, names_of, filled_from, built as built_app, is_simple, matches_of}, Walk.{rows_after, Row, Rule, idle, settled, has_row, finished, walk, nothing_held, with_default}, declared.error.Error.Error}
use Rattle.clap.{specs.{declared.error.kind.ErrorKind.ErrorKind, Lexer.{long_of, long_of_rest, strip_byte}}, proofs.FaultLemmas.leaf_fault}
use Rattle.agent_top.specs.{Forms.{forms, form_of, fits, is_of_form}, Words.{rules_of, rules_with, run_of, if_extra_fits}, declared.words.{WordsFault.{WordsFault, TheVariants.{Bad, NoMemory}}, forms.Form.Form}}
use Rattle.agent_top.specs.{declared.words.forms.Form.TheVariants.{Flag, Path, Number}, Faults.fault_by, Options.{IsRead, given_in, after_dashes, has_its_value, command_of, rule_for, is_readable, are_readable, row_for, rows_for, is_plain}}
use Rattle.agent_top.{specs.Settings.{Setting, settings, is_set, are_distinct, alone, is_value_of, is_equals, holds_equals, begins_with_dash}, proofs.OptionRows.{given_back, built, same_name}}
use Rattle.agent_top.proofs.{OptionPieces.{strip_cases, before_more, before_bare, has_dash, none, none_both, and_true, dashed}, OptionWalk.{known_dashed, shape, from, readable_in, reads, Ends, At, walk_is}}

-- ---- the settings are readable one after the other

both_hold : (a b : Bool) → (a ≡ true → b ≡ true) → (b ≡ true → a ≡ true) → a ≡ b
both_hold true b to back = sym (to refl)
both_hold false true to back = back refl
both_hold false false to back = refl

to_not : (b : Bool) → b ≡ false → not b ≡ true
to_not true e = absurd (true≢false e)
to_not false e = refl

-- none of the names is among those that are done
abbrev fresh : List Setting → List Setting → Bool
fresh done given = list_all (λ setting. not (is_set setting.0 done)) given

set_more : (name : List ℕ) (done : List Setting) (setting : Setting) → is_set name (done ++ setting ∷ []) ≡ (is_set name done || bytes_eq setting.0 name)
set_more name [] setting = go (bytes_eq setting.0 name)
  where
    go : (b : Bool) → is_some (cond b (Some setting.1) None) ≡ (false || b)
    go true = refl
    go false = refl
set_more name (first ∷ done) setting = go (bytes_eq first.0 name) (set_more name done setting)
  where
    go : (b : Bool) → is_set name (done ++ setting ∷ []) ≡ (is_set name done || bytes_eq setting.0 name)
        → is_some (cond b (Some first.1) (found name (done ++ setting ∷ []))) ≡ (is_some (cond b (Some first.1) (found name done)) || bytes_eq setting.0 name)
    go true later = refl
    go false later = later

either_way : (a b : List ℕ) → bytes_eq a b ≡ bytes_eq b a
either_way a b = both_hold (bytes_eq a b) (bytes_eq b a)
    (λ e. (bytes_eq-Decides b a).1 (sym (same_name a b e))) (λ e. (bytes_eq-Decides a b).1 (sym (same_name b a e)))

four_tests_regroup : (a e f m : Bool) → (not (a || e) && (f && not m)) ≡ ((not a && f) && not (e || m))
four_tests_regroup true e f m = refl
four_tests_regroup false true true m = refl
four_tests_regroup false true false m = refl
four_tests_regroup false false true m = refl
four_tests_regroup false false false true = refl
four_tests_regroup false false false false = refl

set_first : (name : List ℕ) (setting : Setting) (more : List Setting) → is_set name (setting ∷ more) ≡ (bytes_eq setting.0 name || is_set name more)
set_first name setting more = go (bytes_eq setting.0 name)
  where
    go : (b : Bool) → is_some (cond b (Some setting.1) (found name more)) ≡ (b || is_set name more)
    go true = refl
    go false = refl

fresh_more : (done : List Setting) (setting : Setting) (given : List Setting) → fresh (done ++ setting ∷ []) given ≡ (fresh done given && not (is_set setting.0 given))
fresh_more done setting [] = refl
fresh_more done setting (other ∷ more) =
    ap₂ (λ a b. not a && b) (set_more other.0 done setting) (fresh_more done setting more)
    ∙ four_tests_regroup (is_set other.0 done) (bytes_eq setting.0 other.0) (fresh done more) (is_set setting.0 more)
    ∙ ap (λ b. (not (is_set other.0 done) && fresh done more) && not b) (ap (λ b. b || is_set setting.0 more) (either_way setting.0 other.0) ∙ sym (set_first setting.0 other more))

six_tests_regroup : (r s a d f m : Bool) → ((r && not s) && (a && (d && (f && not m)))) ≡ ((r && a) && ((not m && d) && (not s && f)))
six_tests_regroup r s a d f m = both_hold _ _
    (λ e.
    let p = and_parts (r && not s) _ e in
    let q = and_parts r (not s) p.0 in
    let t = and_parts a _ p.1 in
    let u = and_parts d _ t.1 in
    let v = and_parts f (not m) u.1 in
    and_from _ _ (and_from _ _ q.0 t.0) (and_from _ _ (and_from _ _ v.1 u.0) (and_from _ _ q.1 v.0)))
    (λ e.
    let p = and_parts (r && a) _ e in
    let q = and_parts r a p.0 in
    let t = and_parts (not m && d) _ p.1 in
    let u = and_parts (not m) d t.0 in
    let v = and_parts (not s) f t.1 in
    and_from _ _ (and_from _ _ q.0 v.0) (and_from _ _ q.1 (and_from _ _ u.1 (and_from _ _ v.1 u.0))))

abbrev default_kinds : List ℕ → Kinds
default_kinds name = given_default_fault (built (name, Flag)) (codes "false" ∷ [])

module _ (rows : List (List ℕ × Form)) (dashes : list_all (λ row. dashed row.0) rows ≡ true) where
  reads_all : (done given : List Setting) → reads rows dashes done given ≡ (list_all (readable_in rows dashes) given && (are_distinct given && fresh done given))
  unfolding reads
  reads_all done [] = refl
  reads_all done (setting ∷ more) =
      ap (λ b. (readable_in rows dashes setting && not (is_set setting.0 done)) && b)
      (reads_all (done ++ setting ∷ []) more ∙ ap (λ b. list_all (readable_in rows dashes) more && (are_distinct more && b)) (fresh_more done setting more))
      ∙ six_tests_regroup (readable_in rows dashes setting) (is_set setting.0 done) (list_all (readable_in rows dashes) more) (are_distinct more) (fresh done more) (is_set setting.0 more)

  fresh_none : (given : List Setting) → fresh [] given ≡ true
  fresh_none [] = refl
  fresh_none (setting ∷ more) = fresh_none more

  reads_given : (given : List Setting) → reads rows dashes [] given ≡ (list_all (readable_in rows dashes) given && are_distinct given)
  reads_given given = reads_all [] given ∙ ap (λ b. list_all (readable_in rows dashes) given && (are_distinct given && b)) (fresh_none given)
      ∙ ap (λ b. list_all (readable_in rows dashes) given && b) (and_true (are_distinct given))

  -- ---- the command as clap builds it

  all_filled : (count : ℕ) (options : List (List ℕ × Form)) → filled_from count (map rule_for options) ≡ map built options
  all_filled count [] = refl
  all_filled count (row ∷ more) = ap (λ (rest : List Rule). built row ∷ rest) (all_filled count more)

  command_built : built_app (command_of rows) ≡ record { top = shape (map built rows); subs = [] }
  command_built = ap (λ (rules : List Rule). record { top = shape rules; subs = [] }) (all_filled 1 rows)

  no_default_fault : (held : List Row) (options : List (List ℕ × Form)) → defaults_fault held (map built options) ≡ []
  unfolding defaults_fault
  no_default_fault held [] = refl
  no_default_fault held (row ∷ more) =
      ap (λ (k : Kinds). or_else k (defaults_fault (with_default held (built row)) (map built more))) (one row.1) ∙ no_default_fault (with_default held (built row)) more
    where
      one : (form : Form) → default_fault held (built (row.0, form)) ≡ []
      one Flag = go (has_row row.0 held)
        where
          go : (b : Bool) → cond {A = Kinds} (b || false) [] (default_kinds row.0) ≡ []
          go true = refl
          go false = refl
      one Path = go (has_row row.0 held)
        where
          go : (b : Bool) → cond {A = Kinds} (b || true) [] [] ≡ []
          go true = refl
          go false = refl
      one (Number x y) = go (has_row row.0 held)
        where
          go : (b : Bool) → cond {A = Kinds} (b || true) [] [] ≡ []
          go true = refl
          go false = refl

  nothing_wanted : (options : List (List ℕ × Form)) (held : List Row) → list_any (λ a. a.required && not (is_given a.id held)) (map built options) ≡ false
  nothing_wanted [] held = refl
  nothing_wanted (row ∷ more) held = nothing_wanted more held

  no_check_fault : (held : List Row) → check_fault (shape (map built rows)) held false ≡ []
  no_check_fault held = ap (λ b. check_kinds false false b) (nothing_wanted rows held)

  at_start : At rows dashes nothing_held [] true
  at_start = record { settles = refl; rows_are = λ _. refl }

  module _ (words : List (List ℕ)) (plain : list_all is_plain words ≡ true) where
    ends : Ends rows dashes (from nothing_held idle) words (true && reads rows dashes [] (settings words)) (settings words)
    ends = walk_is rows dashes words plain nothing_held [] true at_start

    abbrev fine : Bool
    fine = list_all (readable_in rows dashes) (settings words) && are_distinct (settings words)

    pub faults_are : none (fault_of (command_of rows) words) ≡ fine
    faults_are =
        let rules = map built rows in
        let walked_to = walk rules [] nothing_held words in
        let kinds = walk_fault (shape rules) [] (from nothing_held idle) words in
        let settle = settle_fault rules false walked_to.held in
        let last : or_else (defaults_fault (settled rules walked_to.held).rows rules) (check_fault (shape rules) (finished rules walked_to.held) false) ≡ [] =
        ap₂ or_else (no_default_fault (settled rules walked_to.held).rows rows) (no_check_fault (finished rules walked_to.held)) in
        ap (λ (a : App). none (built_fault a nothing_held words)) command_built
        ∙ ap none (leaf_fault (record { top = shape rules; subs = [] }) nothing_held words refl)
        ∙ ap (λ (k : Kinds). none (or_else kinds (or_else settle k))) last
        ∙ none_both kinds (or_else settle []) ∙ ap (λ b. none kinds && b) (none_both settle [] ∙ and_true (none settle))
        ∙ sym (none_both kinds settle) ∙ ends.fault ∙ reads_given (settings words)

    pub rows_are : fine ≡ true → matches_of (command_of rows) words ≡ fold with_default (map row_for (settings words)) (map built rows)
    rows_are good =
        ap (λ (a : App). rows_after a.top.rules (names_of a) words) command_built
        ∙ ap (λ held. fold with_default held (map built rows)) (ends.rows_are (reads_given (settings words) ∙ good))

-- ---- the agent's options

all_dashed : list_all (λ row. dashed row.0) forms ≡ true
all_dashed = refl

pub is_simple_command : is_simple (command_of forms) ≡ true
is_simple_command = refl

pub is_free_command : is_simple_and_free (command_of forms) ≡ true
is_free_command = refl

pub no_fault : (words : List (List ℕ)) → list_all is_plain words ≡ true → none (fault_of (command_of forms) words) ≡ are_readable (settings words)
unfolding form_of
no_fault words plain = faults_are forms all_dashed words plain

pub matches_are : (words : List (List ℕ)) → list_all is_plain words ≡ true → are_readable (settings words) ≡ true → matches_of (command_of forms) words ≡ rows_for (settings words)
unfolding form_of
matches_are words plain readable = rows_are forms all_dashed words plain readable

-- ---- words that aren't plain

undashed : (name : List ℕ) → after_dashes name ≡ None → found name forms ≡ None
undashed name gone = go (found name forms) refl
  where
    go : (o : Option Form) → found name forms ≡ o → o ≡ None
    go None is = refl
    go (Some form) is = absurd (true≢false (sym (known_dashed forms all_dashed name form is) ∙ ap is_some gone))

-- such a word names no option
unnamed : (word : List ℕ) → is_plain word ≡ false → (found word forms ≡ None) × (found (before_first is_equals word) forms ≡ None)
unnamed word unplain = by_rest (strip_byte 45 word) refl
  where
    parts : (not (begins_with_dash word) ≡ false) × (is_some (long_of word) ≡ false)
    parts = or_parts (not (begins_with_dash word)) (is_some (long_of word)) unplain

    alone_dashes : (w : List ℕ) → w ≡ 45 ∷ 45 ∷ [] → (found w forms ≡ None) × (found (before_first is_equals w) forms ≡ None)
    alone_dashes w is = subst (λ (v : List ℕ). (found v forms ≡ None) × (found (before_first is_equals v) forms ≡ None)) (sym is)
        (refl, ap (λ (v : List ℕ). found v forms) (before_more 45 (45 ∷ []) refl ∙ ap (λ (v : List ℕ). 45 ∷ v) (before_more 45 [] refl)))

    by_more : (rest : List ℕ) → word ≡ 45 ∷ rest → (o : Option (List ℕ)) → strip_byte 45 rest ≡ o → (found word forms ≡ None) × (found (before_first is_equals word) forms ≡ None)
    by_more rest is None gone = (
      undashed word (ap after_dashes is ∙ gone),
      undashed (before_first is_equals word) (ap (λ (w : List ℕ). after_dashes (before_first is_equals w)) is ∙ ap after_dashes (before_more 45 rest refl) ∙ before_bare rest gone),
    )
    by_more rest is (Some []) two = alone_dashes word (is ∙ ap (λ (w : List ℕ). 45 ∷ w) (strip_cases rest [] two))
    by_more rest is (Some (byte ∷ body)) two =
        let long : is_some (long_of word) ≡ true = ap (λ (w : List ℕ). is_some (long_of w)) is ∙ ap (λ o. is_some (option_and_then long_of_rest o)) two in
        absurd (true≢false (sym long ∙ parts.1))

    by_rest : (o : Option (List ℕ)) → strip_byte 45 word ≡ o → (found word forms ≡ None) × (found (before_first is_equals word) forms ≡ None)
    by_rest None gone = absurd (true≢false (sym (ap not (has_dash word gone)) ∙ parts.0))
    by_rest (Some rest) is = by_more rest (strip_cases word rest is) (strip_byte 45 rest) refl

unknown_name : (setting : Setting) → found setting.0 forms ≡ None → is_readable setting ≡ true → ⊥
unfolding form_of
unknown_name setting gone readable = true≢false (sym readable ∙ ap (λ o. option_map_or (λ form. has_its_value form setting.1) o false) gone)

plain_if : (word : List ℕ) → (is_plain word ≡ false → ⊥) → is_plain word ≡ true
plain_if word no_other = go (is_plain word) no_other
  where
    go : (b : Bool) → (b ≡ false → ⊥) → b ≡ true
    go true wrong = refl
    go false wrong = absurd (wrong refl)

alone_plain : (word : List ℕ) → is_readable (alone word) ≡ true → is_plain word ≡ true
alone_plain word readable = plain_if word (λ unplain. go (holds_equals word) (unnamed word unplain) readable)
  where
    go : (b : Bool) → (found word forms ≡ None) × (found (before_first is_equals word) forms ≡ None)
        → is_readable (cond {A = Setting} b (before_first is_equals word, Some (after_first is_equals word)) (word, None)) ≡ true → ⊥
    go true gone readable = unknown_name (before_first is_equals word, Some (after_first is_equals word)) gone.1 readable
    go false gone readable = unknown_name (word, None) gone.0 readable

plain_from : (words : List (List ℕ)) → list_all is_readable (settings words) ≡ true → list_all is_plain words ≡ true
plain_from [] readable = refl
plain_from (word ∷ []) readable = and_from (is_plain word) true (alone_plain word (and_parts (is_readable (alone word)) true readable).0) refl
plain_from (word ∷ after ∷ more) readable = go (is_value_of word after) refl readable (plain_from more) (plain_from (after ∷ more))
  where
    go : (b : Bool) → is_value_of word after ≡ b → list_all is_readable (cond b ((word, Some after) ∷ settings more) (alone word ∷ settings (after ∷ more))) ≡ true
        → (list_all is_readable (settings more) ≡ true → list_all is_plain more ≡ true) → (list_all is_readable (settings (after ∷ more)) ≡ true → list_all is_plain (after ∷ more) ≡ true)
        → list_all is_plain (word ∷ after ∷ more) ≡ true
    go true is readable later later_both =
        let parts = and_parts (is_readable (word, Some after)) (list_all is_readable (settings more)) readable in
        let no_dash_is = (and_parts (not (holds_equals word)) (not (begins_with_dash after)) is).1 in
        let after_plain : is_plain after ≡ true = ap (λ b. b || is_some (long_of after)) no_dash_is in
        and_from (is_plain word) _ (plain_if word (λ unplain. unknown_name (word, Some after) (unnamed word unplain).0 parts.0))
        (and_from (is_plain after) _ after_plain (later parts.1))
    go false is readable later later_both =
        let parts = and_parts (is_readable (alone word)) (list_all is_readable (settings (after ∷ more))) readable in
        and_from (is_plain word) _ (alone_plain word parts.0) (later_both parts.1)

-- where a word isn't plain, the words aren't readable
pub unplain_words : (words : List (List ℕ)) → list_all is_plain words ≡ false → are_readable (settings words) ≡ false
unplain_words words unplain = go (are_readable (settings words)) refl
  where
    go : (b : Bool) → are_readable (settings words) ≡ b → b ≡ false
    go true is = absurd (true≢false (sym (plain_from words (and_parts (list_all is_readable (settings words)) (are_distinct (settings words)) is).0) ∙ unplain))
    go false is = refl

-- ---- what a parse gives

among : (kind : ErrorKind) (kinds : Kinds) → IsAmong kind kinds → none kinds ≡ false
among kind (first ∷ kinds) is = refl
among kind [] is = absurd is

unreadable : (kinds : Kinds) (error : Error) → HasKind kinds error → fault_by (kind_of error) ≡ Bad → none kinds ≡ false
unreadable kinds error has bad =
    ⊎_elim (λ memory. let other : NoMemory ≡ Bad = sym (ap fault_by memory) ∙ bad in absurd (cc other)) (λ some. among (kind_of error) kinds some) has

-- words of which a parse gives an error other than want of memory aren't readable
pub refused_words : (app : App) (words : List (List ℕ)) (error : Error) → app ≡ command_of forms → list_all is_plain words ≡ true
    → HasKind (fault_of app words) error → fault_by (kind_of error) ≡ Bad → are_readable (settings words) ≡ false
refused_words app words error is plain has bad =
    sym (no_fault words plain) ∙ ap (λ (a : App). none (fault_of a words)) (sym is) ∙ unreadable (fault_of app words) error has bad

-- and where it gives matches, these are those of readable settings
pub taken_words : (app : App) (words : List (List ℕ)) (rows : List Row) → app ≡ command_of forms → list_all is_plain words ≡ true → fault_of app words ≡ [] → rows ≡ matches_of app words
    → (are_readable (settings words) ≡ true) × IsRead rows × (given_in rows ≡ settings words)
taken_words app words rows is plain no_kinds_are rows_is =
    let readable : are_readable (settings words) ≡ true = sym (no_fault words plain) ∙ ap none (ap (λ (a : App). fault_of a words) (sym is) ∙ no_kinds_are) in
    let rows_here : rows ≡ rows_for (settings words) = rows_is ∙ ap (λ (a : App). matches_of a words) is ∙ matches_are words plain readable in
    let back : given_in rows ≡ settings words = ap given_in rows_here ∙ given_back (settings words) (and_parts (list_all is_readable (settings words)) (are_distinct (settings words)) readable).0 in (
      readable,
      record { readable = ap are_readable back ∙ readable; rows_are = rows_here ∙ ap rows_for (sym back) },
      back,
    )

pub fault_is : {T : Type 0} (result : Result T WordsFault) (fault : WordsFault) (P : Type 0) → IsErrAnd result (λ f. f ≡ fault) → (fault ≡ Bad → P) → IfErr result (λ f. f ≡ Bad → P)
fault_is (Ok x) fault P is then_p = tt
fault_is (Err f) fault P is then_p = λ bad. then_p (sym is ∙ bad)

-- ---- no rules without readable settings

fit_value : (form : Form) (value : Option (List ℕ)) → is_of_form form value ≡ true → has_its_value form value ≡ true
fit_value Flag None fit = refl
fit_value Flag (Some w) fit = fit
fit_value Path None fit = fit
fit_value Path (Some w) fit = refl
fit_value (Number x y) None fit = fit
fit_value (Number x y) (Some w) fit = refl

fit_reads : (setting : Setting) → fits setting ≡ true → is_readable setting ≡ true
fit_reads setting fit = go (form_of setting.0) fit
  where
    go : (o : Option Form) → option_map_or (λ form. is_of_form form setting.1) o false ≡ true → option_map_or (λ form. has_its_value form setting.1) o false ≡ true
    go None fit = fit
    go (Some form) fit = fit_value form setting.1 fit

all_read : (given : List Setting) → list_all fits given ≡ true → list_all is_readable given ≡ true
all_read [] fit = refl
all_read (setting ∷ more) fit =
    let parts = and_parts (fits setting) (list_all fits more) fit in
    and_from (is_readable setting) (list_all is_readable more) (fit_reads setting parts.0) (all_read more parts.1)

pub no_rules : (words : List (List ℕ)) → are_readable (settings words) ≡ false → rules_of words ≡ None
no_rules words unread = ap (λ b. option_and_then if_extra_fits (cond b (option_map (rules_with (settings words)) (run_of (settings words))) None)) (go (list_all fits (settings words) && are_distinct (settings words)) refl)
  where
    go : (b : Bool) → (list_all fits (settings words) && are_distinct (settings words)) ≡ b → (list_all fits (settings words) && are_distinct (settings words)) ≡ false
    go false is = is
    go true is =
        let parts = and_parts (list_all fits (settings words)) (are_distinct (settings words)) is in
        absurd (true≢false (sym (and_from _ _ (all_read (settings words) parts.0) parts.1) ∙ unread))
