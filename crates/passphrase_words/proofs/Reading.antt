-- Words are spelled by the settings that are read of them and by no other ones, and so they are read one way.
use Rattle.std.proofs.Common.{◌≡◌, ◌<◌, ◌≤◌, ◌+◌, ℕ, Bool, true, false, cond, List, [], ◌∷◌, ◌++◌, zero, suc, length, take, drop, get_or, Option, Some, None, refl, ap, sym, ◌∙◌, subst, arith, inl, inr}
use Rattle.std.proofs.{lemmas.{Bool.{and_parts, cases_lt, eqb-true}, List.{take_all, append-nil, Sums.{prefix_len-le-length, split_at_first, passes_at_first}}, Slice.Eq.bytes_eq-Decides}, Math.Seq.{take-append_seam, drop-append-add}}
use Rattle.std.specs.{Prelude.{not, ◌||◌, codes}, Option.option_map, List.{list_all, list_any, position_or_len, before_first, after_first}, Str.bytes_eq}
use Rattle.{assuan_line.proofs.Places.place_after, assuan_text.specs.Rows.found}
use Rattle.passphrase_words.specs.{Options.{options, form_of, takes_value}, Parts.{is_equals, by_itself, alone, begun, left, settings_by, rest_by, settings, rest_of, front_of}}
use Rattle.passphrase_words.specs.{Refusals.{AllSettings, Refuses, unread, no_task, unread_text, task_fault}, Rules.{IsTask, task_of}, Spelling.{Setting, Spells, none, flag, joined, apart, takes, begins_with_dash, operands_of}}
use Rattle.passphrase_words.specs.{Tasks.{TaskValue, WantedValue, WantsHelp, WantsVersion, WantsTask}, Words.{Reads, help, version, task, asks_for_help}, declared.{options.Form.Form, words.Front.TheVariants.{Help, Version, Other}}}

not_true : (b : Bool) → not b ≡ true → b ≡ false
not_true true h = absurd (cc h)
not_true false h = refl

or_right : (a : Bool) {b : Bool} → b ≡ true → (a || b) ≡ true
or_right true h = refl
or_right false h = h

-- what holds of the name of each row holds of a name that is found
row_passes : (test : List ℕ → Bool) (name : List ℕ) (row : List ℕ × Form) (rows : List (List ℕ × Form)) (form : Form) (same : Bool)
    → bytes_eq row.0 name ≡ same → cond same (Some row.1) (found name rows) ≡ Some form → test row.0 ≡ true
    → (found name rows ≡ Some form → test name ≡ true) → test name ≡ true
row_passes test name row rows form true same is passes later =
    let names : row.0 ≡ name = (bytes_eq-Decides row.0 name).0 same in
    subst (λ (n : List ℕ). test n ≡ true) names passes
row_passes test name row rows form false same is passes later = later is

found_passes : (test : List ℕ → Bool) (name : List ℕ) (rows : List (List ℕ × Form)) (form : Form) → list_all (λ row. test row.0) rows ≡ true → found name rows ≡ Some form → test name ≡ true
found_passes test name [] form all is = absurd (cc is)
found_passes test name (row ∷ rows) form all is =
    let parts = and_parts (test row.0) (list_all (λ r. test r.0) rows) all in
    row_passes test name row rows form (bytes_eq row.0 name) refl is parts.0 (found_passes test name rows form parts.1)

option_passes : (test : List ℕ → Bool) (name : List ℕ) (takes_one : Bool) (form : Option Form) → list_all (λ row. test row.0) options ≡ true → found name options ≡ form
    → option_map takes_value form ≡ Some takes_one → test name ≡ true
option_passes test name takes_one (Some form) all is takes = found_passes test name options form all is
option_passes test name takes_one None all is takes = absurd (cc takes)

-- an option's name holds no `=`
plain_name : (name : List ℕ) (takes_one : Bool) → takes name ≡ Some takes_one → list_any is_equals name ≡ false
unfolding form_of
plain_name name takes_one is = not_true (list_any is_equals name) (option_passes (λ n. not (list_any is_equals n)) name takes_one (found name options) refl refl is)

-- and begins with a dash
dash_name : (name : List ℕ) (takes_one : Bool) → takes name ≡ Some takes_one → begins_with_dash name ≡ true
unfolding form_of
dash_name name takes_one is = option_passes begins_with_dash name takes_one (found name options) refl refl is

equals_none : (word : List ℕ) (whole : Option Bool) → takes word ≡ whole → list_any is_equals word ≡ true → whole ≡ None
equals_none word None is holds = refl
equals_none word (Some takes_one) is holds = absurd (cc (holds, plain_name word takes_one is))

no_dash_none : (word : List ℕ) (whole : Option Bool) → takes word ≡ whole → begins_with_dash word ≡ false → whole ≡ None
no_dash_none word None is no_dash = refl
no_dash_none word (Some takes_one) is no_dash = absurd (cc (no_dash, dash_name word takes_one is))

place_within : (word : List ℕ) → position_or_len is_equals word ≤ length word
place_within word = prefix_len-le-length (λ byte. not (is_equals byte)) word

-- the word whose front takes a value, and whose whole is no option, has its first `=` there
place_below : (word : List ℕ) → takes word ≡ None → takes (before_first is_equals word) ≡ Some true → position_or_len is_equals word < length word
place_below word whole front = elim (cases_lt (position_or_len is_equals word) (length word)) [
  | inl below ↦ below
  | inr above ↦
      let same : before_first is_equals word ≡ word = take_all (position_or_len is_equals word) word above in
      let again : takes word ≡ Some true = subst (λ (w : List ℕ). takes w ≡ Some true) same front in
      absurd (cc (whole, again))
]

pub no_equals : (word : List ℕ) → position_or_len is_equals word ≡ length word → takes word ≡ None → by_itself word None (takes (before_first is_equals word)) ≡ None
no_equals word at whole =
    let same : before_first is_equals word ≡ word = take_all (position_or_len is_equals word) word (omega (arith, at)) in
    ap (λ (w : List ℕ). by_itself word None (takes w)) same ∙ ap (by_itself word None) whole

one_spells : (word : List ℕ) (whole front : Option Bool) → takes word ≡ whole → takes (before_first is_equals word) ≡ front
    → (given : List Setting) (rest words : List (List ℕ)) → Spells given rest words
    → Spells (begun (by_itself word whole front) given) (left (by_itself word whole front) (word ∷ words) rest) (word ∷ words)
one_spells word (Some false) front is before given rest words spells = flag is spells
one_spells word (Some true) front is before given rest words spells = none
one_spells word None (Some true) is before given rest words spells =
    let below = place_below word is before in
    let mark : get_or word (position_or_len is_equals word) 0 ≡ 61 = eqb-true _ 61 (passes_at_first is_equals word 0 below) in
    let whole : word ≡ before_first is_equals word ++ 61 ∷ after_first is_equals word =
    split_at_first is_equals word 0 below ∙ ap (λ (b : ℕ). before_first is_equals word ++ b ∷ after_first is_equals word) mark in
    subst (λ (w : List ℕ). Spells ((before_first is_equals word, Some (after_first is_equals word)) ∷ given) rest (w ∷ words)) (sym whole)
    (joined before spells)
one_spells word None (Some false) is before given rest words spells = none
one_spells word None None is before given rest words spells = none

alone_spells : (word : List ℕ) (given : List Setting) (rest words : List (List ℕ)) → Spells given rest words
    → Spells (begun (alone word) given) (left (alone word) (word ∷ words) rest) (word ∷ words)
alone_spells word = one_spells word (takes word) (takes (before_first is_equals word)) refl refl

pair_spells : (word next : List ℕ) (words : List (List ℕ)) (whole : Option Bool) → takes word ≡ whole
    → Spells (settings words) (rest_of words) words → Spells (settings (next ∷ words)) (rest_of (next ∷ words)) (next ∷ words)
    → Spells (settings_by whole word next (settings words) (settings (next ∷ words))) (rest_by whole word (word ∷ next ∷ words) (rest_of words) (rest_of (next ∷ words))) (word ∷ next ∷ words)
pair_spells word next words (Some true) is behind others = apart is behind
pair_spells word next words (Some false) is behind others = alone_spells word (settings (next ∷ words)) (rest_of (next ∷ words)) (next ∷ words) others
pair_spells word next words None is behind others = alone_spells word (settings (next ∷ words)) (rest_of (next ∷ words)) (next ∷ words) others

-- the words are spelled by what is read of them
pub spelled : (words : List (List ℕ)) → Spells (settings words) (rest_of words) words
spelled [] = none
spelled (word ∷ []) = alone_spells word [] [] [] none
spelled (word ∷ next ∷ words) = pair_spells word next words (takes word) refl (spelled words) (spelled (next ∷ words))

-- these words are read as these settings, and then as others are
record GoesOn (given : List Setting) (rest words : List (List ℕ)) : Type 0 where
  given_is : settings words ≡ given ++ settings rest
  rest_is : rest_of words ≡ rest_of rest

-- a word that is an option by itself
by_itself_reads : (word : List ℕ) (setting : Setting) (words : List (List ℕ)) (whole : Option Bool) → takes word ≡ whole → (whole ≡ Some true → ⊥) → alone word ≡ Some setting
    → (settings (word ∷ words) ≡ setting ∷ settings words) × (rest_of (word ∷ words) ≡ rest_of words)
by_itself_reads word setting [] whole is no_value one = (ap (λ o. begun o []) one, ap (λ o. left o (word ∷ []) []) one)
by_itself_reads word setting (next ∷ words) (Some true) is no_value one = absurd (no_value refl)
by_itself_reads word setting (next ∷ words) (Some false) is no_value one = (
  ap (λ t. settings_by t word next (settings words) (settings (next ∷ words))) is ∙ ap (λ o. begun o (settings (next ∷ words))) one,
  ap (λ t. rest_by t word (word ∷ next ∷ words) (rest_of words) (rest_of (next ∷ words))) is ∙ ap (λ o. left o (word ∷ next ∷ words) (rest_of (next ∷ words))) one,
)
by_itself_reads word setting (next ∷ words) None is no_value one = (
  ap (λ t. settings_by t word next (settings words) (settings (next ∷ words))) is ∙ ap (λ o. begun o (settings (next ∷ words))) one,
  ap (λ t. rest_by t word (word ∷ next ∷ words) (rest_of words) (rest_of (next ∷ words))) is ∙ ap (λ o. left o (word ∷ next ∷ words) (rest_of (next ∷ words))) one,
)

-- a word that is none
pub stops : (word : List ℕ) (behind : List (List ℕ)) → takes word ≡ None → takes (before_first is_equals word) ≡ None
    → (settings (word ∷ behind) ≡ []) × (rest_of (word ∷ behind) ≡ word ∷ behind)
stops word [] is front =
    let one : alone word ≡ None = ap (λ t. by_itself word t (takes (before_first is_equals word))) is ∙ ap (by_itself word None) front in
    (ap (λ o. begun o []) one, ap (λ o. left o (word ∷ []) []) one)
stops word (next ∷ words) is front =
    let one : alone word ≡ None = ap (λ t. by_itself word t (takes (before_first is_equals word))) is ∙ ap (by_itself word None) front in (
      ap (λ t. settings_by t word next (settings words) (settings (next ∷ words))) is ∙ ap (λ o. begun o (settings (next ∷ words))) one,
      ap (λ t. rest_by t word (word ∷ next ∷ words) (rest_of words) (rest_of (next ∷ words))) is ∙ ap (λ o. left o (word ∷ next ∷ words) (rest_of (next ∷ words))) one,
    )

holds_it : (name value : List ℕ) → list_any is_equals (name ++ 61 ∷ value) ≡ true
holds_it [] value = refl
holds_it (byte ∷ name) value = or_right (is_equals byte) (holds_it name value)

alone_joined : (name value : List ℕ) → takes name ≡ Some true → alone (name ++ 61 ∷ value) ≡ Some (name, Some value)
alone_joined name value is =
    let plain = plain_name name true is in
    let place : position_or_len is_equals (name ++ 61 ∷ value) ≡ length name = place_after is_equals name 61 value plain refl in
    let before : before_first is_equals (name ++ 61 ∷ value) ≡ name = ap (λ (n : ℕ). take n (name ++ 61 ∷ value)) place ∙ take-append_seam name (61 ∷ value) in
    let after : after_first is_equals (name ++ 61 ∷ value) ≡ value = ap (λ (n : ℕ). drop (n + 1) (name ++ 61 ∷ value)) place ∙ drop-append-add name (61 ∷ value) 1 in
    let whole : takes (name ++ 61 ∷ value) ≡ None = equals_none (name ++ 61 ∷ value) (takes (name ++ 61 ∷ value)) refl (holds_it name value) in
    ap (λ t. by_itself (name ++ 61 ∷ value) t (takes (before_first is_equals (name ++ 61 ∷ value)))) whole
    ∙ ap (λ (w : List ℕ). by_itself (name ++ 61 ∷ value) None (takes w)) before
    ∙ ap (by_itself (name ++ 61 ∷ value) None) is
    ∙ ap (λ (n : List ℕ). Some (n, Some (after_first is_equals (name ++ 61 ∷ value)))) before ∙ ap (λ (v : List ℕ). Some (name, Some v)) after

goes_on : (given : List Setting) (rest words : List (List ℕ)) → Spells given rest words → GoesOn given rest words
goes_on [] rest words none = record { given_is = refl; rest_is = refl }
goes_on ((name, None) ∷ given) rest [] spells = elim spells [ ]
goes_on ((name, Some value) ∷ given) rest [] spells = elim spells [ ]
goes_on ((name, None) ∷ given) rest (word ∷ words) (flag is spells) =
    let more = goes_on given rest words spells in
    let one = by_itself_reads name (name, None) words (Some false) is (λ e. cc e) (ap (λ t. by_itself name t (takes (before_first is_equals name))) is) in
    record { given_is = one.0 ∙ ap (λ (g : List Setting). (name, None) ∷ g) more.given_is; rest_is = one.1 ∙ more.rest_is }
goes_on ((name, Some value) ∷ given) rest (word ∷ words) (joined is spells) =
    let more = goes_on given rest words spells in
    let whole : takes (name ++ 61 ∷ value) ≡ None = equals_none (name ++ 61 ∷ value) (takes (name ++ 61 ∷ value)) refl (holds_it name value) in
    let one = by_itself_reads (name ++ 61 ∷ value) (name, Some value) words None whole (λ e. cc e) (alone_joined name value is) in
    record { given_is = one.0 ∙ ap (λ (g : List Setting). (name, Some value) ∷ g) more.given_is; rest_is = one.1 ∙ more.rest_is }
goes_on ((name, Some value) ∷ given) rest (word ∷ next ∷ words) (apart is spells) =
    let more = goes_on given rest words spells in
    record {
      given_is = ap (λ t. settings_by t name value (settings words) (settings (value ∷ words))) is ∙ ap (λ (g : List Setting). (name, Some value) ∷ g) more.given_is;
      rest_is = ap (λ t. rest_by t name (name ∷ value ∷ words) (rest_of words) (rest_of (value ∷ words))) is ∙ more.rest_is;
    }

-- these words are read as these settings, and end there
pub record EndsAt (given : List Setting) (rest words : List (List ℕ)) : Type 0 where
  pub given_is : settings words ≡ given
  pub rest_is : rest_of words ≡ rest

ends_at : (given : List Setting) (rest words : List (List ℕ)) → Spells given rest words → (settings rest ≡ []) × (rest_of rest ≡ rest) → EndsAt given rest words
ends_at given rest words spells end =
    let on = goes_on given rest words spells in
    record { given_is = on.given_is ∙ ap (λ (g : List Setting). given ++ g) end.0 ∙ append-nil given; rest_is = on.rest_is ∙ end.1 }

dash_front : (count : ℕ) (word : List ℕ) → begins_with_dash word ≡ false → begins_with_dash (take count word) ≡ false
dash_front zero word no_dash = refl
dash_front (suc count) [] no_dash = refl
dash_front (suc count) (byte ∷ word) no_dash = no_dash

no_dash_stops : (word : List ℕ) (behind : List (List ℕ)) → begins_with_dash word ≡ false → (settings (word ∷ behind) ≡ []) × (rest_of (word ∷ behind) ≡ word ∷ behind)
no_dash_stops word behind no_dash =
    stops word behind (no_dash_none word (takes word) refl no_dash)
    (no_dash_none (before_first is_equals word) (takes (before_first is_equals word)) refl (dash_front (position_or_len is_equals word) word no_dash))

mark_stops : (behind : List (List ℕ)) → (settings (codes "--" ∷ behind) ≡ []) × (rest_of (codes "--" ∷ behind) ≡ codes "--" ∷ behind)
unfolding form_of
mark_stops behind = stops (codes "--") behind refl refl

version_stops : (behind : List (List ℕ)) → (settings (codes "--version" ∷ behind) ≡ []) × (rest_of (codes "--version" ∷ behind) ≡ codes "--version" ∷ behind)
unfolding form_of
version_stops behind = stops (codes "--version") behind refl refl

long_help_stops : (behind : List (List ℕ)) → (settings (codes "--help" ∷ behind) ≡ []) × (rest_of (codes "--help" ∷ behind) ≡ codes "--help" ∷ behind)
unfolding form_of
long_help_stops behind = stops (codes "--help") behind refl refl

short_help_stops : (behind : List (List ℕ)) → (settings (codes "-h" ∷ behind) ≡ []) × (rest_of (codes "-h" ∷ behind) ≡ codes "-h" ∷ behind)
unfolding form_of
short_help_stops behind = stops (codes "-h") behind refl refl

-- what holds of both words for help holds of a word that is one
helps : (P : List ℕ → Type 0) (word : List ℕ) (long : Bool) → bytes_eq word (codes "--help") ≡ long → (long || bytes_eq word (codes "-h")) ≡ true
    → P (codes "--help") → P (codes "-h") → P word
helps P word true is asks at_long at_short = subst P (sym ((bytes_eq-Decides word (codes "--help")).0 is)) at_long
helps P word false is asks at_long at_short = subst P (sym ((bytes_eq-Decides word (codes "-h")).0 asks)) at_short

help_stops : (word : List ℕ) (behind : List (List ℕ)) → asks_for_help word ≡ true → (settings (word ∷ behind) ≡ []) × (rest_of (word ∷ behind) ≡ word ∷ behind)
help_stops word behind asks =
    helps (λ (w : List ℕ). (settings (w ∷ behind) ≡ []) × (rest_of (w ∷ behind) ≡ w ∷ behind)) word (bytes_eq word (codes "--help")) refl asks
    (long_help_stops behind) (short_help_stops behind)

help_has_no_operands : (word : List ℕ) (behind operands : List (List ℕ)) → asks_for_help word ≡ true → operands_of (word ∷ behind) ≡ Some operands → ⊥
help_has_no_operands word behind operands asks is =
    let none_of : operands_of (word ∷ behind) ≡ None =
    helps (λ (w : List ℕ). operands_of (w ∷ behind) ≡ None) word (bytes_eq word (codes "--help")) refl asks refl refl in
    absurd (cc (none_of, is))

version_is_no_help : (word : List ℕ) → asks_for_help word ≡ true → word ≡ codes "--version" → ⊥
version_is_no_help word asks is =
    let no : asks_for_help (codes "--version") ≡ false = refl in
    let yes : asks_for_help (codes "--version") ≡ true = subst (λ (w : List ℕ). asks_for_help w ≡ true) is asks in
    absurd (cc (no, yes))

operands_stop : (rest operands : List (List ℕ)) → operands_of rest ≡ Some operands → (settings rest ≡ []) × (rest_of rest ≡ rest)
operands_stop [] operands is = (refl, refl)
operands_stop (word ∷ behind) operands is =
    elim (bytes_eq word (codes "--")) as (λ b. bytes_eq word (codes "--") ≡ b → cond b (Some behind) (cond (begins_with_dash word) None (Some (word ∷ behind))) ≡ Some operands
    → (settings (word ∷ behind) ≡ []) × (rest_of (word ∷ behind) ≡ word ∷ behind)) [
      | true ↦ λ e _.
          let mark : word ≡ codes "--" = (bytes_eq-Decides word (codes "--")).0 e in
          subst (λ (w : List ℕ). (settings (w ∷ behind) ≡ []) × (rest_of (w ∷ behind) ≡ w ∷ behind)) (sym mark) (mark_stops behind)
      | false ↦ λ e s. unmarked_stops word behind operands (begins_with_dash word) refl s
    ] refl is
  where
    unmarked_stops : (word : List ℕ) (behind operands : List (List ℕ)) (dash : Bool) → begins_with_dash word ≡ dash → cond dash None (Some (word ∷ behind)) ≡ Some operands
        → (settings (word ∷ behind) ≡ []) × (rest_of (word ∷ behind) ≡ word ∷ behind)
    unmarked_stops word behind operands true e s = absurd (cc s)
    unmarked_stops word behind operands false e s = no_dash_stops word behind e

-- how the words end, where they ask for this
pub data EndsIn (words : List (List ℕ)) : WantedValue → Type 0 where
  in_help : {word : List ℕ} {behind : List (List ℕ)} → rest_of words ≡ word ∷ behind → asks_for_help word ≡ true → EndsIn words WantsHelp
  in_version : {behind : List (List ℕ)} → rest_of words ≡ codes "--version" ∷ behind → EndsIn words WantsVersion
  in_task : {operands : List (List ℕ)} {task : TaskValue} → operands_of (rest_of words) ≡ Some operands → IsTask (settings words) operands task → EndsIn words (WantsTask task)

pub ends_in : (words : List (List ℕ)) (wanted : WantedValue) → Reads words wanted → EndsIn words wanted
ends_in words WantsHelp (help {given} {word} {behind} spells asks) =
    in_help (ends_at given (word ∷ behind) words spells (help_stops word behind asks)).rest_is asks
ends_in words WantsVersion (version {given} {behind} spells) =
    in_version (ends_at given (codes "--version" ∷ behind) words spells (version_stops behind)).rest_is
ends_in words (WantsTask t) (task {given} {rest} {operands} spells is are) =
    let end = ends_at given rest words spells (operands_stop rest operands is) in
    in_task (subst (λ (r : List (List ℕ)). operands_of r ≡ Some operands) (sym end.rest_is) is) (subst (λ (g : List Setting). IsTask g operands t) (sym end.given_is) are)

pub reads_help : (words : List (List ℕ)) (word : List ℕ) (behind : List (List ℕ)) → rest_of words ≡ word ∷ behind → asks_for_help word ≡ true → Reads words WantsHelp
reads_help words word behind is asks = help (subst (λ (r : List (List ℕ)). Spells (settings words) r words) is (spelled words)) asks

pub reads_version : (words behind : List (List ℕ)) → rest_of words ≡ codes "--version" ∷ behind → Reads words WantsVersion
reads_version words behind is = version (subst (λ (r : List (List ℕ)). Spells (settings words) r words) is (spelled words))

pub reads_task : (words operands : List (List ℕ)) (t : TaskValue) → operands_of (rest_of words) ≡ Some operands → IsTask (settings words) operands t → Reads words (WantsTask t)
reads_task words operands t is are = task (spelled words) is are

same_end : (words : List (List ℕ)) (one other : WantedValue) → EndsIn words one → EndsIn words other → one ≡ other
same_end words WantsHelp WantsHelp e f = refl
same_end words WantsVersion WantsVersion e f = refl
same_end words WantsHelp WantsVersion (in_help {word} is asks) (in_version that) = absurd (version_is_no_help word asks (ap (λ (r : List (List ℕ)). get_or r 0 []) (sym is ∙ that)))
same_end words WantsVersion WantsHelp (in_version that) (in_help {word} is asks) = absurd (version_is_no_help word asks (ap (λ (r : List (List ℕ)). get_or r 0 []) (sym is ∙ that)))
same_end words WantsHelp (WantsTask t) (in_help {word} {behind} is asks) (in_task {operands} that are) =
    absurd (help_has_no_operands word behind operands asks (subst (λ (r : List (List ℕ)). operands_of r ≡ Some operands) is that))
same_end words (WantsTask t) WantsHelp (in_task {operands} that are) (in_help {word} {behind} is asks) =
    absurd (help_has_no_operands word behind operands asks (subst (λ (r : List (List ℕ)). operands_of r ≡ Some operands) is that))
same_end words WantsVersion (WantsTask t) (in_version is) (in_task {operands} that are) =
    absurd (cc (subst (λ (r : List (List ℕ)). operands_of r ≡ Some operands) is that))
same_end words (WantsTask t) WantsVersion (in_task {operands} that are) (in_version is) =
    absurd (cc (subst (λ (r : List (List ℕ)). operands_of r ≡ Some operands) is that))
same_end words (WantsTask t) (WantsTask u) (in_task {operands} is are) (in_task {operands = others} that these) =
    let same : operands ≡ others = ap (λ o. elim o [ None ↦ [] | Some x ↦ x ]) (sym is ∙ that) in
    ap WantsTask (are.task_is ∙ ap (λ (o : List (List ℕ)). task_of (settings words) o) same ∙ sym these.task_is)

-- words are read one way
pub one_way : (words : List (List ℕ)) (one other : WantedValue) → Reads words one → Reads words other → one ≡ other
one_way words one other reads reads_too = same_end words one other (ends_in words one reads) (ends_in words other reads_too)

not_help : (named : Bool) → cond named Version Other ≡ Help → ⊥
not_help true front = cc front
not_help false front = cc front

helped : (words : List (List ℕ)) (word : List ℕ) (behind : List (List ℕ)) → word ∷ behind ≡ rest_of words → (asks : Bool) → asks_for_help word ≡ asks
    → cond asks Help (cond (bytes_eq word (codes "--version")) Version Other) ≡ Help → Reads words WantsHelp
helped words word behind is true asks front = reads_help words word behind (sym is) asks
helped words word behind is false asks front = absurd (not_help (bytes_eq word (codes "--version")) front)

-- what the code finds of it: help, the version, or a task
pub front_help : (words rest : List (List ℕ)) → rest ≡ rest_of words → front_of rest ≡ Help → Reads words WantsHelp
front_help words [] is front = absurd (cc front)
front_help words (word ∷ behind) is front = helped words word behind is (asks_for_help word) refl front

versioned : (words : List (List ℕ)) (word : List ℕ) (behind : List (List ℕ)) → word ∷ behind ≡ rest_of words → (asks named : Bool) → bytes_eq word (codes "--version") ≡ named
    → cond asks Help (cond named Version Other) ≡ Version → Reads words WantsVersion
versioned words word behind is true named e front = absurd (cc front)
versioned words word behind is false true e front =
    reads_version words behind (sym is ∙ ap (λ (w : List ℕ). w ∷ behind) ((bytes_eq-Decides word (codes "--version")).0 e))
versioned words word behind is false false e front = absurd (cc front)

pub front_version : (words rest : List (List ℕ)) → rest ≡ rest_of words → front_of rest ≡ Version → Reads words WantsVersion
front_version words [] is front = absurd (cc front)
front_version words (word ∷ behind) is front = versioned words word behind is (asks_for_help word) (bytes_eq word (codes "--version")) refl front

only_task : (words rest : List (List ℕ)) → rest ≡ rest_of words → front_of rest ≡ Other
    → ((operands : List (List ℕ)) (t : TaskValue) → operands_of rest ≡ Some operands → IsTask (settings words) operands t → ⊥)
    → (wanted : WantedValue) → EndsIn words wanted → ⊥
only_task words rest is other absent WantsHelp (in_help {word} {behind} that asks) =
    let front : front_of rest ≡ Help = ap front_of (is ∙ that) ∙ ap (λ b. cond b Help (cond (bytes_eq word (codes "--version")) Version Other)) asks in
    cc (other, front)
only_task words rest is other absent WantsVersion (in_version {behind} that) =
    let front : front_of rest ≡ Version = ap front_of (is ∙ that) in
    cc (other, front)
only_task words rest is other absent (WantsTask t) (in_task {operands} that are) = absent operands t (ap operands_of is ∙ that) are

-- where the words ask for neither, they ask for the task of their operands alone
pub a_task_alone : (words rest : List (List ℕ)) → rest ≡ rest_of words → front_of rest ≡ Other
    → ((operands : List (List ℕ)) (t : TaskValue) → operands_of rest ≡ Some operands → IsTask (settings words) operands t → ⊥)
    → (wanted : WantedValue) → Reads words wanted → ⊥
a_task_alone words rest is other absent wanted reads = only_task words rest is other absent wanted (ends_in words wanted reads)

pub no_such_task : (words rest operands : List (List ℕ)) → rest ≡ rest_of words → front_of rest ≡ Other → operands_of rest ≡ Some operands
    → ((t : TaskValue) → IsTask (settings words) operands t → ⊥) → (wanted : WantedValue) → Reads words wanted → ⊥
no_such_task words rest operands is other of absent =
    a_task_alone words rest is other (λ others t that are.
    let same : others ≡ operands = ap (λ o. elim o [ None ↦ [] | Some x ↦ x ]) (sym that ∙ of) in
    absent t (subst (λ (o : List (List ℕ)). IsTask (settings words) o t) same are))

pub no_operands : (words rest : List (List ℕ)) → rest ≡ rest_of words → front_of rest ≡ Other → operands_of rest ≡ None
    → (wanted : WantedValue) → Reads words wanted → ⊥
no_operands words rest is other of = a_task_alone words rest is other (λ others t that are. absurd (cc (that, of)))

no_more : (more others : List Setting) → more ++ others ≡ [] → more ≡ []
no_more [] others is = refl
no_more (setting ∷ more) others is = absurd (cc is)

all_settings : (words rest : List (List ℕ)) → rest ≡ rest_of words → settings rest ≡ [] → AllSettings (settings words) rest words
all_settings words rest is none_left = record {
  spelled = subst (λ (r : List (List ℕ)). Spells (settings words) r words) (sym is) (spelled words);
  all = λ more behind spells. no_more more (settings behind) (sym (goes_on more behind rest spells).given_is ∙ none_left);
}

neither : (asks named : Bool) → cond asks Help (cond named Version Other) ≡ Other → (asks ≡ false) × (named ≡ false)
neither true named front = absurd (cc front)
neither false true front = absurd (cc front)
neither false false front = (refl, refl)

-- what the code says of words that it refuses is what they are refused by
pub refuses_word : (words rest : List (List ℕ)) (word : List ℕ) (behind : List (List ℕ)) → rest ≡ rest_of words → settings rest ≡ [] → front_of rest ≡ Other → operands_of rest ≡ None
    → rest ≡ word ∷ behind → Refuses words (unread_text word)
refuses_word words rest word behind is none_left other of shape =
    let front = neither (asks_for_help word) (bytes_eq word (codes "--version")) (ap front_of (sym shape) ∙ other) in
    unread (subst (λ (r : List (List ℕ)). AllSettings (settings words) r words) shape (all_settings words rest is none_left)) (ap operands_of (sym shape) ∙ of) front.0 front.1

pub refuses_task : (words rest operands : List (List ℕ)) (text : List ℕ) → rest ≡ rest_of words → settings rest ≡ [] → operands_of rest ≡ Some operands
    → task_fault (settings words) operands ≡ Some text → Refuses words text
refuses_task words rest operands text is none_left of fault = no_task (all_settings words rest is none_left) of fault

nothing_spelled : (rest words : List (List ℕ)) → Spells [] rest words → rest ≡ words
nothing_spelled rest words none = refl

-- the options end at one place
all_end : {given : List Setting} {rest words : List (List ℕ)} → AllSettings given rest words → EndsAt given rest words
all_end {given = given} {rest = rest} {words = words} are =
    let none_left : settings rest ≡ [] = are.all (settings rest) (rest_of rest) (spelled rest) in
    ends_at given rest words are.spelled
    (none_left, nothing_spelled (rest_of rest) rest (subst (λ (g : List Setting). Spells g (rest_of rest) rest) none_left (spelled rest)))

same_operands : {operands others : List (List ℕ)} → Some operands ≡ Some others → operands ≡ others
same_operands is = ap (λ o. elim o [ None ↦ [] | Some x ↦ x ]) is

pub one_fault : {words : List (List ℕ)} {one other : List ℕ} → Refuses words one → Refuses words other → one ≡ other
one_fault (unread are of asks named) (unread these that too so) =
    ap (λ (r : List (List ℕ)). unread_text (get_or r 0 [])) (sym (all_end are).rest_is ∙ (all_end these).rest_is)
one_fault (unread are of asks named) (no_task these that fault) =
    absurd (cc (sym of ∙ ap operands_of (sym (all_end are).rest_is ∙ (all_end these).rest_is) ∙ that))
one_fault (no_task are of fault) (unread these that asks named) =
    absurd (cc (sym that ∙ ap operands_of (sym (all_end these).rest_is ∙ (all_end are).rest_is) ∙ of))
one_fault (no_task {given} {rest} {operands} are of fault) (no_task {given = others} {rest = left} {operands = ends} these that wrong) =
    let same : operands ≡ ends = same_operands (sym of ∙ ap operands_of (sym (all_end are).rest_is ∙ (all_end these).rest_is) ∙ that) in
    let alike : given ≡ others = sym (all_end are).given_is ∙ (all_end these).given_is in
    same_text (sym fault ∙ ap (λ (g : List Setting). task_fault g operands) alike ∙ ap (task_fault others) same ∙ wrong)
  where
    same_text : {one other : List ℕ} → Some one ≡ Some other → one ≡ other
    same_text is = ap (λ o. elim o [ None ↦ [] | Some x ↦ x ]) is
