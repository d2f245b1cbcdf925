-- The pieces of a command line that are read as options: kinds of faults, names, one use of an option, words, and what stands around the first `=`.
use Rattle.std.proofs.Common.{◌≡◌, ◌∙◌, ℕ, ◌+◌, suc, Bool, true, false, cond, List, [], ◌∷◌, ◌++◌, map, Option, Some, None, is_some, refl, ap, ap₂, sym, subst, codes, true≢false, arith, take, drop, append-nil}
use Rattle.std.{proofs.lemmas.Bool.{and_parts, eqb-true, or_parts}, specs.{Prelude.{not, ◌&&◌, ◌||◌, option_map, option_and_then, nat_eq}, List.{list_all, before_first, after_first, position_or_len}, Str.bytes_eq}}
use Rattle.{assuan_text.specs.Rows.found, clap.specs.{Lexer.{long_of, long_of_rest, strip_byte}, Kinds.{Kinds, or_else}, Faults.use_fault, Walk.{at_row, more_values, arg_by_index, Row, used, has_row, arg_by_long, arg_by_id}}}
use Rattle.clap.specs.declared.{parser.matches.ValueSource.TheVariants.CommandLine, error.kind.ErrorKind.TheVariants.ArgumentConflict}
use Rattle.agent_top.specs.{Options.{after_dashes, row_for, is_flag, is_plain}, Settings.{holds_equals, is_equals, begins_with_dash}, declared.words.forms.Form.{Form, TheVariants.{Flag, Path, Number}}}
use Rattle.agent_top.proofs.OptionRows.{built, same_name, at_end}

-- ---- kinds

abbrev pub none : Kinds → Bool
none [] = true
none (kind ∷ kinds) = false

pub none_both : (a b : Kinds) → none (or_else a b) ≡ (none a && none b)
none_both [] b = refl
none_both (kind ∷ kinds) b = refl

pub no_kinds : (a : Kinds) → none a ≡ true → a ≡ []
no_kinds [] e = refl
no_kinds (kind ∷ kinds) e = absurd (true≢false (sym e))

pub and_true : (b : Bool) → (b && true) ≡ b
and_true true = refl
and_true false = refl

pub and_false : (b : Bool) → (b && false) ≡ false
and_false true = refl
and_false false = refl

pub from_not : (b : Bool) → not b ≡ true → b ≡ false
from_not true e = absurd (true≢false (sym e))
from_not false e = refl

-- ---- names of options

abbrev pub dashed : List ℕ → Bool
dashed name = is_some (after_dashes name)

pub strip_cases : (word rest : List ℕ) → strip_byte 45 word ≡ Some rest → word ≡ 45 ∷ rest
strip_cases [] rest is = absurd (cc)
strip_cases (byte ∷ word) rest is = go (nat_eq byte 45) refl is
  where
    go : (b : Bool) → nat_eq byte 45 ≡ b → cond b (Some word) None ≡ Some rest → byte ∷ word ≡ 45 ∷ rest
    go true e is = let same : byte ≡ 45 = eqb-true byte 45 e in let more : word ≡ rest = cc in ap₂ (λ (b : ℕ) (w : List ℕ). b ∷ w) same more
    go false e is = absurd (cc)

-- a word with two dashes at its front
pub dashes_then : (word rest : List ℕ) → after_dashes word ≡ Some rest → word ≡ 45 ∷ 45 ∷ rest
dashes_then word rest is = go (strip_byte 45 word) refl is
  where
    go : (o : Option (List ℕ)) → strip_byte 45 word ≡ o → option_and_then (strip_byte 45) o ≡ Some rest → word ≡ 45 ∷ 45 ∷ rest
    go None e is = absurd (cc)
    go (Some more) e is = strip_cases word more e ∙ ap (λ (w : List ℕ). 45 ∷ w) (strip_cases more rest is)

pub by_long : (name : List ℕ) (rows : List (List ℕ × Form)) → list_all (λ row. dashed row.0) rows ≡ true
    → arg_by_long (map built rows) name ≡ option_map (λ form. built (45 ∷ 45 ∷ name, form)) (found (45 ∷ 45 ∷ name) rows)
by_long name [] all = refl
by_long name (row ∷ rows) all =
    let parts = and_parts (dashed row.0) (list_all (λ r. dashed r.0) rows) all in
    go (after_dashes row.0) refl parts.0 (by_long name rows parts.1)
  where
    go : (o : Option (List ℕ)) → after_dashes row.0 ≡ o → is_some o ≡ true
        → arg_by_long (map built rows) name ≡ option_map (λ form. built (45 ∷ 45 ∷ name, form)) (found (45 ∷ 45 ∷ name) rows)
        → arg_by_long (map built (row ∷ rows)) name ≡ option_map (λ form. built (45 ∷ 45 ∷ name, form)) (found (45 ∷ 45 ∷ name) (row ∷ rows))
    go None e some later = absurd (true≢false (sym some))
    go (Some rest) e some later =
        let whole : row.0 ≡ 45 ∷ 45 ∷ rest = dashes_then row.0 rest e in
        subst (λ (n : List ℕ). arg_by_long (map built ((n, row.1) ∷ rows)) name ≡ option_map (λ form. built (45 ∷ 45 ∷ name, form)) (found (45 ∷ 45 ∷ name) ((n, row.1) ∷ rows)))
        (sym whole) (pick (bytes_eq rest name) refl)
      where
        pick : (b : Bool) → bytes_eq rest name ≡ b
            → cond (not false && (bytes_eq rest name || false)) (Some (built (45 ∷ 45 ∷ rest, row.1))) (arg_by_long (map built rows) name)
            ≡ option_map (λ form. built (45 ∷ 45 ∷ name, form)) (cond (bytes_eq rest name) (Some row.1) (found (45 ∷ 45 ∷ name) rows))
        pick true e =
            ap (λ b. cond (b || false) (Some (built (45 ∷ 45 ∷ rest, row.1))) (arg_by_long (map built rows) name)) e
            ∙ ap (λ (n : List ℕ). Some (built (45 ∷ 45 ∷ n, row.1))) (same_name rest name e)
            ∙ ap (λ b. option_map (λ form. built (45 ∷ 45 ∷ name, form)) (cond b (Some row.1) (found (45 ∷ 45 ∷ name) rows))) (sym e)
        pick false e =
            ap (λ b. cond (b || false) (Some (built (45 ∷ 45 ∷ rest, row.1))) (arg_by_long (map built rows) name)) e
            ∙ later
            ∙ ap (λ b. option_map (λ form. built (45 ∷ 45 ∷ name, form)) (cond b (Some row.1) (found (45 ∷ 45 ∷ name) rows))) (sym e)

pub by_id : (name : List ℕ) (rows : List (List ℕ × Form)) → arg_by_id (map built rows) name ≡ option_map (λ form. built (name, form)) (found name rows)
by_id name [] = refl
by_id name (row ∷ rows) = go (bytes_eq row.0 name) refl (by_id name rows)
  where
    go : (b : Bool) → bytes_eq row.0 name ≡ b → arg_by_id (map built rows) name ≡ option_map (λ form. built (name, form)) (found name rows)
        → cond (bytes_eq row.0 name) (Some (built row)) (arg_by_id (map built rows) name) ≡ option_map (λ form. built (name, form)) (cond (bytes_eq row.0 name) (Some row.1) (found name rows))
    go true e later =
        ap (λ b. cond b (Some (built row)) (arg_by_id (map built rows) name)) e ∙ ap (λ (n : List ℕ). Some (built (n, row.1))) (same_name row.0 name e)
        ∙ ap (λ b. option_map (λ form. built (name, form)) (cond b (Some row.1) (found name rows))) (sym e)
    go false e later =
        ap (λ b. cond b (Some (built row)) (arg_by_id (map built rows) name)) e ∙ later
        ∙ ap (λ b. option_map (λ form. built (name, form)) (cond b (Some row.1) (found name rows))) (sym e)

pub no_index : (rows : List (List ℕ × Form)) (count : ℕ) → arg_by_index (map built rows) count ≡ None
no_index [] count = refl
no_index (row ∷ rows) count = no_index rows count

-- ---- one use of an option

pub uses_flag : (name : List ℕ) (rows : List Row) → none (use_fault false (built (name, Flag)) [] rows) ≡ not (has_row name rows)
uses_flag name rows = go (has_row name rows)
  where
    go : (b : Bool) → none (or_else (cond (b && true) (ArgumentConflict ∷ []) []) []) ≡ not b
    go true = refl
    go false = refl

pub uses_value : (name value : List ℕ) (form : Form) (rows : List Row) → is_flag form ≡ false → none (use_fault false (built (name, form)) (value ∷ []) rows) ≡ not (has_row name rows)
uses_value name value Flag rows flag = absurd (true≢false flag)
uses_value name value Path rows flag = go (has_row name rows)
  where
    go : (b : Bool) → none (or_else (cond (b && true) (ArgumentConflict ∷ []) []) []) ≡ not b
    go true = refl
    go false = refl
uses_value name value (Number x y) rows flag = go (has_row name rows)
  where
    go : (b : Bool) → none (or_else (cond (b && true) (ArgumentConflict ∷ []) []) []) ≡ not b
    go true = refl
    go false = refl

pub uses_no_value : (name : List ℕ) (form : Form) (rows : List Row) → is_flag form ≡ false → none (use_fault false (built (name, form)) [] rows) ≡ false
uses_no_value name Flag rows flag = absurd (true≢false flag)
uses_no_value name Path rows flag = refl
uses_no_value name (Number x y) rows flag = refl

-- a row that is new comes last
added : (name : List ℕ) (row : Row) (rows : List Row) (change : Row → List Row) → has_row name rows ≡ false
    → at_row name change (row ∷ []) (at_row name (λ _. []) [] rows) ≡ rows ++ row ∷ []
added name row rows change new =
    ap (at_row name change (row ∷ [])) (at_end name (λ _. []) [] rows new ∙ append-nil rows) ∙ at_end name change (row ∷ []) rows new

pub used_flag : (name : List ℕ) (rows : List Row) → has_row name rows ≡ false → used (built (name, Flag)) [] rows ≡ rows ++ row_for (name, None) ∷ []
used_flag name rows new = added name (row_for (name, None)) rows (more_values CommandLine (codes "true" ∷ [])) new

pub used_value : (name value : List ℕ) (form : Form) (rows : List Row) → is_flag form ≡ false → has_row name rows ≡ false
    → used (built (name, form)) (value ∷ []) rows ≡ rows ++ row_for (name, Some value) ∷ []
used_value name value Flag rows flag new = absurd (true≢false flag)
used_value name value Path rows flag new = added name (row_for (name, Some value)) rows (more_values CommandLine (value ∷ [])) new
used_value name value (Number x y) rows flag new = added name (row_for (name, Some value)) rows (more_values CommandLine (value ∷ [])) new

-- ---- words

-- a word with a long name, and one without a dash
pub data WordIs : List ℕ → Type 0 where
  dash : (byte : ℕ) (body : List ℕ) → WordIs (45 ∷ 45 ∷ byte ∷ body)
  bare : {word : List ℕ} → strip_byte 45 word ≡ None → WordIs word

no_dash : (word : List ℕ) → not (begins_with_dash word) ≡ true → strip_byte 45 word ≡ None
no_dash [] plain = refl
no_dash (byte ∷ word) plain = go (nat_eq byte 45) plain
  where
    go : (b : Bool) → not b ≡ true → cond b (Some word) None ≡ None
    go true e = absurd (true≢false (sym e))
    go false e = refl

pub has_dash : (word : List ℕ) → strip_byte 45 word ≡ None → begins_with_dash word ≡ false
has_dash [] none_is = refl
has_dash (byte ∷ word) none_is = go (nat_eq byte 45) none_is
  where
    go : (b : Bool) → cond b (Some word) None ≡ None → b ≡ false
    go true e = absurd (cc e)
    go false e = refl

pub bare_from : (word : List ℕ) → WordIs word → begins_with_dash word ≡ false → strip_byte 45 word ≡ None
bare_from word (dash byte body) plain = absurd (true≢false plain)
bare_from word (bare bare_is) plain = bare_is

rest_is : (rest : Option (List ℕ)) → is_some (option_and_then long_of_rest rest) ≡ true → (byte : ℕ) × (body : List ℕ) × (rest ≡ Some (byte ∷ body))
rest_is None some = absurd (true≢false (sym some))
rest_is (Some []) some = absurd (true≢false (sym some))
rest_is (Some (byte ∷ body)) some = (byte, body, refl)

pub word_is : (word : List ℕ) → is_plain word ≡ true → WordIs word
word_is word plain = go (begins_with_dash word) refl plain
  where
    go : (b : Bool) → begins_with_dash word ≡ b → (not b || is_some (long_of word)) ≡ true → WordIs word
    go false e plain = bare (no_dash word (ap not e))
    go true e plain =
        let rest = rest_is (after_dashes word) plain in
        subst WordIs (sym (dashes_then word (rest.0 ∷ rest.1) rest.2)) (dash rest.0 rest.1)

-- ---- what stands before and after the first `=`

pub before_more : (byte : ℕ) (xs : List ℕ) → is_equals byte ≡ false → before_first is_equals (byte ∷ xs) ≡ byte ∷ before_first is_equals xs
before_more byte xs e =
    let more : 1 + position_or_len is_equals xs ≡ suc (position_or_len is_equals xs) = omega arith in
    ap (λ b. take (cond (not b) (1 + position_or_len is_equals xs) 0) (byte ∷ xs)) e ∙ ap (λ (n : ℕ). take n (byte ∷ xs)) more

pub after_more : (byte : ℕ) (xs : List ℕ) → is_equals byte ≡ false → after_first is_equals (byte ∷ xs) ≡ after_first is_equals xs
after_more byte xs e =
    let more : (1 + position_or_len is_equals xs) + 1 ≡ suc (position_or_len is_equals xs + 1) = omega arith in
    ap (λ b. drop (cond (not b) (1 + position_or_len is_equals xs) 0 + 1) (byte ∷ xs)) e ∙ ap (λ (n : ℕ). drop n (byte ∷ xs)) more

pub before_all : (xs : List ℕ) → holds_equals xs ≡ false → before_first is_equals xs ≡ xs
before_all [] e = refl
before_all (byte ∷ xs) e =
    let parts = or_parts (is_equals byte) (holds_equals xs) e in
    before_more byte xs parts.0 ∙ ap (λ (w : List ℕ). byte ∷ w) (before_all xs parts.1)

-- the name before it begins with no dash where the word doesn't
pub before_bare : (word : List ℕ) → strip_byte 45 word ≡ None → strip_byte 45 (before_first is_equals word) ≡ None
before_bare [] e = refl
before_bare (byte ∷ word) e = go (is_equals byte) refl
  where
    go : (b : Bool) → is_equals byte ≡ b → strip_byte 45 (before_first is_equals (byte ∷ word)) ≡ None
    go true is = ap (λ b. strip_byte 45 (take (cond (not b) (1 + position_or_len is_equals word) 0) (byte ∷ word))) is
    go false is = ap (strip_byte 45) (before_more byte word is) ∙ other (nat_eq byte 45) e
      where
        other : (b : Bool) → cond b (Some word) None ≡ None → cond b (Some (before_first is_equals word)) None ≡ None
        other true e = absurd (cc e)
        other false e = refl
