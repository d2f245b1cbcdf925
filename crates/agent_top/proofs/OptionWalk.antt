-- How clap walks over plain words: as over the settings that they are read as.
use Rattle.std.proofs.{Common.{◌≡◌, ◌∙◌, ℕ, Bool, true, false, cond, List, [], ◌∷◌, ◌++◌, map, Option, Some, None, is_some, refl, ap, ap₂, sym, subst, codes, true≢false, append_assoc, append-nil}, lemmas.{Bool.and_parts, List.map-append}}
use Rattle.std.specs.{Prelude.{if◌then◌else◌, not, ◌&&◌, fold, nat_lt, option_map, option_and_then}, List.{list_all, before_first, after_first}, Option.option_map_or, Str.bytes_eq}
use Rattle.{assuan_text.specs.Rows.found, clap.specs.{Lexer.{short_of_rest, long_of, long_of_rest, short_of, strip_byte, name_and_value}, Kinds.{Kinds, or_else}}}
use Rattle.clap.specs.{Faults.{bundle_fault, flag_word_fault, positional_fault, stray_fault, walk_fault, turn_fault, step_fault, settle_fault, use_fault, react_fault, long_fault}, Simple.{new_shape, Shape}}
use Rattle.clap.specs.Walk.{Step, next as goes_on, trailing, long_or_other, short_or_plain, plain_word, option_word, most_values, used_by_id, Held, Row, Rule, Walk, Waiting, idle, option, positional, after_flag, after_step, long_met}
use Rattle.clap.specs.Walk.{walked, settled, reacted, has_row, arg_by_long, arg_by_id}
use Rattle.agent_top.specs.{Options.{has_its_value, row_for, is_flag, is_plain}, Settings.{Setting, settings, is_set, alone, is_value_of, holds_equals, is_equals, begins_with_dash}, declared.words.forms.Form.Form}
use Rattle.agent_top.{specs.declared.words.forms.Form.TheVariants.{Flag, Path, Number}, proofs.OptionRows.{built, found_holds, same_name, own_name, has_given}}
use Rattle.agent_top.proofs.OptionPieces.{none, none_both, no_kinds, and_true, and_false, from_not, dashed, by_long, by_id, no_index, uses_flag, uses_value, uses_no_value, used_flag, used_value, WordIs, has_dash, bare_from, word_is}
use Rattle.agent_top.proofs.OptionPieces.{before_more, after_more, before_all, before_bare, dash, bare}

-- ---- the walk over a command with these options

abbrev pub shape : List Rule → Shape
shape rules = record (new_shape (codes "agent")) {
  rules = rules;
  no_binary_name = true;
  disable_help_flag = true;
  disable_version_flag = true;
  disable_help_subcommand = true;
  is_built = true;
}

abbrev pub from : Held → Waiting → Walk
from held waiting = record { held = held; waiting = waiting; position = 1; is_trailing = false; stopped = None }

module _ (rows : List (List ℕ × Form)) (dashes : list_all (λ row. dashed row.0) rows ≡ true) where
  abbrev rules : List Rule
  rules = map built rows

  abbrev pub readable_in : Setting → Bool
  readable_in setting = option_map_or (λ form. has_its_value form setting.1) (found setting.0 rows) false

  -- the settings are readable after those that are done
  unfoldable pub reads : List Setting → List Setting → Bool
  reads done [] = true
  reads done (setting ∷ more) = (readable_in setting && not (is_set setting.0 done)) && reads (done ++ setting ∷ []) more

  -- the faults of the rest of the walk, and of what is pending at its end
  abbrev pub rest_fault : Walk → List (List ℕ) → Kinds
  rest_fault w words = or_else (walk_fault (shape rules) [] w words) (settle_fault rules false (fold (walked rules []) w words).held)

  abbrev pub end_rows : Walk → List (List ℕ) → List Row
  end_rows w words = (settled rules (fold (walked rules []) w words).held).rows

  pub record Ends (w : Walk) (words : List (List ℕ)) (good : Bool) (given : List Setting) : Type 0 where
    pub fault : none (rest_fault w words) ≡ good
    pub rows_are : good ≡ true → end_rows w words ≡ map row_for given

  -- what is held, where these settings are done; the last may still be pending, and be given twice
  pub record At (h : Held) (done : List Setting) (okay : Bool) : Type 0 where
    pub settles : none (settle_fault rules false h) ≡ okay
    pub rows_are : okay ≡ true → (settled rules h).rows ≡ map row_for done

  fails : (w : Walk) (word : List ℕ) (words : List (List ℕ)) (good : Bool) (given : List Setting)
      → none (turn_fault (shape rules) [] w word) ≡ false → good ≡ false → Ends w (word ∷ words) good given
  unfolding walk_fault
  fails w word words good given bad is =
      let turn = turn_fault (shape rules) [] w word in
      let more = walk_fault (shape rules) [] (walked rules [] w word) words in
      let settle = settle_fault rules false (fold (walked rules []) w (word ∷ words)).held in
      record {
        fault = none_both (or_else turn more) settle ∙ ap (λ b. b && none settle) (none_both turn more ∙ ap (λ b. b && none more) bad) ∙ sym is;
        rows_are = λ good_is. absurd (true≢false (sym good_is ∙ is));
      }

  goes : (w next : Walk) (word : List ℕ) (words : List (List ℕ)) (good : Bool) (given : List Setting)
      → none (turn_fault (shape rules) [] w word) ≡ true → walked rules [] w word ≡ next → Ends next words good given → Ends w (word ∷ words) good given
  unfolding walk_fault
  goes w next word words good given fine is ends =
      let turn = no_kinds (turn_fault (shape rules) [] w word) fine in
      record {
        fault = ap (λ (k : Kinds). none (or_else (or_else k (walk_fault (shape rules) [] (walked rules [] w word) words)) (settle_fault rules false (fold (walked rules []) (walked rules [] w word) words).held))) turn
            ∙ ap (λ (v : Walk). none (rest_fault v words)) is ∙ ends.fault;
        rows_are = λ good_is. ap (λ (v : Walk). end_rows v words) is ∙ ends.rows_are good_is;
      }

  as_good : (w : Walk) (words : List (List ℕ)) (good other : Bool) (given others : List Setting) → good ≡ other → (other ≡ true → given ≡ others) → Ends w words good given → Ends w words other others
  as_good w words good other given others same lists ends = record {
    fault = ends.fault ∙ same;
    rows_are = λ is. ends.rows_are (same ∙ is) ∙ ap (map row_for) (lists is);
  }

  -- ---- a word with a long name

  module _ (byte : ℕ) (body : List ℕ) where
    abbrev this_word : List ℕ
    this_word = 45 ∷ 45 ∷ byte ∷ body

    abbrev these : List ℕ × Option (List ℕ)
    these = name_and_value (byte ∷ body)

    abbrev this_name : List ℕ
    this_name = 45 ∷ 45 ∷ these.0

    by_name : arg_by_long rules these.0 ≡ option_map (λ form. built (this_name, form)) (found this_name rows)
    by_name = by_long these.0 rows dashes

    abbrev turn_with : Waiting → Held → Option Rule → Option (List ℕ) → Kinds
    turn_with waiting h arg value =
        or_else (long_fault rules false arg value h)
        (step_fault (shape rules) 1 (after_flag rules waiting this_word (long_met rules arg value h).0 (long_met rules arg value h).1).0
        (after_flag rules waiting this_word (long_met rules arg value h).0 (long_met rules arg value h).1).1)

    abbrev walked_with : Waiting → Held → Option Rule → Option (List ℕ) → Walk
    walked_with waiting h arg value =
        after_step rules this_word (from h waiting) (after_flag rules waiting this_word (long_met rules arg value h).0 (long_met rules arg value h).1).0
        (after_flag rules waiting this_word (long_met rules arg value h).0 (long_met rules arg value h).1).1

    turn_is : (waiting : Waiting) (h : Held) → turn_fault (shape rules) [] (from h waiting) this_word ≡ turn_with waiting h (arg_by_long rules these.0) these.1
    turn_is idle h = refl
    turn_is (option id) h = refl
    turn_is positional h = refl

    walked_is : (waiting : Waiting) (h : Held) → walked rules [] (from h waiting) this_word ≡ walked_with waiting h (arg_by_long rules these.0) these.1
    unfolding walked
    walked_is idle h = refl
    walked_is (option id) h = refl
    walked_is positional h = refl

    -- the turn and the walk after it, by what the option is
    turn_at : (waiting : Waiting) (h : Held) (o : Option Form) (value : Option (List ℕ)) → found this_name rows ≡ o → these.1 ≡ value
        → turn_fault (shape rules) [] (from h waiting) this_word ≡ turn_with waiting h (option_map (λ form. built (this_name, form)) o) value
    turn_at waiting h o value is given = turn_is waiting h
        ∙ ap₂ (λ arg v. turn_with waiting h arg v) (by_name ∙ ap (option_map (λ form. built (this_name, form))) is) given

    walked_at : (waiting : Waiting) (h : Held) (o : Option Form) (value : Option (List ℕ)) → found this_name rows ≡ o → these.1 ≡ value
        → walked rules [] (from h waiting) this_word ≡ walked_with waiting h (option_map (λ form. built (this_name, form)) o) value
    walked_at waiting h o value is given = walked_is waiting h
        ∙ ap₂ (λ arg v. walked_with waiting h arg v) (by_name ∙ ap (option_map (λ form. built (this_name, form))) is) given

    turn_none : (waiting : Waiting) (h : Held) (value : Option (List ℕ)) → none (turn_with waiting h None value) ≡ false
    turn_none waiting h value = refl

    turn_flag_value : (waiting : Waiting) (h : Held) (value : List ℕ) → none (turn_with waiting h (Some (built (this_name, Flag))) (Some value)) ≡ false
    turn_flag_value waiting h value = refl

    turn_flag : (waiting : Waiting) (h : Held) → none (turn_with waiting h (Some (built (this_name, Flag))) None) ≡ (none (settle_fault rules false h) && not (has_row this_name (settled rules h).rows))
    turn_flag waiting h =
        none_both (react_fault rules false (built (this_name, Flag)) [] h) [] ∙ ap (λ b. b && none []) (none_both (settle_fault rules false h) (use_fault false (built (this_name, Flag)) [] (settled rules h).rows))
        ∙ and_true _ ∙ ap (λ b. none (settle_fault rules false h) && b) (uses_flag this_name (settled rules h).rows)

    turn_value : (waiting : Waiting) (h : Held) (form : Form) (value : List ℕ) → is_flag form ≡ false
        → none (turn_with waiting h (Some (built (this_name, form))) (Some value)) ≡ (none (settle_fault rules false h) && not (has_row this_name (settled rules h).rows))
    turn_value waiting h Flag value flag = absurd (true≢false flag)
    turn_value waiting h Path value flag =
        none_both (react_fault rules false (built (this_name, Path)) (value ∷ []) h) [] ∙ ap (λ b. b && none []) (none_both (settle_fault rules false h) (use_fault false (built (this_name, Path)) (value ∷ []) (settled rules h).rows))
        ∙ and_true _ ∙ ap (λ b. none (settle_fault rules false h) && b) (uses_value this_name value Path (settled rules h).rows refl)
    turn_value waiting h (Number x y) value flag =
        none_both (react_fault rules false (built (this_name, Number x y)) (value ∷ []) h) []
        ∙ ap (λ b. b && none []) (none_both (settle_fault rules false h) (use_fault false (built (this_name, Number x y)) (value ∷ []) (settled rules h).rows))
        ∙ and_true _ ∙ ap (λ b. none (settle_fault rules false h) && b) (uses_value this_name value (Number x y) (settled rules h).rows refl)

    turn_waits : (waiting : Waiting) (h : Held) (form : Form) → is_flag form ≡ false
        → none (turn_with waiting h (Some (built (this_name, form))) None) ≡ none (settle_fault rules false h)
    turn_waits waiting h Flag flag = absurd (true≢false flag)
    turn_waits waiting h Path flag = none_both (settle_fault rules false h) [] ∙ and_true _
    turn_waits waiting h (Number x y) flag = none_both (settle_fault rules false h) [] ∙ and_true _

    -- the word doesn't pass where what is pending doesn't
    dash_fails : (waiting : Waiting) (h : Held) → none (settle_fault rules false h) ≡ false → none (turn_fault (shape rules) [] (from h waiting) this_word) ≡ false
    dash_fails waiting h bad = go (found this_name rows) these.1 refl refl
      where
        value_fails : (form : Form) (value : Option (List ℕ)) → none (turn_with waiting h (Some (built (this_name, form))) value) ≡ false
        value_fails Flag (Some value) = turn_flag_value waiting h value
        value_fails Flag None = turn_flag waiting h ∙ ap (λ b. b && not (has_row this_name (settled rules h).rows)) bad
        value_fails Path (Some value) = turn_value waiting h Path value refl ∙ ap (λ b. b && not (has_row this_name (settled rules h).rows)) bad
        value_fails Path None = turn_waits waiting h Path refl ∙ bad
        value_fails (Number x y) (Some value) = turn_value waiting h (Number x y) value refl ∙ ap (λ b. b && not (has_row this_name (settled rules h).rows)) bad
        value_fails (Number x y) None = turn_waits waiting h (Number x y) refl ∙ bad

        go : (o : Option Form) (value : Option (List ℕ)) → found this_name rows ≡ o → these.1 ≡ value → none (turn_fault (shape rules) [] (from h waiting) this_word) ≡ false
        go None value is given = ap none (turn_at waiting h None value is given) ∙ turn_none waiting h value
        go (Some form) value is given = ap none (turn_at waiting h (Some form) value is given) ∙ value_fails form value

    -- how the word is read as a setting

    alone_at : alone this_word ≡ (this_name, these.1)
    alone_at = go (holds_equals (byte ∷ body)) refl
      where
        before : before_first is_equals this_word ≡ this_name
        before = before_more 45 (45 ∷ byte ∷ body) refl ∙ ap (λ (w : List ℕ). 45 ∷ w) (before_more 45 (byte ∷ body) refl)

        after : after_first is_equals this_word ≡ after_first is_equals (byte ∷ body)
        after = after_more 45 (45 ∷ byte ∷ body) refl ∙ after_more 45 (byte ∷ body) refl

        go : (b : Bool) → holds_equals (byte ∷ body) ≡ b → alone this_word ≡ (this_name, these.1)
        go true e =
            ap (λ b. cond b (before_first is_equals this_word, Some (after_first is_equals this_word)) (this_word, None)) e
            ∙ ap₂ (λ (n a : List ℕ). (n, Some a)) before after
            ∙ ap (λ b. (this_name, cond b (Some (after_first is_equals (byte ∷ body))) None)) (sym e)
        go false e =
            ap (λ b. cond b (before_first is_equals this_word, Some (after_first is_equals this_word)) (this_word, None)) e
            ∙ ap (λ (w : List ℕ). (45 ∷ 45 ∷ w, None)) (sym (before_all (byte ∷ body) e))
            ∙ ap (λ b. (this_name, cond b (Some (after_first is_equals (byte ∷ body))) None)) (sym e)

    holds_at : holds_equals this_word ≡ is_some these.1
    holds_at = go (holds_equals (byte ∷ body))
      where
        go : (b : Bool) → b ≡ is_some (cond b (Some (after_first is_equals (byte ∷ body))) None)
        go true = refl
        go false = refl

    name_at : these.1 ≡ None → this_name ≡ this_word
    name_at none_is = ap (λ (w : List ℕ). 45 ∷ 45 ∷ w) (before_all (byte ∷ body) (holds_at ∙ ap is_some none_is))

    -- a word that is a setting by itself
    settings_alone : (rest : List (List ℕ)) → ((next : List ℕ) (more : List (List ℕ)) → rest ≡ next ∷ more → is_value_of this_word next ≡ false)
        → settings (this_word ∷ rest) ≡ (this_name, these.1) ∷ settings rest
    settings_alone [] no_value = ap (λ (one : Setting). one ∷ []) alone_at
    settings_alone (next ∷ more) no_value =
        ap (λ b. cond b ((this_word, Some next) ∷ settings more) (alone this_word ∷ settings (next ∷ more))) (no_value next more refl)
        ∙ ap (λ (one : Setting). one ∷ settings (next ∷ more)) alone_at

    settings_joined : (rest : List (List ℕ)) (value : List ℕ) → these.1 ≡ Some value → settings (this_word ∷ rest) ≡ (this_name, Some value) ∷ settings rest
    settings_joined rest value is =
        settings_alone rest (λ next more same. ap (λ b. not b && not (begins_with_dash next)) (holds_at ∙ ap is_some is))
        ∙ ap (λ (v : Option (List ℕ)). (this_name, v) ∷ settings rest) is

    settings_apart : (next : List ℕ) (more : List (List ℕ)) → these.1 ≡ None → begins_with_dash next ≡ false
        → settings (this_word ∷ next ∷ more) ≡ (this_name, Some next) ∷ settings more
    settings_apart next more is bare_next =
        ap₂ (λ b d. cond (not b && not d) ((this_word, Some next) ∷ settings more) (alone this_word ∷ settings (next ∷ more))) (holds_at ∙ ap is_some is) bare_next
        ∙ ap (λ (n : List ℕ). (n, Some next) ∷ settings more) (sym (name_at is))

    settings_bare : (rest : List (List ℕ)) → these.1 ≡ None → ((next : List ℕ) (more : List (List ℕ)) → rest ≡ next ∷ more → begins_with_dash next ≡ true)
        → settings (this_word ∷ rest) ≡ (this_name, None) ∷ settings rest
    settings_bare rest is dash_next =
        settings_alone rest (λ next more same. ap (λ d. not (holds_equals this_word) && not d) (dash_next next more same) ∙ and_false (not (holds_equals this_word)))
        ∙ ap (λ (v : Option (List ℕ)). (this_name, v) ∷ settings rest) is

  -- ---- words without a dash

  not_dashes : (word : List ℕ) → strip_byte 45 word ≡ None → bytes_eq word (45 ∷ 45 ∷ []) ≡ false
  not_dashes word bare_is = go (bytes_eq word (45 ∷ 45 ∷ [])) refl
    where
      go : (b : Bool) → bytes_eq word (45 ∷ 45 ∷ []) ≡ b → b ≡ false
      go true e =
          let dashed_is : Some (45 ∷ []) ≡ None = ap (strip_byte 45) (sym (same_name word (45 ∷ 45 ∷ []) e)) ∙ bare_is in
          absurd (cc dashed_is)
      go false e = refl

  no_long : (word : List ℕ) → strip_byte 45 word ≡ None → long_of word ≡ None
  no_long word bare_is = ap (λ o. option_and_then long_of_rest (option_and_then (strip_byte 45) o)) bare_is

  no_short : (word : List ℕ) → strip_byte 45 word ≡ None → short_of word ≡ None
  no_short word bare_is = ap (option_and_then short_of_rest) bare_is

  met_by : (waiting : Waiting) (word : List ℕ) (h : Held) → strip_byte 45 word ≡ None
      → (if bytes_eq word (45 ∷ 45 ∷ []) then (h, trailing 1) else long_or_other rules waiting word (long_of word) h) ≡ plain_word rules waiting word h
  met_by waiting word h bare_is =
      ap (λ b. if b then (h, trailing 1) else long_or_other rules waiting word (long_of word) h) (not_dashes word bare_is)
      ∙ ap (λ o. long_or_other rules waiting word o h) (no_long word bare_is) ∙ ap (λ o. short_or_plain rules waiting word o h) (no_short word bare_is)

  faults_by : (word : List ℕ) (h : Held) → strip_byte 45 word ≡ None
      → (if bytes_eq word (45 ∷ 45 ∷ []) then [] else flag_word_fault rules false (long_of word) word h) ≡ []
  faults_by word h bare_is =
      ap (λ b. if b then [] else flag_word_fault rules false (long_of word) word h) (not_dashes word bare_is)
      ∙ ap (λ o. flag_word_fault rules false o word h) (no_long word bare_is) ∙ ap (λ o. option_map_or (λ flags. bundle_fault rules false flags h) o []) (no_short word bare_is)

  -- where nothing waits, it is no word of the command
  bare_stray : (word : List ℕ) (h : Held) → strip_byte 45 word ≡ None → none (turn_fault (shape rules) [] (from h idle) word) ≡ false
  bare_stray word h bare_is =
      ap₂ (λ (k : Kinds) (m : Held × Step). none (or_else k (step_fault (shape rules) 1 m.0 m.1))) (faults_by word h bare_is) (met_by idle word h bare_is)
      ∙ ap (λ o. none (option_map_or (λ a. positional_fault rules false a h) o (stray_fault (shape rules)))) (no_index rows 1)

  -- and where an option waits, it is the value of that option
  abbrev pending_name : List ℕ → Held → Held
  pending_name name h = record (settled rules h) { pending = Some (name, []) }

  abbrev pending_value : List ℕ → List ℕ → Held → Held
  pending_value name value h = record (settled rules h) { pending = Some (name, value ∷ []) }

  bare_taken : (name word : List ℕ) (h : Held) → strip_byte 45 word ≡ None → none (turn_fault (shape rules) [] (from (pending_name name h) (option name)) word) ≡ true
  bare_taken name word h bare_is =
      ap₂ (λ (k : Kinds) (m : Held × Step). none (or_else k (step_fault (shape rules) 1 m.0 m.1))) (faults_by word (pending_name name h) bare_is) (met_by (option name) word (pending_name name h) bare_is)

  by_name_id : (name : List ℕ) (form : Form) → found name rows ≡ Some form → arg_by_id rules name ≡ Some (built (name, form))
  by_name_id name form is = by_id name rows ∙ ap (option_map (λ f. built (name, f))) is

  one_value : (name : List ℕ) (form : Form) → is_flag form ≡ false
      → (if nat_lt (if bytes_eq name name then 1 else 0) (most_values (built (name, form))) then option name else idle) ≡ idle
  one_value name Flag flag = absurd (true≢false flag)
  one_value name Path flag = ap (λ (b : Bool). if nat_lt (if b then 1 else 0) 1 then option name else idle) (own_name name)
  one_value name (Number x y) flag = ap (λ (b : Bool). if nat_lt (if b then 1 else 0) 1 then option name else idle) (own_name name)

  bare_walked : (name word : List ℕ) (form : Form) (h : Held) → strip_byte 45 word ≡ None → found name rows ≡ Some form → is_flag form ≡ false
      → walked rules [] (from (pending_name name h) (option name)) word ≡ from (pending_value name word h) idle
  unfolding walked
  bare_walked name word form h bare_is is flag =
      let w = from (pending_name name h) (option name) in
      ap (λ (m : Held × Step). after_step rules word w m.0 m.1) (met_by (option name) word (pending_name name h) bare_is)
      ∙ ap (λ o. after_step rules word w (option_word o name word (pending_name name h)).0 (goes_on (option_word o name word (pending_name name h)).1)) (by_name_id name form is)
      ∙ ap (λ (v : Waiting). from (pending_value name word h) v) (one_value name form flag)

  settles_name : (name : List ℕ) (form : Form) (h : Held) → found name rows ≡ Some form → is_flag form ≡ false → none (settle_fault rules false (pending_name name h)) ≡ false
  settles_name name form h is flag =
      ap (λ o. none (option_map_or (λ a. use_fault false a [] (settled rules h).rows) o [])) (by_name_id name form is) ∙ uses_no_value name form (settled rules h).rows flag

  settles_value : (name value : List ℕ) (form : Form) (h : Held) → found name rows ≡ Some form → is_flag form ≡ false
      → none (settle_fault rules false (pending_value name value h)) ≡ not (has_row name (settled rules h).rows)
  settles_value name value form h is flag =
      ap (λ o. none (option_map_or (λ a. use_fault false a (value ∷ []) (settled rules h).rows) o [])) (by_name_id name form is) ∙ uses_value name value form (settled rules h).rows flag

  settled_value : (name value : List ℕ) (form : Form) (h : Held) → found name rows ≡ Some form → is_flag form ≡ false → has_row name (settled rules h).rows ≡ false
      → (settled rules (pending_value name value h)).rows ≡ (settled rules h).rows ++ row_for (name, Some value) ∷ []
  settled_value name value form h is flag new =
      ap (λ o. used_by_id o (value ∷ []) (settled rules h).rows) (by_name_id name form is) ∙ used_value name value form (settled rules h).rows flag new

  -- ---- settings that aren't readable

  pub known_dashed : (name : List ℕ) (form : Form) → found name rows ≡ Some form → dashed name ≡ true
  known_dashed name form is = found_holds (λ row. dashed row.0) rows name form dashes is

  bare_unknown : (name : List ℕ) → strip_byte 45 name ≡ None → found name rows ≡ None
  bare_unknown name bare_is = go (found name rows) refl
    where
      go : (o : Option Form) → found name rows ≡ o → o ≡ None
      go None is = refl
      go (Some form) is = absurd (true≢false (sym (known_dashed name form is) ∙ ap (λ o. is_some (option_and_then (strip_byte 45) o)) bare_is))

  abbrev Unread : List (List ℕ) → Type 0
  Unread words = (done : List Setting) → reads done (settings words) ≡ false

  unread_head : (done : List Setting) (setting : Setting) (more : List Setting) → readable_in setting ≡ false → reads done (setting ∷ more) ≡ false
  unfolding reads
  unread_head done setting more bad = ap (λ b. (b && not (is_set setting.0 done)) && reads (done ++ setting ∷ []) more) bad

  set_head : (done : List Setting) (setting : Setting) (more : List Setting) → is_set setting.0 done ≡ true → reads done (setting ∷ more) ≡ false
  unfolding reads
  set_head done setting more set =
      ap (λ b. (readable_in setting && not b) && reads (done ++ setting ∷ []) more) set ∙ ap (λ b. b && reads (done ++ setting ∷ []) more) (and_false (readable_in setting))

  read_head : (done : List Setting) (setting : Setting) (more : List Setting) → readable_in setting ≡ true → is_set setting.0 done ≡ false
      → reads done (setting ∷ more) ≡ reads (done ++ setting ∷ []) more
  unfolding reads
  read_head done setting more good new = ap₂ (λ a b. (a && not b) && reads (done ++ setting ∷ []) more) good new

  unknown_setting : (setting : Setting) → found setting.0 rows ≡ None → readable_in setting ≡ false
  unknown_setting setting is = ap (λ o. option_map_or (λ form. has_its_value form setting.1) o false) is

  bare_alone : (word : List ℕ) → strip_byte 45 word ≡ None → strip_byte 45 (alone word).0 ≡ None
  bare_alone word bare_is = go (holds_equals word)
    where
      go : (b : Bool) → strip_byte 45 (cond {A = Setting} b (before_first is_equals word, Some (after_first is_equals word)) (word, None)).0 ≡ None
      go true = before_bare word bare_is
      go false = bare_is

  unread_bare : (word : List ℕ) (rest : List (List ℕ)) → strip_byte 45 word ≡ None → Unread (word ∷ rest)
  unread_bare word [] bare_is done = unread_head done (alone word) [] (unknown_setting (alone word) (bare_unknown (alone word).0 (bare_alone word bare_is)))
  unread_bare word (next_word ∷ more) bare_is done = go (is_value_of word next_word)
    where
      go : (b : Bool) → reads done (cond b ((word, Some next_word) ∷ settings more) (alone word ∷ settings (next_word ∷ more))) ≡ false
      go true = unread_head done (word, Some next_word) (settings more) (unknown_setting (word, Some next_word) (bare_unknown word bare_is))
      go false = unread_head done (alone word) (settings (next_word ∷ more)) (unknown_setting (alone word) (bare_unknown (alone word).0 (bare_alone word bare_is)))

  readable_at : (name : List ℕ) (value : Option (List ℕ)) (form : Form) → found name rows ≡ Some form → readable_in (name, value) ≡ has_its_value form value
  readable_at name value form is = ap (λ o. option_map_or (λ f. has_its_value f value) o false) is

  valued : (form : Form) (value : List ℕ) → is_flag form ≡ false → has_its_value form (Some value) ≡ true
  valued Flag value flag = absurd (true≢false flag)
  valued Path value flag = refl
  valued (Number x y) value flag = refl

  unvalued : (form : Form) → is_flag form ≡ false → has_its_value form None ≡ false
  unvalued Flag flag = absurd (true≢false flag)
  unvalued Path flag = refl
  unvalued (Number x y) flag = refl

  -- ---- the whole walk

  abbrev Later : List (List ℕ) → Type 0
  Later words = (h : Held) (done : List Setting) (okay : Bool) → At h done okay → Ends (from h idle) words (okay && reads done (settings words)) (done ++ settings words)

  has_done : (name : List ℕ) (h : Held) (done : List Setting) → At h done true → has_row name (settled rules h).rows ≡ is_set name done
  has_done name h done at = ap (has_row name) (at.rows_are refl) ∙ has_given name done

  more_rows : (h : Held) (done : List Setting) (setting : Setting) (after : List Row) → At h done true
      → after ≡ (settled rules h).rows ++ row_for setting ∷ [] → after ≡ map row_for (done ++ setting ∷ [])
  more_rows h done setting after at is = is ∙ ap (λ (rs : List Row). rs ++ row_for setting ∷ []) (at.rows_are refl) ∙ sym (map-append row_for done (setting ∷ []))

  at_flag : (name : List ℕ) (h : Held) (done : List Setting) → At h done true → is_set name done ≡ false → At (reacted rules (built (name, Flag)) [] h) (done ++ (name, None) ∷ []) true
  at_flag name h done at new = record {
    settles = refl;
    rows_are = λ _. more_rows h done (name, None) _ at (used_flag name (settled rules h).rows (has_done name h done at ∙ new));
  }

  at_value : (name value : List ℕ) (form : Form) (h : Held) (done : List Setting) → is_flag form ≡ false → At h done true → is_set name done ≡ false
      → At (reacted rules (built (name, form)) (value ∷ []) h) (done ++ (name, Some value) ∷ []) true
  at_value name value form h done flag at new = record {
    settles = refl;
    rows_are = λ _. more_rows h done (name, Some value) _ at (used_value name value form (settled rules h).rows flag (has_done name h done at ∙ new));
  }

  at_pending : (name value : List ℕ) (form : Form) (h : Held) (done : List Setting) → found name rows ≡ Some form → is_flag form ≡ false → At h done true
      → At (pending_value name value h) (done ++ (name, Some value) ∷ []) (not (is_set name done))
  at_pending name value form h done is flag at = record {
    settles = settles_value name value form h is flag ∙ ap not (has_done name h done at);
    rows_are = λ new. more_rows h done (name, Some value) _ at (settled_value name value form h is flag (has_done name h done at ∙ from_not (is_set name done) new));
  }

  -- one more setting is done
  onward : (w : Walk) (words : List (List ℕ)) (done given : List Setting) (setting : Setting) (more : List Setting) (okay : Bool)
      → given ≡ setting ∷ more → readable_in setting ≡ true → okay ≡ not (is_set setting.0 done)
      → Ends w words (okay && reads (done ++ setting ∷ []) more) ((done ++ setting ∷ []) ++ more) → Ends w words (true && reads done given) (done ++ given)
  unfolding reads
  onward w words done given setting more okay is good okay_is ends =
      as_good w words _ _ _ _
      (ap (λ b. b && reads (done ++ setting ∷ []) more) okay_is ∙ ap (λ b. (b && not (is_set setting.0 done)) && reads (done ++ setting ∷ []) more) (sym good) ∙ ap (reads done) (sym is))
      (λ _. append_assoc done (setting ∷ []) more ∙ ap (λ (g : List Setting). done ++ g) (sym is)) ends

  module _ (byte : ℕ) (body : List ℕ) where
    abbrev long_word : List ℕ
    long_word = this_word byte body

    abbrev long_name : List ℕ
    long_name = this_name byte body

    abbrev value_of_it : Option (List ℕ)
    value_of_it = (these byte body).1

    abbrev Leads : List (List ℕ) → Type 0
    Leads rest = (h : Held) (done : List Setting) → At h done true → Ends (from h idle) (long_word ∷ rest) (true && reads done (settings (long_word ∷ rest))) (done ++ settings (long_word ∷ rest))

    -- the first setting has its name
    first_setting : (rest : List (List ℕ)) → (value : Option (List ℕ)) × (more : List Setting) × (settings (long_word ∷ rest) ≡ (long_name, value) ∷ more)
    first_setting [] = (value_of_it, [], ap (λ (one : Setting). one ∷ []) (alone_at byte body))
    first_setting (after ∷ more) = go value_of_it refl (begins_with_dash after) refl
      where
        go : (o : Option (List ℕ)) → value_of_it ≡ o → (d : Bool) → begins_with_dash after ≡ d
            → (value : Option (List ℕ)) × (rest : List Setting) × (settings (long_word ∷ after ∷ more) ≡ (long_name, value) ∷ rest)
        go (Some value) is d dash_is = (Some value, settings (after ∷ more), settings_joined byte body (after ∷ more) value is)
        go None is false dash_is = (Some after, settings more, settings_apart byte body after more is dash_is)
        go None is true dash_is = (None, settings (after ∷ more), settings_bare byte body (after ∷ more) is (λ n m same. let heads : after ≡ n = cc same in ap begins_with_dash (sym heads) ∙ dash_is))

    -- the word doesn't pass
    stops : (rest : List (List ℕ)) (h : Held) (done : List Setting) → none (turn_fault (shape rules) [] (from h idle) long_word) ≡ false → reads done (settings (long_word ∷ rest)) ≡ false
        → Ends (from h idle) (long_word ∷ rest) (true && reads done (settings (long_word ∷ rest))) (done ++ settings (long_word ∷ rest))
    stops rest h done bad unread = fails (from h idle) long_word rest _ _ bad unread

    unread_set : (rest : List (List ℕ)) (done : List Setting) → is_set long_name done ≡ true → reads done (settings (long_word ∷ rest)) ≡ false
    unread_set rest done set =
        let first = first_setting rest in
        ap (reads done) first.2 ∙ set_head done (long_name, first.0) first.1 set

    unknown_word : (rest : List (List ℕ)) → found long_name rows ≡ None → Leads rest
    unknown_word rest is h done at =
        let first = first_setting rest in
        stops rest h done (ap none (turn_at byte body idle h None value_of_it is refl) ∙ turn_none byte body idle h value_of_it)
        (ap (reads done) first.2 ∙ unread_head done (long_name, first.0) first.1 (unknown_setting (long_name, first.0) is))

    flag_value : (rest : List (List ℕ)) (value : List ℕ) → found long_name rows ≡ Some Flag → value_of_it ≡ Some value → Leads rest
    flag_value rest value is given h done at =
        stops rest h done (ap none (turn_at byte body idle h (Some Flag) (Some value) is given) ∙ turn_flag_value byte body idle h value)
        (ap (reads done) (settings_joined byte body rest value given) ∙ unread_head done (long_name, Some value) (settings rest) (readable_at long_name (Some value) Flag is))

    used_fault : (h : Held) (done : List Setting) (set : Bool) → At h done true → is_set long_name done ≡ set
        → (none (settle_fault rules false h) && not (has_row long_name (settled rules h).rows)) ≡ not set
    used_fault h done set at is = ap₂ (λ a b. a && not b) at.settles (has_done long_name h done at ∙ is)

    joined_value : (rest : List (List ℕ)) (value : List ℕ) (form : Form) → Later rest → found long_name rows ≡ Some form → is_flag form ≡ false → value_of_it ≡ Some value → Leads rest
    joined_value rest value form later is flag given h done at = go (is_set long_name done) refl
      where
        turn : (set : Bool) → is_set long_name done ≡ set → none (turn_fault (shape rules) [] (from h idle) long_word) ≡ not set
        turn set set_is = ap none (turn_at byte body idle h (Some form) (Some value) is given) ∙ turn_value byte body idle h form value flag ∙ used_fault h done set at set_is

        walks : (f : Form) → is_flag f ≡ false → walked_with byte body idle h (Some (built (long_name, f))) (Some value) ≡ from (reacted rules (built (long_name, f)) (value ∷ []) h) idle
        walks Flag plain = absurd (true≢false plain)
        walks Path plain = refl
        walks (Number x y) plain = refl

        go : (set : Bool) → is_set long_name done ≡ set → Ends (from h idle) (long_word ∷ rest) (true && reads done (settings (long_word ∷ rest))) (done ++ settings (long_word ∷ rest))
        go true set = stops rest h done (turn true set) (unread_set rest done set)
        go false new =
            goes (from h idle) (from (reacted rules (built (long_name, form)) (value ∷ []) h) idle) long_word rest _ _ (turn false new)
            (walked_at byte body idle h (Some form) (Some value) is given ∙ walks form flag)
            (onward _ rest done (settings (long_word ∷ rest)) (long_name, Some value) (settings rest) true (settings_joined byte body rest value given)
            (readable_at long_name (Some value) form is ∙ valued form value flag) (ap not (sym new))
            (later (reacted rules (built (long_name, form)) (value ∷ []) h) (done ++ (long_name, Some value) ∷ []) true (at_value long_name value form h done flag at new)))

    -- a flag; a word without a dash behind it is no word of the command
    bare_flag : (rest : List (List ℕ)) → Later rest → ((after : List ℕ) (more : List (List ℕ)) → rest ≡ after ∷ more → begins_with_dash after ≡ false → Unread rest)
        → found long_name rows ≡ Some Flag → value_of_it ≡ None → Leads rest
    bare_flag rest later unread is given h done at = go (is_set long_name done) refl
      where
        turn : (set : Bool) → is_set long_name done ≡ set → none (turn_fault (shape rules) [] (from h idle) long_word) ≡ not set
        turn set set_is = ap none (turn_at byte body idle h (Some Flag) None is given) ∙ turn_flag byte body idle h ∙ used_fault h done set at set_is

        readable : readable_in (long_name, None) ≡ true
        readable = readable_at long_name None Flag is

        ended : is_set long_name done ≡ false → Ends (from (reacted rules (built (long_name, Flag)) [] h) idle) rest (true && reads (done ++ (long_name, None) ∷ []) (settings rest)) ((done ++ (long_name, None) ∷ []) ++ settings rest)
        ended new = later (reacted rules (built (long_name, Flag)) [] h) (done ++ (long_name, None) ∷ []) true (at_flag long_name h done at new)

        by_rest : is_set long_name done ≡ false → (words : List (List ℕ)) → rest ≡ words
            → Ends (from (reacted rules (built (long_name, Flag)) [] h) idle) rest (true && reads done (settings (long_word ∷ rest))) (done ++ settings (long_word ∷ rest))
        by_rest new [] same =
            onward _ rest done (settings (long_word ∷ rest)) (long_name, None) (settings rest) true
            (settings_bare byte body rest given (λ n m is. absurd (cc (same, is)))) readable (ap not (sym new)) (ended new)
        by_rest new (after ∷ more) same = by_dash (begins_with_dash after) refl
          where
            by_dash : (d : Bool) → begins_with_dash after ≡ d → Ends (from (reacted rules (built (long_name, Flag)) [] h) idle) rest (true && reads done (settings (long_word ∷ rest))) (done ++ settings (long_word ∷ rest))
            by_dash true dash_is =
                onward _ rest done (settings (long_word ∷ rest)) (long_name, None) (settings rest) true
                (settings_bare byte body rest given (λ n m is. let heads : after ≡ n = cc (same, is) in ap begins_with_dash (sym heads) ∙ dash_is)) readable (ap not (sym new)) (ended new)
            by_dash false dash_is =
                let unread_here : reads done (settings (long_word ∷ rest)) ≡ false =
                ap (λ (w : List (List ℕ)). reads done (settings (long_word ∷ w))) same ∙ ap (reads done) (settings_apart byte body after more given dash_is)
                ∙ unread_head done (long_name, Some after) (settings more) (readable_at long_name (Some after) Flag is) in
                let gone : reads (done ++ (long_name, None) ∷ []) (settings rest) ≡ false = unread after more same dash_is (done ++ (long_name, None) ∷ []) in
                as_good _ rest _ _ _ _ (gone ∙ sym unread_here) (λ yes. absurd (true≢false (sym yes ∙ unread_here))) (ended new)

        go : (set : Bool) → is_set long_name done ≡ set → Ends (from h idle) (long_word ∷ rest) (true && reads done (settings (long_word ∷ rest))) (done ++ settings (long_word ∷ rest))
        go true set = stops rest h done (turn true set) (unread_set rest done set)
        go false new =
            goes (from h idle) (from (reacted rules (built (long_name, Flag)) [] h) idle) long_word rest _ _ (turn false new)
            (walked_at byte body idle h (Some Flag) None is given) (by_rest new rest refl)

    -- an option that waits for its value
    waits_then : (rest : List (List ℕ)) (form : Form) (h : Held) (done : List Setting) → found long_name rows ≡ Some form → is_flag form ≡ false → value_of_it ≡ None → At h done true
        → Ends (from (pending_name long_name h) (option long_name)) rest (true && reads done (settings (long_word ∷ rest))) (done ++ settings (long_word ∷ rest))
        → Ends (from h idle) (long_word ∷ rest) (true && reads done (settings (long_word ∷ rest))) (done ++ settings (long_word ∷ rest))
    waits_then rest form h done is flag given at ends =
        goes (from h idle) (from (pending_name long_name h) (option long_name)) long_word rest _ _
        (ap none (turn_at byte body idle h (Some form) None is given) ∙ turn_waits byte body idle h form flag ∙ at.settles)
        (walked_at byte body idle h (Some form) None is given ∙ walks form flag) ends
      where
        walks : (f : Form) → is_flag f ≡ false → walked_with byte body idle h (Some (built (long_name, f))) None ≡ from (pending_name long_name h) (option long_name)
        walks Flag plain = absurd (true≢false plain)
        walks Path plain = refl
        walks (Number x y) plain = refl

    unread_waiting : (rest : List (List ℕ)) (form : Form) (done : List Setting) → found long_name rows ≡ Some form → is_flag form ≡ false
        → settings (long_word ∷ rest) ≡ (long_name, None) ∷ settings rest → reads done (settings (long_word ∷ rest)) ≡ false
    unread_waiting rest form done is flag same =
        ap (reads done) same ∙ unread_head done (long_name, None) (settings rest) (readable_at long_name None form is ∙ unvalued form flag)

    waits_at_end : (form : Form) → found long_name rows ≡ Some form → is_flag form ≡ false → value_of_it ≡ None → Leads []
    unfolding walk_fault
    waits_at_end form is flag given h done at =
        let unread = unread_waiting [] form done is flag (settings_bare byte body [] given (λ n m same. absurd (cc same))) in
        waits_then [] form h done is flag given at (record {
          fault = settles_name long_name form h is flag ∙ sym unread;
          rows_are = λ good. absurd (true≢false (sym good ∙ unread));
        })

    waits_before : (after : List ℕ) (more : List (List ℕ)) (form : Form) → Later more → WordIs after → found long_name rows ≡ Some form → is_flag form ≡ false → value_of_it ≡ None
        → Leads (after ∷ more)
    waits_before after more form later (dash b bd) is flag given h done at =
        let unread = unread_waiting (after ∷ more) form done is flag (settings_bare byte body (after ∷ more) given
        (λ n m same. let heads : after ≡ n = cc same in ap begins_with_dash (sym heads))) in
        waits_then (after ∷ more) form h done is flag given at
        (fails (from (pending_name long_name h) (option long_name)) after more _ _ (dash_fails b bd (option long_name) (pending_name long_name h) (settles_name long_name form h is flag)) unread)
    waits_before after more form later (bare bare_is) is flag given h done at =
        waits_then (after ∷ more) form h done is flag given at
        (goes (from (pending_name long_name h) (option long_name)) (from (pending_value long_name after h) idle) after more _ _
        (bare_taken long_name after h bare_is) (bare_walked long_name after form h bare_is is flag)
        (onward _ more done (settings (long_word ∷ after ∷ more)) (long_name, Some after) (settings more) (not (is_set long_name done))
        (settings_apart byte body after more given (has_dash after bare_is)) (readable_at long_name (Some after) form is ∙ valued form after flag) refl
        (later (pending_value long_name after h) (done ++ (long_name, Some after) ∷ []) (not (is_set long_name done)) (at_pending long_name after form h done is flag at))))

    waits : (rest : List (List ℕ)) (form : Form) → ((after : List ℕ) (more : List (List ℕ)) → rest ≡ after ∷ more → Later more × WordIs after)
        → found long_name rows ≡ Some form → is_flag form ≡ false → value_of_it ≡ None → Leads rest
    waits [] form skip is flag given = waits_at_end form is flag given
    waits (after ∷ more) form skip is flag given =
        let behind = skip after more refl in
        waits_before after more form behind.0 behind.1 is flag given

    by_form : (rest : List (List ℕ)) → Later rest → ((after : List ℕ) (more : List (List ℕ)) → rest ≡ after ∷ more → Later more × WordIs after)
        → (o : Option Form) (value : Option (List ℕ)) → found long_name rows ≡ o → value_of_it ≡ value → Leads rest
    by_form rest later skip None value is given = unknown_word rest is
    by_form rest later skip (Some Flag) (Some value) is given = flag_value rest value is given
    by_form rest later skip (Some Flag) None is given =
        bare_flag rest later (λ after more same no_dash_is. subst Unread (sym same) (unread_bare after more (bare_from after (skip after more same).1 no_dash_is))) is given
    by_form rest later skip (Some Path) (Some value) is given = joined_value rest value Path later is refl given
    by_form rest later skip (Some Path) None is given = waits rest Path skip is refl given
    by_form rest later skip (Some (Number x y)) (Some value) is given = joined_value rest value (Number x y) later is refl given
    by_form rest later skip (Some (Number x y)) None is given = waits rest (Number x y) skip is refl given

    by_okay : (rest : List (List ℕ)) → Later rest → ((after : List ℕ) (more : List (List ℕ)) → rest ≡ after ∷ more → Later more × WordIs after) → Later (long_word ∷ rest)
    by_okay rest later skip h done true at = by_form rest later skip (found long_name rows) value_of_it refl refl h done at
    by_okay rest later skip h done false at = fails (from h idle) long_word rest _ _ (dash_fails byte body idle h at.settles) refl

  word_walk : (word : List ℕ) (rest : List (List ℕ)) → WordIs word → Later rest
      → ((after : List ℕ) (more : List (List ℕ)) → rest ≡ after ∷ more → Later more × WordIs after) → Later (word ∷ rest)
  word_walk word rest (dash byte body) later skip h done okay at = by_okay byte body rest later skip h done okay at
  word_walk word rest (bare bare_is) later skip h done okay at =
      fails (from h idle) word rest _ _ (bare_stray word h bare_is) (ap (λ b. okay && b) (unread_bare word rest bare_is done) ∙ and_false okay)

  pub walk_is : (words : List (List ℕ)) → list_all is_plain words ≡ true → Later words
  unfolding walk_fault reads
  walk_is [] plain h done okay at = record {
    fault = at.settles ∙ sym (and_true okay);
    rows_are = λ good. at.rows_are (sym (and_true okay) ∙ good) ∙ ap (map row_for) (sym (append-nil done));
  }
  walk_is (word ∷ []) plain h done okay at =
      word_walk word [] (word_is word (and_parts (is_plain word) true plain).0) (walk_is [] refl) (λ after more same. absurd (cc same)) h done okay at
  walk_is (word ∷ after ∷ more) plain h done okay at =
      let here = and_parts (is_plain word) (list_all is_plain (after ∷ more)) plain in
      let behind = and_parts (is_plain after) (list_all is_plain more) here.1 in
      let later : Later more = walk_is more behind.1 in
      word_walk word (after ∷ more) (word_is word here.0) (walk_is (after ∷ more) here.1)
      (λ a m same. let heads : after ≡ a = cc same in let tails : more ≡ m = cc same in (subst Later tails later, subst WordIs heads (word_is after behind.0))) h done okay at
