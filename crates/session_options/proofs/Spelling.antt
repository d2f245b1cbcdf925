-- How an option may be spelled.
use Rattle.std.proofs.{Common.{◌≡◌, ◌≢◌, ℕ, suc, ◌+◌, ◌&&◌, ◌||◌, Bool, true, false, cond, List, [], ◌∷◌, ◌++◌, length, take, drop, get_or, refl, ap, sym, ◌∙◌, arith}, lemmas.Bool.{or_parts, and_parts, ne_eqb}}
use Rattle.std.{proofs.Math.Seq.{take-append_seam, drop-append_seam}, specs.{Prelude.{◌==◌, not, codes}, Str.bytes_eq, List.{prefix_len, position_or_len, list_any, list_all}}}
use Rattle.assuan_text.specs.Blanks.{is_blank, without_blanks}
use Rattle.session_options.specs.{Text.{ends_name, without, name_of, after_name, option_value}, OptionValues.{OptionValues, applied_as, applied}}

-- what may come behind a name: nothing, or what begins with an end of names
abbrev pub ends : List ℕ → Bool
ends [] = true
ends (byte ∷ rest) = ends_name byte

-- the first end of a name comes right after it
name_ends : (name rest : List ℕ) → list_any ends_name name ≡ false → ends rest ≡ true → position_or_len ends_name (name ++ rest) ≡ length name
name_ends [] [] h e = refl
name_ends [] (byte ∷ rest) h e = ap (λ b. cond (not b) (1 + prefix_len (λ x. not (ends_name x)) rest) 0) e
name_ends (byte ∷ name) rest h e =
    let parts = or_parts (ends_name byte) (list_any ends_name name) h in
    let place = name_ends name rest parts.1 e in
    ap (λ b. cond (not b) (1 + prefix_len (λ x. not (ends_name x)) (name ++ rest)) 0) parts.0 ∙ omega (arith, place)

pub without_blanks_plain : (value : List ℕ) → is_blank (get_or value 0 0) ≡ false → without_blanks value ≡ value
without_blanks_plain [] plain = refl
without_blanks_plain (byte ∷ value) plain =
    ap (λ b. drop (cond b (1 + prefix_len is_blank value) 0) (byte ∷ value)) plain

-- blanks at the front fall away
pub without_blanks_append : (blanks rest : List ℕ) → list_all is_blank blanks ≡ true → without_blanks (blanks ++ rest) ≡ without_blanks rest
without_blanks_append [] rest h = refl
without_blanks_append (byte ∷ blanks) rest h =
    let parts = and_parts (is_blank byte) (list_all is_blank blanks) h in
    let one : 1 + prefix_len is_blank (blanks ++ rest) ≡ suc (prefix_len is_blank (blanks ++ rest)) = omega arith in
    ap (λ b. drop (cond b (1 + prefix_len is_blank (blanks ++ rest)) 0) (byte ∷ (blanks ++ rest))) parts.0
    ∙ ap (λ (n : ℕ). drop n (byte ∷ (blanks ++ rest))) one
    ∙ without_blanks_append blanks rest parts.1

-- what is left without the dashes decides
pub applied_parts : (old : OptionValues) (text name rest value : List ℕ) → without (codes "--") text ≡ name ++ rest → list_any ends_name name ≡ false
    → ends rest ≡ true → without_blanks (without (codes "=") (without_blanks rest)) ≡ value → applied old text ≡ applied_as old name value
unfolding applied
applied_parts old text name rest value bare whole ended is =
    let place = name_ends name rest whole ended in
    let is_name : name_of text ≡ name =
    ap (λ (t : List ℕ). take (position_or_len ends_name t) t) bare
    ∙ ap (λ (k : ℕ). take k (name ++ rest)) place
    ∙ take-append_seam name rest in
    let is_rest : after_name text ≡ rest =
    ap (λ (t : List ℕ). drop (position_or_len ends_name t) t) bare
    ∙ ap (λ (k : ℕ). drop k (name ++ rest)) place
    ∙ drop-append_seam name rest in
    let is_value : option_value text ≡ value = ap (λ (r : List ℕ). without_blanks (without (codes "=") (without_blanks r))) is_rest ∙ is in
    ap (λ (x : List ℕ). applied_as old x (option_value text)) is_name ∙ ap (applied_as old name) is_value

-- blanks, the mark and blanks before a value fall away
pub marked : (before after value : List ℕ) → list_all is_blank before ≡ true → list_all is_blank after ≡ true → is_blank (get_or value 0 0) ≡ false
    → without_blanks (without (codes "=") (without_blanks (before ++ (61 ∷ (after ++ value))))) ≡ value
marked before after value blank blanks plain =
    ap (λ (r : List ℕ). without_blanks (without (codes "=") r)) (without_blanks_append before (61 ∷ (after ++ value)) blank)
    ∙ without_blanks_append after value blanks ∙ without_blanks_plain value plain

pub marked_ends : (before rest : List ℕ) → list_all is_blank before ≡ true → ends (before ++ (61 ∷ rest)) ≡ true
marked_ends [] rest h = refl
marked_ends (byte ∷ before) rest h = ap (λ (b : Bool). b || byte == 61) (and_parts (is_blank byte) (list_all is_blank before) h).0

-- a value that doesn't begin with the mark keeps its front
without_mark : (value : List ℕ) → ends_name (get_or value 0 0) ≡ false → without (codes "=") value ≡ value
without_mark [] h = refl
without_mark (byte ∷ value) h =
    ap (λ (b : Bool). cond (b && true) (drop 1 (byte ∷ value)) (byte ∷ value)) (or_parts (is_blank byte) (byte == 61) h).1

pub unmarked : (blank : ℕ) (before value : List ℕ) → is_blank blank ≡ true → list_all is_blank before ≡ true → ends_name (get_or value 0 0) ≡ false
    → without_blanks (without (codes "=") (without_blanks (blank ∷ (before ++ value)))) ≡ value
unmarked blank before value one blanks plain =
    let first = or_parts (is_blank (get_or value 0 0)) (get_or value 0 0 == 61) plain in
    ap (λ (r : List ℕ). without_blanks (without (codes "=") r))
    (without_blanks_append (blank ∷ before) value (ap (λ (b : Bool). b && list_all is_blank before) one ∙ blanks) ∙ without_blanks_plain value first.0)
    ∙ ap without_blanks (without_mark value plain) ∙ without_blanks_plain value first.0

-- a text that doesn't begin with a dash stays
pub without_dashes_plain : (text : List ℕ) → get_or text 0 0 ≢ 45 → without (codes "--") text ≡ text
without_dashes_plain [] other = refl
without_dashes_plain (byte ∷ rest) other =
    ap (λ (b : Bool). cond (b && bytes_eq (take 1 rest) (45 ∷ [])) (drop 2 (byte ∷ rest)) (byte ∷ rest)) (ne_eqb byte 45 other)

-- nor does one whose name doesn't, with blanks and the mark behind it
pub first_byte : (name before rest : List ℕ) → get_or name 0 0 ≢ 45 → list_all is_blank before ≡ true → get_or (name ++ (before ++ (61 ∷ rest))) 0 0 ≢ 45
first_byte (byte ∷ name) before rest other h = other
first_byte [] [] rest other h = λ e. omega (arith, e)
first_byte [] (byte ∷ before) rest other h = λ e.
    no_dash byte (and_parts (is_blank byte) (list_all is_blank before) h).0 e where
      no_dash : (byte : ℕ) → is_blank byte ≡ true → byte ≡ 45 → ⊥
      no_dash byte blank is = absurd (cc (sym blank ∙ ap (λ (x : ℕ). is_blank x) is))
