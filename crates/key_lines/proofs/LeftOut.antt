-- Lines that are well stay so where lines that go on with the Key item are left out.
use Rattle.std.{proofs.Common.{◌≡◌, Bool, true, false, List, [], ◌∷◌, ◌++◌, length, Some, None, Option, refl, ap, sym, ◌∙◌}, specs.{Prelude.{◌||◌, if◌then◌else◌}, List.{list_all, list_any}, Option.option_or}}
use Rattle.key_lines.specs.{Items.{is_key, goes_on}, Faults.{is_in_item, fault_of_form, first_line_fault}, declared.{forms.LineForm.{LineForm, TheVariants.{Comment, GoesOn, Item, Key, NoForm}}, fault.LinesFault.LinesFault}}
use Rattle.key_lines.{specs.declared.fault.LinesFault.TheVariants.{BadLine, TwoKeys}, proofs.Plain.both}

neither : (x y : Option LinesFault) → option_or x y ≡ None → (x ≡ None) × (y ≡ None)
neither None y e = (refl, e)
neither (Some x) y e = absurd cc

-- lines before that say the same of what comes
pub record Alike (a b : List LineForm) : Type 0 where
  pub item : is_in_item a ≡ is_in_item b
  pub key : list_any is_key a ≡ list_any is_key b

well_true : (x y : Bool) (f g : LinesFault) → (if x then None else Some f) ≡ None → x ≡ y → (if y then None else Some g) ≡ None
well_true true y f g e same = ap (λ b. if b then None else Some g) (sym same)
well_true false y f g e same = absurd cc

well_false : (x y : Bool) (f g : LinesFault) → (if x then Some f else None) ≡ None → x ≡ y → (if y then Some g else None) ≡ None
well_false true y f g e same = absurd cc
well_false false y f g e same = ap (λ b. if b then Some g else None) (sym same)

well_alike : (a b : List LineForm) (form : LineForm) → Alike a b → fault_of_form a form ≡ None → fault_of_form b form ≡ None
well_alike a b Comment h e = refl
well_alike a b GoesOn h e = well_true (is_in_item a) (is_in_item b) (BadLine (length a)) (BadLine (length b)) e h.item
well_alike a b Item h e = refl
well_alike a b Key h e = well_false (list_any is_key a) (list_any is_key b) (TwoKeys (length a)) (TwoKeys (length b)) e h.key
well_alike a b NoForm h e = absurd cc

alike_next : (a b : List LineForm) (form : LineForm) → Alike a b → Alike (form ∷ a) (form ∷ b)
alike_next a b form h = record { item = refl; key = ap (λ t. is_key form || t) h.key }

pub well_after_alike : (a b forms : List LineForm) → Alike a b → first_line_fault a forms ≡ None → first_line_fault b forms ≡ None
well_after_alike a b [] h e = refl
well_after_alike a b (form ∷ forms) h e =
    let parts = neither (fault_of_form a form) (first_line_fault (form ∷ a) forms) e in
    ap (λ o. option_or o (first_line_fault (form ∷ b) forms)) (well_alike a b form h parts.0)
    ∙ well_after_alike (form ∷ a) (form ∷ b) forms (alike_next a b form h) parts.1

-- these lines are behind those
abbrev pub behind : List LineForm → List LineForm → List LineForm
behind a [] = a
behind a (form ∷ forms) = behind (form ∷ a) forms

pub well_split : (a xs ys : List LineForm) → first_line_fault a (xs ++ ys) ≡ None → (first_line_fault a xs ≡ None) × (first_line_fault (behind a xs) ys ≡ None)
well_split a [] ys e = (refl, e)
well_split a (x ∷ xs) ys e =
    let parts = neither (fault_of_form a x) (first_line_fault (x ∷ a) (xs ++ ys)) e in
    let rest = well_split (x ∷ a) xs ys parts.1 in
    (ap (λ o. option_or o (first_line_fault (x ∷ a) xs)) parts.0 ∙ rest.0, rest.1)

pub well_join : (a xs ys : List LineForm) → first_line_fault a xs ≡ None → first_line_fault (behind a xs) ys ≡ None → first_line_fault a (xs ++ ys) ≡ None
well_join a [] ys e f = f
well_join a (x ∷ xs) ys e f =
    let parts = neither (fault_of_form a x) (first_line_fault (x ∷ a) xs) e in
    ap (λ o. option_or o (first_line_fault (x ∷ a) (xs ++ ys))) parts.0 ∙ well_join (x ∷ a) xs ys parts.1 f

goes_on_alike : (a : List LineForm) (form : LineForm) → is_in_item a ≡ true → goes_on form ≡ true → Alike (form ∷ a) a × (is_in_item (form ∷ a) ≡ true)
goes_on_alike a Comment item e = absurd cc
goes_on_alike a GoesOn item e = (record { item = sym item; key = refl }, refl)
goes_on_alike a Item item e = absurd cc
goes_on_alike a Key item e = absurd cc
goes_on_alike a NoForm item e = absurd cc

joined_alike : (a b c : List LineForm) → Alike a b → Alike b c → Alike a c
joined_alike a b c h g = record { item = h.item ∙ g.item; key = h.key ∙ g.key }

-- lines that go on with an item change nothing for those behind them
pub more_alike : (a more : List LineForm) → is_in_item a ≡ true → list_all goes_on more ≡ true → Alike (behind a more) a
more_alike a [] item e = record { item = refl; key = refl }
more_alike a (form ∷ more) item e =
    let parts = both (goes_on form) (list_all goes_on more) e in
    let first = goes_on_alike a form item parts.0 in
    joined_alike (behind (form ∷ a) more) (form ∷ a) a (more_alike (form ∷ a) more first.1 parts.1) first.0

-- without them all is well still
pub well_without : (passed more rest : List LineForm) → list_all goes_on more ≡ true → first_line_fault [] (passed ++ Key ∷ (more ++ rest)) ≡ None → first_line_fault [] (passed ++ Key ∷ rest) ≡ None
well_without passed more rest goes e =
    let front = well_split [] passed (Key ∷ (more ++ rest)) e in
    let before = behind [] passed in
    let key = neither (fault_of_form before Key) (first_line_fault (Key ∷ before) (more ++ rest)) front.1 in
    let last = well_split (Key ∷ before) more rest key.1 in
    let same = more_alike (Key ∷ before) more refl goes in
    let well : first_line_fault (Key ∷ before) rest ≡ None = well_after_alike (behind (Key ∷ before) more) (Key ∷ before) rest same last.1 in
    well_join [] passed (Key ∷ rest) front.0 (ap (λ o. option_or o (first_line_fault (Key ∷ before) rest)) key.0 ∙ well)
