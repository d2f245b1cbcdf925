-- The checks of options one by one, and of an id.
use Rattle.std.{proofs.{Common.{◌≡◌, ◌∷◌, [], ℕ, Bool, true, false, List, length, Option, Some, None, refl, ap, sym, ◌∙◌, arith}, lemmas.Bool.{and_parts, Decides.nat_tests}}, specs.Prelude.{not, ◌&&◌, ◌==◌, nat_le, codes}}
use Rattle.std.specs.{List.list_all, Option.option_or, Str.bytes_eq}
use Rattle.passphrase_words.specs.{Ids.{is_id_byte, has_id_form}, Options.excluded, Refusals.{settings_fault, pairs_fault, alone_fault, operands_fault, id_fault, texts_fault, task_fault}, Rules.{fits, are_sound, id_given, description_given}}
use Rattle.passphrase_words.specs.{Spelling.{Setting, is_set, value_given, begins_with_dash}, Texts.texts_of}

not_true : (b : Bool) → not b ≡ true → b ≡ false
not_true true h = absurd (cc h)
not_true false h = refl

pub sound_head : (setting : Setting) (others : List Setting) → are_sound (setting ∷ others) ≡ true → (fits setting ≡ true) × (is_set setting.0 others ≡ false)
sound_head setting others sound =
    let parts = and_parts (fits setting && not (is_set setting.0 others)) (are_sound others) sound in
    let first = and_parts (fits setting) (not (is_set setting.0 others)) parts.0 in
    (first.0, not_true (is_set setting.0 others) first.1)

-- an id's form, where the tests in front of its bytes fail
pub id_form : (id : List ℕ) (bytes : Bool) → (length id == 0) ≡ false → bytes_eq id (codes "X") ≡ false → begins_with_dash id ≡ false → bytes ≡ list_all is_id_byte id
    → bytes ≡ has_id_form id
id_form [] bytes some other front all = absurd (cc some)
id_form (byte ∷ id) bytes some other front all =
    let word = byte ∷ id in
    let filled : nat_le 1 (length word) ≡ true = grind (arith, nat_tests) in
    all ∙ sym (ap (λ a. a && not (bytes_eq word (codes "X")) && not (begins_with_dash word) && list_all is_id_byte word) filled
    ∙ ap (λ b. not b && not (begins_with_dash word) && list_all is_id_byte word) other
    ∙ ap (λ d. not d && list_all is_id_byte word) front)

-- the first fault of a task, behind what has none
pub pairs_first : (given : List Setting) (operands : List (List ℕ)) (text : List ℕ) → settings_fault given ≡ None → pairs_fault given excluded ≡ Some text
    → task_fault given operands ≡ Some text
pairs_first given operands text none is =
    let later = option_or (alone_fault given operands) (option_or (operands_fault given operands) (option_or (id_fault (id_given given operands))
    (texts_fault (id_given given operands) (texts_of (id_given given operands) (value_given (codes "--prompt") given) (description_given given operands))))) in
    ap (λ (o : Option (List ℕ)). option_or o (option_or (pairs_fault given excluded) later)) none ∙ ap (λ (o : Option (List ℕ)). option_or o later) is

pub alone_first : (given : List Setting) (operands : List (List ℕ)) (text : List ℕ) → settings_fault given ≡ None → pairs_fault given excluded ≡ None
    → alone_fault given operands ≡ Some text → task_fault given operands ≡ Some text
alone_first given operands text none apart is =
    let later = option_or (operands_fault given operands) (option_or (id_fault (id_given given operands))
    (texts_fault (id_given given operands) (texts_of (id_given given operands) (value_given (codes "--prompt") given) (description_given given operands)))) in
    ap (λ (o : Option (List ℕ)). option_or o (option_or (pairs_fault given excluded) (option_or (alone_fault given operands) later))) none
    ∙ ap (λ (o : Option (List ℕ)). option_or o (option_or (alone_fault given operands) later)) apart
    ∙ ap (λ (o : Option (List ℕ)). option_or o later) is

pub id_first : (given : List Setting) (operands : List (List ℕ)) (id text : List ℕ) → settings_fault given ≡ None → pairs_fault given excluded ≡ None → alone_fault given operands ≡ None
    → operands_fault given operands ≡ None → id ≡ id_given given operands → id_fault id ≡ Some text → task_fault given operands ≡ Some text
id_first given operands id text none apart free counted same is =
    let texts = texts_fault (id_given given operands) (texts_of (id_given given operands) (value_given (codes "--prompt") given) (description_given given operands)) in
    let at_id = option_or (id_fault (id_given given operands)) texts in
    ap (λ (o : Option (List ℕ)). option_or o (option_or (pairs_fault given excluded) (option_or (alone_fault given operands) (option_or (operands_fault given operands) at_id)))) none
    ∙ ap (λ (o : Option (List ℕ)). option_or o (option_or (alone_fault given operands) (option_or (operands_fault given operands) at_id))) apart
    ∙ ap (λ (o : Option (List ℕ)). option_or o (option_or (operands_fault given operands) at_id)) free
    ∙ ap (λ (o : Option (List ℕ)). option_or o at_id) counted
    ∙ ap (λ (o : Option (List ℕ)). option_or o texts) (ap id_fault (sym same) ∙ is)
