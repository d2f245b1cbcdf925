use Rattle.std.{proofs.Common.{◌≡◌, ◌+◌, ◌∷◌, Bool, true, false, cond, length, drop, find, reverse, Option, Some, None, List, ℕ, refl, sym, ap, ◌∙◌}, specs.Option.{option_map, option_or}}
use Rattle.assuan_text.{specs.{Words.words, Options.{gives_value, last_value, options_of}}, proofs.OptionLemmas.{options_step, find_reverse_cons}}
use Rattle.assuan_text.proofs.options.last_value.Goals as goal

-- what the last option of this name says, or else what one before them did
abbrev last : List ℕ → Option (List ℕ) → List (List ℕ) → Option (List ℕ)
last name before options = option_or (last_value name options) before

or_one : (value : List ℕ → List ℕ) (last : Option (List ℕ)) (gives : Bool) (option : List ℕ) (before : Option (List ℕ))
    → option_or (option_map value last) (cond gives (Some (value option)) before) ≡ option_or (option_map value (option_or last (cond gives (Some option) None))) before
or_one value (Some x) gives option before = refl
or_one value None true option before = refl
or_one value None false option before = refl

step : (name option : List ℕ) (before : Option (List ℕ)) (words more : List (List ℕ)) (gives : Bool) → options_of words ≡ option ∷ options_of more → gives_value name option ≡ gives
    → last name (cond gives (Some (drop (length name + 1) option)) before) (options_of more) ≡ last name before (options_of words)
step name option before words more gives is e =
    let value = drop {A = ℕ} (length name + 1) in
    or_one value (find (gives_value name) (reverse (options_of more))) gives option before
    ∙ sym (ap (last name before) is
    ∙ ap (λ o. option_or (option_map value o) before) (find_reverse_cons (gives_value name) option (options_of more))
    ∙ ap (λ b. option_or (option_map value (option_or (find (gives_value name) (reverse (options_of more))) (cond b (Some option) None))) before) e)

pub loop-option-preserved-in-Some-value_in : goal.loop-option-preserved-in-Some-value_in
loop-option-preserved-in-Some-value_in c =
    let is = c.in-Some.ensures.words in
    let gives = c.in-Some-value_in.ensures in
    ap (λ (v : List ℕ). last c.args.name.now (Some v) (options_of (words c.in-Some.after.now))) gives.1
    ∙ step c.args.name.now c.in-Some.option.now (option_map (λ value. value.now) c.loop-option.latest) (words c.loop-option.rest.now) (words c.in-Some.after.now) true
    (options_step _ (words c.in-Some.after.now) _ is.0 is.1) gives.0
    ∙ c.loop-option.invariant

pub loop-option-preserved : goal.loop-option-preserved
loop-option-preserved c =
    let is = c.in-Some.ensures.words in
    step c.args.name.now c.in-Some.option.now (option_map (λ value. value.now) c.loop-option.latest) (words c.loop-option.rest.now) (words c.in-Some.after.now) false
    (options_step _ (words c.in-Some.after.now) _ is.0 is.1) c.in_default-value_in.ensures
    ∙ c.loop-option.invariant
