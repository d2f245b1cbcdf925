use Rattle.std.{proofs.Common.{◌≡◌, ◌∷◌, Bool, true, false, cond, find, reverse, Option, Some, None, List, ℕ, refl, sym, ap, ◌∙◌}, specs.Option.{option_map, option_or}}
use Rattle.assuan_text.{specs.{Words.words, Options.{names_option, options_of}}, proofs.OptionLemmas.{options_step, find_reverse_cons}}
use Rattle.assuan_text.proofs.options.last_option.Goals as goal

-- the last option of this name among these, or else the one before them
abbrev last : List ℕ → Option (List ℕ) → List (List ℕ) → Option (List ℕ)
last name before options = option_or (find (names_option name) (reverse options)) before

or_one : (last : Option (List ℕ)) (named : Bool) (option : List ℕ) (before : Option (List ℕ)) → option_or last (cond named (Some option) before) ≡ option_or (option_or last (cond named (Some option) None)) before
or_one (Some x) named option before = refl
or_one None true option before = refl
or_one None false option before = refl

step : (name option : List ℕ) (before : Option (List ℕ)) (words more : List (List ℕ)) (named : Bool) → options_of words ≡ option ∷ options_of more
    → names_option name option ≡ named → last name (cond named (Some option) before) (options_of more) ≡ last name before (options_of words)
step name option before words more named is e =
    or_one (find (names_option name) (reverse (options_of more))) named option before
    ∙ sym (ap (last name before) is
    ∙ ap (λ o. option_or o before) (find_reverse_cons (names_option name) option (options_of more))
    ∙ ap (λ b. option_or (option_or (find (names_option name) (reverse (options_of more))) (cond b (Some option) None)) before) e)

pub loop-option-preserved : goal.loop-option-preserved
loop-option-preserved c =
    let is = c.in-Some.ensures.words in
    step c.args.name.now c.in-Some.option.now (option_map (λ option. option.now) c.loop-option.latest) (words c.loop-option.rest.now) (words c.in-Some.after.now) _
    (options_step _ (words c.in-Some.after.now) _ is.0 is.1) (sym c.names_option.ensures ∙ c.if-names_option.false)
    ∙ c.loop-option.invariant

pub loop-option-preserved-then-names_option : goal.loop-option-preserved-then-names_option
loop-option-preserved-then-names_option c =
    let is = c.in-Some.ensures.words in
    step c.args.name.now c.in-Some.option.now (option_map (λ option. option.now) c.loop-option.latest) (words c.loop-option.rest.now) (words c.in-Some.after.now) _
    (options_step _ (words c.in-Some.after.now) _ is.0 is.1) (sym c.names_option.ensures ∙ c.if-names_option.true)
    ∙ c.loop-option.invariant
