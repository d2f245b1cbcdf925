-- The last setting of an option, one setting after the other.
use mathlib.Core.List.{reverse-cons}
use Rattle.std.{proofs.{Common.{◌≡◌, Bool, true, false, cond, List, [], ◌∷◌, find, reverse, Option, Some, None, refl, ap, sym, ◌∙◌, ℕ}, lemmas.List.Folds.find-append}, specs.Option.option_or}
use Rattle.agent_conf.specs.{Settled.{is_of, last_of}, Written.Written}

-- the last that passes: one of those behind the first, or else the first
find_reverse_cons : (test : Written → Bool) (x : Written) (xs : List Written) → find test (reverse (x ∷ xs)) ≡ option_or (find test (reverse xs)) (cond (test x) (Some x) None)
find_reverse_cons test x xs = ap (find test) (reverse-cons x xs) ∙ find-append test (reverse xs) (x ∷ [])

or_one : (last : Option Written) (named : Bool) (setting : Written) (before : Option Written)
    → option_or last (cond named (Some setting) before) ≡ option_or (option_or last (cond named (Some setting) None)) before
or_one (Some x) named setting before = refl
or_one None true setting before = refl
or_one None false setting before = refl

-- one setting more is looked at
pub one_later : (names : List (List ℕ)) (setting : Written) (others : List Written) (before after : Option Written)
    → after ≡ cond (is_of names setting) (Some setting) before
    → option_or (last_of names others) after ≡ option_or (last_of names (setting ∷ others)) before
one_later names setting others before after is =
    ap (option_or (last_of names others)) is
    ∙ or_one (last_of names others) (is_of names setting) setting before
    ∙ sym (ap (λ o. option_or o before) (find_reverse_cons (is_of names) setting others))
