-- The first of what the lines say, one line after the other.
use Rattle.std.proofs.{Common.{◌≡◌, ◌<◌, ℕ, zero, suc, true, false, List, [], ◌∷◌, ◌++◌, length, map, take, get_or, Option, Some, None, refl, sym, ap, ◌∙◌, arith}, lemmas.List.{map-append, Elements.filter_map-append}}
use Rattle.std.specs.{Prelude.{slice_get, is_some}, List.{filter_map, cons_option}}

silent : {Y : Type 0} (judgement : Option Y) (judgements : List Y) → cons_option judgement judgements ≡ [] → (judgement ≡ None) × (judgements ≡ [])
silent None judgements none = (refl, none)
silent (Some y) judgements none = cc none

some_first : {Y : Type 0} (judgement : Option Y) (judgements : List Y) → is_some judgement ≡ true → judgement ≡ slice_get (cons_option judgement judgements) 0
some_first (Some y) judgements some = refl
some_first None judgements some = cc some

-- where the lines before it say nothing, this line decides
pub first_judgement : {X Y : Type 0} (judge : X → Option Y) (lines : List X) (place : ℕ) (line : X) (judgement : Option Y) → filter_map judge (take place lines) ≡ []
    → place < length lines → line ≡ get_or lines place line → judgement ≡ judge line → is_some judgement ≡ true → judgement ≡ slice_get (filter_map judge lines) 0
first_judgement judge [] place line judgement none within is e some = absurd (omega (arith, within))
first_judgement judge (x ∷ xs) zero line judgement none within is e some =
    some_first judgement (filter_map judge xs) some ∙ ap (λ m. slice_get (cons_option m (filter_map judge xs)) 0) (e ∙ ap judge is)
first_judgement judge (x ∷ xs) (suc place) line judgement none within is e some =
    let first = silent (judge x) (filter_map judge (take place xs)) none in
    first_judgement judge xs place line judgement first.1 (omega (arith, within)) is e some
    ∙ sym (ap (λ m. slice_get (cons_option m (filter_map judge xs)) 0) first.0)

no_judgement : {Y : Type 0} (judgement : Option Y) → is_some judgement ≡ false → cons_option judgement [] ≡ []
no_judgement None none = refl
no_judgement (Some y) none = cc none

-- where these lines say nothing, and the next one neither
pub silent_after : {X Y Z : Type 0} (judge : X → Option Y) (now : Z → X) (lines : List Z) (line : Z) → filter_map judge (map now lines) ≡ [] → is_some (judge (now line)) ≡ false
    → filter_map judge (map now (lines ++ line ∷ [])) ≡ []
silent_after judge now lines line none is =
    ap (filter_map judge) (map-append now lines (line ∷ []))
    ∙ filter_map-append judge (map now lines) (now line ∷ [])
    ∙ ap (λ judgements. judgements ++ cons_option (judge (now line)) []) none
    ∙ no_judgement (judge (now line)) is
