use Rattle.std.{proofs.{Common.{◌≡◌, Bool, true, List, [], ◌∷◌, ◌++◌, Some, None, cond, refl, ap, ◌∙◌}, lemmas.List.append-nil}, specs.{Prelude.slice_get, List.cons_option}}
use Rattle.trust_list.{specs.Trust.judgements, proofs.NewEntries.{judgements_with_entry, other_digits, same_digits, new_judgements}}
use Rattle.trust_list.proofs.laws.adding_decides.Goals as goal

no_first : (judgements : List Bool) → slice_get judgements 0 ≡ None → judgements ≡ []
no_first [] none = refl
no_first (judgement ∷ judgements) none = cc none

same_first : (judgements more : List Bool) (judgement : Bool) → slice_get judgements 0 ≡ Some judgement → slice_get (judgements ++ more) 0 ≡ Some judgement
same_first [] more judgement found = cc found
same_first (first ∷ judgements) more judgement found = found

pub returns-clause-trusted : goal.returns-clause-trusted
returns-clause-trusted c file f flag len fits new none =
    ap (λ (ms : List Bool). slice_get ms 0) (judgements_with_entry file f f flag len new ∙ ap (λ (ms : List Bool). ms ++ new_judgements f f) (no_first (judgements file f) none))
    ∙ ap (λ b. slice_get ([] ++ cons_option (cond b (Some true) None) []) 0) (same_digits f)

pub returns-clause-kept : goal.returns-clause-kept
returns-clause-kept c file f g flag answer len fits new found =
    ap (λ (ms : List Bool). slice_get ms 0) (judgements_with_entry file f g flag len new)
    ∙ same_first (judgements file g) (new_judgements f g) answer found

pub returns-clause-others : goal.returns-clause-others
returns-clause-others c file f g flag len fits len' fits' new other =
    ap (λ (ms : List Bool). slice_get ms 0)
    (judgements_with_entry file f g flag len new
    ∙ ap (λ b. judgements file g ++ cons_option (cond b (Some true) None) []) (other_digits f g fits fits' other)
    ∙ append-nil (judgements file g))
