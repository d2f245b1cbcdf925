-- What prompts for a passphrase show, and tests that open a locked key.
use Rattle.std.proofs.Common.{◌≡◌, ℕ, Bool, List, [], Option, Some, refl, ap, ◌∙◌, subst}
use Rattle.{agent_ask.specs.{Plans.{IsSpec, plan_of, text}, Tests.{PinTest, Tests, EndsAccepted}, declared.prompt.{spec.{AskPlan.AskPlan, PromptSpec.PromptSpec}, test.Tested.Tested}}, agent_ports.specs.Leads.{none, one}}
use Rattle.{arrayvec.specs.ArrayVec.ArrayVec, secret_file.specs.Opens.{LockedKey, OpensTo, FitsFile}, session_options.specs.{OptionValues.OptionValues, declared.rules.Rules.Rules}, sexp_keys.specs.Key.Key}
use Rattle.key_commands.{specs.Trials.{IsTrial, IsUsable}, proofs.Opening.opened_is_usable}

-- ---- what a prompt shows

pub spec_says : {rules : Rules} {options : OptionValues} {description words : ArrayVec ℕ} {described field : List ℕ} {quality : Bool} {spec : PromptSpec} → description.items ≡ described
    → words.items ≡ field → IsSpec rules options description words quality spec → IsSpec rules options (text described) (text field) quality spec
spec_says described field is = rw (← described, ← field) is

pub plan_says : (rules : Rules) (options : OptionValues) {error : ArrayVec ℕ} (check : Bool) (repeat : ℕ) {plan : AskPlan} → plan ≡ plan_of rules options error check repeat → error.items ≡ []
    → plan ≡ plan_of rules options (text []) check repeat
plan_says rules options check repeat is no_error = is ∙ ap (λ (bytes : List ℕ). plan_of rules options (text bytes) check repeat) no_error

-- ---- tests that open a locked key

-- the key that the last test of a prompt opened
pub record OpenedLast (locked : LockedKey) (pin : List ℕ) (opened : Option Key) : Type 0 where
  pub key : Key
  pub is : opened ≡ Some key
  pub opens : OpensTo locked pin key
  pub fits : FitsFile key

module _ {T : Type 0} (locked_of : T → LockedKey) (opened_of : T → Option Key) where
  abbrev trials : T → List ℕ → Tested → T → Type 0
  trials before pin answer after = IsTrial (locked_of before) pin answer (locked_of after) (opened_of after)

  same_locked : {before after : T} {tests : List PinTest} → Tests trials before tests after → locked_of after ≡ locked_of before
  same_locked none = refl
  same_locked (one trial more) = same_locked more ∙ trial.same

  pub opened_last : {before after : T} {pin : List ℕ} → EndsAccepted trials pin before after → OpenedLast (locked_of before) pin (opened_of after)
  opened_last {pin} ends =
      let keeps = ends.last.keeps in
      record {
        key = keeps.0;
        is = keeps.1;
        opens = subst (λ (locked : LockedKey). OpensTo locked pin keeps.0) (same_locked ends.reaches) keeps.2;
        fits = keeps.3;
      }

pub opens_last : {locked : LockedKey} {pin : List ℕ} {opened : Option Key} {key : Key} → OpenedLast locked pin opened → Some key ≡ opened → OpensTo locked pin key × IsUsable key
opens_last {locked} {pin} {key} last is =
    let same : last.key ≡ key = cc (last.is, is) in
    let opens = subst (λ (k : Key). OpensTo locked pin k) same last.opens in (opens, opened_is_usable opens (subst FitsFile same last.fits))
