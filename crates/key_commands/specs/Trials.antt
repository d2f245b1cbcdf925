-- Private: passphrases that are tried on a locked key at a prompt, and what their answers mean.
use Rattle.std.{specs.Prelude.{◌≡◌, ℕ, List, Option, Some, IsTrue, ⊤}, proofs.Common.{sym, subst}}
use Rattle.{agent_ask.specs.{Tests.{Judges, IsTest}, declared.prompt.test.Tested.{Tested, TheVariants.{Yes, No, NoMemory}}}, secret_file.specs.Opens.{LockedKey, OpensTo, FitsFile}, sexp_keys.specs.Key.Key}
use Rattle.key_commands.specs.Passphrases.{OpensBy}

-- a clear key within the limits of a file that is read
pub record IsUsable (key : Key) : Type 0 where
  pub clear : IsTrue key.is_clear
  pub fits : FitsFile key

-- what is kept of a passphrase that was answered so: the key that it opens, which fits a file
abbrev pub Keeps : LockedKey → List ℕ → Tested → Option Key → Type 0
Keeps locked pin Yes opened = (key : Key) × (opened ≡ Some key) × OpensTo locked pin key × FitsFile key
Keeps locked pin No opened = ¬ OpensBy locked pin
Keeps locked pin NoMemory opened = ⊤

-- a passphrase was tried on the locked key, which stays the same
pub record IsTrial (locked : LockedKey) (pin : List ℕ) (answer : Tested) (after : LockedKey) (opened : Option Key) : Type 0 where
  pub same : after ≡ locked
  pub keeps : Keeps locked pin answer opened

judges : (locked : LockedKey) (pin : List ℕ) (answer : Tested) (opened : Option Key) → Keeps locked pin answer opened → Judges (OpensBy locked pin) answer
judges locked pin Yes opened keeps = (keeps.0, keeps.2)
judges locked pin No opened keeps = keeps
judges locked pin NoMemory opened keeps = tt

pub trial_means : (locked : LockedKey) (pin : List ℕ) (answer : Tested) (after : LockedKey) (opened : Option Key) → IsTrial locked pin answer after opened
    → IsTest (λ other. OpensBy locked other) pin answer (λ other. OpensBy after other)
trial_means locked pin answer after opened trial = record {
  judges = judges locked pin answer opened trial.keeps;
  same = record {
    to = λ other right. subst (λ (l : LockedKey). OpensBy l other) (sym trial.same) right;
    from = λ other right. subst (λ (l : LockedKey). OpensBy l other) trial.same right;
  };
}
