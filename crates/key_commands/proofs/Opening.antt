-- Locked keys that a passphrase opens, or doesn't.
use Rattle.std.proofs.Common.{◌≡◌, ◌⊎◌, ℕ, List, inl, inr, refl}
use Rattle.{secret_file.specs.{Answers.AnswersOpening, Opens.{LockedKey, OpensTo, FitsFile}, declared.locked.Opened.TheVariants.{Key as Opens, BadPassphrase, NoMemory}}, sexp_keys.specs.Key.Key}
use Rattle.key_commands.specs.{Passphrases.OpensBy, Trials.IsUsable}

module _ (locked : LockedKey) (pass : List ℕ) where
  pub opens_to_its_key : (key : Key) → (Opens key ≡ NoMemory) ⊎ AnswersOpening locked pass (Opens key) → OpensTo locked pass key
  opens_to_its_key key (inl memory) = cc memory
  opens_to_its_key key (inr (inl found)) = let same : found.0 ≡ key = cc found.2 in rw (← same) found.1
  opens_to_its_key key (inr (inr none)) = cc none.1

  pub stays_locked : (BadPassphrase ≡ NoMemory) ⊎ AnswersOpening locked pass BadPassphrase → ¬ OpensBy locked pass
  stays_locked (inl memory) = cc memory
  stays_locked (inr (inl found)) = cc found.2
  stays_locked (inr (inr none)) = λ by. none.0 by.0 by.1

-- a key that was opened is clear
pub opened_is_usable : {locked : LockedKey} {pass : List ℕ} {key : Key} → OpensTo locked pass key → FitsFile key → IsUsable key
opened_is_usable opens fits = record { clear = rw opens.clear refl; fits = fits }
