-- No text has a lack of memory as its fault.
use Rattle.std.{proofs.{Common.{◌≡◌, inl, inr, ℕ, List, length, Some, None}, lemmas.Bool.cond_both}, specs.Prelude.◌==◌}
use Rattle.{sexp_canonical.specs.Spelling.most_depth, sexp_advanced.specs.{Bytes.{is_space_byte, without_front}, Signs.{Found, sign, broken_atom, ended, no_item}, Reading.{fault_of, place_of}}}
use Rattle.sexp_advanced.specs.declared.{signs.Sign.TheVariants.{Open, Close, Atom}, fault.AdvFault.TheVariants.{BadByte, Deep, NoMemory}}
use Rattle.key_lines.specs.KeyText.{IsTextFault}

never : (place lists_open : ℕ) (found : Found) → fault_of place lists_open found ≡ Some NoMemory → ⊥
never place lists_open (sign Open rest) = cond_both (lists_open == most_depth) (Some (Deep place)) None (λ f. f ≡ Some NoMemory → ⊥) (λ _ e. absurd cc) (λ _ e. absurd cc)
never place lists_open (sign Close rest) = cond_both (lists_open == 0) (Some (BadByte place)) None (λ f. f ≡ Some NoMemory → ⊥) (λ _ e. absurd cc) (λ _ e. absurd cc)
never place lists_open (sign (Atom bytes) rest) = λ e. absurd cc
never place lists_open broken_atom = λ e. absurd cc
never place lists_open ended = λ e. absurd cc
never place lists_open no_item = λ e. absurd cc

pub no_memory : (value : List ℕ) → IsTextFault value NoMemory → ⊥
no_memory value (inl h) = never (place_of value (without_front is_space_byte h.rest)) (length h.lists) h.found h.is
no_memory value (inr h) = let e = h.is in absurd (cc e)
