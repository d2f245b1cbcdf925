use Rattle.std.proofs.Common.{inl, inr, refl}
use Rattle.key_commands.specs.{Passphrases.{is_locked, has_fault, no_memory}, Steps.{nothing, memory}}
use Rattle.key_commands.proofs.opened.lock_of.Goals as goal

pub returns-in-Ok : goal.returns-in-Ok
returns-in-Ok c = nothing (λ held. is_locked c.in-Ok.ensures.found.0 c.in-Ok.ensures.found.1) refl

pub returns-in-Err : goal.returns-in-Err
returns-in-Err c =
    elim (c.in-Err.ensures.fault) [
      | inl none ↦ rw (c.fault_code.ensures, none) (memory (λ held. no_memory) refl)
      | inr fault ↦ rw c.fault_code.ensures (nothing (λ held. has_fault fault) refl)
    ]
