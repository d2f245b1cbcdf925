-- No fault of a key is a want of memory.
use Rattle.std.{proofs.Common.{ℕ, Bool, true, false, List, [], ◌∷◌, Option, Some, None, Err, sym, subst, inl, inr}, specs.Prelude.if◌then◌else◌}
use Rattle.{key_commands.specs.Files.{FileSays, canonical, no_canonical}, secret_file.specs.Answers.{IsFileFault, IsLockedFault}, sexp_canonical.specs.Tree.{Tree, leaf, branch, items}}
use Rattle.sexp_keys.specs.{Faults.{form_fault, name_fault, algorithm_fault, first_fault, IsFirstKeyFault}, Key.Key, declared.fault.KeyFault.KeyFault}
use Rattle.sexp_keys.specs.declared.fault.KeyFault.TheVariants as faults

-- none, or one that bytes can have
pub data IsSaid : Option KeyFault → Type 0 where
  nothing : IsSaid None
  no_expression : IsSaid (Some faults.InvSexp)
  bad : IsSaid (Some faults.BadSecKey)
  shadowed : IsSaid (Some faults.Shadowed)
  unsupported : IsSaid (Some faults.NotSupported)

either : (so : Bool) {one other : Option KeyFault} → IsSaid one → IsSaid other → IsSaid (if so then one else other)
either true one other = one
either false one other = other

form_said : (trees : List Tree) → IsSaid (form_fault trees)
form_said [] = no_expression
form_said (branch row ∷ more) = no_expression
form_said (leaf name ∷ more) = either _ nothing (either _ shadowed (either _ unsupported no_expression))

name_said : (trees : List Tree) → IsSaid (name_fault trees)
name_said [] = bad
name_said (branch row ∷ more) = bad
name_said (leaf name ∷ more) = either _ nothing unsupported

algorithm_said : (trees : List Tree) → IsSaid (algorithm_fault trees)
algorithm_said [] = bad
algorithm_said (first ∷ []) = bad
algorithm_said (first ∷ second ∷ further) = name_said (items second)

first_said : (one other : Option KeyFault) → IsSaid one → IsSaid other → IsSaid (first_fault one other)
first_said (Some fault) other one later = one
first_said None other one later = later

pub first_fault_said : (tree : Tree) (fault : KeyFault) → IsFirstKeyFault tree fault → IsSaid (Some fault)
first_fault_said tree fault (inl is) = subst IsSaid is (first_said (form_fault (items tree)) (algorithm_fault (items tree)) (form_said (items tree)) (algorithm_said (items tree)))
first_fault_said tree fault (inr other) = subst (λ f. IsSaid (Some f)) (sym other.2) bad

canonical_fault_said : (bytes : List ℕ) (fault : KeyFault) → IsFileFault bytes fault → IsSaid (Some fault)
canonical_fault_said bytes fault (inl unread) = subst (λ f. IsSaid (Some f)) (sym unread.1) no_expression
canonical_fault_said bytes fault (inr read) = first_fault_said _ fault read.2

pub file_fault_said : (file : List ℕ) (fault : KeyFault) → FileSays file (Err fault) → IsSaid (Some fault)
file_fault_said file fault (canonical canon says) = canonical_fault_said _ fault says
file_fault_said file _ (no_canonical canon) = no_expression

pub locked_fault_said : (key : Key) (fault : KeyFault) → IsLockedFault key fault → IsSaid (Some fault)
locked_fault_said key fault (inl clear) = subst (λ f. IsSaid (Some f)) (sym clear.1) bad
locked_fault_said key fault (inr (protected, inl other)) = subst (λ f. IsSaid (Some f)) (sym other.1) unsupported
locked_fault_said key fault (inr (protected, inr other)) = subst (λ f. IsSaid (Some f)) (sym other.2) bad
