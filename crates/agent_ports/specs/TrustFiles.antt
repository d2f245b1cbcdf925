-- The file of the root certificates that the user trusts. This is the project's own.
use Rattle.std.specs.{Prelude.{◌≡◌, ℕ, ◌≤◌, List, Option, Some, None, IfSome, ⊤}, Option.option_map}
use Rattle.agent_ports.specs.{declared.trust.{TrustRead.TrustRead, TrustDone.TrustDone}, Counts.Rose}
use Rattle.agent_ports.specs.declared.trust.TrustRead.TheVariants as read
use Rattle.agent_ports.specs.declared.trust.TrustDone.TheVariants as done

-- the bytes of the file, or that there is none, and the path of the folder that was settled for it, where these are known; and how many calls failed
pub record TrustState : Type 0 where
  pub file : Option (Option (List ℕ))
  pub folder : Option (List ℕ)
  pub faults : ℕ

-- what a read says of the file: that it is this one, or that there is none
abbrev pub TrustReadSays : TrustRead → Option (List ℕ) → Type 0
TrustReadSays (read.Found file) there = there ≡ Some file.items
TrustReadSays read.Absent there = there ≡ None
TrustReadSays read.Failed there = ⊤
TrustReadSays read.NoMemory there = ⊤

-- the file was read
pub record ReadsTrust (before : TrustState) (answer : TrustRead) (after : TrustState) : Type 0 where
  pub says : IfSome before.file (λ there. TrustReadSays answer there)
  pub leaves : after.file ≡ before.file
  pub folder : after.folder ≡ before.folder
  pub failed : answer ≡ read.Failed → Rose before.faults after.faults
  pub never_falls : before.faults ≤ after.faults

-- the file was replaced where the answer is Done, and else nothing was changed
pub record ReplacesTrust (before : TrustState) (file : List ℕ) (answer : TrustDone) (after : TrustState) : Type 0 where
  pub changed : answer ≡ done.Done → after.file ≡ option_map (λ there. Some file) before.file
  pub unchanged : (answer ≡ done.Done → ⊥) → after.file ≡ before.file
  pub folder : after.folder ≡ before.folder
  pub failed : answer ≡ done.Failed → Rose before.faults after.faults
  pub never_falls : before.faults ≤ after.faults
