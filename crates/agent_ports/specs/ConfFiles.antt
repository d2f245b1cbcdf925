-- The two files of options that an agent is started by. This is the project's own.
use Rattle.std.specs.Prelude.{◌≡◌, ℕ, ◌≤◌, List, length, Option, Some, None, IfSome, ⊤}
use Rattle.agent_ports.specs.{declared.conf.{TheConstants.MAX_CONF_LEN, ConfRead.ConfRead}, Counts.Rose}
use Rattle.agent_ports.specs.declared.conf.ConfRead.TheVariants as read

-- the bytes of each file, or that there is none, where this is known; and how many calls failed
pub record ConfState : Type 0 where
  pub machine : Option (Option (List ℕ))
  pub home : Option (Option (List ℕ))
  pub faults : ℕ

-- what a read says of a file: that it is this one, or that there is none
abbrev pub ConfReadSays : ConfRead → Option (List ℕ) → Type 0
ConfReadSays (read.Found file) there = there ≡ Some file.items
ConfReadSays read.Absent there = there ≡ None
ConfReadSays read.Failed there = ⊤
ConfReadSays read.NoMemory there = ⊤

-- a file that was found has so many bytes at most
abbrev pub IsSmallConf : ConfRead → Type 0
IsSmallConf (read.Found file) = length file.items ≤ MAX_CONF_LEN
IsSmallConf read.Absent = ⊤
IsSmallConf read.Failed = ⊤
IsSmallConf read.NoMemory = ⊤

-- one of the files was read, of which this is known
pub record ReadsConf (known : Option (Option (List ℕ))) (before : ConfState) (answer : ConfRead) (after : ConfState) : Type 0 where
  pub says : IfSome known (λ there. ConfReadSays answer there)
  pub small : IsSmallConf answer
  pub machine : after.machine ≡ before.machine
  pub home : after.home ≡ before.home
  pub failed : answer ≡ read.Failed → Rose before.faults after.faults
  pub never_falls : before.faults ≤ after.faults
