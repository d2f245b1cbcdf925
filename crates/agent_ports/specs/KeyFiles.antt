-- The files of private keys, by the grips that name them. This is the project's own.
use Rattle.std.specs.{Prelude.{◌≡◌, ℕ, ◌≤◌, List, length, Option, Some, None, IsSome, IfSome, ⊤}, Option.option_map, Ordering.nat_cmp, Cmp.Lexicographic.slice_cmp, List.Sorted.IsStrictlySortedBy, declared.cmp.Ordering.Ordering}
use Rattle.agent_ports.specs.{declared.{keys.{TheConstants.MAX_KEY_FILE_LEN, KeyRead.KeyRead, KeyNames.KeyNames, KeyDone.KeyDone}, grip.Grip.Grip}, Counts.Rose}
use Rattle.std.specs.FinMap as map
use Rattle.agent_ports.specs.declared.keys.KeyRead.TheVariants as read
use Rattle.agent_ports.specs.declared.keys.KeyNames.TheVariants as names
use Rattle.agent_ports.specs.declared.keys.KeyDone.TheVariants as done

-- grips in the order of their bytes
abbrev pub grip_cmp : Grip → Grip → Ordering
grip_cmp a b = slice_cmp nat_cmp a.0 b.0

-- the bytes of each file, and the path of the folder that was settled for them, where these are known; and how many calls failed
pub record KeyFiles : Type 0 where
  pub files : Option (map.FinMap grip_cmp (List ℕ))
  pub folder : Option (List ℕ)
  pub faults : ℕ

-- a call leaves the files and their folder, and its count of faults doesn't fall
pub record LeavesKeys (before after : KeyFiles) : Type 0 where
  pub files : after.files ≡ before.files
  pub folder : after.folder ≡ before.folder
  pub never_falls : before.faults ≤ after.faults

-- what a read says of a key's file: that it is this one, or that there is none
abbrev pub ReadSays : KeyRead → Option (List ℕ) → Type 0
ReadSays (read.Found file) there = there ≡ Some file.items
ReadSays read.Absent there = there ≡ None
ReadSays read.Failed there = ⊤
ReadSays read.NoMemory there = ⊤

-- a fact of the bytes that a read gave
abbrev pub IfFound : KeyRead → (List ℕ → Type 0) → Type 0
IfFound (read.Found file) P = P file.items
IfFound read.Absent P = ⊤
IfFound read.Failed P = ⊤
IfFound read.NoMemory P = ⊤

-- a key's file was read
pub record ReadsKey (before : KeyFiles) (grip : Grip) (answer : KeyRead) (after : KeyFiles) : Type 0 where
  pub says : IfSome before.files (λ files. ReadSays answer (map.get files grip))
  pub small : IfFound answer (λ file. length file ≤ MAX_KEY_FILE_LEN)
  pub leaves : LeavesKeys before after
  pub failed : answer ≡ read.Failed → Rose before.faults after.faults

-- a fact of the grips that were listed
abbrev pub IfNames : KeyNames → (List Grip → Type 0) → Type 0
IfNames (names.Names grips) P = P grips.items
IfNames names.Failed P = ⊤
IfNames names.NoMemory P = ⊤

-- the keys were listed
pub record ListsKeys (before : KeyFiles) (answer : KeyNames) (after : KeyFiles) : Type 0 where
  pub says : IfNames answer (λ grips. IfSome before.files (λ files. grips ≡ map.keys files))
  pub ascending : IfNames answer (λ grips. IsStrictlySortedBy grip_cmp grips)
  pub leaves : LeavesKeys before after
  pub failed : answer ≡ names.Failed → Rose before.faults after.faults

-- a change was made where the answer is Done, and else none; the folder is the same
pub record ChangesKeys (change : map.FinMap grip_cmp (List ℕ) → map.FinMap grip_cmp (List ℕ)) (before : KeyFiles) (answer : KeyDone) (after : KeyFiles) : Type 0 where
  pub changed : answer ≡ done.Done → after.files ≡ option_map change before.files
  pub unchanged : (answer ≡ done.Done → ⊥) → after.files ≡ before.files
  pub folder : after.folder ≡ before.folder
  pub failed : answer ≡ done.Failed → Rose before.faults after.faults
  pub never_falls : before.faults ≤ after.faults

-- a key's file was replaced
pub record ReplacesKey (before : KeyFiles) (grip : Grip) (file : List ℕ) (answer : KeyDone) (after : KeyFiles) : Type 0 where
  pub changes : ChangesKeys (λ files. map.insert files grip file) before answer after
  pub not_absent : answer ≡ done.Absent → ⊥

-- a key's file was removed
pub record RemovesKey (before : KeyFiles) (grip : Grip) (answer : KeyDone) (after : KeyFiles) : Type 0 where
  pub changes : ChangesKeys (λ files. map.remove files grip) before answer after
  pub had : answer ≡ done.Done → IfSome before.files (λ files. IsSome (map.get files grip))
  pub absent : answer ≡ done.Absent → IfSome before.files (λ files. map.get files grip ≡ None)
