-- A host's parts, as far as they show what they are. This is the project's own.
use Rattle.std.specs.{Prelude.{◌≡◌, ℕ, List, [], length, nat_le, if◌then◌else◌, Option, Some, None, IfSome, ⊤}, Option.option_map}
use Rattle.agent_ports.specs.{Sides.Side, Launches.Launches, Readings.Readings, KeyFiles.KeyFiles, declared.{homedir.TheConstants.MAX_HOMEDIR_LEN, host.Parts.Parts}}

-- how parts of these types are seen
pub record Views (La C R K : Type 0) : Type 0 where
  pub launches : La → Launches
  pub readings : C → Readings
  pub draws : R → Side
  pub keys : K → KeyFiles

-- the folder is the one at this path, where it is known
abbrev pub IsFolder : List ℕ → Option (List ℕ) → Type 0
IsFolder path folder = IfSome folder (λ known. known ≡ path)

-- the same key files in the folder at this path; it is known where theirs was
abbrev pub settled_at : List ℕ → KeyFiles → KeyFiles
settled_at path keys = record keys { folder = option_map (λ folder. path) keys.folder }

-- what a host keeps of a folder's path: one that is too long is none
abbrev pub kept_path : List ℕ → List ℕ
kept_path path = if nat_le (length path) MAX_HOMEDIR_LEN then path else []

module _ {La C R K : Type 0} (views : Views La C R K) where
  -- nothing failed in these parts so far
  pub record AreNew (parts : Parts La C R K) : Type 0 where
    pub launcher : (views.launches parts.launcher).faults ≡ 0
    pub dice : (views.draws parts.dice).faults ≡ 0
    pub keys : (views.keys parts.keys).faults ≡ 0

  -- other parts, with the same counts and the same contents, whose key files are in the folder at this path
  pub record AreIn (path : List ℕ) (before after : Parts La C R K) : Type 0 where
    pub launcher : views.launches after.launcher ≡ views.launches before.launcher
    pub clock : views.readings after.clock ≡ views.readings before.clock
    pub dice : views.draws after.dice ≡ views.draws before.dice
    pub keys : views.keys after.keys ≡ settled_at path (views.keys before.keys)

  -- a host that has its parts has them afterwards, in the folder at this path
  abbrev pub AreSettled : List ℕ → Option (Parts La C R K) → Option (Parts La C R K) → Type 0
  AreSettled path (Some before) (Some after) = AreIn path before after
  AreSettled path (Some before) None = ⊥
  AreSettled path None after = ⊤
