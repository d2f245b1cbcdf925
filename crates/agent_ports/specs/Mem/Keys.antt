-- The files of keys in memory, from their entries.
use Rattle.std.specs.{Prelude.{ℕ, List}, Option.option_map}
use Rattle.agent_ports.specs.{declared.grip.Grip.Grip, KeyFiles.{KeyFiles, grip_cmp}}
use Rattle.std.specs.FinMap as map

abbrev pub files_of : List (Grip × List ℕ) → map.FinMap grip_cmp (List ℕ)
files_of entries = map.from_entries entries

-- with this file of a key, and no call counted
abbrev pub inserted : Grip → List ℕ → KeyFiles → KeyFiles
inserted grip file keys = record keys { files = option_map (λ files. map.insert files grip file) keys.files }
