-- Private: where an agent is looked for, and by which path the system is asked for a connection. This is the project's own.
use Rattle.std.specs.Prelude.{◌≡◌, ℕ, List, [], Contains, length, nat_lt, string_bytes, if◌then◌else◌, Option, Some, None, IfSome}
use Rattle.gnupg_home.specs.declared.socket_path.TheConstants.{MAX_PATH}
use Rattle.passphrase_host.specs.declared.asked.Opened.{Opened}
use Rattle.passphrase_talk.specs.declared.connector.Place.{Place, TheVariants.{Home, Beside}}

-- the path that the system is handed: the socket's own, or where that is too long the one that was named
abbrev pub handed : List ℕ → List ℕ → List ℕ
handed named own = if nat_lt MAX_PATH (length own) then named else own

-- a connection was made at one of these paths
abbrev pub IsAt : List (List ℕ) → Opened → Type 0
IsAt paths opened = Contains paths (string_bytes opened.reached.at)

abbrev pub IsMadeAt : List (List ℕ) → Option Opened → Type 0
IsMadeAt paths made = IfSome made (IsAt paths)

-- where an agent that was found may listen, and that of a place
abbrev pub paths_of : Option (List (List ℕ)) → List (List ℕ)
paths_of (Some paths) = paths
paths_of None = []

abbrev pub paths_at : Place → Option (List (List ℕ)) → Option (List (List ℕ)) → List (List ℕ)
paths_at Home home beside = paths_of home
paths_at Beside home beside = paths_of beside
