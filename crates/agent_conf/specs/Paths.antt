-- Paths in options: the user's own folder in them, and the socket for clients on other machines (GnuPG manual, "Agent Options", `--extra-socket`). That
-- this socket is in the home folder is this project's own.
use Rattle.std.specs.{Prelude.{ℕ, ◌||◌, ◌&&◌, nat_le, Bool, true, false, List, ◌++◌, length, take, drop, codes, Option, Some, None, if◌then◌else◌}, Str.bytes_eq}

-- `~/` stands for the user's own folder, where that is known
abbrev pub expanded : List ℕ → List ℕ → List ℕ
expanded user path =
    if bytes_eq (take 2 path) (codes "~/") && nat_le 1 (length user) then user ++ drop 1 path else path

-- the path of the extra socket in this folder
abbrev pub socket_in : List ℕ → List ℕ
socket_in folder = folder ++ codes "/S.gpg-agent.extra"

-- the folder of this path, where `~` stands for the user's own
abbrev pub from_own : List ℕ → List ℕ → List ℕ
from_own user folder = codes "~" ++ drop (length user) folder

-- the home folder is below the user's own, and the path says so
abbrev pub is_from_own : List ℕ → List ℕ → List ℕ → Bool
is_from_own home user path =
    nat_le 1 (length user) && bytes_eq (take 2 path) (codes "~/")
    && (bytes_eq (take (length user) home) user && bytes_eq path (socket_in (from_own user home)))

-- the path of the extra socket in the home folder, by its name alone, or from the user's own folder on
abbrev pub is_own_socket : List ℕ → List ℕ → List ℕ → Bool
is_own_socket home user path =
    bytes_eq path (codes "S.gpg-agent.extra") || bytes_eq path (socket_in home) || is_from_own home user path

abbrev pub is_no_socket : List ℕ → Bool
is_no_socket value = bytes_eq value (codes "none") || bytes_eq value (codes "/dev/null")

-- whether the agent is to have its extra socket, where the value is one that it can have
abbrev pub socket_choice : List ℕ → List ℕ → List ℕ → Option Bool
socket_choice home user value =
    if is_no_socket value then Some false
    else if is_own_socket home user value then Some true
    else None
