-- What the bytes of a key's file say, and what is written over one: the one place that knows in which formats files are (GnuPG's notes on the
-- format of private keys, agent/keyformat.txt).
use Rattle.std.specs.Prelude.{◌≡◌, ◌≤◌, ◌<◌, ℕ, true, false, List, [], ◌∷◌, length, Option, Some, None, Result, Ok, Err}
use Rattle.{key_lines.specs.{Canon.{is_canonical, Canon}, KeyFile.{KeyFile, IsKeyFile, with_key}}, sexp_canonical.specs.{Spelling.{most_bytes, spelling_of}, declared.tree.Sexp.Sexp}, sexp_keys.specs.Key.Key}
use Rattle.{sexp_keys.specs.declared.fault.KeyFault.{KeyFault, TheVariants.InvSexp}, secret_file.specs.{Answers.IsFileFault, Opens.IsFile}, session_client.specs.declared.refusal.Refusal.{Refusal, TheVariants.Agent}}
use Rattle.key_commands.specs.Events.{Event, out_of_memory}
use Rattle.session_client.specs.declared.code.Code.TheVariants as code

-- the bytes of a canonical file are this key, or they have this fault
abbrev pub CanonicalSays : List ℕ → Result Key KeyFault → Type 0
CanonicalSays file (Ok key) = IsFile file key
CanonicalSays file (Err fault) = IsFileFault file fault

-- A file says what the canonical file says for which it stands. One that stands for none is no expression.
pub data FileSays (file : List ℕ) : Result Key KeyFault → Type 0 where
  canonical : {bytes : List ℕ} {said : Result Key KeyFault} → Canon file (Some bytes) → CanonicalSays bytes said → FileSays file said
  no_canonical : Canon file None → FileSays file (Err InvSexp)

-- the file is some key
abbrev pub IsSomeKey : List ℕ → Type 0
IsSomeKey file = (key : Key) × FileSays file (Ok key)

-- the bytes are the canonical list of some key
abbrev pub IsSomeList : List ℕ → Type 0
IsSomeList list = (key : Key) × IsFile list key

-- the file is the other with the key of this list in place of its own, and every other byte the same
pub record IsWithList (file list new : List ℕ) : Type 0 where
  pub old : KeyFile
  pub tree : Sexp
  pub has : IsKeyFile file old
  pub spelled : list ≡ spelling_of tree
  pub parts : new ≡ with_key old tree

-- A key's canonical list is written over a file: as it is over a canonical file, and as the key between the other lines of an extended one. A new file
-- that is longer than files may be is refused. Only an extended one wants memory.
pub data Rewrites (file list : List ℕ) (held : Option ℕ) : List Event → Result (List ℕ) Refusal → Option ℕ → Type 0 where
  canonical_file : is_canonical file ≡ true → Rewrites file list held [] (Ok list) held
  extended_file : {new : List ℕ} → is_canonical file ≡ false → IsWithList file list new → length new ≤ most_bytes → Rewrites file list held [] (Ok new) held
  too_long : (new : List ℕ) → is_canonical file ≡ false → IsWithList file list new → most_bytes < length new
      → Rewrites file list held [] (Err (Agent code.BadSecKey)) held
  no_memory : is_canonical file ≡ false → Rewrites file list held (out_of_memory ∷ []) (Err (Agent code.NoMemory)) held
