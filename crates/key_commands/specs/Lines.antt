-- The lines that requests on keys are answered by (GnuPG manual, "Agent HAVEKEY", "Agent EXPORT"). The forms of the status lines are this
-- project's own.
use Rattle.std.specs.Prelude.{ℕ, Bool, List, ◌++◌, codes, Option, Some, None, if◌then◌else◌}
use Rattle.{assuan_escape.specs.Escapes.hex_text, agent_ports.specs.declared.grip.Grip.Grip, assuan_server.specs.Written.{limit_line, status_text}, assuan_text.specs.LineEnds.line_of}
use Rattle.cache_policy.specs.declared.secret.TheConstants.{MAX_SECRET_LEN}

-- a key's grip in uppercase hexadecimal digits: its name in lines, texts and the cache
abbrev pub grip_text : Grip → List ℕ
grip_text grip = hex_text grip.0

-- what is known of a key: whether its passphrase is cached, and whether it is clear or protected
abbrev pub info_text : Grip → Bool → Bool → List ℕ
info_text grip cached clear =
    grip_text grip ++ codes " D - - " ++ (if cached then codes "1" else codes "-") ++ codes " " ++ (if clear then codes "C" else codes "P") ++ codes " - - -"

abbrev pub info_line : Grip → Bool → Bool → List ℕ
info_line grip cached clear = line_of (status_text (codes "KEYINFO") (info_text grip cached clear))

-- how many bytes of a key the client may send
abbrev pub max_key_data : ℕ
max_key_data = 65544

-- a line that answers nothing: how much the client may send of a passphrase or of a key, or what is known of a key
pub data IsNotice : List ℕ → Type 0 where
  of_passphrase : IsNotice (limit_line MAX_SECRET_LEN)
  of_key_data : IsNotice (limit_line max_key_data)
  of_key : (grip : Grip) (cached clear : Bool) → IsNotice (info_line grip cached clear)

-- the nonce under which a passphrase was cached
abbrev pub nonce_line : List ℕ → List ℕ
nonce_line nonce = line_of (status_text (codes "CACHE_NONCE") nonce)

-- what prompts about a key as it is say: what the client set for this request (SETKEYDESC of gpg-agent), or what they usually do
abbrev pub described : Option (List ℕ) → List ℕ → List ℕ
described None usual = usual
described (Some own) usual = own

abbrev pub old_description : Grip → List ℕ
old_description grip = codes "Please enter the passphrase for key " ++ grip_text grip

abbrev pub new_description : Grip → List ℕ
new_description grip = codes "Please enter a new passphrase for key " ++ grip_text grip

abbrev pub delete_description : Grip → List ℕ
delete_description grip = codes "Delete key " ++ grip_text grip ++ codes "?"

-- what stands before the field of a passphrase
abbrev pub field_text : List ℕ
field_text = codes "Passphrase:"
