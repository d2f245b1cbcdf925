-- What a line with a command on keys asks for, or the fault for which it is refused (GnuPG manual, "Agent's Assuan protocol"). Which fault a
-- refusal has, and which words are passed over, is this project's own.
use Rattle.std.specs.Prelude.{ℕ, ◌==◌, nat_le, nat_lt, ◌&&◌, Bool, true, false, List, [], ◌∷◌, length, codes, Option, Some, None, Result, Ok, Err, if◌then◌else◌}
use Rattle.{agent_ports.specs.declared.grip.Grip.Grip, session_client.specs.{Fields.{◌>>=◌, in_form}, declared.code.Code.{Code, TheVariants.{NotSupported, UnknownCommand, Parameter}}}}
use Rattle.{assuan_text.specs.{Numbers.number_of, Options.{options_of, arguments_of, has_option, last_value}, Words.{rest_of, words}}, cache_policy.specs.declared.id.TheConstants.MAX_ID_LEN, command_table.specs.Commands.command_in}
use Rattle.{command_table.specs.declared.commands.{Command.Command, KeyCommandName.KeyCommandName}, hex.specs.{Hex.decode_of, declared.error.FromHexError.FromHexError}}
use Rattle.key_commands.specs.declared.{grips.TheConstants.MAX_GRIPS, request.{Direction.{Direction, TheVariants.{Import, Export}}, KeyRequest.KeyRequest}}
use Rattle.key_commands.specs.declared.request.KeyRequest.TheVariants.{HaveKey, ListGrips, KeyInfo, ListKeys, KeyWrap, ImportKey, ExportKey, Passwd, DeleteKey, Bad}
use Rattle.command_table.specs.declared.commands.Command.TheVariants as on
use Rattle.command_table.specs.declared.commands.KeyCommandName.TheVariants as name

abbrev pub grip_of_bytes : Result (List ℕ) FromHexError → Option Grip
grip_of_bytes (Ok bytes) = Some (record { 0 = bytes })
grip_of_bytes (Err fault) = None

-- a key is named by its grip: 40 hexadecimal digits, of either case
abbrev pub grip : List ℕ → Option Grip
grip word = if length word == 40 then grip_of_bytes (decode_of word) else None

-- the key that the first word names
abbrev pub first_grip : List (List ℕ) → Option Grip
first_grip [] = None
first_grip (word ∷ more) = grip word

-- the keys that all words name, of which each has to be one
abbrev pub all_grips : List (List ℕ) → Result (List Grip) Code
all_grips [] = Ok []
all_grips (word ∷ more) = do
  first ← in_form (grip word)
  others ← all_grips more
  Ok (first ∷ others)

-- one key at least. No line has room for more than the most that are kept.
abbrev pub some_grips : List (List ℕ) → Result (List Grip) Code
some_grips words = if nat_le 1 (length words) && nat_le (length words) MAX_GRIPS then all_grips words else Err Parameter

-- a nonce is a cache id: it has a byte at least, and isn't too long. `None` where it isn't one; there may be none.
abbrev pub nonce : Option (List ℕ) → Option (Option (List ℕ))
nonce None = Some None
nonce (Some id) = if nat_lt 0 (length id) && nat_le (length id) MAX_ID_LEN then Some (Some id) else None

-- the first word, where there is one
abbrev pub first_word : List (List ℕ) → Option (List ℕ)
first_word [] = None
first_word (word ∷ more) = Some word

-- HAVEKEY GRIP..
abbrev pub have_some : List (List ℕ) → Result KeyRequest Code
have_some arguments = do
  grips ← some_grips arguments
  Ok (HaveKey grips)

-- HAVEKEY --list=N, where N is a number from 1 on, of 1 to 10 digits. It limits nothing: a list that was cut would be taken for whole.
abbrev pub all_from_one : Option ℕ → Result KeyRequest Code
all_from_one None = Err Parameter
all_from_one (Some limit) = if nat_le 1 limit then Ok ListGrips else Err Parameter

abbrev pub limited_to : List ℕ → Result KeyRequest Code
limited_to limit = all_from_one (number_of limit)

-- by whether `--list` is given without a value, what its last value is, and the words behind the options
abbrev pub have_by : Bool → Option (List ℕ) → List (List ℕ) → Result KeyRequest Code
have_by lists (Some limit) arguments = limited_to limit
have_by true None arguments = Ok ListGrips
have_by false None arguments = have_some arguments

-- HAVEKEY GRIP.., or HAVEKEY --list[=N], which words behind the options don't change
abbrev pub have_of : List (List ℕ) → List (List ℕ) → Result KeyRequest Code
have_of options arguments = have_by (has_option (codes "--list") options) (last_value (codes "--list") options) arguments

-- KEYINFO GRIP, or KEYINFO --list
abbrev pub key_info_of : List (List ℕ) → List (List ℕ) → Result KeyRequest Code
key_info_of options arguments =
    if has_option (codes "--list") options then Ok ListKeys
    else (in_form (first_grip arguments) >>= λ grip. Ok (KeyInfo grip))

-- one of two, and not both
abbrev pub direction : Bool → Bool → Option Direction
direction true false = Some Import
direction false true = Some Export
direction _ _ = None

-- KEYWRAP_KEY --import|--export
abbrev pub wrap_of : List (List ℕ) → Result KeyRequest Code
wrap_of options = do
  way ← in_form (direction (has_option (codes "--import") options) (has_option (codes "--export") options))
  Ok (KeyWrap way)

-- IMPORT_KEY [--force] [NONCE]
abbrev pub import_of : List (List ℕ) → List (List ℕ) → Result KeyRequest Code
import_of options arguments = do
  nonce ← in_form (nonce (first_word arguments))
  Ok (ImportKey (has_option (codes "--force") options) nonce)

-- EXPORT_KEY [--cache-nonce=NONCE] GRIP
abbrev pub export_of : List (List ℕ) → List (List ℕ) → Result KeyRequest Code
export_of options arguments = do
  grip ← in_form (first_grip arguments)
  nonce ← in_form (nonce (last_value (codes "--cache-nonce") options))
  Ok (ExportKey grip nonce)

-- PASSWD [--cache-nonce=NONCE] [--passwd-nonce=NONCE] [--verify] GRIP
abbrev pub passwd_of : List (List ℕ) → List (List ℕ) → Result KeyRequest Code
passwd_of options arguments = do
  grip ← in_form (first_grip arguments)
  old ← in_form (nonce (last_value (codes "--cache-nonce") options))
  new ← in_form (nonce (last_value (codes "--passwd-nonce") options))
  Ok (Passwd grip old new (has_option (codes "--verify") options))

-- DELETE_KEY [--force|--stub-only] GRIP. A stub alone is never deleted.
abbrev pub delete_of : List (List ℕ) → List (List ℕ) → Result KeyRequest Code
delete_of options arguments = do
  grip ← in_form (first_grip arguments)
  (if has_option (codes "--stub-only") options then Err NotSupported else Ok (DeleteKey grip (has_option (codes "--force") options)))

-- a command, and what comes after it
abbrev pub key_asked_by : KeyCommandName → List ℕ → Result KeyRequest Code
key_asked_by name.HaveKey rest = have_of (options_of (words rest)) (arguments_of (words rest))
key_asked_by name.KeyInfo rest = key_info_of (options_of (words rest)) (arguments_of (words rest))
key_asked_by name.KeyWrap rest = wrap_of (options_of (words rest))
key_asked_by name.ImportKey rest = import_of (options_of (words rest)) (arguments_of (words rest))
key_asked_by name.ExportKey rest = export_of (options_of (words rest)) (arguments_of (words rest))
key_asked_by name.Passwd rest = passwd_of (options_of (words rest)) (arguments_of (words rest))
key_asked_by name.DeleteKey rest = delete_of (options_of (words rest)) (arguments_of (words rest))

abbrev pub key_or_bad : Result KeyRequest Code → KeyRequest
key_or_bad (Ok request) = request
key_or_bad (Err code) = Bad code

-- the command that the line begins with, with the rest of the line
abbrev pub key_request_by : Option Command → List ℕ → KeyRequest
key_request_by (Some (on.Key name)) rest = key_or_bad (key_asked_by name rest)
key_request_by _ rest = Bad UnknownCommand

unfoldable pub key_request_of : List ℕ → KeyRequest
key_request_of line = key_request_by (command_in line) (rest_of line)
