-- What requests are answered, as the GnuPG manual has it ("Agent's Assuan protocol"). The codes are this project's own.
use Rattle.std.specs.{Prelude.{◌≡◌, ◌≤◌, ◌<◌, ℕ, Bool, true, false, List, ◌++◌, All, codes, decimal, length}, List.flat_map}
use Rattle.{assuan_escape.specs.Escapes.hex_text, assuan_server.specs.Written.{ok, ok_text, comment_text, IsDataAnswer}, assuan_text.specs.LineEnds.line_of, session_options.specs.declared.rules.Rules.Rules}
use Rattle.{cache_policy.specs.declared.secret.TheConstants.MAX_SECRET_LEN, command_table.specs.Commands.{commands, names_told}}
use Rattle.agent_commands.specs.declared.request.Info.{Info, TheVariants.{Version, Pid, S2kCount, Listed}}

abbrev pub closing : List ℕ
closing = line_of (ok_text (codes "closing connection"))

-- a comment for each of these names
abbrev pub comments : List (List ℕ) → List ℕ
comments names = flat_map (λ name. line_of (comment_text name)) names

-- and for each command that HELP tells, in a session that has to do with the trust list or in another one
abbrev pub help_with : Bool → List ℕ
help_with trusts = comments (names_told trusts commands) ++ ok

abbrev pub help : List ℕ
help = help_with false

-- a passphrase: bytes, and not too many
pub record IsSecret (secret : List ℕ) : Type 0 where
  pub bytes : All (λ byte. byte < 256) secret
  pub short : length secret ≤ MAX_SECRET_LEN

-- with `--data` as data lines, and otherwise by its uppercase hexadecimal digits
abbrev pub IsWritten : Bool → List ℕ → List ℕ → Type 0
IsWritten true secret text = IsDataAnswer secret text
IsWritten false secret text = text ≡ line_of (ok_text (hex_text secret))

-- the lines of a passphrase
pub record IsPassphrase (plain : Bool) (secret text : List ℕ) : Type 0 where
  pub is : IsSecret secret
  pub written : IsWritten plain secret text

-- what GETINFO is answered
abbrev pub IsInfo : Rules → Info → List ℕ → Type 0
IsInfo rules Version text = IsDataAnswer rules.version.bytes.items text
IsInfo rules Pid text = IsDataAnswer (decimal rules.pid) text
IsInfo rules S2kCount text = IsDataAnswer (decimal rules.s2k_count) text
IsInfo rules Listed text = text ≡ ok
