-- What a line with a command on the trust list asks for, or the fault for which it is refused (GnuPG manual, "Agent's Assuan protocol"). Which
-- fault a refusal has is this project's own.
use Rattle.std.specs.{Prelude.{ℕ, nat_le, true, List, ◌∷◌, length, codes, Option, Some, None, Result, Ok, Err, if◌then◌else◌}, Str.bytes_eq}
use Rattle.{arrayvec.specs.ArrayVec.ArrayVec, assuan_escape.specs.Escapes.unescaped, session_client.specs.{declared.code.Code.{Code, TheVariants.{UnknownCommand, Parameter}}, Fields.{◌>>=◌, in_form}}, assuan_text.specs.Options.arguments_of}
use Rattle.{assuan_text.specs.Words.{rest_of, words}, command_table.specs.{Commands.command_in, declared.commands.{Command.Command, TrustCommandName.TrustCommandName}}, key_commands.specs.Requests.{grip, first_grip}}
use Rattle.agent_origin.specs.declared.trust.request.{TheConstants.MAX_NAME_LEN, TrustPurpose.{TrustPurpose, TheVariants.{X509, OpenPgp}}, TrustRequest.{TrustRequest, TheVariants.{IsTrusted, MarkTrusted, Bad}}}
use Rattle.command_table.specs.declared.commands.Command.TheVariants as on
use Rattle.command_table.specs.declared.commands.TrustCommandName.TheVariants as name

-- what a certificate is to be trusted for
abbrev pub purpose : List ℕ → Option TrustPurpose
purpose word =
    if bytes_eq word (codes "S") then Some X509
    else if bytes_eq word (codes "P") then Some OpenPgp
    else None

-- the name of its owner, where a `+` is a blank
abbrev pub owner : List ℕ → Option (ArrayVec ℕ)
owner word = if nat_le (length (unescaped true word)) MAX_NAME_LEN then Some (record { items = unescaped true word }) else None

-- ISTRUSTED FINGERPRINT; further words are passed over
abbrev pub is_trusted_of : List (List ℕ) → Result TrustRequest Code
is_trusted_of arguments = do
  fingerprint ← in_form (first_grip arguments)
  Ok (IsTrusted fingerprint)

-- MARKTRUSTED FINGERPRINT FLAG NAME; further words are passed over
abbrev pub mark_trusted_of : List (List ℕ) → Result TrustRequest Code
mark_trusted_of (fingerprint ∷ flag ∷ name ∷ more) = do
  fingerprint ← in_form (grip fingerprint)
  purpose ← in_form (purpose flag)
  name ← in_form (owner name)
  Ok (MarkTrusted fingerprint purpose name)
mark_trusted_of _ = Err Parameter

-- a command, and what comes after it
abbrev pub trust_asked_by : TrustCommandName → List ℕ → Result TrustRequest Code
trust_asked_by name.IsTrusted rest = is_trusted_of (arguments_of (words rest))
trust_asked_by name.MarkTrusted rest = mark_trusted_of (arguments_of (words rest))

abbrev pub trust_or_bad : Result TrustRequest Code → TrustRequest
trust_or_bad (Ok request) = request
trust_or_bad (Err code) = Bad code

-- the command that the line begins with, with the rest of the line
abbrev pub trust_request_by : Option Command → List ℕ → TrustRequest
trust_request_by (Some (on.Trust name)) line = trust_or_bad (trust_asked_by name (rest_of line))
trust_request_by _ line = Bad UnknownCommand

unfoldable pub trust_request_of : List ℕ → TrustRequest
trust_request_of line = trust_request_by (command_in line) line

-- the command, where it is one on the trust list
abbrev pub trust_command : Option Command → Option TrustCommandName
trust_command (Some (on.Trust name)) = Some name
trust_command _ = None
