-- What a line asks for, or the fault for which it is refused (GnuPG manual, "Agent's Assuan protocol"). Which fault a refusal has is
-- this project's own.
use Rattle.std.specs.{Prelude.{◌≡◌, ℕ, Bool, true, false, List, [], ◌∷◌, codes, Option, Some, None, Result, Ok, Err, if◌then◌else◌}, Option.{is_none, option_map}, Str.bytes_eq}
use Rattle.{assuan_text.specs.{Options.{options_of, arguments_of, has_option, last_option, last_value}, Rows.found, Words.{rest_of, words}}, assuan_escape.specs.Escapes.unescaped, agent_ask.specs.Plans.text}
use Rattle.{session_client.specs.{Fields.{◌>>=◌, in_form}, declared.code.Code.{Code, TheVariants.{NotSupported, UnknownCommand, Parameter}}}, command_table.specs.{Commands.{command_in, is_listed}, declared.commands.Command.Command}}
use Rattle.command_table.specs.declared.commands.CommandName.{CommandName}
use Rattle.agent_commands.specs.{Fields.{cache_id, unless_placeholder, text_or, texts, repeats, life, cleared_mode, given_passphrase}, declared.request.{Texts.Texts, Info.{Info, TheVariants.{Version, Pid, S2kCount, Listed}}}}
use Rattle.agent_commands.specs.declared.request.CacheCommand.{CacheCommand, TheVariants.{Nop, Reset, Bye, Help, SetOption, GetInfo, GetPassphrase, PresetPassphrase, ClearPassphrase, GetConfirmation, ReloadAgent, KillAgent, SetKeyDesc}}
use Rattle.agent_commands.specs.declared.request.Request.{Request, TheVariants.{Cache, Key, Bad}}
use Rattle.command_table.specs.declared.commands.Command.TheVariants as on
use Rattle.command_table.specs.declared.commands.CommandName.TheVariants as name

-- what GETINFO can be asked for by one word
abbrev pub infos : List (List ℕ × Info)
infos =
    (codes "version", Version)
    ∷ (codes "pid", Pid)
    ∷ (codes "s2k_count", S2kCount)
    ∷ []

unfoldable pub info_named : List ℕ → Option Info
info_named word = found word infos

-- cmd_has_option COMMAND OPTION; further words are passed over
abbrev pub listed_info : List (List ℕ) → Result Info Code
listed_info (command ∷ option ∷ more) = if is_listed command option then Ok Listed else Err NotSupported
listed_info _ = Err Parameter

-- what GETINFO is asked for, by its arguments
abbrev pub info_of : List (List ℕ) → Result Info Code
info_of [] = Err Parameter
info_of (what ∷ more) =
    if bytes_eq what (codes "cmd_has_option") then listed_info more else in_form (info_named what)

-- the fields of GET_PASSPHRASE, by their names
pub record GetFields : Type 0 where
  pub plain : Bool
  pub check : Bool
  pub no_ask : Bool
  pub repeat : ℕ
  pub quality : Bool
  pub id : Option (List ℕ)
  pub texts : Option Texts

abbrev pub get_passphrase : GetFields → CacheCommand
get_passphrase fields =
    GetPassphrase fields.plain fields.check fields.no_ask fields.repeat fields.quality fields.id fields.texts

-- the fields of a request that is a GET_PASSPHRASE
abbrev pub get_fields : Request → Option GetFields
get_fields (Cache (GetPassphrase plain check no_ask repeat quality id texts)) = Some (record {
  plain = plain;
  check = check;
  no_ask = no_ask;
  repeat = repeat;
  quality = quality;
  id = id;
  texts = texts;
})
get_fields _ = None

-- one that is in form, and leaves the cache out
abbrev pub leaves_cache : Option GetFields → Bool
leaves_cache None = false
leaves_cache (Some fields) = is_none fields.id

-- GET_PASSPHRASE OPTIONS ID [ERROR PROMPT DESCRIPTION]
abbrev pub get_of : List (List ℕ) → List (List ℕ) → Result CacheCommand Code
get_of options [] = Err Parameter
get_of options (word ∷ more) = do
  repeat ← in_form (repeats (last_option (codes "--repeat") options))
  id ← in_form (cache_id word)
  texts ← in_form (texts more)
  Ok (get_passphrase (record {
    plain = has_option (codes "--data") options;
    check = has_option (codes "--check") options;
    no_ask = has_option (codes "--no-ask") options;
    repeat = repeat;
    quality = has_option (codes "--qualitybar") options;
    id = unless_placeholder id;
    texts = texts;
  }))

-- PRESET_PASSPHRASE [--inquire] ID TIMEOUT [DIGITS]
abbrev pub preset_of : List (List ℕ) → List (List ℕ) → Result CacheCommand Code
preset_of options (word ∷ timeout ∷ more) = do
  id ← in_form (cache_id word)
  life ← in_form (life timeout)
  secret ← in_form (given_passphrase (has_option (codes "--inquire") options) more)
  Ok (PresetPassphrase id life secret)
preset_of options _ = Err Parameter

-- CLEAR_PASSPHRASE [--mode=normal|ssh] ID
abbrev pub clear_of : List (List ℕ) → List (List ℕ) → Result CacheCommand Code
clear_of options [] = Err Parameter
clear_of options (word ∷ more) = do
  mode ← in_form (cleared_mode (last_value (codes "--mode") options))
  id ← in_form (cache_id word)
  Ok (ClearPassphrase id mode)

-- GET_CONFIRMATION DESCRIPTION
abbrev pub confirmation_of : List (List ℕ) → Result CacheCommand Code
confirmation_of [] = Err Parameter
confirmation_of (word ∷ more) = Ok (GetConfirmation (text_or (codes "Please confirm") word))

-- SETKEYDESC TEXT, where a `+` is a blank; further words are passed over
abbrev pub description_of : List (List ℕ) → Result CacheCommand Code
description_of [] = Err Parameter
description_of (word ∷ more) = Ok (SetKeyDesc (text (unescaped true word)))

-- a command, and what comes after it. OPTION's text is kept as it is.
abbrev pub asked_by : CommandName → List ℕ → Result CacheCommand Code
asked_by name.Nop rest = Ok Nop
asked_by name.Reset rest = Ok Reset
asked_by name.Bye rest = Ok Bye
asked_by name.Help rest = Ok Help
asked_by name.SetOption rest = Ok (SetOption (text rest))
asked_by name.GetInfo rest = do
  info ← info_of (arguments_of (words rest))
  Ok (GetInfo info)
asked_by name.GetPassphrase rest = get_of (options_of (words rest)) (arguments_of (words rest))
asked_by name.PresetPassphrase rest = preset_of (options_of (words rest)) (arguments_of (words rest))
asked_by name.ClearPassphrase rest = clear_of (options_of (words rest)) (arguments_of (words rest))
asked_by name.GetConfirmation rest = confirmation_of (arguments_of (words rest))
asked_by name.ReloadAgent rest = Ok ReloadAgent
asked_by name.KillAgent rest = Ok KillAgent
asked_by name.SetKeyDesc rest = description_of (words rest)

abbrev pub either : Result CacheCommand Code → Request
either (Ok command) = Cache command
either (Err code) = Bad code

-- what a line asks of the cache or the session, by the command that it begins with
abbrev pub cache_request_by : Option Command → List ℕ → Result CacheCommand Code
cache_request_by (Some (on.Cache name)) line = asked_by name (rest_of line)
cache_request_by _ line = Err UnknownCommand

-- A line with a command on keys is kept as it is.
abbrev pub request_by : Option Command → List ℕ → Request
request_by (Some (on.Key name)) line = Key (text line)
request_by command line = either (cache_request_by command line)

-- what is read of a GET_PASSPHRASE before its texts are made: its fields, where they are in form. Of another command nothing is.
abbrev pub ReadsGet : Option Command → List ℕ → Option GetFields → Type 0
ReadsGet (Some (on.Cache name.GetPassphrase)) rest get =
    get_of (options_of (words rest)) (arguments_of (words rest)) ≡ in_form (option_map get_passphrase get)
ReadsGet _ rest get = get ≡ None

unfoldable pub request_of : List ℕ → Request
request_of line = request_by (command_in line) line
