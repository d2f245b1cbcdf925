-- Requests that ask the cache alone, by what is read of their lines.
use Rattle.std.{proofs.Common.{◌≡◌, ℕ, Bool, true, false, List, [], ◌∷◌, Option, None, Some, Result, Ok, Err, refl, sym, subst}, specs.{Option.option_map, Prelude.{codes, if◌then◌else◌}}}
use Rattle.{session_client.specs.{declared.code.Code.Code, Fields.{◌>>=◌, in_form}}, assuan_text.specs.{Options.{options_of, arguments_of, last_value}, Words.{rest_of, words}}, command_table.specs.Commands.command_in}
use Rattle.command_table.specs.declared.commands.Command.{Command}
use Rattle.agent_commands.specs.{Exchanges.{quiet_of, is_quiet}, Fields.{cache_id, life, cleared_mode, given_passphrase}}
use Rattle.agent_commands.specs.{Requests.{GetFields, get_fields, get_passphrase, ReadsGet, preset_of, clear_of, confirmation_of, description_of, info_of, either, request_by, request_of}, declared.request.CacheCommand.CacheCommand}
use Rattle.agent_commands.specs.declared.request.CacheCommand.TheVariants.{Nop, Reset, Bye, Help, SetOption, GetInfo, GetPassphrase, PresetPassphrase, ClearPassphrase, GetConfirmation, ReloadAgent, KillAgent, SetKeyDesc}
use Rattle.agent_commands.specs.declared.request.{QuietRequest.QuietRequest, Request.{Request, TheVariants.{Cache, Key, Bad}}, Texts.Texts}
use Rattle.command_table.specs.declared.commands.Command.TheVariants as on
use Rattle.command_table.specs.declared.commands.CommandName.TheVariants as name

-- no other command has these fields, whatever is read of it
never : {A : Type 0} (first : Result A Code) (next : A → Result CacheCommand Code) → ((value : A) → get_fields (either (next value)) ≡ None) → get_fields (either (first >>= next)) ≡ None
never (Ok value) next each = each value
never (Err code) next each = refl

never_preset : (options arguments : List (List ℕ)) → get_fields (either (preset_of options arguments)) ≡ None
never_preset options [] = refl
never_preset options (word ∷ []) = refl
never_preset options (word ∷ timeout ∷ more) = never (in_form (cache_id word)) _ (λ id. never (in_form (life timeout)) _ (λ life. never (in_form (given_passphrase _ more)) _ (λ secret. refl)))

never_clear : (options arguments : List (List ℕ)) → get_fields (either (clear_of options arguments)) ≡ None
never_clear options [] = refl
never_clear options (word ∷ more) =
    never (in_form (cleared_mode (last_value (codes "--mode") options))) (λ mode. in_form (cache_id word) >>= (λ id. Ok (ClearPassphrase id mode)))
    (λ mode. never (in_form (cache_id word)) (λ id. Ok (ClearPassphrase id mode)) (λ id. refl))

never_confirmation : (arguments : List (List ℕ)) → get_fields (either (confirmation_of arguments)) ≡ None
never_confirmation [] = refl
never_confirmation (word ∷ more) = refl

never_description : (words : List (List ℕ)) → get_fields (either (description_of words)) ≡ None
never_description [] = refl
never_description (word ∷ more) = refl

-- but a GET_PASSPHRASE does
got : (get : Option GetFields) → get_fields (either (in_form (option_map get_passphrase get))) ≡ get
got None = refl
got (Some fields) = refl

got_by : (command : Option Command) (line : List ℕ) (get : Option GetFields) → ReadsGet command (rest_of line) get → get_fields (request_by command line) ≡ get
got_by None line get is = rw is refl
got_by (Some (on.Key name)) line get is = rw is refl
got_by (Some (on.Trust name)) line get is = rw is refl
got_by (Some (on.Cache name.GetPassphrase)) line get is = rw is (got get)
got_by (Some (on.Cache name.Nop)) line get is = rw is refl
got_by (Some (on.Cache name.Reset)) line get is = rw is refl
got_by (Some (on.Cache name.Bye)) line get is = rw is refl
got_by (Some (on.Cache name.Help)) line get is = rw is refl
got_by (Some (on.Cache name.SetOption)) line get is = rw is refl
got_by (Some (on.Cache name.GetInfo)) line get is = rw is (never (info_of (arguments_of (words (rest_of line)))) _ (λ info. refl))
got_by (Some (on.Cache name.PresetPassphrase)) line get is = rw is (never_preset (options_of (words (rest_of line))) (arguments_of (words (rest_of line))))
got_by (Some (on.Cache name.ClearPassphrase)) line get is = rw is (never_clear (options_of (words (rest_of line))) (arguments_of (words (rest_of line))))
got_by (Some (on.Cache name.GetConfirmation)) line get is = rw is (never_confirmation (arguments_of (words (rest_of line))))
got_by (Some (on.Cache name.ReloadAgent)) line get is = rw is refl
got_by (Some (on.Cache name.KillAgent)) line get is = rw is refl
got_by (Some (on.Cache name.SetKeyDesc)) line get is = rw is (never_description (words (rest_of line)))

-- so what was read of a line are the fields of its request
pub fields_read : (line : List ℕ) (get : Option GetFields) → ReadsGet (command_in line) (rest_of line) get → get_fields (request_of line) ≡ get
unfolding request_of
fields_read line get is = got_by (command_in line) line get is

-- a request that is quiet is a GET_PASSPHRASE with these fields
module _ (P : Request → Type 0) (request : QuietRequest)
    (each : (check no_ask quality : Bool) (repeat : ℕ) (texts : Option Texts) → is_quiet no_ask texts ≡ true
    → P (Cache (GetPassphrase request.plain check no_ask repeat quality request.id texts))) where
  if_quiet : (plain check no_ask quality : Bool) (repeat : ℕ) (id : Option (List ℕ)) (texts : Option Texts) (quiet : Bool) → is_quiet no_ask texts ≡ quiet
      → (if quiet then Some (record { plain = plain; id = id }) else None) ≡ Some request
      → P (Cache (GetPassphrase plain check no_ask repeat quality id texts))
  if_quiet plain check no_ask quality repeat id texts true quiet is =
      let same : record { plain = plain; id = id } ≡ request = cc is in
      subst (λ (r : QuietRequest). P (Cache (GetPassphrase r.plain check no_ask repeat quality r.id texts))) (sym same) (each check no_ask quality repeat texts quiet)
  if_quiet plain check no_ask quality repeat id texts false quiet is = absurd (cc is)

  pub of_quiet : (asked : Request) → quiet_of asked ≡ Some request → P asked
  of_quiet (Bad code) is = absurd (cc is)
  of_quiet (Key line) is = absurd (cc is)
  of_quiet (Cache (GetPassphrase plain check no_ask repeat quality id texts)) is = if_quiet plain check no_ask quality repeat id texts (is_quiet no_ask texts) refl is
  of_quiet (Cache Nop) is = absurd (cc is)
  of_quiet (Cache Reset) is = absurd (cc is)
  of_quiet (Cache Bye) is = absurd (cc is)
  of_quiet (Cache Help) is = absurd (cc is)
  of_quiet (Cache (SetOption text)) is = absurd (cc is)
  of_quiet (Cache (GetInfo info)) is = absurd (cc is)
  of_quiet (Cache (PresetPassphrase id life secret)) is = absurd (cc is)
  of_quiet (Cache (ClearPassphrase id mode)) is = absurd (cc is)
  of_quiet (Cache (GetConfirmation description)) is = absurd (cc is)
  of_quiet (Cache ReloadAgent) is = absurd (cc is)
  of_quiet (Cache KillAgent) is = absurd (cc is)
  of_quiet (Cache (SetKeyDesc text)) is = absurd (cc is)
