-- By which codes lines are refused.
use Rattle.std.{proofs.Common.{rules, ◌≡◌, ℕ, Bool, true, false, List, [], ◌∷◌, codes, Option, Some, None, Result, Ok, Err, subst, inl, inr}, specs.Prelude.{if◌then◌else◌, ⊤}}
use Rattle.{agent_ask.specs.Session.PortCalls.PortCall, session_client.specs.declared.code.Code.Code, assuan_server.specs.declared.errors.Origin.TheVariants.Agent}
use Rattle.{assuan_text.specs.{Numbers.number_of, Options.{options_of, arguments_of, has_option, last_option, last_value}, Words.{rest_of, words}}, session_options.specs.declared.rules.Rules.Rules, agent_commands.specs.Events.EventWith}
use Rattle.agent_commands.specs.{Fields.{cache_id, repeats, texts, life, cleared_mode, given_passphrase}, Requests.request_of, declared.request.{CacheCommand.CacheCommand, Request.{Request, TheVariants.{Cache, Key, Bad}}}}
use Rattle.{command_table.specs.{Commands.command_in, declared.commands.{Command.Command, CommandName.CommandName, KeyCommandName.KeyCommandName}}, key_commands.specs.{Requests.key_request_of, declared.request.KeyRequest.KeyRequest}}
use Rattle.agent_origin.specs.declared.session_state.SessionState.{SessionState}
use Rattle.agent_session.specs.Causes.{IsCaused, IsRefusedBy, on_keys, IsMalformed, IsUnsupported}
use Rattle.session_client.specs.declared.code.Code.TheVariants as code
use Rattle.command_table.specs.declared.commands.Command.TheVariants as at_table
use Rattle.session_client.specs.Fields as fields
use Rattle.agent_commands.specs.Requests as requests
use Rattle.command_table.specs.declared.commands.CommandName.TheVariants as name
use Rattle.key_commands.specs.Requests as key_requests
use Rattle.command_table.specs.declared.commands.KeyCommandName.TheVariants as key_name
use Rattle.key_commands.specs.declared.request.KeyRequest.TheVariants as on

-- the codes by which lines are refused
pub data IsLineCode : Code → Type 0 where
  unknown : IsLineCode code.UnknownCommand
  form : IsLineCode code.Parameter
  unsupported : IsLineCode code.NotSupported

-- a line is read, or refused by one of them
pub data FitsSo {A : Type 0} (Good : A → Type 0) : Result A Code → Type 0 where
  fine : {value : A} → Good value → FitsSo Good (Ok value)
  fault : {why : Code} → IsLineCode why → FitsSo Good (Err why)

abbrev Fits : {A : Type 0} → Result A Code → Type 0
Fits {A} result = FitsSo {A = A} (λ value. ⊤) result

-- a request that isn't refused by itself
abbrev IsAsked : KeyRequest → Type 0
IsAsked (on.Bad why) = ⊥
IsAsked _ = ⊤

if_fits : {A : Type 0} {Good : A → Type 0} (so : Bool) {one other : Result A Code} → FitsSo Good one → FitsSo Good other → FitsSo Good (if so then one else other)
if_fits true one other = one
if_fits false one other = other

needed_fits : {A : Type 0} (field : Option A) → Fits (fields.in_form field)
needed_fits None = fault form
needed_fits (Some value) = fine tt

then_fits : {A B : Type 0} {Good : B → Type 0} (first : Result A Code) (next : A → Result B Code) → Fits first → ((value : A) → FitsSo Good (next value)) → FitsSo Good (fields.◌>>=◌ first next)
then_fits (Ok value) next fits each = each value
then_fits (Err why) next (fault is) each = fault is

-- a field that is needed, and then the rest
field_fits : {A B : Type 0} {Good : B → Type 0} (field : Option A) (next : A → Result B Code) → ((value : A) → FitsSo Good (next value)) → FitsSo Good (fields.◌>>=◌ (fields.in_form field) next)
field_fits field next each = then_fits (fields.in_form field) next (needed_fits field) each

-- ---- requests on the cache and on the session

listed_fits : (arguments : List (List ℕ)) → Fits (requests.listed_info arguments)
listed_fits [] = fault form
listed_fits (command ∷ []) = fault form
listed_fits (command ∷ option ∷ more) = if_fits _ (fine tt) (fault unsupported)

info_fits : (arguments : List (List ℕ)) → Fits (requests.info_of arguments)
info_fits [] = fault form
info_fits (what ∷ more) = if_fits _ (listed_fits more) (needed_fits (requests.info_named what))

get_fits : (options arguments : List (List ℕ)) → Fits (requests.get_of options arguments)
get_fits options [] = fault form
get_fits options (word ∷ more) = field_fits (repeats (last_option (codes "--repeat") options)) _ (λ repeat. field_fits (cache_id word) _ (λ id. field_fits (texts more) _ (λ texts. (fine tt))))

preset_fits : (options arguments : List (List ℕ)) → Fits (requests.preset_of options arguments)
preset_fits options [] = fault form
preset_fits options (word ∷ []) = fault form
preset_fits options (word ∷ timeout ∷ more) =
    field_fits (cache_id word) _ (λ id. field_fits (life timeout) _ (λ life. field_fits (given_passphrase (has_option (codes "--inquire") options) more) _ (λ secret. (fine tt))))

clear_fits : (options arguments : List (List ℕ)) → Fits (requests.clear_of options arguments)
clear_fits options [] = fault form
clear_fits options (word ∷ more) = field_fits (cleared_mode (last_value (codes "--mode") options)) _ (λ mode. field_fits (cache_id word) _ (λ id. (fine tt)))

confirmation_fits : (arguments : List (List ℕ)) → Fits (requests.confirmation_of arguments)
confirmation_fits [] = fault form
confirmation_fits (word ∷ more) = fine tt

description_fits : (words : List (List ℕ)) → Fits (requests.description_of words)
description_fits [] = fault form
description_fits (word ∷ more) = fine tt

asked_fits : (command : CommandName) (rest : List ℕ) → Fits (requests.asked_by command rest)
asked_fits name.GetInfo rest = then_fits (requests.info_of (arguments_of (words rest))) _ (info_fits (arguments_of (words rest))) (λ info. (fine tt))
asked_fits name.GetPassphrase rest = get_fits (options_of (words rest)) (arguments_of (words rest))
asked_fits name.PresetPassphrase rest = preset_fits (options_of (words rest)) (arguments_of (words rest))
asked_fits name.ClearPassphrase rest = clear_fits (options_of (words rest)) (arguments_of (words rest))
asked_fits name.GetConfirmation rest = confirmation_fits (arguments_of (words rest))
asked_fits name.SetKeyDesc rest = description_fits (words rest)
asked_fits _ rest = fine tt

-- a request that isn't refused, or is by one of them
pub data FitsRequest : Request → Type 0 where
  cached : {command : CacheCommand} → FitsRequest (Cache command)
  keyed : {line : _} → FitsRequest (Key line)
  bad : {why : Code} → IsLineCode why → FitsRequest (Bad why)

either_fits : {result : Result CacheCommand Code} → Fits result → FitsRequest (requests.either result)
either_fits (fine good) = cached
either_fits (fault is) = bad is

named_fits : (found : Option Command) (input : List ℕ) → FitsRequest (requests.request_by found input)
named_fits (Some (at_table.Cache name)) input = either_fits (asked_fits name (rest_of input))
named_fits (Some (at_table.Key name)) input = keyed
named_fits (Some (at_table.Trust name)) input = bad unknown
named_fits None input = bad unknown

pub request_fits : (input : List ℕ) → FitsRequest (request_of input)
unfolding request_of
request_fits input = named_fits (command_in input) input

-- ---- requests on keys

grips_fit : (words : List (List ℕ)) → Fits (key_requests.all_grips words)
grips_fit [] = fine tt
grips_fit (word ∷ more) = field_fits (key_requests.grip word) _ (λ first. then_fits (key_requests.all_grips more) _ (grips_fit more) (λ others. (fine tt)))

limit_fits : (limit : Option ℕ) → FitsSo IsAsked (key_requests.all_from_one limit)
limit_fits None = fault form
limit_fits (Some limit) = if_fits _ (fine tt) (fault form)

have_fits : (lists : Bool) (limit : Option (List ℕ)) (arguments : List (List ℕ)) → FitsSo IsAsked (key_requests.have_by lists limit arguments)
have_fits lists (Some limit) arguments = limit_fits (number_of limit)
have_fits true None arguments = fine tt
have_fits false None arguments = then_fits (key_requests.some_grips arguments) _ (if_fits _ (grips_fit arguments) (fault form)) (λ grips. (fine tt))

-- each is made of fields and choices, of which the lemmas above are
key_asked_fits : (command : KeyCommandName) (rest : List ℕ) → FitsSo IsAsked (key_requests.key_asked_by command rest)
key_asked_fits key_name.HaveKey rest =
    let options = options_of (words rest) in
    have_fits (has_option (codes "--list") options) (last_value (codes "--list") options) (arguments_of (words rest))
key_asked_fits _ rest = search (rules, if_fits, field_fits, fine, fault, unsupported)

either_asked : (result : Result KeyRequest Code) → FitsSo IsAsked result → (why : Code) → key_requests.key_or_bad result ≡ on.Bad why → IsLineCode why
either_asked (Ok value) (fine good) why is = absurd (subst IsAsked is good)
either_asked (Err given) (fault code_is) why is = let same : given ≡ why = cc in subst IsLineCode same code_is

named_asked : (found : Option Command) (input : List ℕ) (why : Code) → key_requests.key_request_by found (rest_of input) ≡ on.Bad why → IsLineCode why
named_asked (Some (at_table.Key name)) input why is = either_asked (key_requests.key_asked_by name (rest_of input)) (key_asked_fits name (rest_of input)) why is
named_asked _ input why is = let same : code.UnknownCommand ≡ why = cc in subst IsLineCode same unknown

pub key_request_fits : (input : List ℕ) (why : Code) → key_request_of input ≡ on.Bad why → IsLineCode why
unfolding key_request_of
key_request_fits input why is = named_asked (command_in input) input why is

-- ---- so its refusal has its cause

module _ (rules : Rules) (kept : SessionState) (request : Request) (whole : List (EventWith PortCall)) where
  code_caused : (why : Code) → IsLineCode why → IsRefusedBy request why → IsCaused whole rules kept request why Agent
  code_caused why unknown by = by
  code_caused why form by = IsMalformed.line by
  code_caused why unsupported by = IsUnsupported.line by

bad_fits : (request : Request) → FitsRequest request → (why : Code) → request ≡ Bad why → IsLineCode why
bad_fits request cached why is = absurd (cc is)
bad_fits request keyed why is = absurd (cc is)
bad_fits request (bad {why = given} code_is) why is = let same : given ≡ why = cc in subst IsLineCode same code_is

on_keys_fits : (request : Request) (why : Code) → on_keys request ≡ Some (on.Bad why) → IsLineCode why
on_keys_fits (Key input) why is = let bad : key_request_of input.items ≡ on.Bad why = cc in key_request_fits input.items why bad
on_keys_fits (Cache command) why is = absurd (cc is)
on_keys_fits (Bad given) why is = absurd (cc is)

pub line_caused : (rules : Rules) (kept : SessionState) (input : List ℕ) (whole : List (EventWith PortCall)) (why : Code) → IsRefusedBy (request_of input) why
    → IsCaused whole rules kept (request_of input) why Agent
line_caused rules kept input whole why (inl is) = code_caused rules kept (request_of input) whole why (bad_fits (request_of input) (request_fits input) why is) (inl is)
line_caused rules kept input whole why (inr is) = code_caused rules kept (request_of input) whole why (on_keys_fits (request_of input) why is) (inr is)
