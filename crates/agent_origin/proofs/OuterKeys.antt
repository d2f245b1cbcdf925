-- Lines with a command on keys that are allowed at the outer door, and what is done for them to the cache.
use Rattle.std.{proofs.Common.{◌≡◌, ℕ, ◌&&◌, Bool, true, false, not, cond, List, [], ◌∷◌, Option, None, Some, Result, Ok, Err, refl, ap, sym}, specs.Prelude.{codes, is_none}}
use Rattle.{agent_ask.{specs.{Session.{PortCalls.PortCall, Actions.{goes_on, stops, returns}, TurnActions.{peeked, interrupted}}, Plans.text}, proofs.Within.is_unless}, agent_commands.specs.Events.EventWith}
use Rattle.{agent_commands.specs.{Requests.{request_of, request_by, cache_request_by, asked_by, either as of_cache}, declared.request.{CacheCommand.CacheCommand, Request.TheVariants.Key}}, agent_ports.specs.declared.grip.Grip.Grip}
use Rattle.{arrayvec.specs.ArrayVec.ArrayVec, session_client.specs.{declared.{code.Code.Code, refusal.Refusal.{Refusal, TheVariants.Agent}}, Fields.{◌>>=◌, in_form}}, assuan_text.specs.Options.{arguments_of, has_option, last_value, options_of}}
use Rattle.{assuan_text.specs.Words.{rest_of, words}, command_table.specs.{Commands.{command_in, outer_rule}, declared.commands.{Command.Command, KeyCommandName.KeyCommandName}}, key_commands.specs.Events.Event}
use Rattle.key_commands.specs.{Exchanges.{KeyExchange, KeyReply, KeyReplies, HaveKeyReplies, KeyInfoReplies}, KeyActions.{HasOne, is_key, faulty, no_memory as no_key_memory, unread}, Actions.{Finds, found, absent, faulted, no_memory}}
use Rattle.key_commands.specs.{Requests.{key_or_bad, some_grips, have_by, first_grip, key_request_by, key_request_of}, declared.{request.KeyRequest.{KeyRequest, TheVariants.{HaveKey, KeyInfo, ListKeys, Bad}}, went.KeyWent.KeyWent}}
use Rattle.{key_commands.specs.declared.keywrap_key.WrapKeys.WrapKeys, session_options.specs.{OptionValues.OptionValues, declared.rules.Rules.Rules}}
use Rattle.agent_origin.specs.{Doors.{passes, passes_by, allowed}, OuterTurns.{peeks, LeavesCache}, Serving.is_on_keys, declared.door.Door.TheVariants.Outer}
use Rattle.agent_origin.proofs.Outer.{LeaveLaw, Leaves, LeavesUnseated, unseated_too, leaves_nothing, bind, gives, refused_by, actions_leave}
use Rattle.session_client.specs.declared.code.Code.TheVariants as code
use Rattle.command_table.specs.declared.commands.Command.TheVariants as at_table
use Rattle.command_table.specs.declared.commands.KeyCommandName.TheVariants as name

-- ---- what is done

finds_of : (grip : Grip) (before : Option ℕ) (events : List Event) (result : Result Bool Refusal) (after : Option ℕ) → Finds grip before events result after → LeaveLaw before events result after
finds_of grip before events result after found later owes = owes
finds_of grip before events result after absent later owes = owes
finds_of grip before events result after faulted later owes = owes
finds_of grip before events result after no_memory later owes = owes

one_leaves : (grips : List Grip) → Leaves (HasOne grips)
one_leaves [] = refused_by (Agent code.NoSecKey)
one_leaves (grip ∷ more) = bind (record { of = finds_of grip }) (λ there. is_unless leaves_nothing there (one_leaves more))

module _ (agent : Rules) (options : OptionValues) (wraps : WrapKeys) where
  have_leaves : (grips : List Grip) → Leaves (HaveKeyReplies agent options wraps grips)
  unfolding HaveKeyReplies
  have_leaves grips = bind (one_leaves grips) (λ one. gives _)

  -- no ticket is held by who looks whether a passphrase is cached
  info_of : (grip : Grip) (before : Option ℕ) (events : List Event) (result : Result KeyReply Refusal) (after : Option ℕ) → KeyInfoReplies agent options wraps grip before events result after → before ≡ None
      → LeaveLaw before events result after
  unfolding KeyInfoReplies
  info_of grip None events result after (goes_on (is_key file says) (goes_on (goes_on peeked returns) returns)) free later owes = peeks owes
  info_of grip None events result after (goes_on (is_key file says) (stops (stops (interrupted can by)))) free later owes = peeks owes
  info_of grip None events result after (goes_on (is_key file says) (stops (goes_on asks never))) free later owes = elim never [ ]
  info_of grip None events result after (stops (faulty file says)) free later owes = owes
  info_of grip None events result after (stops (no_key_memory file)) free later owes = owes
  info_of grip None events result after (stops (unread is)) free later owes = owes
  info_of grip (Some ticket) events result after does free later owes = absurd (cc free)

  abbrev IsOuterKey : KeyRequest → Type 0
  IsOuterKey (HaveKey grips) = Unit {0}
  IsOuterKey (KeyInfo grip) = Unit {0}
  IsOuterKey (Bad code) = Unit {0}
  IsOuterKey _ = ⊥

  key_replies_leave : (request : KeyRequest) → IsOuterKey request → LeavesUnseated (KeyReplies agent options wraps request)
  key_replies_leave (HaveKey grips) outer = unseated_too (have_leaves grips)
  key_replies_leave (KeyInfo grip) outer = record { of = info_of grip }
  key_replies_leave (Bad code) outer = unseated_too (refused_by (Agent code))
  key_replies_leave _ outer = absurd outer

-- ---- lines

-- a line is handed on as it is
not_handed_on : (read : Result CacheCommand Code) (handed : ArrayVec ℕ) → of_cache read ≡ Key handed → ⊥
not_handed_on (Ok command) handed is = cc is
not_handed_on (Err code) handed is = cc is

handed_by : (found : Option Command) (line : List ℕ) (handed : ArrayVec ℕ) → request_by found line ≡ Key handed → handed.items ≡ line
handed_by (Some (at_table.Key name)) line handed is = let same : text line ≡ handed = cc is in sym (ap (λ (h : ArrayVec ℕ). h.items) same)
handed_by (Some (at_table.Cache name)) line handed is = absurd (not_handed_on (asked_by name (rest_of line)) handed is)
handed_by _ line handed is = absurd (cc is)

pub handed_line : (line : List ℕ) (handed : ArrayVec ℕ) → request_of line ≡ Key handed → handed.items ≡ line
unfolding request_of
handed_line line handed key = handed_by (command_in line) line handed key

-- one with a command on keys is handed on, and any other one is read by the commands on the cache
key_by : (found : Option Command) (line : List ℕ) → is_on_keys found ≡ true → request_by found line ≡ Key (text line)
key_by (Some (at_table.Key name)) line is = refl
key_by _ line is = absurd (cc is)

pub key_is_handed : (line : List ℕ) → is_on_keys (command_in line) ≡ true → request_of line ≡ Key (text line)
unfolding request_of
key_is_handed line is = key_by (command_in line) line is

other_by : (found : Option Command) (line : List ℕ) → is_on_keys found ≡ false → request_by found line ≡ of_cache (cache_request_by found line)
other_by (Some (at_table.Key name)) line is = absurd (cc is)
other_by _ line is = refl

pub other_is_read : (line : List ℕ) → is_on_keys (command_in line) ≡ false → request_of line ≡ of_cache (cache_request_by (command_in line) line)
unfolding request_of
other_is_read line is = other_by (command_in line) line is

some_outer : (agent : Rules) (options : OptionValues) (wraps : WrapKeys) (read : Result (List Grip) Code) → IsOuterKey agent options wraps (key_or_bad (read >>= λ grips. Ok (HaveKey grips)))
some_outer agent options wraps (Ok grips) = tt
some_outer agent options wraps (Err code) = tt

have_outer : (agent : Rules) (options : OptionValues) (wraps : WrapKeys) (lists : Bool) (limit : Option (List ℕ)) (arguments : List (List ℕ)) → (not lists && is_none limit) ≡ true
    → IsOuterKey agent options wraps (key_or_bad (have_by lists limit arguments))
have_outer agent options wraps false None arguments one = some_outer agent options wraps (some_grips arguments)
have_outer agent options wraps false (Some limit) arguments one = absurd (cc one)
have_outer agent options wraps true limit arguments one = absurd (cc one)

info_outer : (agent : Rules) (options : OptionValues) (wraps : WrapKeys) (read : Result Grip Code) (lists : Bool) (limit : Option (List ℕ)) → (not lists && is_none limit) ≡ true
    → IsOuterKey agent options wraps (key_or_bad (cond lists (Ok ListKeys) (read >>= λ grip. Ok (KeyInfo grip))))
info_outer agent options wraps read true limit one = cc one
info_outer agent options wraps (Ok grip) false limit one = tt
info_outer agent options wraps (Err code) false limit one = tt

module _ (agent : Rules) (options : OptionValues) (wraps : WrapKeys) (line : List ℕ) where
  abbrev lists : Bool
  lists = has_option (codes "--list") (options_of (words (rest_of line)))

  abbrev limit : Option (List ℕ)
  limit = last_value (codes "--list") (options_of (words (rest_of line)))

  passes_outer : (name : KeyCommandName) → passes (outer_rule (at_table.Key name)) line ≡ true → IsOuterKey agent options wraps (key_request_by (Some (at_table.Key name)) (rest_of line))
  passes_outer name.HaveKey is = have_outer agent options wraps lists limit (arguments_of (words (rest_of line))) is
  passes_outer name.KeyInfo is = info_outer agent options wraps (in_form (first_grip (arguments_of (words (rest_of line))))) lists limit is
  passes_outer _ is = cc is

  named_outer : (found : Option Command) → passes_by found line ≡ true → IsOuterKey agent options wraps (key_request_by found (rest_of line))
  named_outer (Some (at_table.Key name)) allows = passes_outer name allows
  named_outer _ allows = tt

  pub key_leaves : {events : List (EventWith PortCall)} {after : WrapKeys} {went : KeyWent} → allowed Outer line ≡ true → KeyExchange agent options wraps (key_request_of line) events after went → LeavesCache events
  unfolding key_request_of
  key_leaves allows exchanged = actions_leave (key_replies_leave agent options wraps (key_request_by (command_in line) (rest_of line)) (named_outer (command_in line) allows)) exchanged
