-- Requests on the cache with the keys and the dice beside, requests on keys with the option values beside, and both with the trust file beside.
use Rattle.std.proofs.Common.{◌≡◌, ℕ, List, Some, refl}
use Rattle.{arrayvec.specs.ArrayVec.ArrayVec, agent_ask.{specs.{Session.{Answering.AnswersBy, ActionStates.{DoesPrompts, prompts}, PortCalls.{PortCall, PortEnds, DoesPort}}, Events.Call}, proofs.Answered.{answered_onward, answered_as, answers_beside}}}
use Rattle.{agent_ports.specs.{KeyFiles.KeyFiles, Sides.Side, TrustFiles.TrustState}, assuan_server.specs.{Clients.connection_views, Connections.Connection}, cache_policy.specs.{declared.mark.MarkStep.MarkStep, Turns.Turn}}
use Rattle.{session_options.specs.{OptionValues.OptionValues, declared.rules.Rules.Rules}, agent_commands.specs.{Endings.{went_after, gone_after}, Events.EventWith, Exchanges.CacheExchange, Outside.{world, prompt_world}}}
use Rattle.{agent_commands.{specs.{States.{served_state, prompt_state, AnswersRequest}, declared.{request.Request.{Request, TheVariants.Key}, went.Went.Went}}, proofs.Replying.gone_as_it_went}, key_commands.specs.Exchanges.KeyExchange}
use Rattle.key_commands.specs.{KeyEnds.{KeyEnds, DoesAtKeys, prompt}, Requests.key_request_of, States.{KeyWorld, KeyState, key_state, AnswersKey}, Actions.key_gone, declared.{went.KeyWent.KeyWent, keywrap_key.WrapKeys.WrapKeys}}
use Rattle.agent_origin.specs.{PortStates.{port_ends, PortWorld}, SessionExchanges.{RequestExchange, cache, keys, went_after_key, described_after}, declared.session_state.SessionState.SessionState}
use Rattle.agent_ask.specs.Session.PortCalls as ported
use Rattle.key_commands.specs.KeyEnds as at_keys
use Rattle.key_commands.specs.declared.went.KeyWent.TheVariants as key

-- the client is gone as the request on keys says
gone_as_keys_have_it : (went : KeyWent) → gone_after (went_after_key went) ≡ key_gone went
gone_as_keys_have_it key.On = refl
gone_as_keys_have_it (key.Gone how) = gone_as_it_went (Some how)

abbrev kept_with : OptionValues → WrapKeys → SessionState
kept_with options wraps = record { options = options; wraps = wraps }

module _ {D P : Type 0} (turned : D → MarkStep → Turn → D → Type 0) (prompted : P → Call → P → Type 0) where
  abbrev ends : KeyFiles → Side → P → KeyEnds P
  ends files dice prompter = record { prompter = prompter; keys = files; dice = dice }

  each : (files : KeyFiles) (dice : Side) (prompter prompter_now : P) (what : PortCall) → DoesPrompts prompted prompter what prompter_now
      → DoesAtKeys prompted (ends files dice prompter) what (ends files dice prompter_now)
  each files dice prompter prompter_now _ (prompts does) = prompt does

  module _ (rules : Rules) (files : KeyFiles) (dice : Side) (wraps : WrapKeys) (request : Request) {before after : OptionValues} {conn now : Connection} {desk desk_now : D} {went : Went} where
    -- by the prompter, with the keys and the dice beside
    pub cached_beside : {prompter prompter_now : P}
        → AnswersRequest {w = prompt_world turned prompted} (λ options. CacheExchange rules options request) before (prompt_state turned prompted conn desk prompter) went after
        (prompt_state turned prompted now desk_now prompter_now)
        → AnswersRequest {w = KeyWorld turned prompted} (λ kept. RequestExchange rules kept request) (kept_with before wraps) (key_state turned prompted conn desk prompter files dice) went
        (kept_with after wraps) (key_state turned prompted now desk_now prompter_now files dice)
    cached_beside answered = answered_as (answers_beside turned (DoesPrompts prompted) (DoesAtKeys prompted) (ends files dice) (each files dice) answered) (λ events then exchanged. cache exchanged)

    -- by the cache alone, with the prompter beside too
    pub quiet_beside : (prompter : P)
        → AnswersRequest {w = world turned} (λ options. CacheExchange rules options request) before (served_state turned conn desk) went after (served_state turned now desk_now)
        → AnswersRequest {w = KeyWorld turned prompted} (λ kept. RequestExchange rules kept request) (kept_with before wraps) (key_state turned prompted conn desk prompter files dice) went
        (kept_with after wraps) (key_state turned prompted now desk_now prompter files dice)
    quiet_beside prompter answered =
        answered_as (answers_beside turned (λ prior what later. ⊥) (DoesAtKeys prompted) (λ none. ends files dice prompter) (λ prior what later never. absurd never) answered) (λ events then exchanged. cache exchanged)

  -- with the option values beside
  pub keyed_beside : (rules : Rules) (options : OptionValues) {line : ArrayVec ℕ} {before after : WrapKeys} {start now : KeyState turned prompted} {went : KeyWent}
      → AnswersKey turned prompted (KeyExchange rules options before (key_request_of line.items)) start went after now
      → AnswersRequest {w = KeyWorld turned prompted} (λ kept. RequestExchange rules kept (Key line)) (kept_with options before) start (went_after_key went) (kept_with (described_after line.items options) after) now
  keyed_beside rules options {went} answered = answered_onward answered went_after_key refl (gone_as_keys_have_it went) (λ events then exchanged. keys exchanged)

-- ---- with the trust file beside

module _ {D P : Type 0} (turned : D → MarkStep → Turn → D → Type 0) (prompted : P → Call → P → Type 0) (file : TrustState) where
  abbrev with_file : KeyEnds P → PortEnds P
  with_file ends = port_ends ends.prompter ends.keys ends.dice file

  each_with_file : (before after : KeyEnds P) (what : PortCall) → DoesAtKeys prompted before what after → DoesPort prompted (with_file before) what (with_file after)
  each_with_file _ _ _ (at_keys.prompt does) = ported.prompt does
  each_with_file _ _ _ (at_keys.keys does) = ported.keys does
  each_with_file _ _ _ (at_keys.dice does) = ported.dice does
  each_with_file _ _ _ at_keys.no_memory = ported.no_memory

  pub trust_beside : {S : Type 0} {exchange : List (EventWith PortCall) → S → Went → Type 0} {start now : KeyState turned prompted} {went : Went} {after : S}
      → AnswersBy {w = KeyWorld turned prompted} connection_views went_after gone_after exchange start went after now
      → AnswersBy {w = PortWorld turned prompted} connection_views went_after gone_after exchange (record { conn = start.conn; desk = start.desk; ends = with_file start.ends }) went after
      (record { conn = now.conn; desk = now.desk; ends = with_file now.ends })
  trust_beside = answers_beside turned (DoesAtKeys prompted) (DoesPort prompted) with_file each_with_file
