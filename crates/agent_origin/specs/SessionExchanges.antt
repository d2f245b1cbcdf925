-- What a session does for each of its requests, by what it keeps between them. That the wrapping keys stay until its end, and how long a description lives,
-- is this project's own.
use Rattle.std.specs.Prelude.{ℕ, List, None, if◌then◌else◌}
use Rattle.{arrayvec.specs.ArrayVec.ArrayVec, agent_ask.specs.Session.PortCalls.PortCall, agent_commands.specs.{Endings.end_of, Events.EventWith, Exchanges.CacheExchange, Requests.request_of, declared.request.Request.{Request, TheVariants.Key}}}
use Rattle.{agent_commands.specs.declared.went.Went.{Went, TheVariants.{On, End}}, key_commands.specs.{Exchanges.KeyExchange, Requests.key_request_of, declared.{went.KeyWent.KeyWent, keywrap_key.WrapKeys.WrapKeys}}}
use Rattle.{command_table.specs.Commands.{command_in, ends_description}, session_options.specs.{OptionValues.{OptionValues, at_start, without_description}, declared.rules.Rules.Rules}}
use Rattle.agent_origin.specs.declared.session_state.SessionState.{SessionState}
use Rattle.key_commands.specs.declared.went.KeyWent.TheVariants as key

-- no option is set before the first request, and no wrapping key was drawn
abbrev pub kept_at_start : Rules → SessionState
kept_at_start rules = record { options = at_start rules.s2k_count rules.allow_loopback; wraps = record { import = None; export = None } }

-- how a session goes on after a request on keys that went so
abbrev pub went_after_key : KeyWent → Went
went_after_key key.On = On
went_after_key (key.Gone how) = End (end_of how)

-- A line with a command on keys leaves the option values. One whose prompts the client may describe ends the description.
abbrev pub described_after : List ℕ → OptionValues → OptionValues
described_after line options = if ends_description (command_in line) then without_description options else options

-- A request: what is kept before it, what the session does for it, what is kept after it, and how the session goes on. A request on the cache or
-- on the session, or one that is refused, leaves the wrapping keys; one on keys leaves the option values but for the description, whatever it is answered.
pub data RequestExchange (rules : Rules) (before : SessionState) : Request → List (EventWith PortCall) → SessionState → Went → Type 0 where
  cache : {request : Request} {events : List (EventWith PortCall)} {options : OptionValues} {went : Went} → CacheExchange rules before.options request events options went
      → RequestExchange rules before request events (record { options = options; wraps = before.wraps }) went
  keys : {line : ArrayVec ℕ} {events : List (EventWith PortCall)} {wraps : WrapKeys} {went : KeyWent}
      → KeyExchange rules before.options before.wraps (key_request_of line.items) events wraps went
      → RequestExchange rules before (Key line) events (record { options = described_after line.items before.options; wraps = wraps }) (went_after_key went)

-- the exchange of a line
abbrev pub SessionExchange : Rules → SessionState → List ℕ → List (EventWith PortCall) → SessionState → Went → Type 0
SessionExchange rules before line events after went = RequestExchange rules before (request_of line) events after went
