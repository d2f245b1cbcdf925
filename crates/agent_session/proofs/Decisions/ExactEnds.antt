-- A session that ends since a line was too long has told its client so.
use Rattle.std.proofs.Common.{◌≡◌, ◌∙◌, ◌++◌, ℕ, List, Option, Some, None, Ok, refl, sym, ap}
use Rattle.{agent_ask.specs.Session.{SessionEvents.said_last, ActionExchanges.{answered, refused}, Actions.goes_on}, agent_commands.specs.{Endings.went_after, Exchanges.{CacheExchange, CacheReply, CacheReplies, option_replies}}}
use Rattle.agent_commands.specs.declared.request.CacheCommand.{CacheCommand, TheVariants.{Nop, Reset, Bye, Help, SetOption, GetInfo, GetPassphrase, PresetPassphrase, ClearPassphrase, GetConfirmation, ReloadAgent, KillAgent, SetKeyDesc}}
use Rattle.{agent_commands.specs.declared.{request.Request.{Request, TheVariants.{Cache, Key as OnKeys, Bad}}, went.{SessionEnd.TheVariants.TooLong, Went.{Went, TheVariants.{On, End}}}}, assuan_server.specs.Written.refusal_line}
use Rattle.{assuan_server.specs.declared.errors.Origin.TheVariants.Agent, key_commands.specs.{Events.Event, Exchanges.KeyExchange, Actions.key_went_after, declared.{request.KeyRequest.KeyRequest, went.KeyWent.KeyWent}}}
use Rattle.{key_commands.specs.declared.keywrap_key.WrapKeys.WrapKeys, session_client.specs.{Refusals.gone_by, declared.{refusal.Refusal.Refusal, client_error.Gone.Gone}}, session_options.specs.OptionValues.{OptionValues, applied}}
use Rattle.{session_options.specs.declared.{options.OptionAnswer.{OptionAnswer, TheVariants.{Set, Unknown, Parameter, NotSupported}}, rules.Rules.Rules}, agent_origin.specs.SessionExchanges.{RequestExchange, cache, keys, went_after_key}}
use Rattle.agent_origin.specs.declared.session_state.SessionState.{SessionState}
use Rattle.agent_session.{specs.{Causes.here, Completeness.HasError}, proofs.{Standing.has_right, Courses.KeyCourses.replies_ok}}
use Rattle.agent_ask.specs.Session.Actions as chain
use Rattle.agent_ask.specs.Session.ActionExchanges as action_exchanges
use Rattle.session_client.specs.declared.code.Code.TheVariants as code
use Rattle.session_client.specs.declared.refusal.Refusal.TheVariants as refusals
use Rattle.session_client.specs.declared.client_error.Gone.TheVariants as gone
use Rattle.session_client.specs.declared.client_error.ClientError.TheVariants as client_error

-- these events end so only where the client was told
abbrev IsTold : List Event → Went → Type 0
IsTold events went = went ≡ End TooLong → HasError code.LineTooLong Agent events

-- a refusal by which a session ends so is told
pub refusal_told : (events back : List Event) (why : Refusal) → went_after (gone_by why) ≡ End TooLong → HasError code.LineTooLong Agent (events ++ (back ++ said_last (refusal_line why)))
refusal_told events back (refusals.Agent why) is = absurd (cc is)
refusal_told events back (refusals.Pinentry why) is = absurd (cc is)
refusal_told events back (refusals.Client client_error.Cancelled) is = absurd (cc is)
refusal_told events back (refusals.Client client_error.TooMuch) is = absurd (cc is)
refusal_told events back (refusals.Client client_error.Unexpected) is = absurd (cc is)
refusal_told events back (refusals.Client (client_error.Gone gone.Ended)) is = absurd (cc is)
refusal_told events back (refusals.Client (client_error.Gone gone.TooLong)) is = has_right events (has_right back here)
refusal_told events back (refusals.Client (client_error.Gone gone.Spent)) is = absurd (cc is)
refusal_told events back (refusals.Client (client_error.Gone gone.ReadFault)) is = absurd (cc is)
refusal_told events back (refusals.Client (client_error.Gone gone.WriteFault)) is = absurd (cc is)

-- ---- requests on the cache and on the session

-- none is answered by a reply that ends the session so
option_on : (answer : OptionAnswer) (values : OptionValues) (events : List Event) (reply : CacheReply) (held : Option ℕ) → option_replies answer values None events (Ok reply) held → reply.went ≡ On
option_on Set values events reply held chain.returns = refl
option_on Unknown values events reply held does = elim does [ ]
option_on Parameter values events reply held does = elim does [ ]
option_on NotSupported values events reply held does = elim does [ ]

module _ (rules : Rules) (options : OptionValues) where
  reply_on : (command : CacheCommand) (events : List Event) (reply : CacheReply) (held : Option ℕ) → CacheReplies rules options command None events (Ok reply) held → reply.went ≡ End TooLong → ⊥
  reply_on Nop _ _ _ chain.returns is = cc is
  reply_on Reset _ _ _ chain.returns is = cc is
  reply_on Bye _ _ _ chain.returns is = cc is
  reply_on Help _ _ _ chain.returns is = cc is
  reply_on (SetOption text) events reply held does is = let on = option_on (applied options text.items).answer (applied options text.items).after events reply held does in cc (on, is)
  reply_on (SetKeyDesc text) _ _ _ chain.returns is = cc is
  reply_on (GetInfo what) _ _ _ (goes_on does chain.returns) is = cc is
  reply_on (GetPassphrase plain check no_ask repeat quality id texts) _ _ _ (goes_on does (goes_on told chain.returns)) is = cc is
  reply_on (PresetPassphrase id life secret) _ _ _ (goes_on does chain.returns) is = cc is
  reply_on (ClearPassphrase id mode) _ _ _ (goes_on does chain.returns) is = cc is
  reply_on (GetConfirmation description) _ _ _ (goes_on does chain.returns) is = cc is
  reply_on ReloadAgent _ _ _ (goes_on does chain.returns) is = cc is
  reply_on KillAgent _ _ _ (goes_on does chain.returns) is = cc is

cache_told : (rules : Rules) (before after : OptionValues) (request : Request) (events : List Event) (went : Went) → CacheExchange rules before request events after went → IsTold events went
cache_told rules before after (Cache command) events went (answered first held reply does closes) is = absurd (reply_on rules before command first reply held does is)
cache_told rules before after (Cache command) events went (refused first held why {back} does closes) is = refusal_told first back why is
cache_told rules before after (Bad given) events went (answered first held reply does closes) is = elim does [ ]
cache_told rules before after (Bad given) events went (refused first held why {back} does closes) is = refusal_told first back why is
cache_told rules before after (OnKeys line) events went exchange is = elim exchange [ ]

-- ---- requests on keys

same_end : (how : Option Gone) → went_after_key (key_went_after how) ≡ went_after how
same_end None = refl
same_end (Some how) = refl

keys_told : (rules : Rules) (options : OptionValues) (wraps : WrapKeys) (asked : KeyRequest) {events : List Event} {after : WrapKeys} {went : KeyWent} → KeyExchange rules options wraps asked events after went
    → IsTold events (went_after_key went)
keys_told rules options wraps asked (action_exchanges.answered events held reply does closes) is =
    let on : went_after_key reply.went ≡ On = ap went_after_key ((replies_ok rules options wraps asked).of None events (Ok reply) held does).1 in
    let never : On ≡ End TooLong = sym on ∙ is in
    absurd (cc never)
keys_told rules options wraps asked (action_exchanges.refused events held why {back} does closes) is = refusal_told events back why (sym (same_end (gone_by why)) ∙ is)

pub end_told : {rules : Rules} {kept : SessionState} {request : Request} {events : List Event} {after : SessionState} {went : Went} → RequestExchange rules kept request events after went → IsTold events went
end_told (cache exchange) is = cache_told _ _ _ _ _ _ exchange is
end_told (keys exchange) is = keys_told _ _ _ _ exchange is
