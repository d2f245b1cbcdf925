-- Private: what is written for a request, once all else is done for it.
use Rattle.std.specs.Prelude.{◌≡◌, ◌++◌, ℕ, List, Option, Result}
use Rattle.{agent_ask.specs.{Events.Call, Session.ActionReplies.{RespondsBy, CarriesBy}}, assuan_server.specs.{Clients.connection_views, Connections.Connection, Written.{refusal_line, ok, IsDataAnswer}}}
use Rattle.{cache_policy.specs.{declared.mark.MarkStep.MarkStep, Turns.Turn}, session_client.specs.declared.refusal.Refusal.Refusal}
use Rattle.key_commands.specs.{Exchanges.KeyReply, KeyEnds.DoesAtKeys, Actions.{Action, key_went_after}, States.KeyState, declared.{reply.Reply.Reply, went.KeyWent.{KeyWent, TheVariants.On}, keywrap_key.WrapKeys.WrapKeys}}
use Rattle.key_commands.specs.declared.reply.Reply.TheVariants as replies

-- the text of a reply
abbrev pub IsReply : Reply → List ℕ → Type 0
IsReply replies.Ok text = text ≡ ok
IsReply (replies.Status line) text = text ≡ line ++ ok
IsReply (replies.WrapKey key) text = IsDataAnswer key text
IsReply (replies.Data bytes) text = IsDataAnswer bytes text

-- how the session goes on after it
abbrev pub key_goes_on : Reply → KeyWent
key_goes_on answer = On

-- the reply of a request was written, or its refusal, and the session goes on so
abbrev pub RespondsTo : Connection → Result Reply Refusal → KeyWent → Connection → Type 0
RespondsTo = RespondsBy connection_views IsReply key_goes_on refusal_line key_went_after

-- all was done for a request but its reply, whatever text that is written by
abbrev pub CarriesOut : {D P : Type 0} (turned : D → MarkStep → Turn → D → Type 0) (prompted : P → Call → P → Type 0) → Action KeyReply → WrapKeys → KeyState turned prompted
    → Result Reply Refusal → WrapKeys → Option ℕ → KeyState turned prompted → Type 0
CarriesOut turned prompted = CarriesBy connection_views IsReply key_goes_on turned (DoesAtKeys prompted)
