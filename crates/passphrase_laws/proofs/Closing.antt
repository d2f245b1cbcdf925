-- The whole road over a session of this agent.
use Rattle.std.proofs.Common.{◌≡◌, ◌≢◌, ◌≤◌, ℕ, true, List, ◌++◌, length, Option, Some, refl, ap, sym, subst, ◌∙◌, arith, length-append}
use Rattle.{agent_commands.specs.{Actions.CacheEvent, Requests.{GetFields, get_passphrase, request_of}, Talks.Session, declared.{request.Request.TheVariants.Cache, went.SessionEnd.SessionEnd}}, agent_ports.specs.Sides.{Side, with_bytes}}
use Rattle.{agent_origin.specs.{DoorSessions.DoorExchange, SessionExchanges.{SessionExchange, kept_at_start}, declared.door.Door.TheVariants.Home}, agent_session.specs.Completeness.Exchanges}
use Rattle.{passphrase_talk.specs.{Dialogues.{options_of, told_of}, Turns.Turn, Visits.Talk, declared.{connector.Waits.Waits, visits.TheConstants.BUDGET}}, passphrase_words.specs.Tasks.TaskValue}
use Rattle.session_options.specs.{OptionValues.EnvWords, declared.{options.PinMode.TheVariants.Loopback, rules.Rules.Rules}}
use Rattle.passphrase_laws.specs.{Asking.{Means, Says, SaysRequest, asks, looks}, Exchanges.texts_of, Roads.session_text, Served.{AnswersRequest, SpeaksWith}}
use Rattle.passphrase_laws.proofs.{Asked.{asks_read, looks_read}, Meaning.says, Passing.{AsSession, IsOption, IsPlain, applied_in_turn, are_options, are_passed, option_home, plain_home, plain_session}, Reaching.reaches, Serving.serves}

-- either request is read as what it asks for
request_read : (task : TaskValue) (prompt : Option (List ℕ)) (description line : List ℕ) (fields : GetFields) → Says task prompt description → SaysRequest task prompt description line fields
    → (request_of line ≡ Cache (get_passphrase fields)) × (fields.plain ≡ true)
request_read task prompt description line fields says looks = (looks_read task prompt description says, refl)
request_read task prompt description line fields says asks = (asks_read task prompt description says, refl)

module _ (rules : Rules) (exchange : Exchanges) (options_plain : (line : List ℕ) → IsOption line → IsPlain rules exchange line) (waits : Waits) (terminal : EnvWords) where
  answers : {line : List ℕ} {fields : GetFields} {events : List CacheEvent} {end : SessionEnd} {turns : List Turn} {before after : Side} → request_of line ≡ Cache (get_passphrase fields) → fields.plain ≡ true
      → IsPlain rules exchange line → Session exchange (kept_at_start rules) events end → after.bytes ≡ with_bytes before.bytes (texts_of events)
      → SpeaksWith waits terminal line turns events before after → AnswersRequest rules exchange waits terminal line fields events (told_of turns)
  answers {line} {fields} {events} {turns = turns} {before} {after} is plain plain_line session written speaks =
      let each = are_options waits terminal in
      let it = serves rules exchange line speaks.later (get_passphrase fields) is plain_line (options_of waits terminal) (are_passed rules exchange options_plain (options_of waits terminal) each)
      session speaks.reads speaks.whole in
      let not_loopback : it.kept.options.mode ≢ Loopback = λ is_loopback. let both = sym it.mode ∙ is_loopback in absurd (cc both) in
      let given : after.bytes ≡ Some (texts_of events) = written ∙ ap (λ (b : Option (List ℕ)). with_bytes b (texts_of events)) speaks.unwritten in
      let texts : after.bytes ≡ Some (session_text it.replies it.own ++ texts_of it.later) = given ∙ ap (λ (t : List ℕ). Some t) it.writes in
      let within : length (session_text it.replies it.own) ≤ BUDGET =
      omega (arith, speaks.within, ap length it.writes, length-append (session_text it.replies it.own) (texts_of it.later)) in record {
        serves = it;
        values_are = applied_in_turn rules exchange options_plain (options_of waits terminal) each it.answered it.options_are;
        reaches = reaches rules it.kept.options it.after fields line it.replies (texts_of it.later) it.own it.went (options_of waits terminal) turns speaks.left speaks.written it.exchanges is plain
            not_loopback it.whole it.are_replies within (subst (λ (g : Option (List ℕ)). Talk (options_of waits terminal) line turns g speaks.left speaks.written) texts speaks.talk);
      }

module _ (rules : Rules) (words : List (List ℕ)) (task : TaskValue) (prompt : Option (List ℕ)) (description : List ℕ) (means : Means words task prompt description) (waits : Waits) (terminal : EnvWords) where
  pub at_no_door : {line : List ℕ} {fields : GetFields} {events : List CacheEvent} {end : SessionEnd} {turns : List Turn} {before after : Side} → SaysRequest task prompt description line fields
      → Session (SessionExchange rules) (kept_at_start rules) events end → after.bytes ≡ with_bytes before.bytes (texts_of events)
      → SpeaksWith waits terminal line turns events before after → AnswersRequest rules (SessionExchange rules) waits terminal line fields events (told_of turns)
  at_no_door {line} {fields} asked session written speaks =
      let read = request_read task prompt description line fields (says words task prompt description means) asked in
      answers rules (SessionExchange rules) (λ line is. plain_session rules line) waits terminal read.0 read.1 (plain_session rules line) session written speaks

module _ (law : AsSession) (rules : Rules) (words : List (List ℕ)) (task : TaskValue) (prompt : Option (List ℕ)) (description : List ℕ) (means : Means words task prompt description) (waits : Waits) (terminal : EnvWords) where
  pub at_home : {line : List ℕ} {fields : GetFields} {events : List CacheEvent} {end : SessionEnd} {turns : List Turn} {before after : Side} → SaysRequest task prompt description line fields
      → Session (DoorExchange Home rules) (kept_at_start rules) events end → after.bytes ≡ with_bytes before.bytes (texts_of events)
      → SpeaksWith waits terminal line turns events before after → AnswersRequest rules (DoorExchange Home rules) waits terminal line fields events (told_of turns)
  at_home {line} {fields} asked session written speaks =
      let read = request_read task prompt description line fields (says words task prompt description means) asked in
      answers rules (DoorExchange Home rules) (option_home law rules) waits terminal read.0 read.1 (plain_home law rules line (get_passphrase fields) read.0 (λ help. cc help)) session written speaks
