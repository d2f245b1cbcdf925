-- Requests on the trust list hand nothing to the cache.
use Rattle.std.{specs.List.AllByRecursion, proofs.Common.{ℕ, List, ◌++◌, Option, Some, None, Ok, Err}}
use Rattle.{agent_ask.{proofs.Within.{Does, does_join}, specs.Session.{SessionEvents.{Received, Sent, Cut, Inquiry, CacheTurn, Port, said_last}, TurnActions.Closes}}, agent_commands.specs.declared.went.Went.Went}
use Rattle.{assuan_server.specs.Written.{ok, refusal_line}, key_commands.{specs.Events.Event, proofs.EachEvent.{IsStill, each_append, each_seats, agrees_to, each_answer}}, session_options.specs.OptionValues.OptionValues}
use Rattle.{session_options.specs.declared.rules.Rules.Rules, agent_origin.specs.{TrustExchanges.TrustExchange, declared.trust.request.TrustRequest.TrustRequest}}
use Rattle.agent_origin.proofs.EachTrust.{TrustLaws, carried_so, each_reads, each_adds, each_replaces}
use Rattle.agent_session.{specs.OwnPassphrases.IsUnreceived, proofs.{Own.OwnActions.{IsQuiet, kept_none}, Decisions.TrustTold.{Told, answered, refused, told}}}

-- it hands nothing to the cache, and no line is read by it
abbrev pub IsIdle : Event → Type 0
IsIdle event = IsQuiet event × IsUnreceived event

still_idle : (event : Event) → IsStill event → IsIdle event
still_idle (Sent text) still = (tt, tt)
still_idle (Cut text) still = (tt, tt)
still_idle (Inquiry word params limit inquired) still = (tt, tt)
still_idle (Port event) still = (tt, tt)
still_idle (CacheTurn taken) still = absurd still
still_idle (Received took) still = absurd still

abbrev Idle : List Event → Type 0
Idle events = AllByRecursion IsIdle events

idle_laws : (options : OptionValues) → TrustLaws options (λ A. Does Idle) (λ A. Does Idle)
idle_laws options = record {
  joins = does_join (each_append IsIdle) (λ some each. each);
  nothing = record { of = λ held result. tt };
  seats = each_seats IsIdle (λ turn. ((λ hands. elim hands [ ]), tt));
  agrees = λ rules. agrees_to IsIdle still_idle (λ event. (tt, tt)) rules options;
  reads = each_reads IsIdle (λ call. (tt, tt));
  adds = λ file fingerprint purpose. each_adds IsIdle (tt, tt) file fingerprint _;
  replaces = each_replaces IsIdle (λ call. (tt, tt));
}

answer_idle : {held : Option ℕ} {back : List Event} (line : Option (List ℕ)) → Closes None held back (Ok tt) None → Idle (back ++ said_last line)
answer_idle = each_answer IsIdle (λ number turn. (kept_none number, tt)) (λ text. (tt, tt))

module _ (rules : Rules) (options : OptionValues) where
  told_idle : (request : TrustRequest) {events : List Event} {went : Went} → Told rules options request events went → Idle events
  told_idle request (answered events back does closes) = each_append IsIdle events _ ((carried_so (idle_laws options) rules request).of None events (Ok tt) _ does) (answer_idle (Some ok) closes)
  told_idle request (refused events back why does closes) = each_append IsIdle events _ ((carried_so (idle_laws options) rules request).of None events (Err why) _ does) (answer_idle (refusal_line why) closes)

  pub trust_idle : (request : TrustRequest) {events : List Event} {went : Went} → TrustExchange rules options request events went → Idle events
  trust_idle request exchanged = told_idle request (told rules options request exchanged)
