-- A client that is gone ends its request on the trust list.
use Rattle.std.proofs.Common.{◌≡◌, List, [], Some, None, Ok, Err, refl, ap, inl, inr}
use Rattle.{agent_ask.proofs.Within.{Within, Joins, weaker}, assuan_server.specs.Written.{ok, refusal_line}, session_client.specs.{Refusals.gone_by, declared.{refusal.Refusal.TheVariants.Client, client_error.Gone.Gone}}}
use Rattle.{session_options.specs.{OptionValues.OptionValues, declared.rules.Rules.Rules}, agent_commands.specs.{Endings.{went_after, end_of}, declared.went.Went.{Went, TheVariants.End}}, agent_origin.specs.TrustExchanges.TrustExchange}
use Rattle.{agent_origin.{specs.declared.trust.request.TrustRequest.TrustRequest, proofs.EachTrust.{TrustLaws, carried_so, each_reads, each_adds, each_replaces}}, key_commands.specs.{Events.Event, Actions.Action}}
use Rattle.key_commands.proofs.EachEvent.{EachSo, each_seats}
use Rattle.agent_session.{specs.Causes.IsSaid, proofs.{Courses.{Courses.{IsHeard, heard_so, said_split, said_before, works_said, gone_only, answer_heard}, PromptWorks.agrees_to}, Decisions.TrustTold.{Told, answered, refused, told}}}
use Rattle.session_client.specs.declared.client_error.ClientError.TheVariants as client_error

-- an action that is refused so where the client is gone by one of its events
abbrev GoneLaw : {A : Type 0} → Action A
GoneLaw before events result after = (how : Gone) → IsSaid events (client_error.Gone how) → result ≡ Err (Client (client_error.Gone how))

abbrev GoneSo : {A : Type 0} → Action A → Type 0
GoneSo action = Within action GoneLaw

-- by none of its events is it
heard : {A : Type 0} {action : Action A} → EachSo IsHeard action → GoneSo action
heard = weaker (record { of = λ before events result after each how says. absurd (heard_so events each says) })

gone_joins : {A B : Type 0} → Joins {A = A} {B = B} GoneLaw (λ value. GoneLaw) GoneLaw
gone_joins = record {
  then = λ some later first more how says. elim (said_split some later says) [ inl before ↦ absurd (cc (first how before)) | inr behind ↦ more how behind ];
  alone = λ first how says. let same : Err _ ≡ Err _ = first how says in ap (λ r. Err r) (cc same);
}

gone_laws : (options : OptionValues) → TrustLaws options (λ A. GoneLaw) (λ A. GoneLaw)
gone_laws options = record {
  joins = gone_joins;
  nothing = record { of = λ held result how says. absurd (heard_so [] tt says) };
  seats = heard (each_seats IsHeard (λ turn. refl));
  agrees = λ rules question.
      weaker (record { of = λ before events result after works how says. gone_only (works_said (λ event. Unit {0}) works says) }) (agrees_to (λ event. Unit {0}) (λ event. tt) (λ pid inquired. tt) rules options question);
  reads = heard (each_reads IsHeard (λ call. refl));
  adds = λ file fingerprint purpose. heard (each_adds IsHeard refl file fingerprint _);
  replaces = λ file. heard (each_replaces IsHeard (λ call. refl) file);
}

told_gone : (rules : Rules) (options : OptionValues) (request : TrustRequest) {events : List Event} {went : Went} {how : Gone} → Told rules options request events went
    → IsSaid events (client_error.Gone how) → went ≡ End (end_of how)
told_gone rules options request {how} (answered events back does closes) says = absurd (cc ((carried_so (gone_laws options) rules request).of None events (Ok tt) _ does how (said_before events _ (answer_heard (Some ok) closes) says)))
told_gone rules options request {how} (refused events back why does closes) says =
    let same : Err why ≡ Err (Client (client_error.Gone how)) = (carried_so (gone_laws options) rules request).of None events (Err why) _ does how (said_before events _ (answer_heard (refusal_line why) closes) says) in
    let refusal : why ≡ Client (client_error.Gone how) = cc same in
    ap (λ w. went_after (gone_by w)) refusal

pub trust_gone : (rules : Rules) (options : OptionValues) (request : TrustRequest) {events : List Event} {went : Went} {how : Gone} → TrustExchange rules options request events went
    → IsSaid events (client_error.Gone how) → went ≡ End (end_of how)
trust_gone rules options request exchanged = told_gone rules options request (told rules options request exchanged)
