-- A prompt's calls are one dialogue.
use Rattle.std.proofs.Common.{◌≡◌, ℕ, Bool, List, [], ◌∷◌, is_ok, refl, ap, ◌∙◌}
use Rattle.{agent_ask.specs.Events.{Call, Shut}, agent_ports.specs.{Leads.{Leads, none, one}, Launches.{Launches, then_finished}, Sides.Side}, assuan_client.specs.Connections.Connection}
use Rattle.pinentry_client.specs.{Dialogues.{HasFinished, PinentryDoes, unlaunched, started, pin_asked, consent_asked, shut, shut_alone, PinentryCall}, States.{PinentryState, AtPinentry, idle, asked, at_pinentry}}
use Rattle.pinentry_client.specs.Whole.{AreQuestions, IsOnePrompt, Questions, HasItsChild}

-- the questions to a child, and its end
record Asked (before : Launches) (conn : Connection) (ready : Bool) (more : List Call) (after : AtPinentry) : Type 0 where
  input : Side
  output : Side
  asks : Questions conn ready more input output
  has : HasFinished before input output after.launches

its_questions : {program : List ℕ} (launches : Launches) (conn : Connection) (ready : Bool) {more : List Call} (after : AtPinentry) → AreQuestions more
    → Leads PinentryDoes (asked program launches conn ready) more after → Asked launches conn ready more after
its_questions launches conn ready after (AreQuestions.pin are) (one (pin_asked {later} {outcome} talk) leads) =
    let rest = its_questions launches later _ after are leads in
    record { input = rest.input; output = rest.output; asks = Questions.pin talk rest.asks; has = rest.has }
its_questions launches conn ready after (AreQuestions.consent are) (one (consent_asked {later} talk) leads) =
    let rest = its_questions launches later _ after are leads in
    record { input = rest.input; output = rest.output; asks = Questions.consent talk rest.asks; has = rest.has }
its_questions launches conn ready after AreQuestions.shut (one (shut {output} says has) none) =
    record { input = conn.input; output = output; asks = Questions.shut says; has = has }

-- none is asked that isn't there: the prompt is shut
left_alone : {program : List ℕ} (launches : Launches) {more : List Call} (after : AtPinentry) → AreQuestions more
    → Leads PinentryDoes (idle program launches) more after → (after.launches ≡ launches) × (more ≡ Shut ∷ [])
left_alone launches after (AreQuestions.pin are) (one does leads) = elim does [ ]
left_alone launches after (AreQuestions.consent are) (one does leads) = elim does [ ]
left_alone launches after AreQuestions.shut (one shut_alone none) = (refl, refl)

pub its_child : {before after : AtPinentry} {calls : List Call} → IsOnePrompt calls → Leads PinentryDoes before calls after → HasItsChild before.program calls before.launches after.launches
its_child {after} (IsOnePrompt.start are) (one (unlaunched {launches} has) leads) =
    let alone = left_alone launches after are leads in
    rw (alone.0, alone.1) (HasItsChild.none refl has.rose has.coming has.launched has.finished)
its_child {after} (IsOnePrompt.start are) (one (started {before} {launches} {spec} {fresh} {conn} end has talk) leads) =
    let asks = its_questions launches conn (is_ok end) after are leads in
    HasItsChild.one fresh.input.bytes asks.input.bytes asks.output.bytes
    (record {
      spec = spec;
      end = end;
      more = _;
      calls_are = refl;
      fresh = fresh;
      unused = has.fresh;
      reader = has.reader;
      tally = has.tally;
      state = has.state;
      given_are = refl;
      opens = conn;
      starts = talk;
      input = asks.input;
      output = asks.output;
      asks = asks.asks;
      left_are = refl;
      written_are = refl;
    })
    (rw asks.has.coming has.coming) (asks.has.launched ∙ has.launched)
    (asks.has.finished ∙ ap (λ (f : _). then_finished f asks.input.bytes asks.output.bytes) has.finished)

seen_leads : {La : Type 0} (launches : La → Launches) {before after : PinentryState La} {calls : List Call} → Leads (PinentryCall launches) before calls after
    → Leads PinentryDoes (at_pinentry launches before) calls (at_pinentry launches after)
seen_leads launches none = none
seen_leads launches (one call leads) = one call.does (seen_leads launches leads)

pub prompt_has_its_child : {La : Type 0} (launches : La → Launches) {before after : PinentryState La} {calls : List Call} → IsOnePrompt calls
    → Leads (PinentryCall launches) before calls after → HasItsChild before.program calls (launches before.launcher) (launches after.launcher)
prompt_has_its_child launches is leads = its_child is (seen_leads launches leads)
