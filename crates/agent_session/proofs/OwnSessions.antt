-- What a session hands to the cache is of the last line that was read before.
use Rattle.std.{specs.{List.AllByRecursion, Prelude.⊤}, proofs.Common.{◌≡◌, ℕ, List, [], ◌∷◌, ◌++◌, refl, sym, ap, ◌∙◌, subst, append_assoc}}
use Rattle.{agent_ask.specs.Session.{Answering.{WholeOrCut, whole, cut}, PortCalls.PortCall, SessionEvents.{Received, Sent, Cut, CacheTurn, cache_turn, CutAtLast}}, assuan_server.specs.Written.{failed, ok, greeting}}
use Rattle.{session_client.specs.declared.code.Code.TheVariants.{Forbidden, LineTooLong}, cache_policy.specs.{Turns.Turn, declared.mark.MarkStep.MarkStep}, agent_commands.specs.{Endings.went_after, Events.EventWith, Requests.request_of}}
use Rattle.{agent_commands.specs.{Talks.{Talk, Session}, declared.went.{SessionEnd.SessionEnd, Went.{Went, TheVariants.On}}}, key_commands.proofs.{EachEvent.each_append, EachRequest.IsBesideTrust}}
use Rattle.{session_options.specs.declared.rules.Rules.Rules, agent_origin.{proofs.EachLine.each_request, specs.{DoorSessions.{AllowedExchange, DoorExchange, door_help}, TrustRequests.trust_request_of, SessionExchanges.SessionExchange}}}
use Rattle.{agent_origin.specs.declared.{door.Door.Door, session_state.SessionState.SessionState}, assuan_text.specs.LineEnds.line_of}
use Rattle.agent_session.{specs.{Completeness.Exchanges, OwnPassphrases.{StoresOwn, HandsIn, IsUnreceived, Served, none, one_more, StoresOwnIn, StoresOwnThroughout}}, proofs.Own.OwnCache.request_own}
use Rattle.agent_session.proofs.{Own.{OwnLines.{each_first, each_second, in_first, in_second, in_either}, OwnActions.{IsQuiet, Fit, AreOwn, own_at, own_left, own_then, quiet_are_own}, OwnTrust.{IsIdle, trust_idle}}, AtOnce.FitsTurn}
use Rattle.agent_session.proofs.Standing.{each_left, each_right}
use Rattle.assuan_line.specs.declared.reader.Took.TheVariants as took
use Rattle.agent_commands.specs.Talks as talks
use Rattle.agent_origin.specs.DoorSessions as doors

-- ---- the events of a line

beside_unreceived : (event : EventWith PortCall) → IsBesideTrust event → IsUnreceived event
beside_unreceived (Received took) beside = absurd beside
beside_unreceived _ beside = tt

abbrev Unreceived : List (EventWith PortCall) → Type 0
Unreceived events = AllByRecursion IsUnreceived events

-- what they hand in is the line's own, and no other line is read
abbrev LineOwn : Rules → SessionState → List ℕ → List (EventWith PortCall) → Type 0
LineOwn rules kept line events = AreOwn (StoresOwn rules kept (request_of line)) [] events × Unreceived events

pub exchange_own : {rules : Rules} {kept now : SessionState} (line : List ℕ) {events : List (EventWith PortCall)} {went : Went} → SessionExchange rules kept line events now went → Fit events → LineOwn rules kept line events
exchange_own line exchange fits = (request_own (request_of line) exchange fits, each_request IsUnreceived beside_unreceived (request_of line) exchange)

idle_own : (rules : Rules) (kept : SessionState) (line : List ℕ) (events : List (EventWith PortCall)) → AllByRecursion IsIdle events → LineOwn rules kept line events
idle_own rules kept line events each =
    (quiet_are_own (StoresOwn rules kept (request_of line)) [] events (each_first IsQuiet IsUnreceived events each), each_second IsQuiet IsUnreceived events each)

module _ {rules : Rules} {before : SessionState} (line : List ℕ) where
  allowed_own : {command : _} {events : List (EventWith PortCall)} {after : SessionState} {went : Went} → AllowedExchange rules before line command events after went → Fit events → LineOwn rules before line events
  allowed_own doors.helped fits = idle_own rules before line (Sent door_help ∷ []) ((tt, tt), tt)
  allowed_own doors.unset fits = idle_own rules before line (Sent ok ∷ []) ((tt, tt), tt)
  allowed_own (doors.trusts {events} exchanged) fits = idle_own rules before line events (trust_idle rules before.options (trust_request_of line) exchanged)
  allowed_own (doors.any exchanged) fits = exchange_own line exchanged fits

  pub door_own : {door : Door} {events : List (EventWith PortCall)} {after : SessionState} {went : Went} → DoorExchange door rules before line events after went → Fit events → LineOwn rules before line events
  door_own (doors.forbidden refuses) fits = idle_own rules before line (Sent (failed Forbidden) ∷ []) ((tt, tt), tt)
  door_own (doors.is_allowed allows exchanged) fits = allowed_own exchanged fits

-- ---- events without a turn

abbrev IsTurnless : EventWith PortCall → Type 0
IsTurnless (CacheTurn taken) = ⊥
IsTurnless _ = ⊤

module _ (Is : List (EventWith PortCall) → MarkStep → Type 0) where
  none_handed : (events : List (EventWith PortCall)) → AllByRecursion IsTurnless events → (before later : List (EventWith PortCall)) (step : MarkStep) (turn : Turn) → events ≡ before ++ cache_turn step turn ∷ later → HandsIn step
      → Is before step
  none_handed events each front back asked turn is hands = absurd ((each_right IsTurnless front (cache_turn asked turn ∷ back) (subst (AllByRecursion IsTurnless) is each)).0)

cut_one : (before : List (EventWith PortCall)) (sent unsent : List ℕ) {text : List ℕ} {done : List (EventWith PortCall)} → Sent text ∷ [] ≡ before ++ Sent (sent ++ unsent) ∷ [] → done ≡ before ++ Cut sent ∷ []
    → AllByRecursion IsTurnless done
cut_one [] sent unsent whole_is is = subst (AllByRecursion IsTurnless) (sym is) (tt, tt)
cut_one (event ∷ []) sent unsent whole_is is = cc whole_is
cut_one (event ∷ second ∷ before) sent unsent whole_is is = cc whole_is

cut_turnless : {text : List ℕ} {done : List (EventWith PortCall)} → CutAtLast (Sent text ∷ []) done → AllByRecursion IsTurnless done
cut_turnless last = cut_one last.before last.sent last.unsent last.whole last.done_is

-- ---- sessions

module _ (rules : Rules) (exchange : Exchanges)
    (own : (before : SessionState) (line : List ℕ) (events : List (EventWith PortCall)) (after : SessionState) (went : Went) → exchange before line events after went → Fit events → LineOwn rules before line events) where
  -- a line's events, of which a write of the last may have failed
  line_own : {before after : SessionState} (line : List ℕ) {events : List (EventWith PortCall)} {went : Went} → WholeOrCut went_after (exchange before line) events after went → Fit events → LineOwn rules before line events
  line_own {before} {after} line {events} {went} (whole exchanged) fits = own before line events after went exchanged fits
  line_own {before} line {events = done} (cut {events} {kept = after} {went} exchanged last) fits =
      let Mine : List (EventWith PortCall) → MarkStep → Type 0 = StoresOwn rules before (request_of line) in
      let kept : Fit last.before = each_left FitsTurn last.before (Cut last.sent ∷ []) (subst Fit last.done_is fits) in
      let fit : Fit events = subst Fit (sym last.whole) (each_append FitsTurn last.before (Sent (last.sent ++ last.unsent) ∷ []) kept (tt, tt)) in
      let so = own before line events after went exchanged fit in
      let front = own_left Mine [] last.before (Sent (last.sent ++ last.unsent) ∷ []) (subst (AreOwn Mine []) last.whole so.0) in
      let unread = each_left IsUnreceived last.before (Sent (last.sent ++ last.unsent) ∷ []) (subst Unreceived last.whole so.1) in
      subst (LineOwn rules before line) (sym last.done_is) (own_then Mine [] last.before (Cut last.sent ∷ []) front (tt, tt), each_append IsUnreceived last.before (Cut last.sent ∷ []) unread (tt, tt))

  -- behind some lines that were answered, the greeting aside
  record OwnIn (start : SessionState) (before : List (EventWith PortCall)) (step : MarkStep) : Type 0 where
    front : List (EventWith PortCall)
    kept : SessionState
    served : Served rules exchange start front kept
    line : List ℕ
    own_events : List (EventWith PortCall)
    before_is : before ≡ front ++ Received (took.Line line) ∷ own_events
    alone : AllByRecursion IsUnreceived own_events
    stores : StoresOwn rules kept (request_of line) own_events step

  -- at a place among a line's events
  own_there : (start : SessionState) (line : List ℕ) (events front : List (EventWith PortCall)) (asked : MarkStep) (turn : Turn) (back : List (EventWith PortCall)) → LineOwn rules start line events
      → events ≡ front ++ cache_turn asked turn ∷ back → HandsIn asked → OwnIn start (Received (took.Line line) ∷ front) asked
  own_there start line events front asked turn back so is hands = record {
    front = [];
    kept = start;
    served = none;
    line = line;
    own_events = front;
    before_is = refl;
    alone = each_left IsUnreceived front (cache_turn asked turn ∷ back) (subst Unreceived is so.1);
    stores = own_at (StoresOwn rules start (request_of line)) [] events front asked turn back so.0 is hands;
  }

  -- the exchange behind which the session goes on is whole
  whole_one : {before after : SessionState} {line : List ℕ} {events : List (EventWith PortCall)} {went : Went} → WholeOrCut went_after (exchange before line) events after went → went ≡ On → exchange before line events after On
  whole_one {before} {after} {line} {events} (whole exchanged) is = subst (λ w. exchange before line events after w) is exchanged
  whole_one (cut exchanged last) is = absurd (cc is)

  -- behind one line more
  port_in : {start mid : SessionState} (line : List ℕ) {events : List (EventWith PortCall)} → exchange start line events mid On → {before : List (EventWith PortCall)} {asked : MarkStep} → OwnIn mid before asked
      → OwnIn start (Received (took.Line line) ∷ (events ++ before)) asked
  port_in line {events} exchanged stores = record {
    front = Received (took.Line line) ∷ (events ++ stores.front);
    kept = stores.kept;
    served = one_more line exchanged stores.served;
    line = stores.line;
    own_events = stores.own_events;
    before_is = ap (λ e. Received (took.Line line) ∷ (events ++ e)) stores.before_is ∙ ap (λ e. Received (took.Line line) ∷ e) (sym (append_assoc events stores.front (Received (took.Line stores.line) ∷ stores.own_events)));
    alone = stores.alone;
    stores = stores.stores;
  }

  talk_own : {prior : SessionState} {events : List (EventWith PortCall)} {end : SessionEnd} → Talk exchange prior events end → Fit events
      → (before later : List (EventWith PortCall)) (step : MarkStep) (turn : Turn) → events ≡ before ++ cache_turn step turn ∷ later → HandsIn step → OwnIn prior before step
  talk_own (talks.Talk.goes_on {events} {more} line exchanged later) fits [] back asked turn is hands = cc is
  talk_own {prior} (talks.Talk.goes_on {events} {more} line exchanged later) fits (first ∷ front) back asked turn is hands =
      let begins : first ≡ Received (took.Line line) = cc is in
      let rest : events ++ more ≡ front ++ cache_turn asked turn ∷ back = cc is in
      subst (λ e. OwnIn prior (e ∷ front) asked) (sym begins)
      (elim (in_either events more front (cache_turn asked turn) back rest) [
        | in_first left here ↦ own_there prior line events front asked turn left (line_own line exchanged (each_left FitsTurn events more fits.1)) here hands
        | in_second left there here ↦
            subst (λ f. OwnIn prior (Received (took.Line line) ∷ f) asked) (sym there)
            (port_in line (whole_one exchanged refl) (talk_own later (each_right FitsTurn events more fits.1) left back asked turn here hands))
      ])
  talk_own (talks.Talk.over line exchanged) fits [] back asked turn is hands = cc is
  talk_own {prior} (talks.Talk.over {events} line exchanged) fits (first ∷ front) back asked turn is hands =
      let begins : first ≡ Received (took.Line line) = cc is in
      let rest : events ≡ front ++ cache_turn asked turn ∷ back = cc is in
      subst (λ e. OwnIn prior (e ∷ front) asked) (sym begins) (own_there prior line events front asked turn back (line_own line exchanged fits.1) rest hands)
  talk_own {prior} talks.Talk.ended fits front back asked turn is hands = none_handed (OwnIn prior) (Received took.End ∷ []) (tt, tt) front back asked turn is hands
  talk_own {prior} talks.Talk.spent fits front back asked turn is hands = none_handed (OwnIn prior) (Received took.Spent ∷ []) (tt, tt) front back asked turn is hands
  talk_own {prior} talks.Talk.read_fault fits front back asked turn is hands = none_handed (OwnIn prior) (Received took.ReadFault ∷ []) (tt, tt) front back asked turn is hands
  talk_own {prior} talks.Talk.too_long fits front back asked turn is hands = none_handed (OwnIn prior) (Received took.TooLong ∷ Sent (failed LineTooLong) ∷ []) (tt, (tt, tt)) front back asked turn is hands
  talk_own {prior} (talks.Talk.cut_too_long {done} last) fits front back asked turn is hands = none_handed (OwnIn prior) (Received took.TooLong ∷ done) (tt, cut_turnless last) front back asked turn is hands

  greeted_own : {start : SessionState} {before : List (EventWith PortCall)} {asked : MarkStep} → OwnIn start before asked → StoresOwnIn rules exchange start (Sent (line_of greeting) ∷ before) asked
  greeted_own stores = record {
    front = stores.front;
    kept = stores.kept;
    served = stores.served;
    line = stores.line;
    own = stores.own_events;
    before_is = ap (λ e. Sent (line_of greeting) ∷ e) stores.before_is;
    alone = stores.alone;
    stores = stores.stores;
  }

  pub session_own : {start : SessionState} {events : List (EventWith PortCall)} {end : SessionEnd} → Session exchange start events end → Fit events → StoresOwnThroughout rules exchange start events
  session_own (talks.Session.greeted {events} talk) fits [] back asked turn is hands = cc is
  session_own {start} (talks.Session.greeted {events} talk) fits (first ∷ front) back asked turn is hands =
      let begins : first ≡ Sent (line_of greeting) = cc is in
      let rest : events ≡ front ++ cache_turn asked turn ∷ back = cc is in
      subst (λ e. StoresOwnIn rules exchange start (e ∷ front) asked) (sym begins) (greeted_own (talk_own talk fits.1 front back asked turn rest hands))
  session_own {start} (talks.Session.cut_greeting {done} last) fits front back asked turn is hands = none_handed (StoresOwnIn rules exchange start) done (cut_turnless last) front back asked turn is hands
