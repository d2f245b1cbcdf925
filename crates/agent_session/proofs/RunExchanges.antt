-- Each exchange of a session stands between two states of its desk and of its ports, and the laws on single requests hold of it.
use Rattle.std.proofs.Common.{ℕ, List, [], ◌∷◌, ◌++◌, sym, subst}
use Rattle.{agent_ask.specs.{Session.{Answering.{WholeOrCut, whole, cut}, SessionEvents.{Sent, Cut, CutAtLast}, Worlds.{Outside, Does}}, Events.Call, Prompters.{AtPrompter, IsCall}}, agent_commands.specs.{Endings.went_after, Events.EventWith}}
use Rattle.{agent_commands.specs.{Outside.World, Requests.request_of, Talks.{Talk, Session}, declared.went.{SessionEnd.SessionEnd, Went.Went}}, agent_origin.specs.{PortStates.PortWorld, SessionExchanges.SessionExchange}}
use Rattle.{agent_origin.specs.{Sessions.LineRelation, declared.session_state.SessionState.SessionState}, agent_ports.{proofs.Leading.leads_then, specs.{Leads.{Leads, none, one}, Sides.with_bytes}}, assuan_server.specs.Reading.Supply}
use Rattle.{assuan_server.specs.declared.errors.Origin.TheVariants.Agent, cache_policy.specs.{Desks.{AtDesk, IsTurn}, Turns.{Turn, Refused, MayWantMemory}, declared.mark.MarkStep.MarkStep}, key_commands.specs.Events.Event as SessionEvent}
use Rattle.session_options.specs.declared.rules.Rules.{Rules}
use Rattle.agent_session.specs.{Completeness.{Exchanges as Relations, Causes, IsAnsweredBy}, Exactly.EndsTooLong, OwnPassphrases.StoresOwn}
use Rattle.agent_session.{specs.RunExchanges.{Between, LinkBytes, with_link, Saying, ExchangeBetween, LawfulRequest, LawfulExchange, LawfulSession}, proofs.{Answering.Judging, AtOnce.{all_fit, at_once, each_calm}}}
use Rattle.agent_session.proofs.{Counts.{Completing.{failures_rise, all_possible, never_absent}, Counting.counts_failures}, Fair.{first_fair, alone_first}, Causes.{KeyExplained.exchange_caused, Uncaused.ok_by}}
use Rattle.agent_session.proofs.{Own.{OwnCache.{request_own, request_says_own}, OwnKeys.request_told, OwnActions.own_at}, Courses.{RefusedCourses.{caused_refuses, refused_course}, SessionCourses.request_course}}
use Rattle.agent_ask.specs.Session.Worlds as worlds
use Rattle.agent_commands.specs.Talks as talks

-- some events, and those behind them
record Parts {S E : Type 0} (Step : S → E → S → Type 0) (start : S) (first second : List E) (now : S) : Type 0 where
  mid : S
  leads : Leads Step start first mid
  later : Leads Step mid second now

parted : {S E : Type 0} {Step : S → E → S → Type 0} {start now : S} (first : List E) {second : List E} → Leads Step start (first ++ second) now → Parts Step start first second now
parted [] leads = record { mid = _; leads = none; later = leads }
parted (event ∷ first) (one step leads) = let rest = parted first leads in record { mid = rest.mid; leads = one step rest.leads; later = rest.later }

module _ {w : World} where
  abbrev link_of : Outside w → LinkBytes
  link_of out = record { input = out.input; source = out.source; output = out.output }

  abbrev pub between : {S : Type 0} → S → Outside w → Between w S
  between kept out = record { kept = kept; desk = out.desk; ends = out.ends }

  -- the same events, had the last write not failed
  record Uncut (supply : Supply) (start : Outside w) (events : List (EventWith w.Port)) (now : Outside w) : Type 0 where
    link : LinkBytes
    leads : Leads (Does w supply) start events (record { input = link.input; source = link.source; output = link.output; desk = now.desk; ends = now.ends })

  uncut_last : {supply : Supply} {start mid now : Outside w} {first : List (EventWith w.Port)} (sent unsent : List ℕ) → Leads (Does w supply) start first mid → Leads (Does w supply) mid (Cut sent ∷ []) now
      → Uncut supply start (first ++ Sent (sent ++ unsent) ∷ []) now
  uncut_last {mid} sent unsent leads (one worlds.cut none) =
      record { link = record { input = mid.input; source = mid.source; output = with_bytes mid.output (sent ++ unsent) }; leads = leads_then leads (one worlds.sent none) }

  uncut : {supply : Supply} {start now : Outside w} {events done : List (EventWith w.Port)} → CutAtLast events done → Leads (Does w supply) start done now → Uncut supply start events now
  uncut {supply} {start} {now} last leads =
      let actions = parted last.before (subst (λ (e : List (EventWith w.Port)). Leads (Does w supply) start e now) last.done_is leads) in
      subst (λ (e : List (EventWith w.Port)). Uncut supply start e now) (sym last.whole) (uncut_last last.sent last.unsent actions.leads actions.later)

  -- what is said of each exchange, at a desk of which this stays so
  module _ {S : Type 0} {supply : Supply} (relation : LineRelation w S) (Says : Saying w S) (Stays : w.Desk → Type 0)
      (keeps : (before : Outside w) (event : EventWith w.Port) (after : Outside w) → Does w supply before event after → Stays before.desk → Stays after.desk)
      (says : (link link_now : LinkBytes) (before : Between w S) (line : List ℕ) (events : List (EventWith w.Port)) (after : Between w S) (went : Went) → Stays before.desk
      → relation before.kept line events after.kept went → Leads (Does w supply) (with_link link before) events (with_link link_now after) → Says before line events after went) where
    abbrev Here : Saying w S
    Here = ExchangeBetween supply relation Says

    stays : {before after : Outside w} {events : List (EventWith w.Port)} → Leads (Does w supply) before events after → Stays before.desk → Stays after.desk
    stays none so = so
    stays {before} (one {mid} {event} does leads) so = stays leads (keeps before event mid does so)

    one_between : {kept now : S} {events : List (EventWith w.Port)} {went : Went} (line : List ℕ) (start mid : Outside w) → Stays start.desk → WholeOrCut went_after (relation kept line) events now went
        → Leads (Does w supply) start events mid → WholeOrCut went_after (Here (between kept start) line) events (between now mid) went
    one_between {kept} {now} {events} {went} line start mid so (whole exchanged) leads =
        whole (record {
          exchange = exchanged;
          link = link_of start;
          link_now = link_of mid;
          leads = leads;
          says = says (link_of start) (link_of mid) (between kept start) line events (between now mid) went so exchanged leads;
        })
    one_between {kept} {now} line start mid so (cut {events} {went} exchanged last) leads =
        let full = uncut last leads in
        cut (record {
          exchange = exchanged;
          link = link_of start;
          link_now = full.link;
          leads = full.leads;
          says = says (link_of start) full.link (between kept start) line events (between now mid) went so exchanged full.leads;
        }) last

    talk_between : {kept : S} {events : List (EventWith w.Port)} {end : SessionEnd} (before after : Outside w) → Stays before.desk → Talk relation kept events end → Leads (Does w supply) before events after
        → Talk Here (between kept before) events end
    talk_between before after so (talks.goes_on {events} line exchanged talk) (one (worlds.received known needed) leads) =
        let actions = parted events leads in
        talks.goes_on line (one_between line _ actions.mid so exchanged actions.leads) (talk_between actions.mid after (stays actions.leads so) talk actions.later)
    talk_between before after so (talks.over line exchanged) (one (worlds.received known needed) leads) = talks.over line (one_between line _ after so exchanged leads)
    talk_between before after so talks.ended leads = talks.ended
    talk_between before after so talks.spent leads = talks.spent
    talk_between before after so talks.read_fault leads = talks.read_fault
    talk_between before after so talks.too_long leads = talks.too_long
    talk_between before after so (talks.cut_too_long last) leads = talks.cut_too_long last

    pub session_between : {start : S} {events : List (EventWith w.Port)} {end : SessionEnd} (before after : Outside w) → Stays before.desk → Session relation start events end
        → Leads (Does w supply) before events after → Session Here (between start before) events end
    session_between before after so (talks.greeted talk) (one worlds.sent leads) = talks.greeted (talk_between _ after so talk leads)
    session_between before after so (talks.cut_greeting last) leads = talks.cut_greeting last

-- ---- the laws, over a desk and a prompter that keep their promises

module _ {D P : Type 0} (turned : D → MarkStep → Turn → D → Type 0) (prompted : P → Call → P → Type 0) (at_desk : D → AtDesk) (at : P → AtPrompter)
    (turns : (before : D) (asked : MarkStep) (turn : Turn) (after : D) → turned before asked turn after → IsTurn (at_desk before) asked turn (at_desk after))
    (calls : (before : P) (call : Call) (after : P) → prompted before call after → IsCall (at before) call (at after)) {supply : Supply} (rules : Rules)
    (Spares Stays : D → Type 0) (wants : (before : D) (asked : MarkStep) (after : D) → Stays before → Spares before → turned before asked Refused after → MayWantMemory asked) where
  lawful_request : {before after : Outside (PortWorld turned prompted)} {kept now : SessionState} (line : List ℕ) {events : List SessionEvent} {went : Went} → Stays before.desk
      → SessionExchange rules kept line events now went → Leads (Does (PortWorld turned prompted) supply) before events after → LawfulRequest rules kept (Spares before.desk) line events
  lawful_request {before} {kept} line {events} so exchange leads =
      let fits = all_fit turned prompted at_desk turns leads in
      let possible = all_possible turned prompted at calls leads in
      record {
        at_once = λ remembers goes_on. at_once rules (request_of line) exchange fits (each_calm events remembers goes_on);
        alone = λ spares goes_on. alone_first rules (request_of line) exchange fits (first_fair turned prompted (λ asked desk does. wants before.desk asked desk so spares does) leads) goes_on;
        refused = λ why own has. refused_course (request_of line) (request_course (request_of line) exchange)
            (caused_refuses fits rules kept (request_of line) own ((exchange_caused rules kept line (never_absent possible) exchange).caused why Agent has));
        own = request_says_own (request_of line) exchange;
        of_keys = λ asked is. request_told rules kept (request_of line) is exchange;
        stores = λ front back asked turn is hands. own_at (StoresOwn rules kept (request_of line)) [] events front asked turn back (request_own (request_of line) exchange fits) is hands;
      }

  module _ {relation caused : Relations} {cause : Causes} {unprompted : SessionState → List ℕ → List SessionEvent → Type 0} (judging : Judging relation caused cause unprompted)
      (answered : (before : SessionState) (line : List ℕ) (events : List SessionEvent) (after : SessionState) (went : Went) → caused before line events after went → IsAnsweredBy went events)
      (IsOfEvery : List ℕ → Type 0) (of_every : (before : SessionState) (line : List ℕ) (events : List SessionEvent) (after : SessionState) (went : Went) → relation before line events after went → IsOfEvery line
      → SessionExchange rules before line events after went) where
    pub lawful : (link link_now : LinkBytes) (before : Between (PortWorld turned prompted) SessionState) (line : List ℕ) (events : List SessionEvent) (after : Between (PortWorld turned prompted) SessionState) (went : Went)
        → Stays before.desk → relation before.kept line events after.kept went → Leads (Does (PortWorld turned prompted) supply) (with_link link before) events (with_link link_now after)
        → LawfulExchange turned prompted at rules cause IsOfEvery Spares before line events after went
    lawful link link_now before line events after went so exchange leads =
        let is_caused = judging.judged before.kept line events after.kept went (all_possible turned prompted at calls leads) exchange in
        record {
          request = λ is. lawful_request line so (of_every before.kept line events after.kept went exchange is) leads;
          raised = failures_rise turned prompted at calls leads;
          goes_on = judging.goes_on before.kept line events after.kept went (all_possible turned prompted at calls leads) exchange;
          counted = counts_failures turned prompted at calls (with_link link before) (with_link link_now after) events leads;
          uncaused = λ never. ok_by events (λ why origin has. never why origin (judging.has_cause before.kept line events after.kept went is_caused why origin has)) went
              (answered before.kept line events after.kept went is_caused);
        }

-- ---- sessions as a whole

module _ {D P : Type 0} (turned : D → MarkStep → Turn → D → Type 0) (prompted : P → Call → P → Type 0) (at : P → AtPrompter)
    (calls : (before : P) (call : Call) (after : P) → prompted before call after → IsCall (at before) call (at after)) {supply : Supply} where
  pub lawful_session : {Exchanges : Type 0} {before after : Outside (PortWorld turned prompted)} {events : List SessionEvent} {end : SessionEnd} → Exchanges → EndsTooLong events end
      → Leads (Does (PortWorld turned prompted) supply) before events after → LawfulSession at Exchanges events end before.ends after.ends
  lawful_session {before} {after} {events} exchanges too_long leads = record {
    exchanges = exchanges;
    too_long = too_long;
    raised = failures_rise turned prompted at calls leads;
    counted = counts_failures turned prompted at calls before after events leads;
  }
