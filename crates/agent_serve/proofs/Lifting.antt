-- A session at the desk and with the pinentry is one at what they show.
use Rattle.std.{proofs.Common.{◌≡◌, ℕ, List, [], ◌++◌, Option, None, Some, ◌+◌, false, refl, ap, ◌∙◌, subst}, specs.Prelude.is_some}
use Rattle.agent_ask.specs.{Doing.{called, out_of_memory}, Events.Call, Session.{PortCalls.{prompt, keys, dice, trust, no_memory}, SessionEvents.turns_in, Worlds.{Outside, Does, received, sent, cut, asked, not_asked, turned, ported}}}
use Rattle.{agent_ask.specs.Prompters.IsShut, agent_origin.specs.{PortStates.{PortWorld, surroundings}, declared.door.Door.Door, DoorSessions.ServesDoor, Sessions.{ends_with, supply_of}}, agent_commands.specs.Outside.World}
use Rattle.{agent_commands.specs.declared.went.SessionEnd.SessionEnd, assuan_server.specs.Clients.session_lines, agent_ports.specs.{HostParts.{Views, IsFolder, AreNew}, KeyFiles.KeyFiles, Launches.Launches, Leads.{Leads, none, one}}}
use Rattle.{agent_ports.specs.{Readings.Readings, Sides.Side, declared.{host.Parts.Parts, session.SessionId.SessionId}, TrustFiles.TrustState}, cache_policy.specs.{Extending.Taken, declared.mark.Mark.Mark}, key_commands.specs.Events.Event}
use Rattle.{counted_lock.specs.{Turns.{AtCountedDesk, CountedTurn}, Passes.AtPass}, pinentry_client.specs.{Dialogues.{PinentryDoes, PinentryCall}, States.{PinentryState, AtPinentry, at_pinentry, at_prompter, idle}}}
use Rattle.session_options.specs.declared.rules.Rules.{Rules}
use Rattle.agent_serve.{specs.{Gates.Gated, Serves.{PassTurns, LinkSides, desk_at, ServesOne}}, proofs.Counting.added}
use Rattle.agent_serve.specs.Serves as serves

-- the calls of a pinentry behind a gate
abbrev pub GatedCall : {La : Type 0} → (La → Launches) → Gated (PinentryState La) → Call → Gated (PinentryState La) → Type 0
GatedCall launches before call after = PinentryCall launches before.prompter call after.prompter

abbrev pub held_world : {C La : Type 0} → (C → Readings) → (La → Launches) → World
held_world readings launches = PortWorld (CountedTurn readings) (GatedCall launches)

abbrev pub seen_world : World
seen_world = PortWorld (CountedTurn (λ (clock : Readings). clock)) PinentryDoes

abbrev pub seen_desk : {C : Type 0} → (C → Readings) → AtCountedDesk C → AtCountedDesk Readings
seen_desk readings desk = record { pass = desk.pass; session = desk.session; out = desk.out; clock = readings desk.clock }

module _ {C La : Type 0} (readings : C → Readings) (launches : La → Launches) (supply : session_lines.Supply) where
  abbrev pub with_seen : Outside (held_world readings launches) → Outside seen_world
  with_seen ends = record {
    input = ends.input;
    source = ends.source;
    output = ends.output;
    desk = seen_desk readings ends.desk;
    ends = record {
      prompter = at_pinentry launches ends.ends.prompter.prompter;
      keys = ends.ends.keys;
      dice = ends.ends.dice;
      trust = ends.ends.trust;
    };
  }

  -- what becomes of a desk and of a pinentry by these turns
  pub record Goes (desk : AtCountedDesk C) (pinentry : PinentryState La) (taken : List Taken) (desk_now : AtCountedDesk C) (pinentry_now : PinentryState La) : Type 0 where
    pub program : pinentry_now.program ≡ pinentry.program
    pub lent : pinentry_now.lent ≡ pinentry.lent
    pub session : desk_now.session ≡ desk.session
    pub own : List Mark
    pub turns : PassTurns desk.session desk.pass (readings desk.clock) taken own desk_now.pass (readings desk_now.clock)

  pub record Lifts (before after : Outside (held_world readings launches)) (events : List Event) : Type 0 where
    pub leads : Leads (Does seen_world supply) (with_seen before) events (with_seen after)
    pub goes : Goes before.desk before.ends.prompter.prompter (turns_in events) after.desk after.ends.prompter.prompter

  pub lifts : {before after : Outside (held_world readings launches)} {events : List Event}
      → Leads (Does (held_world readings launches) supply) before events after → Lifts before after events
  lifts none = record { leads = none; goes = record { program = refl; lent = refl; session = refl; own = []; turns = serves.none } }
  lifts (one (received known needed) more) = let r = lifts more in record { leads = one (received known needed) r.leads; goes = r.goes }
  lifts (one sent more) = let r = lifts more in record { leads = one sent r.leads; goes = r.goes }
  lifts (one cut more) = let r = lifts more in record { leads = one cut r.leads; goes = r.goes }
  lifts (one (asked known needed) more) = let r = lifts more in record { leads = one (asked known needed) r.leads; goes = r.goes }
  lifts (one (not_asked unsent split) more) = let r = lifts more in record { leads = one (not_asked unsent split) r.leads; goes = r.goes }
  lifts {before} {after} (one {mid = mid} {more = later} (turned {taken = taken} does) more) =
      let r = lifts more in
      let same = does.is.session in
      record {
        leads = one (turned (record { turns = does.turns; is = does.is })) r.leads;
        goes = record {
          program = r.goes.program;
          lent = r.goes.lent;
          session = r.goes.session ∙ same;
          own = does.turns.own ++ r.goes.own;
          turns = serves.turned does.turns
              (subst (λ s. PassTurns s mid.desk.pass (readings mid.desk.clock) (turns_in later) r.goes.own after.desk.pass (readings after.desk.clock)) same r.goes.turns);
        };
      }
  lifts (one (ported (prompt (called does))) more) =
      let r = lifts more in
      record {
        leads = one (ported (prompt (called does.does))) r.leads;
        goes = record { program = r.goes.program ∙ does.program; lent = r.goes.lent ∙ does.lent; session = r.goes.session; own = r.goes.own; turns = r.goes.turns };
      }
  lifts (one (ported (prompt out_of_memory)) more) = let r = lifts more in record { leads = one (ported (prompt out_of_memory)) r.leads; goes = r.goes }
  lifts (one (ported (keys does)) more) = let r = lifts more in record { leads = one (ported (keys does)) r.leads; goes = r.goes }
  lifts (one (ported (dice does)) more) = let r = lifts more in record { leads = one (ported (dice does)) r.leads; goes = r.goes }
  lifts (one (ported no_memory) more) = let r = lifts more in record { leads = one (ported no_memory) r.leads; goes = r.goes }
  lifts (one (ported (trust does)) more) = let r = lifts more in record { leads = one (ported (trust does)) r.leads; goes = r.goes }

not_some_is_none : {A : Type 0} (child : Option A) → is_some child ≡ false → child ≡ None
not_some_is_none None is = refl
not_some_is_none (Some conn) is = absurd (cc is)

-- a pinentry that is shut is idle
pub shut_is_idle : {La : Type 0} (launches : La → Launches) (rules : Rules) (pinentry : PinentryState La) → pinentry.program ≡ rules.pinentry.items
    → IsShut (at_prompter (at_pinentry launches pinentry)) → at_pinentry launches pinentry ≡ idle rules.pinentry.items (launches pinentry.launcher)
shut_is_idle launches rules pinentry program shut = rw (program, shut.idle, not_some_is_none pinentry.child shut.childless) refl

-- what a session at the desk is at its pass
module _ {C La R K T : Type 0} (views : Views La C R K) (trusts : T → TrustState) (folder : List ℕ) (rules : Rules) (door : Door) (session : SessionId) (before after : LinkSides) (pass : AtPass) (parts : Parts La C R K)
    (trust_file : T)
    (desk desk_now : AtCountedDesk C) (gated gated_now : Gated (PinentryState La)) (keys_now : KeyFiles) (dice_now : Side) (trust_now : TrustState) (end : SessionEnd)
    (desk_is : desk ≡ record { pass = record pass { sessions = session.count + 1 }; session = session; out = None; clock = parts.clock })
    (unused : at_pinentry views.launches gated.prompter ≡ idle rules.pinentry.items (views.launches gated.prompter.launcher))
    (new : AreNew views parts)
    (unfailed : (trusts trust_file).faults ≡ 0)
    (keys_in : IsFolder folder (views.keys parts.keys).folder)
    (trust_in : IsFolder folder (trusts trust_file).folder)
    (own : gated.prompter.launcher ≡ parts.launcher)
    (served : ServesDoor (CountedTurn views.readings) (GatedCall views.launches) door rules
    (surroundings (CountedTurn views.readings) (GatedCall views.launches) before.input before.output desk gated (views.keys parts.keys) (views.draws parts.dice) (trusts trust_file)) end
    (surroundings (CountedTurn views.readings) (GatedCall views.launches) after.input after.output desk_now gated_now keys_now dice_now trust_now))
    (free : desk_now.out ≡ None)
    (shut : IsShut (at_prompter (at_pinentry views.launches gated_now.prompter))) where
  abbrev first : AtPass
  first = record pass { sessions = session.count + 1 }

  lifted : Lifts views.readings views.launches (supply_of before.input.bytes)
      (ends_with before.input.bytes (surroundings (CountedTurn views.readings) (GatedCall views.launches) before.input before.output desk gated (views.keys parts.keys) (views.draws parts.dice) (trusts trust_file)))
      (ends_with served.rest (surroundings (CountedTurn views.readings) (GatedCall views.launches) after.input after.output desk_now gated_now keys_now dice_now trust_now)) served.events
  lifted = lifts views.readings views.launches (supply_of before.input.bytes) served.leads

  idle_now : at_pinentry views.launches gated_now.prompter ≡ idle rules.pinentry.items (views.launches gated_now.prompter.launcher)
  idle_now = shut_is_idle views.launches rules gated_now.prompter (lifted.goes.program ∙ ap (λ (p : AtPinentry). p.program) unused) shut

  session_now : desk_now.session ≡ session
  session_now = lifted.goes.session ∙ ap (λ (d : AtCountedDesk C). d.session) desk_is

  seen_now : seen_desk views.readings desk_now ≡ desk_at desk_now.pass session (views.readings desk_now.clock)
  seen_now = rw (session_now, free) refl

  abbrev leads_from : AtCountedDesk Readings → AtCountedDesk Readings → AtPinentry → AtPinentry → Type 0
  leads_from from to asks asks_now =
      Leads (Does seen_world (supply_of before.input.bytes))
      (ends_with before.input.bytes (surroundings (CountedTurn (λ (c : Readings). c)) PinentryDoes before.input before.output from asks (views.keys parts.keys) (views.draws parts.dice) (trusts trust_file))) served.events
      (ends_with served.rest (surroundings (CountedTurn (λ (c : Readings). c)) PinentryDoes after.input after.output to asks_now keys_now dice_now trust_now))

  session_leads : leads_from (desk_at first session (views.readings parts.clock)) (desk_at desk_now.pass session (views.readings desk_now.clock))
      (idle rules.pinentry.items (views.launches gated.prompter.launcher)) (idle rules.pinentry.items (views.launches gated_now.prompter.launcher))
  session_leads =
      subst (λ (d : AtCountedDesk Readings). leads_from d (desk_at desk_now.pass session (views.readings desk_now.clock)) (idle rules.pinentry.items (views.launches gated.prompter.launcher))
      (idle rules.pinentry.items (views.launches gated_now.prompter.launcher))) (ap (seen_desk views.readings) desk_is)
      (subst (λ (d : AtCountedDesk Readings). leads_from (seen_desk views.readings desk) d (idle rules.pinentry.items (views.launches gated.prompter.launcher))
      (idle rules.pinentry.items (views.launches gated_now.prompter.launcher))) seen_now
      (subst (λ (p : AtPinentry). leads_from (seen_desk views.readings desk) (seen_desk views.readings desk_now) p (idle rules.pinentry.items (views.launches gated_now.prompter.launcher))) unused
      (subst (λ (p : AtPinentry). leads_from (seen_desk views.readings desk) (seen_desk views.readings desk_now) (at_pinentry views.launches gated.prompter) p) idle_now lifted.leads)))

  leads_from_parts : leads_from (desk_at first session (views.readings parts.clock)) (desk_at desk_now.pass session (views.readings desk_now.clock))
      (idle rules.pinentry.items (views.launches parts.launcher)) (idle rules.pinentry.items (views.launches gated_now.prompter.launcher))
  leads_from_parts =
      subst (λ (l : La). leads_from (desk_at first session (views.readings parts.clock)) (desk_at desk_now.pass session (views.readings desk_now.clock))
      (idle rules.pinentry.items (views.launches l)) (idle rules.pinentry.items (views.launches gated_now.prompter.launcher))) own session_leads

  pass_is_led : PassTurns session first (views.readings parts.clock) (turns_in served.events) lifted.goes.own desk_now.pass (views.readings desk_now.clock)
  pass_is_led =
      subst (λ (d : AtCountedDesk C). PassTurns d.session d.pass (views.readings d.clock) (turns_in served.events) lifted.goes.own desk_now.pass (views.readings desk_now.clock)) desk_is lifted.goes.turns

  pub one_is_served : ServesOne views trusts folder rules door session before pass end after desk_now.pass
  one_is_served =
      let does = added session first desk_now.pass _ _ (turns_in served.events) lifted.goes.own pass_is_led in
      record {
        parts = parts;
        new = new;
        trust_file = trust_file;
        unused = unfailed;
        keys_in = keys_in;
        trust_in = trust_in;
        clock_now = views.readings desk_now.clock;
        launches_now = views.launches gated_now.prompter.launcher;
        keys_now = keys_now;
        dice_now = dice_now;
        trust_now = trust_now;
        served = record {
          events = served.events;
          session = served.session;
          rest = served.rest;
          leads = leads_from_parts;
          leaves = served.leaves;
          taken = served.taken;
          greeted = served.greeted;
          read_fault = served.read_fault;
          write_fault = served.write_fault;
          reads = served.reads;
          writes = served.writes;
          input_faults = served.input_faults;
          output_faults = served.output_faults;
        };
        own = lifted.goes.own;
        turns = pass_is_led;
        adds = record { mine_is = does.adds.mine_is; by = does.adds.by; given = does.adds.given; empty = does.adds.empty; opened = does.adds.opened };
        more = does.more;
        now_is = does.now;
      }
