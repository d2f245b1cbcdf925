-- A session at the desk is one at what the desk shows.
use Rattle.std.proofs.Common.{◌≡◌, ℕ, List, None, refl, ap, ◌∙◌, subst}
use Rattle.agent_ask.specs.{Session.{PortCalls.{PortCall, prompt, keys, dice, trust, no_memory}, SessionEvents.turns_in, Worlds.{Outside, Does, received, sent, cut, asked, not_asked, turned, ported}}, Doing.{called, out_of_memory}}
use Rattle.{agent_ask.specs.Prompters.IsShut, agent_core.specs.Solos.{SoloState, AtSolo, seen, TurnsSolo, SoloTurn}, agent_ports.specs.{KeyFiles.KeyFiles, Launches.Launches, Leads.{Leads, none, one}, Readings.Readings, Sides.Side}}
use Rattle.{cache_policy.specs.Extending.TakesTurn, agent_commands.specs.{Events.EventWith, Outside.World, declared.went.SessionEnd.SessionEnd}, assuan_server.specs.Clients.session_lines, agent_origin.proofs.Turning.turns_lead}
use Rattle.{agent_origin.specs.{Sessions.{ends_with, supply_of}, PortStates.PortWorld}, agent_serve.proofs.Lifting.shut_is_idle, agent_session.specs.Sessions.{without_trust, ServesRules}}
use Rattle.{pinentry_client.specs.{Dialogues.{PinentryDoes, PinentryCall}, States.{PinentryState, AtPinentry, at_pinentry, at_prompter}}, session_options.specs.declared.rules.Rules.Rules}
use Rattle.agent_top.{proofs.Replays.{turns_extend, turns_are_legal, turns_replay}, specs.{Cache.{limits_of, fresh_desk}, Top.{machine, no_child, RunsServer, ran, exit_number, status_of}}}

-- a session at a desk and with a pinentry, and what they show of it
abbrev pub held_world : {C La : Type 0} → (C → Readings) → (La → Launches) → World
held_world readings launches = PortWorld (SoloTurn readings) (PinentryCall launches)

abbrev pub seen_world : World
seen_world = PortWorld TurnsSolo PinentryDoes

module _ {C La : Type 0} (readings : C → Readings) (launches : La → Launches) (supply : session_lines.Supply) where
  -- the ends with what the desk and the pinentry show in their place
  abbrev pub with_seen : Outside (held_world readings launches) → Outside seen_world
  with_seen ends = record {
    input = ends.input;
    source = ends.source;
    output = ends.output;
    desk = seen readings ends.desk;
    ends = record { prompter = at_pinentry launches ends.ends.prompter; keys = ends.ends.keys; dice = ends.ends.dice; trust = ends.ends.trust };
  }

  pub record Lifts (before after : Outside (held_world readings launches)) (events : List (EventWith PortCall)) : Type 0 where
    pub leads : Leads (Does seen_world supply) (with_seen before) events (with_seen after)
    pub lent : after.desk.lent ≡ before.desk.lent
    pub launcher : after.ends.prompter.lent ≡ before.ends.prompter.lent
    pub program : after.ends.prompter.program ≡ before.ends.prompter.program

  pub lifts : {before after : Outside (held_world readings launches)} {events : List (EventWith PortCall)}
      → Leads (Does (held_world readings launches) supply) before events after → Lifts before after events
  lifts none = record { leads = none; lent = refl; launcher = refl; program = refl }
  lifts (one (received known needed) more) = let r = lifts more in record { leads = one (received known needed) r.leads; lent = r.lent; launcher = r.launcher; program = r.program }
  lifts (one sent more) = let r = lifts more in record { leads = one sent r.leads; lent = r.lent; launcher = r.launcher; program = r.program }
  lifts (one cut more) = let r = lifts more in record { leads = one cut r.leads; lent = r.lent; launcher = r.launcher; program = r.program }
  lifts (one (asked known needed) more) = let r = lifts more in record { leads = one (asked known needed) r.leads; lent = r.lent; launcher = r.launcher; program = r.program }
  lifts (one (not_asked unsent split) more) = let r = lifts more in record { leads = one (not_asked unsent split) r.leads; lent = r.lent; launcher = r.launcher; program = r.program }
  lifts (one (turned does) more) = let r = lifts more in record { leads = one (turned does.turns) r.leads; lent = r.lent ∙ does.lent; launcher = r.launcher; program = r.program }
  lifts (one (ported (prompt (called does))) more) = let r = lifts more in record { leads = one (ported (prompt (called does.does))) r.leads; lent = r.lent; launcher = r.launcher ∙ does.lent; program = r.program ∙ does.program }
  lifts (one (ported (prompt out_of_memory)) more) = let r = lifts more in record { leads = one (ported (prompt out_of_memory)) r.leads; lent = r.lent; launcher = r.launcher; program = r.program }
  lifts (one (ported (keys does)) more) = let r = lifts more in record { leads = one (ported (keys does)) r.leads; lent = r.lent; launcher = r.launcher; program = r.program }
  lifts (one (ported (dice does)) more) = let r = lifts more in record { leads = one (ported (dice does)) r.leads; lent = r.lent; launcher = r.launcher; program = r.program }
  lifts (one (ported (trust does)) more) = let r = lifts more in record { leads = one (ported (trust does)) r.leads; lent = r.lent; launcher = r.launcher; program = r.program }
  lifts (one (ported no_memory) more) = let r = lifts more in record { leads = one (ported no_memory) r.leads; lent = r.lent; launcher = r.launcher; program = r.program }

-- what a session at the desk is for the agent
module _ {C La : Type 0} (readings : C → Readings) (launches : La → Launches) (rules : Rules) (input output input_now output_now : Side) (desk desk_now : SoloState C)
    (pinentry pinentry_now : PinentryState La) (files files_now : KeyFiles) (draws draws_now : Side) (end : SessionEnd)
    (fresh : seen readings desk ≡ fresh_desk (limits_of rules) (readings desk.clock))
    (unused : at_pinentry launches pinentry ≡ no_child rules (launches pinentry.launcher))
    (served : ServesRules (SoloTurn readings) (PinentryCall launches) rules (without_trust (SoloTurn readings) (PinentryCall launches) input output desk pinentry files draws) end
    (without_trust (SoloTurn readings) (PinentryCall launches) input_now output_now desk_now pinentry_now files_now draws_now))
    (free : (seen readings desk_now).out ≡ None) (shut : IsShut (at_prompter (at_pinentry launches pinentry_now))) where
  lifted : Lifts readings launches (supply_of input.bytes) (ends_with input.bytes (without_trust (SoloTurn readings) (PinentryCall launches) input output desk pinentry files draws))
      (ends_with served.rest (without_trust (SoloTurn readings) (PinentryCall launches) input_now output_now desk_now pinentry_now files_now draws_now)) served.events
  lifted = lifts readings launches (supply_of input.bytes) served.leads

  -- in the end the pinentry is shut
  idle_now : at_pinentry launches pinentry_now ≡ no_child rules (launches pinentry_now.launcher)
  idle_now = shut_is_idle launches rules pinentry_now (lifted.program ∙ ap (λ (p : AtPinentry). p.program) unused) shut

  -- the desk as it begins
  abbrev leads_from : AtSolo → AtPinentry → AtPinentry → Type 0
  leads_from from asks asks_now =
      Leads (Does seen_world (supply_of input.bytes)) (ends_with input.bytes (without_trust TurnsSolo PinentryDoes input output from asks files draws)) served.events
      (ends_with served.rest (without_trust TurnsSolo PinentryDoes input_now output_now (seen readings desk_now) asks_now files_now draws_now))

  session_leads : leads_from (fresh_desk (limits_of rules) (readings desk.clock)) (no_child rules (launches pinentry.launcher)) (no_child rules (launches pinentry_now.launcher))
  session_leads =
      subst (λ (s : AtSolo). leads_from s (no_child rules (launches pinentry.launcher)) (no_child rules (launches pinentry_now.launcher))) fresh
      (subst (λ (p : AtPinentry). leads_from (seen readings desk) p (no_child rules (launches pinentry_now.launcher))) unused
      (subst (λ (p : AtPinentry). leads_from (seen readings desk) (at_pinentry launches pinentry) p) idle_now lifted.leads))

  pub session_ran : (number : ℕ) → number ≡ exit_number (status_of end) → RunsServer rules (machine input output (readings desk.clock) (launches pinentry.launcher) files draws) number
      (machine input_now output_now (readings desk_now.clock) (launches pinentry_now.launcher) files_now draws_now)
  session_ran number is =
      let turns : Leads (TakesTurn TurnsSolo) (fresh_desk (limits_of rules) (readings desk.clock)) (turns_in served.events) (seen readings desk_now) = turns_lead session_leads in
      ran (record {
        end = end;
        number_is = is;
        desk = seen readings desk_now;
        free = free;
        clock = refl;
        served = record {
          events = served.events;
          session = served.session;
          rest = served.rest;
          leads = session_leads;
          leaves = served.leaves;
          taken = served.taken;
          greeted = served.greeted;
          read_fault = served.read_fault;
          write_fault = served.write_fault;
          reads = served.reads;
          writes = served.writes;
          input_faults = served.input_faults;
          output_faults = served.output_faults;
        };
        extended = turns_extend turns;
        legal = turns_are_legal turns;
        replays = turns_replay turns;
      })

  pub clock_stays_lent : desk_now.lent ≡ desk.lent
  clock_stays_lent = lifted.lent

  pub launcher_stays_lent : pinentry_now.lent ≡ pinentry.lent
  launcher_stays_lent = lifted.launcher
