-- A session from its greeting on.
use Rattle.std.{proofs.Common.{◌≡◌, ◌≤◌, ◌+◌, ℕ, List, [], ◌∷◌, length, Option, None, Some, Ok, Err, refl, ap, sym, ◌∙◌, subst, arith}, specs.{Option.option_map, Prelude.{IfSome, ⊤}}}
use Rattle.{agent_ports.{specs.{Leads.{Leads, none, one}, Sides.{Side, WhereKnown}, declared.link.WriteFault.WriteFault, Writing.StopsWriting}, proofs.Known.{known_same, known_then}}, assuan_line.specs.Next.Reader}
use Rattle.{assuan_server.{specs.{Connections.Connection, Written.{greeting, WritesText}, Reading.{budget, Supply, unread, IsSupply}, Clients.HasSupply}, proofs.Clients.said_so}, assuan_text.specs.LineEnds.line_of}
use Rattle.agent_commands.specs.{Endings.gone_of, Events.EventWith, Outside.World, States.{ServedState, EventsLead}, Talks.{greeted, cut_greeting}, declared.went.SessionEnd.{SessionEnd, TheVariants.WriteFault as CutOff}}
use Rattle.agent_ask.{specs.Session.{SessionEvents.{Sent, Cut}, Worlds.{Outside, Does, received, sent, cut, asked, not_asked, turned, ported}}, proofs.Doing.{done_then, done_said, done_cut}}
use Rattle.agent_origin.specs.{Sessions.{LineRelation, Leaves, ServesSession, Surroundings, supply_of, ends_with}, Serving.{ServesRequests, around}}

-- a reader that has read nothing
abbrev fresh : Reader
fresh = record { ahead = []; left = budget; ended = None }

unread_fresh : (bytes : Option (List ℕ)) → option_map (unread fresh) bytes ≡ bytes
unread_fresh None = refl
unread_fresh (Some left) = refl

supply_fresh : (bytes : Option (List ℕ)) → IfSome bytes (λ left. IsSupply (supply_of bytes) fresh left)
supply_fresh None = tt
supply_fresh (Some left) = refl

-- whether bytes are known stays
known_each : (before after : Option (List ℕ)) (P : List ℕ → List ℕ → Type 0) → WhereKnown before after P → WhereKnown before after (λ bytes rest. ⊤)
known_each None None P known = tt
known_each None (Some rest) P known = known
known_each (Some bytes) None P known = known
known_each (Some bytes) (Some rest) P known = tt

known_leads : {w : World} {supply : Supply} {before after : Outside w} {events : List (EventWith w.Port)} → Leads (Does w supply) before events after
    → WhereKnown before.input after.input (λ bytes rest. ⊤)
known_leads {before} none = known_same before.input _ (λ bytes. tt)
known_leads {before} {after} (one {mid} (received known needed) later) =
    known_then before.input mid.input after.input _ _ _ (known_each before.input mid.input _ known) (known_leads later) (λ bytes rest more p q. tt)
known_leads (one sent later) = known_leads later
known_leads (one cut later) = known_leads later
known_leads {before} {after} (one {mid} (asked known needed) later) =
    known_then before.input mid.input after.input _ _ _ (known_each before.input mid.input _ known) (known_leads later) (λ bytes rest more p q. tt)
known_leads (one (not_asked unsent split) later) = known_leads later
known_leads (one (turned does) later) = known_leads later
known_leads (one (ported does) later) = known_leads later

-- the bytes that a session left
leaves_known : (end : SessionEnd) (reader : Reader) (after : Option (List ℕ)) → ((left : List ℕ) → Leaves end (unread reader left) left)
    → WhereKnown (option_map (unread reader) after) after (Leaves end)
leaves_known end reader None leaves = tt
leaves_known end reader (Some left) leaves = leaves left

-- and that it took
taken_known : (reader : Reader) (before after : Option (List ℕ)) → WhereKnown before (option_map (unread reader) after) (λ bytes rest. ⊤)
    → IfSome after (λ left. IsSupply (supply_of before) reader left)
    → WhereKnown before after (λ bytes left. length bytes ≤ budget + length left)
taken_known reader None None known total = tt
taken_known reader None (Some left) known total = known
taken_known reader (Some bytes) None known total = known
taken_known reader (Some bytes) (Some left) known total = omega (arith, total)

module _ {w : World} {S : Type 0} (exchange : LineRelation w S) (before : S) (start : ServedState w) (new : start.conn.reader ≡ fresh) where
  -- what was done, from the first byte on
  module _ (last : ServedState w) (events : List (EventWith w.Port)) (done : EventsLead events start last) where
    abbrev from_start : Option (List ℕ) → Type 0
    from_start input = Leads (Does w (supply_of start.conn.input.bytes)) (ends_with input (around start)) events (ends_with (option_map (unread last.conn.reader) last.conn.input.bytes) (around last))

    led : from_start start.conn.input.bytes × HasSupply (supply_of start.conn.input.bytes) last.conn
    led =
        let leads = done.leads (supply_of start.conn.input.bytes) (rw new (supply_fresh start.conn.input.bytes)) in
        (subst from_start (ap (λ (r : Reader). option_map (unread r) start.conn.input.bytes) new ∙ unread_fresh start.conn.input.bytes) leads.0, leads.1)

    taken : WhereKnown start.conn.input.bytes last.conn.input.bytes (λ bytes left. length bytes ≤ budget + length left)
    taken = taken_known last.conn.reader start.conn.input.bytes last.conn.input.bytes (known_leads led.0) led.1

  -- the greeting was cut
  pub met_cut : (now : Connection) (why : WriteFault) → WritesText (line_of greeting) start.conn (Err why) now → ServesSession exchange before (around start) CutOff (around (record start { conn = now }))
  met_cut now why said =
      let stopped : StopsWriting (line_of greeting) start.conn.output now.output = said.output.went in
      let last : ServedState w = record start { conn = now } in
      let done : EventsLead {w = w} (Cut stopped.sent ∷ []) start last = done_cut start.desk start.ends why (said_so said) in
      let reads : now.reader ≡ fresh = said.reader ∙ new in
      record {
        events = Cut stopped.sent ∷ [];
        session = cut_greeting (record {
          before = [];
          sent = stopped.sent;
          unsent = stopped.unsent;
          whole = ap (λ (x : List ℕ). Sent x ∷ []) stopped.split;
          done_is = refl;
        });
        rest = option_map (unread now.reader) now.input.bytes;
        leads = (led last (Cut stopped.sent ∷ []) done).0;
        leaves = leaves_known CutOff now.reader now.input.bytes (λ left. ([], rw reads refl));
        taken = taken last (Cut stopped.sent ∷ []) done;
        greeted = λ other is. said.input;
        read_fault = λ e. absurd (cc e);
        write_fault = λ e. stopped.rose;
        reads = done.reads;
        writes = done.writes;
        input_faults = omega (arith, ap (λ (s : Side). s.faults) said.input);
        output_faults = said.output.faults;
      }

  -- and what followed it
  pub met : (mid : Connection) (last : ServedState w) (end : SessionEnd) → WritesText (line_of greeting) start.conn (Ok tt) mid
      → ServesRequests exchange before (record start { conn = mid }) end last → ServesSession exchange before (around start) end (around last)
  met mid last end said talked =
      let done : EventsLead {w = w} (Sent (line_of greeting) ∷ talked.events) start last = done_then (done_said start.desk start.ends (said_so said)) talked.done in
      record {
        events = Sent (line_of greeting) ∷ talked.events;
        session = greeted talked.talk;
        rest = option_map (unread last.conn.reader) last.conn.input.bytes;
        leads = (led last (Sent (line_of greeting) ∷ talked.events) done).0;
        leaves = leaves_known end last.conn.reader last.conn.input.bytes talked.leaves;
        taken = taken last (Sent (line_of greeting) ∷ talked.events) done;
        greeted = λ other is. absurd (cc is);
        read_fault = λ e. omega (arith, talked.faults.read (ap gone_of e), ap (λ (s : Side). s.faults) said.input);
        write_fault = λ e. omega (arith, talked.faults.write (ap gone_of e), said.output.faults);
        reads = done.reads;
        writes = done.writes;
        input_faults = done.input_faults;
        output_faults = done.output_faults;
      }

-- It is known of the link too.
pub on_link : {w : World} {S : Type 0} (exchange : LineRelation w S) (before : S) {start now : Surroundings w} {end : SessionEnd} {input output input_now output_now : Side}
    → start.input ≡ input → start.output ≡ output → input_now ≡ now.input → output_now ≡ now.output → ServesSession {w = w} exchange before start end now
    → ServesSession {w = w} exchange before (record start { input = input; output = output }) end (record now { input = input_now; output = output_now })
on_link exchange before input_is output_is input_now_is output_now_is served = rw (sym input_is, sym output_is, input_now_is, output_now_is) served
