-- Events one after another: each does to the outside what its kind does.
use Rattle.std.proofs.Common.{ℕ, List, [], ◌∷◌, ◌++◌, Ok, Err, refl, ap, ◌∙◌, arith}
use Rattle.{agent_ports.{specs.{Leads.{none, one}, Sides.Side, Writing.StopsWriting, declared.link.WriteFault.WriteFault}, proofs.Leading.leads_then}, cache_policy.specs.{declared.mark.MarkStep.MarkStep, Turns.Turn}}
use Rattle.session_client.{specs.{Asking.{AnyInquired, Asked, NotAsked, HasSaid, HasInquired}, Lines.{Lines, Views}}, proofs.Received.HasReceived}
use Rattle.agent_ask.specs.{LinkFaults.{fails_at_input, fails_at_output}, Session.{SessionEvents.{AnyEvent, Received, Sent, Cut, Inquiry, Port, cache_turn}, States.{AnyState, AnyLead}}}
use Rattle.agent_ask.{specs.Session.Worlds.{AnyWorld, received, sent, cut, asked as asked_so, not_asked, turned, ported}, proofs.Counting.{one_is_counted, both_are_counted}}

-- the bytes of a text that went before its write stopped
abbrev pub stopped_at : {lines : Lines} {C : Type 0} {views : Views lines C} {text : List ℕ} {start now : C} {why : WriteFault} → HasSaid views text start (Err why) now → List ℕ
stopped_at {views} {text} {start} {now} said = let stops : StopsWriting text (views.output start) (views.output now) = said.output.went in stops.sent

-- a state with this connection
abbrev at_conn : {lines : Lines} {w : AnyWorld lines} {C : Type 0} → w.Desk → w.Ends → C → AnyState w C
at_conn desk ends conn = record { conn = conn; desk = desk; ends = ends }

module _ {lines : Lines} {w : AnyWorld lines} {C : Type 0} {views : Views lines C} where
  pub done_none : (now : AnyState w C) → AnyLead views [] now now
  done_none now = record {
    leads = λ supply is. (none, is);
    reads = omega arith;
    writes = omega arith;
    input_faults = omega arith;
    output_faults = omega arith;
    link = refl;
  }

  pub done_then : {first second : List (AnyEvent lines.Took lines.Outcome w.Port)} {start mid now : AnyState w C} → AnyLead views first start mid → AnyLead views second mid now
      → AnyLead views (first ++ second) start now
  done_then {first} {second} before after = record {
    leads = λ supply is.
        let first = before.leads supply is in
        let second = after.leads supply first.1 in
        (leads_then first.0 second.0, second.1);
    reads = both_are_counted (fails_at_input lines) first second _ _ _ before.reads after.reads;
    writes = both_are_counted (fails_at_output lines) first second _ _ _ before.writes after.writes;
    input_faults = omega (arith, before.input_faults, after.input_faults);
    output_faults = omega (arith, before.output_faults, after.output_faults);
    link = after.link ∙ before.link;
  }

  -- a turn at the desk
  pub done_turned : (asked : MarkStep) (turn : Turn) (conn : C) (desk desk_now : w.Desk) (ends : w.Ends) → w.turned desk asked turn desk_now
      → AnyLead {w = w} views (cache_turn asked turn ∷ []) (record { conn = conn; desk = desk; ends = ends }) (record { conn = conn; desk = desk_now; ends = ends })
  done_turned asked turn conn desk desk_now ends does = record {
    leads = λ supply is. (one (turned does) none, is);
    reads = omega arith;
    writes = omega arith;
    input_faults = omega arith;
    output_faults = omega arith;
    link = refl;
  }

  -- an event at the ports
  pub done_port : (what : w.Port) (conn : C) (desk : w.Desk) (ends ends_now : w.Ends) → w.does ends what ends_now
      → AnyLead {w = w} views (Port what ∷ []) (record { conn = conn; desk = desk; ends = ends }) (record { conn = conn; desk = desk; ends = ends_now })
  done_port what conn desk ends ends_now does = record {
    leads = λ supply is. (one (ported does) none, is);
    reads = omega arith;
    writes = omega arith;
    input_faults = omega arith;
    output_faults = omega arith;
    link = refl;
  }

  -- what is done with the connection
  module _ (desk : w.Desk) (ends : w.Ends) where
    -- a text was written
    pub done_said : {text : List ℕ} {start now : C} → HasSaid views text start (Ok tt) now → AnyLead {w = w} views (Sent text ∷ []) (at_conn {w = w} desk ends start) (at_conn {w = w} desk ends now)
    done_said said = record {
      leads = λ supply is. (rw (said.leaves.unread, ap (λ (s : Side). s.bytes) said.leaves.input, said.output.went) (one sent none), said.leaves.supply supply is);
      reads = omega (arith, ap (λ (s : Side). s.faults) said.leaves.input);
      writes = omega (arith, said.output.faults);
      input_faults = omega (arith, ap (λ (s : Side). s.faults) said.leaves.input);
      output_faults = said.output.faults;
      link = said.leaves.link;
    }

    -- a write stopped
    pub done_cut : {text : List ℕ} {start now : C} (why : WriteFault) (said : HasSaid views text start (Err why) now)
        → AnyLead {w = w} views (Cut (stopped_at said) ∷ []) (at_conn {w = w} desk ends start) (at_conn {w = w} desk ends now)
    done_cut {text} {start} {now} why said =
        let stops : StopsWriting text (views.output start) (views.output now) = said.output.went in
        record {
          leads = λ supply is. (rw (said.leaves.unread, ap (λ (s : Side). s.bytes) said.leaves.input, said.output.went.written) (one cut none), said.leaves.supply supply is);
          reads = omega (arith, ap (λ (s : Side). s.faults) said.leaves.input);
          writes = one_is_counted (fails_at_output lines {F = w.Port}) (Cut stops.sent) _ _ (λ e. stops.rose) said.output.faults;
          input_faults = omega (arith, ap (λ (s : Side). s.faults) said.leaves.input);
          output_faults = said.output.faults;
          link = said.leaves.link;
        }

    -- the next request was read, or this came in its place
    pub done_received : {took : lines.Took} {start now : C} → HasReceived views took start now → AnyLead {w = w} views (Received took ∷ []) (at_conn {w = w} desk ends start) (at_conn {w = w} desk ends now)
    done_received {took} read = record {
      leads = λ supply is. let reads = read.reads supply is in (rw read.output_is (one (received reads.0 read.needed) none), reads.1);
      reads = one_is_counted (fails_at_input lines {F = w.Port}) (Received took) _ _ read.rose read.input_faults;
      writes = omega (arith, read.output_faults);
      input_faults = read.input_faults;
      output_faults = read.output_faults;
      link = read.link;
    }

    -- the client was asked
    pub done_inquired : {word params : List ℕ} {limit : ℕ} {start now : C} (inquired : AnyInquired lines.Outcome) → HasInquired views word params limit inquired start now
        → AnyLead {w = w} views (Inquiry word params limit inquired ∷ []) (at_conn {w = w} desk ends start) (at_conn {w = w} desk ends now)
    done_inquired {word} {params} {limit} (Asked outcome) read = record {
      leads = λ supply is. let reads = read.reads supply is in (rw read.output_is (one (asked_so reads.0 read.needed) none), reads.1);
      reads = one_is_counted (fails_at_input lines {F = w.Port}) (Inquiry word params limit (Asked outcome)) _ _ read.rose read.input_faults;
      writes = omega (arith, read.output_faults);
      input_faults = read.input_faults;
      output_faults = read.output_faults;
      link = read.link;
    }
    done_inquired {word} {params} {limit} (NotAsked text) stop = record {
      leads = λ supply is. (
        rw (stop.leaves.unread, ap (λ (s : Side). s.bytes) stop.leaves.input, stop.stopped.written, stop.sent_is)
            (one (not_asked stop.stopped.unsent (stop.stopped.split ∙ ap (λ (t : List ℕ). t ++ stop.stopped.unsent) stop.sent_is)) none),
        stop.leaves.supply supply is,
      );
      reads = omega (arith, ap (λ (s : Side). s.faults) stop.leaves.input);
      writes = one_is_counted (fails_at_output lines {F = w.Port}) (Inquiry word params limit (NotAsked text)) _ _ (λ e. stop.stopped.rose) stop.faults;
      input_faults = omega (arith, ap (λ (s : Side). s.faults) stop.leaves.input);
      output_faults = stop.faults;
      link = stop.leaves.link;
    }
