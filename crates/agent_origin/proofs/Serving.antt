-- A session that is under way, and what each way out of its loop makes of it.
use Rattle.std.proofs.Common.{◌≡◌, ℕ, List, [], ◌∷◌, ◌++◌, Option, Some, None, Ok, Err, refl, ap, sym, ◌∙◌, subst, arith, append_assoc}
use Rattle.{agent_ports.specs.{Counts.Rose, declared.link.WriteFault.WriteFault, Writing.StopsWriting}, assuan_line.specs.{Next.Reader, declared.reader.Took.Took}, assuan_server.specs.{Clients.connection_views, Connections.Connection}}
use Rattle.{assuan_server.{specs.{Requests.NextRequest, Written.{failed, WritesText}, Reading.unread}, proofs.{Clients.{said_so, received_so}, Reading.here_going}}, session_client.specs.declared.code.Code.TheVariants.LineTooLong}
use Rattle.agent_ask.{specs.Session.{Answering.{ReaderLeft, FaultsCounted}, SessionEvents.{Received, Sent, Cut}}, proofs.{ActionsDone.{still_open, no_fault}, Replying.text_written, Doing.{done_none, done_then, done_said, done_cut, done_received}}}
use Rattle.agent_commands.specs.{Endings.{gone_of, went_after, gone_after}, Events.EventWith, Outside.World, States.{ServedState, EventsLead, AnswersRequest}, Talks.{Talk, goes_on, over, ended, spent, read_fault, too_long, cut_too_long}}
use Rattle.agent_commands.{specs.declared.went.{SessionEnd.{SessionEnd, TheVariants.{Bye, Killed, Ended, TooLong, Spent, ReadFault}}, Went.{Went, TheVariants.{On, End}}}, proofs.Replying.gone_as_it_went}
use Rattle.agent_origin.specs.{Sessions.{LineRelation, Leaves}, Serving.{ServesRequests, SaysText, says}}
use Rattle.assuan_line.specs.declared.reader.Took.TheVariants as took
use Rattle.agent_commands.specs.declared.went.SessionEnd.TheVariants as ends

leaves_action_of : (reader : Reader) (left : List ℕ) (o : Option Took) → reader.ended ≡ o → (ahead : List ℕ) × (unread reader left ≡ ahead ++ left)
leaves_action_of reader left None is = (reader.ahead, here_going reader left is)
leaves_action_of reader left (Some took) is = ([], rw is refl)

-- what the source holds after a write that failed
leaves_action : (reader : Reader) (left : List ℕ) → (ahead : List ℕ) × (unread reader left ≡ ahead ++ left)
leaves_action reader left = leaves_action_of reader left reader.ended refl

-- and after an exchange that ended the session
leaves : (end : SessionEnd) (before after : Connection) (left : List ℕ) → ReaderLeft connection_views (gone_of end) before after → Leaves end (unread after.reader left) left
leaves Bye before after left fits = (after.reader.ahead, here_going after.reader left fits.0)
leaves Killed before after left fits = (after.reader.ahead, here_going after.reader left fits.0)
leaves Ended before after left is = rw is refl
leaves TooLong before after left is = rw is refl
leaves Spent before after left is = rw is refl
leaves ReadFault before after left is = rw is refl
leaves ends.WriteFault before after left is = leaves_action after.reader left

-- a reader that gave no line has ended so
leaves_what_is_unread : (reader : Reader) (took : Took) → reader.ended ≡ Some took → (left : List ℕ) → unread reader left ≡ left
leaves_what_is_unread reader took is left = rw is refl

module _ {w : World} {S : Type 0} (exchange : LineRelation w S) (before : S) (start : ServedState w) where
  -- How a session stands between two requests: whatever it does from there on completes what it did so far.
  pub record IsServing (now : ServedState w) (kept : S) : Type 0 where
    pub events : List (EventWith w.Port)
    pub done : EventsLead events start now
    pub continues : (more : List (EventWith w.Port)) (end : SessionEnd) → Talk exchange kept more end → Talk exchange before (events ++ more) end

  pub serves_none : IsServing start before
  serves_none = record { events = []; done = done_none start; continues = λ more end talk. talk }

  module _ (now : ServedState w) (kept : S) (serving : IsServing now kept) where
    -- the session's end, after these events more
    finishes : (last : ServedState w) (more : List (EventWith w.Port)) (end : SessionEnd) → EventsLead more now last
        → Talk exchange kept more end → ((left : List ℕ) → Leaves end (unread last.conn.reader left) left)
        → FaultsCounted connection_views (gone_of end) now.conn last.conn → ServesRequests exchange before start end last
    finishes last more end done talk leaves_so faults = record {
      events = serving.events ++ more;
      talk = serving.continues more end talk;
      done = done_then serving.done done;
      leaves = leaves_so;
      faults = record {
        read = λ e. omega (arith, serving.done.input_faults, faults.read e);
        write = λ e. omega (arith, serving.done.output_faults, faults.write e);
      };
    }

    -- the next request was read
    module _ (answer : Took) (conn : Connection) (going : now.conn.reader.ended ≡ None) (next : NextRequest now.conn answer conn) where
      abbrev read : ServedState w
      read = record { conn = conn; desk = now.desk; ends = now.ends }

      received : EventsLead {w = w} (Received answer ∷ []) now read
      received = done_received {w = w} now.desk now.ends (received_so going next)

      received_as : (took : Took) → answer ≡ took → EventsLead {w = w} (Received took ∷ []) now read
      received_as took is = subst (λ t. EventsLead {w = w} (Received t ∷ []) now read) is received

      module _ (line : List ℕ) (is : answer ≡ took.Line line) (after : S) (last : ServedState w) where
        serves_on : AnswersRequest {w = w} (λ k. exchange k line) kept read On after last → IsServing last after
        serves_on answered = record {
          events = serving.events ++ (Received (took.Line line) ∷ answered.events);
          done = done_then serving.done (done_then (received_as (took.Line line) is) answered.done);
          continues = λ more end talk.
              subst (λ (d : List (EventWith w.Port)). Talk exchange before d end) (sym (append_assoc serving.events (Received (took.Line line) ∷ answered.events) more))
              (serving.continues (Received (took.Line line) ∷ (answered.events ++ more)) end (goes_on line answered.exchanges talk));
        }

        -- and it stands as between two requests, where no ticket is out and no prompt open
        pub stands_on : {Free Shut : Type 0} → AnswersRequest {w = w} (λ k. exchange k line) kept read On after last → Free → Shut
            → record { serving : IsServing last after; going : last.conn.reader.ended ≡ None; free : Free; shut : Shut }
        stands_on answered free shut = record { serving = serves_on answered; going = answered.fits.0; free = free; shut = shut }

        pub is_over : (end : SessionEnd) → AnswersRequest {w = w} (λ k. exchange k line) kept read (End end) after last
            → ServesRequests exchange before start end last
        is_over end answered =
            finishes last (Received (took.Line line) ∷ answered.events) end (done_then (received_as (took.Line line) is) answered.done)
            (over line answered.exchanges) (λ left. leaves end conn last.conn left answered.fits)
            (record {
              read = λ e. omega (arith, received.input_faults, answered.faults.read e);
              write = λ e. omega (arith, received.output_faults, answered.faults.write e);
            })

      -- no request came
      pub at_end : answer ≡ took.End → conn.reader.ended ≡ Some took.End → ServesRequests exchange before start Ended read
      at_end is ended_so =
          finishes read (Received took.End ∷ []) Ended (received_as took.End is) ended (leaves_what_is_unread conn.reader took.End ended_so)
          (record { read = λ e. absurd (cc e); write = λ e. absurd (cc e) })

      pub at_spent : answer ≡ took.Spent → conn.reader.ended ≡ Some took.Spent → ServesRequests exchange before start Spent read
      at_spent is ended_so =
          finishes read (Received took.Spent ∷ []) Spent (received_as took.Spent is) spent (leaves_what_is_unread conn.reader took.Spent ended_so)
          (record { read = λ e. absurd (cc e); write = λ e. absurd (cc e) })

      pub at_read_fault : answer ≡ took.ReadFault → conn.reader.ended ≡ Some took.ReadFault → Rose now.conn.input.faults conn.input.faults
          → ServesRequests exchange before start ReadFault read
      at_read_fault is ended_so rose =
          finishes read (Received took.ReadFault ∷ []) ReadFault (received_as took.ReadFault is) read_fault
          (leaves_what_is_unread conn.reader took.ReadFault ended_so) (record { read = λ e. rose; write = λ e. absurd (cc e) })

      module _ (is : answer ≡ took.TooLong) (last : Connection) where
        abbrev after_it : ServedState w
        after_it = record { conn = last; desk = now.desk; ends = now.ends }

        pub at_too_long : conn.reader.ended ≡ Some took.TooLong → WritesText (failed LineTooLong) conn (Ok tt) last
            → ServesRequests exchange before start TooLong after_it
        at_too_long ended_so said =
            finishes after_it (Received took.TooLong ∷ Sent (failed LineTooLong) ∷ []) TooLong
            (done_then (received_as took.TooLong is) (done_said now.desk now.ends (said_so said))) too_long
            (leaves_what_is_unread last.reader took.TooLong (ap (λ (r : Reader). r.ended) said.reader ∙ ended_so))
            (record { read = λ e. absurd (cc e); write = λ e. absurd (cc e) })

        pub cut_at_too_long : (why : WriteFault) → WritesText (failed LineTooLong) conn (Err why) last
            → ServesRequests exchange before start ends.WriteFault after_it
        cut_at_too_long why said =
            let stopped : StopsWriting (failed LineTooLong) conn.output last.output = said.output.went in
            finishes after_it (Received took.TooLong ∷ Cut stopped.sent ∷ []) ends.WriteFault
            (done_then (received_as took.TooLong is) (done_cut now.desk now.ends why (said_so said)))
            (cut_too_long (record {
              before = [];
              sent = stopped.sent;
              unsent = stopped.unsent;
              whole = ap (λ (x : List ℕ). Sent x ∷ []) stopped.split;
              done_is = refl;
            }))
            (leaves_action last.reader) (record { read = λ e. absurd (cc e); write = λ e. omega (arith, received.output_faults, stopped.rose) })

-- nothing was done for a request but to say one text
pub text_answers : {w : World} {S : Type 0} (exchange : S → List (EventWith w.Port) → S → Went → Type 0) (before : S) {text : List ℕ} (start : ServedState w)
    (now : Connection) {went : Went} → exchange before (Sent text ∷ []) before On → start.conn.reader.ended ≡ None → SaysText text start.conn went now
    → AnswersRequest exchange before start went before (record start { conn = now })
text_answers {w} exchange before {text} start now on going (says written said) =
    text_written connection_views {w = w} went_after gone_after gone_as_it_went (exchange before) before On [] start start.conn start.desk start.ends (done_none start)
    (still_open connection_views None refl start.conn going) (no_fault connection_views None refl start.conn start.conn) text on written now (said_so said)
