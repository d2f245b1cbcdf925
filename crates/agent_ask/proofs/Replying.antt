-- Requests that were carried out: the ticket is given back, and then the reply is written, or the refusal.
use Rattle.std.proofs.Common.{◌≡◌, ℕ, List, [], ◌∷◌, ◌++◌, Option, Some, None, Result, Ok, Err, refl, ap, sym, ◌∙◌, subst, arith, append_assoc}
use Rattle.{agent_ports.specs.{Sides.Side, Writing.StopsWriting, declared.link.WriteFault.WriteFault as Fault}, cache_policy.specs.{declared.mark.MarkStep.MarkStep, Turns.Turn}, session_client.specs.Asking.{HasSaid, SaysLine}}
use Rattle.session_client.specs.{Lines.{Lines, Views}, Refusals.gone_by, declared.{refusal.Refusal.Refusal, client_error.Gone.{Gone, TheVariants.{ReadFault, WriteFault}}}}
use Rattle.agent_ask.specs.Session.{Answering.{unless_cut, whole, cut, ReaderLeft, FaultsCounted, AnswersBy}, PortCalls.{PortCall, EventOf, world_with}, ActionExchanges.{AnyReply, AnyExchange, answered, refused as is_refused}}
use Rattle.agent_ask.specs.{Session.{ActionReplies.{RespondsBy, replied, refused, reply_by, CarriesBy, comes_to, stops_at}, Actions.ActionOf, ActionStates.{ActionState, action_state, DoesAction, DoesTurns, still, one}}, Seats.GivesTicket}
use Rattle.agent_ask.{specs.Session.{SessionEvents.{AnyEvent, Sent, Cut, cache_turn, said_last}, States.{AnyState, AnyLead}, TurnActions.Closes, Worlds.AnyWorld}, proofs.Doing.{done_none, done_then, done_turned, done_said, done_cut}}
use Rattle.agent_ask.proofs.ActionsDone.{no_fault, state_of, action_in, ticket_given}

module _ {lines : Lines} {C : Type 0} (views : Views lines C) where
  -- a reader that ended as another did, and holds as much
  reader_kept : (how : Option Gone) (start mid now : C) → views.ended now ≡ views.ended mid → views.held now ≡ views.held mid → ReaderLeft views how start mid → ReaderLeft views how start now
  reader_kept None start mid now ended held fits = (ended ∙ fits.0, omega (arith, held, fits.1))
  reader_kept (Some how) start mid now ended held fits = rw ended fits

  -- all was done for a request but to write a line, where there is one
  module _ {w : AnyWorld lines} {S W : Type 0} (went_after : Option Gone → W) (gone_of : W → Option Gone) (ends_so : (how : Option Gone) → gone_of (went_after how) ≡ how)
      (exchange : List (AnyEvent lines.Took lines.Outcome w.Port) → S → W → Type 0) (kept : S) (went : W) (first : List (AnyEvent lines.Took lines.Outcome w.Port)) (start : AnyState w C) (mid : C)
      (desk : w.Desk) (ends : w.Ends) (done : AnyLead {w = w} views first start (record { conn = mid; desk = desk; ends = ends })) (fits : ReaderLeft views (gone_of went) start.conn mid)
      (faults : FaultsCounted views (gone_of went) start.conn mid) where
    pub text_written : (text : List ℕ) → exchange (first ++ Sent text ∷ []) kept went → (written : Result (Unit {0}) Fault) (now : C) → HasSaid views text mid written now
        → AnswersBy {w = w} views went_after gone_of exchange start (unless_cut went (went_after (Some WriteFault)) written) kept (record { conn = now; desk = desk; ends = ends })
    text_written text is (Ok tt) now said = record {
      events = first ++ Sent text ∷ [];
      exchanges = whole is;
      done = done_then done (done_said {w = w} desk ends said);
      fits = reader_kept (gone_of went) start.conn mid now said.leaves.ended said.leaves.held fits;
      faults = record {
        read = λ e. omega (arith, faults.read e, ap (λ (s : Side). s.faults) said.leaves.input);
        write = λ e. omega (arith, faults.write e, said.output.faults);
      };
    }
    text_written text is (Err fault) now said =
        let stops : StopsWriting text (views.output mid) (views.output now) = said.output.went in
        record {
          events = first ++ Cut stops.sent ∷ [];
          exchanges = cut is (record { before = first; sent = stops.sent; unsent = stops.unsent; whole = ap (λ (t : List ℕ). first ++ Sent t ∷ []) stops.split; done_is = refl });
          done = done_then done (done_cut {w = w} desk ends fault said);
          fits = rw (ends_so (Some WriteFault)) tt;
          faults = record {
            read = λ e. let never : Some WriteFault ≡ Some ReadFault = sym (ends_so (Some WriteFault)) ∙ e in absurd (cc never);
            write = λ e. omega (arith, done.output_faults, stops.rose);
          };
        }

    line_written : (line : Option (List ℕ)) → exchange (first ++ said_last line) kept went → (written : Result (Unit {0}) Fault) (now : C) → SaysLine views line mid written now
        → AnswersBy {w = w} views went_after gone_of exchange start (unless_cut went (went_after (Some WriteFault)) written) kept (record { conn = now; desk = desk; ends = ends })
    line_written None is written now says =
        rw (says.0, says.1) (record { events = first ++ []; exchanges = whole is; done = done_then done (done_none (record { conn = mid; desk = desk; ends = ends })); fits = fits; faults = faults })
    line_written (Some text) is written now says = text_written text is written now says

module _ {lines : Lines} {C D E : Type 0} (views : Views lines C) (turned : D → MarkStep → Turn → D → Type 0) (ported : E → PortCall → E → Type 0) where
  abbrev at_conn : C → D → E → ActionState views turned ported
  at_conn = action_state views turned ported

  -- the ticket was given back, where one was held
  record GivesBack (held : Option ℕ) (conn : C) (desk desk_now : D) (ends : E) : Type 0 where
    pub back : List (EventOf lines)
    pub closes : Closes None held back (Ok tt) None
    pub done : AnyLead {w = world_with {lines = lines} turned ported} views back (at_conn conn desk ends) (at_conn conn desk_now ends)

  gives_back : (held : Option ℕ) (conn : C) (desk desk_now : D) (ends : E) → DoesTurns turned (Closes {T = lines.Took} {O = lines.Outcome} {F = PortCall} None) held desk (Ok tt) None desk_now
      → GivesBack held conn desk desk_now ends
  gives_back held conn desk desk_now ends (still closes on) = record { back = []; closes = closes; done = done_none (at_conn conn desk ends) }
  gives_back held conn desk desk_now ends (one close) = record {
    back = cache_turn close.step close.turn ∷ [];
    closes = close.does;
    done = done_turned {w = world_with {lines = lines} turned ported} close.step close.turn conn desk desk_now ends close.turned_so;
  }

  module _ {S W : Type 0} (went_after : Option Gone → W) (gone_of : W → Option Gone) (ends_so : (how : Option Gone) → gone_of (went_after how) ≡ how) where
    module _ (refusal_line : Refusal → Option (List ℕ)) (action : ActionOf (EventOf lines) (AnyReply S W)) (before : S) (start : ActionState views turned ported) (held : Option ℕ) (mid now : C) (desk desk_now : D)
        (ends : E) where
      abbrev exchange : List (EventOf lines) → S → W → Type 0
      exchange = AnyExchange refusal_line went_after action before

      abbrev Answers : W → S → Type 0
      Answers went kept = AnswersBy {w = world_with {lines = lines} turned ported} views went_after gone_of exchange start went kept (at_conn now desk_now ends)

      with_refusal : GivesBack held mid desk desk_now ends → (why : Refusal) → DoesAction views turned ported action None start (Err why) held (at_conn mid desk ends) → (written : Result (Unit {0}) Fault)
          → SaysLine views (refusal_line why) mid written now → Answers (unless_cut (went_after (gone_by why)) (went_after (Some WriteFault)) written) before
      with_refusal gives why does written said =
          line_written views {w = world_with {lines = lines} turned ported} went_after gone_of ends_so exchange before (went_after (gone_by why)) (does.events ++ gives.back) start mid desk_now ends (done_then does.done gives.done)
          (rw (ends_so (gone_by why)) does.fits) (rw (ends_so (gone_by why)) does.faults)
          (refusal_line why)
          (subst (λ (e : List (EventOf lines)). exchange e before (went_after (gone_by why))) (sym (append_assoc does.events gives.back (said_last (refusal_line why))))
          (is_refused does.events held why does.does gives.closes)) written now said

      module _ {R : Type 0} (IsText : R → List ℕ → Type 0) (went_of : R → W) (goes : (answer : R) → gone_of (went_of answer) ≡ None) where
        with_reply : GivesBack held mid desk desk_now ends → (answer : R) (kept : S) (text : List ℕ) → DoesAction views turned ported action None start (Ok (reply_by went_of answer kept text)) held (at_conn mid desk ends)
            → (written : Result (Unit {0}) Fault) → HasSaid views text mid written now → Answers (unless_cut (went_of answer) (went_after (Some WriteFault)) written) kept
        with_reply gives answer kept text does written said =
            text_written views {w = world_with {lines = lines} turned ported} went_after gone_of ends_so exchange kept (went_of answer) (does.events ++ gives.back) start mid desk_now ends (done_then does.done gives.done)
            (rw (goes answer) does.fits) (no_fault views (gone_of (went_of answer)) (goes answer) start.conn mid)
            text (subst (λ (e : List (EventOf lines)). exchange e kept (went_of answer)) (sym (append_assoc does.events gives.back (Sent text ∷ [])))
            (answered does.events held (reply_by went_of answer kept text) does.does gives.closes)) written now said

        answers_by : (answer : Result R Refusal) (kept : S) (went : W) → CarriesBy views IsText went_of turned ported action before start answer kept held (at_conn mid desk ends)
            → GivesBack held mid desk desk_now ends → RespondsBy views IsText went_of refusal_line went_after mid answer went now → Answers went kept
        answers_by answer kept went (comes_to {answer = reply} each) gives (replied {text} written is said) = with_reply gives reply kept text (each text is) written said
        answers_by answer kept went (stops_at does) gives (refused {why} written said) = with_refusal gives why does written said

        -- a request was carried out, its ticket given back, and its reply written
        pub answers : {answer : Result R Refusal} {kept : S} {went : W} → CarriesBy views IsText went_of turned ported action before start answer kept held (at_conn mid desk ends)
            → GivesTicket turned None held desk desk_now → RespondsBy views IsText went_of refusal_line went_after mid answer went now → Answers went kept
        answers {answer} {kept} {went} carries gives responds = answers_by answer kept went carries (gives_back held mid desk desk_now ends (ticket_given gives)) responds

-- all of a request but its reply, with another desk and ports that hold its own
module _ {lines : Lines} {C B D E Whole : Type 0} {views : Views lines C} (action_turned : B → MarkStep → Turn → B → Type 0) (action_port : E → PortCall → E → Type 0)
    (turned : D → MarkStep → Turn → D → Type 0) (ported : Whole → PortCall → Whole → Type 0) (desk_of : B → D) (put : E → Whole)
    (each_turn : (before after : B) (step : MarkStep) (turn : Turn) → action_turned before step turn after → turned (desk_of before) step turn (desk_of after))
    (each : (before after : E) (what : PortCall) → action_port before what after → ported (put before) what (put after)) where
  pub carries_in : {R S W : Type 0} {IsText : R → List ℕ → Type 0} {went_of : R → W} {action : ActionOf (EventOf lines) (AnyReply S W)} {before kept : S} {held : Option ℕ} {answer : Result R Refusal}
      {start now : ActionState views action_turned action_port} → CarriesBy views IsText went_of action_turned action_port action before start answer kept held now
      → CarriesBy views IsText went_of turned ported action before (state_of views action_turned action_port turned ported desk_of put each_turn each start) answer kept held
      (state_of views action_turned action_port turned ported desk_of put each_turn each now)
  carries_in (comes_to each_text) = comes_to (λ text is. action_in views action_turned action_port turned ported desk_of put each_turn each (each_text text is))
  carries_in (stops_at does) = stops_at (action_in views action_turned action_port turned ported desk_of put each_turn each does)
