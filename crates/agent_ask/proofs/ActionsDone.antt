-- Actions of a request that were done, one after another, and those that stand beside a desk and ports that they have nothing to do with.
use Rattle.std.proofs.Common.{◌≡◌, ◌≤◌, ℕ, true, List, [], ◌∷◌, ◌++◌, Option, Some, None, Result, Ok, Err, is_some, refl, arith}
use Rattle.cache_policy.specs.{declared.{mark.{MarkStep.{MarkStep, TheVariants.{Ask, Close}}, Way.{Way, TheVariants.{Quiet, Prompt}}}, mode.Mode.Mode}, Turns.{Turn, Given, Empty, Open, Done, FitsStep, opens}}
use Rattle.{session_client.specs.{Lines.{Lines, Views, IsOpen}, declared.{refusal.Refusal.Refusal, client_error.Gone.Gone}}, session_options.specs.declared.options.PinMode.PinMode}
use Rattle.agent_ask.specs.Session.{Answering.{ReaderLeft, FaultsCounted}, PortCalls.{PortCall, EventOf, world_with}, Actions.{ActionOf, ◌>>=◌, goes_on, stops, refuses}}
use Rattle.agent_ask.specs.Session.ActionStates.{ActionState, action_state, gone_in, DoesAction, NoTurn, NoEnd, DoesWithClient, DoesTurn, DoesTurns, still, one}
use Rattle.agent_ask.specs.Seats.{Gives, TakesTicket, GivesTicket, Changed, ChangesCache, Answered, AsksCache, opened as ticket_opened, interrupted as ticket_refused, taken, refused, unheld, given, changed, unchanged, found, none_found}
use Rattle.agent_ask.{specs.{Seats.{prompt_opened, not_answered, SeatsIn}, Session.{SessionEvents.{AnyEvent, cache_turn}, TurnActions.{Asks, Seats, Changes, Closes, closed, in_mode}}}, proofs.{Beside.done_in, Doing.{done_none, done_then, done_turned}}}
use Rattle.agent_ask.specs.Session.TurnActions as turns

module _ {lines : Lines} {C : Type 0} (views : Views lines C) where
  -- a reader that holds no more than another did
  pub reader_from : (how : Option Gone) (start mid now : C) → views.held mid ≤ views.held start → ReaderLeft views how mid now → ReaderLeft views how start now
  reader_from None start mid now fewer fits = (fits.0, omega (arith, fewer, fits.1))
  reader_from (Some how) start mid now fewer fits = fits

  -- an action that leaves the connection alone, and after which the session goes on
  pub still_open : (how : Option Gone) → how ≡ None → (conn : C) → IsOpen views conn → ReaderLeft views how conn conn
  still_open how on conn going = rw on (going, omega arith)

  pub no_fault : (how : Option Gone) → how ≡ None → (start now : C) → FaultsCounted views how start now
  no_fault how on start now = rw on (record { read = λ e. absurd (cc e); write = λ e. absurd (cc e) })

module _ {lines : Lines} {C D E : Type 0} {views : Views lines C} {turned : D → MarkStep → Turn → D → Type 0} {ported : E → PortCall → E → Type 0} where
  module _ {A B : Type 0} {action : ActionOf (EventOf lines) A} {next : A → ActionOf (EventOf lines) B} {before after : Option ℕ} {start now : ActionState views turned ported} where
    -- an action came to a value, and then the next was done
    pub action_then : {mid : Option ℕ} {between : ActionState views turned ported} {value : A} {result : Result B Refusal} → DoesAction views turned ported action before start (Ok value) mid between
        → DoesAction views turned ported (next value) mid between result after now → DoesAction views turned ported (action >>= next) before start result after now
    action_then {between} {result} first second = record {
      events = first.events ++ second.events;
      does = goes_on first.does second.does;
      done = done_then first.done second.done;
      fits = reader_from views (gone_in result) start.conn between.conn now.conn first.fits.1 second.fits;
      faults = record {
        read = λ e. omega (arith, first.done.input_faults, second.faults.read e);
        write = λ e. omega (arith, first.done.output_faults, second.faults.write e);
      };
    }

    -- an action was refused, and nothing is done behind it
    pub action_stops : {why : Refusal} → DoesAction views turned ported action before start (Err why) after now → DoesAction views turned ported (action >>= next) before start (Err why) after now
    action_stops first = record { events = first.events; does = stops first.does; done = first.done; fits = first.fits; faults = first.faults }

  -- actions at the desk alone, while the connection is open
  module _ {A : Type 0} {action : ActionOf (EventOf lines) A} {before after : Option ℕ} {result : Result A Refusal} {conn : C} {ends : E} (going : IsOpen views conn) where
    -- one turn
    pub action_turned : {desk now : D} → DoesTurn turned action before desk result after now
        → DoesAction views turned ported action before (action_state views turned ported conn desk ends) result after (action_state views turned ported conn now ends)
    action_turned {desk} {now} done = record {
      events = cache_turn done.step done.turn ∷ [];
      does = done.does;
      done = done_turned {w = world_with {lines = lines} turned ported} done.step done.turn conn desk now ends done.turned_so;
      fits = still_open views (gone_in result) done.on conn going;
      faults = no_fault views (gone_in result) done.on conn conn;
    }

    -- nothing
    pub action_still : {desk : D} → gone_in result ≡ None → action before [] result after
        → DoesAction views turned ported action before (action_state views turned ported conn desk ends) result after (action_state views turned ported conn desk ends)
    action_still {desk} on does = record {
      events = [];
      does = does;
      done = done_none (action_state views turned ported conn desk ends);
      fits = still_open views (gone_in result) on conn going;
      faults = no_fault views (gone_in result) on conn conn;
    }

    -- one turn at most
    pub action_turns : {desk now : D} → DoesTurns turned action before desk result after now
        → DoesAction views turned ported action before (action_state views turned ported conn desk ends) result after (action_state views turned ported conn now ends)
    action_turns (still does on) = action_still on does
    action_turns (one done) = action_turned done

module _ {lines : Lines} {C : Type 0} (views : Views lines C) where
  -- Each turn of a desk is one of another desk that holds it, and each event at some ports is one at others that hold them.
  module _ {B D E Whole : Type 0} (action_turned : B → MarkStep → Turn → B → Type 0) (action_port : E → PortCall → E → Type 0)
      (turned : D → MarkStep → Turn → D → Type 0) (ported : Whole → PortCall → Whole → Type 0) (desk_of : B → D) (put : E → Whole)
      (each_turn : (before after : B) (step : MarkStep) (turn : Turn) → action_turned before step turn after → turned (desk_of before) step turn (desk_of after))
      (each : (before after : E) (what : PortCall) → action_port before what after → ported (put before) what (put after)) where
    abbrev pub state_of : ActionState views action_turned action_port → ActionState views turned ported
    state_of at = record { conn = at.conn; desk = desk_of at.desk; ends = put at.ends }

    pub action_in : {A : Type 0} {action : ActionOf (EventOf lines) A} {before after : Option ℕ} {result : Result A Refusal} {start now : ActionState views action_turned action_port}
        → DoesAction views action_turned action_port action before start result after now → DoesAction views turned ported action before (state_of start) result after (state_of now)
    action_in done = record {
      events = done.events;
      does = done.does;
      done = done_in action_turned turned action_port ported desk_of put each_turn each done.done;
      fits = done.fits;
      faults = done.faults;
    }

module _ {lines : Lines} {C : Type 0} {views : Views lines C} {A : Type 0} {action : ActionOf (EventOf lines) A} where
  -- an action at the client alone, with a desk and ports beside
  pub beside_client : {D E : Type 0} {turned : D → MarkStep → Turn → D → Type 0} {ported : E → PortCall → E → Type 0} {result : Result A Refusal} {conn now : C} {held : Option ℕ} {desk : D} {ends : E}
      → DoesWithClient views action conn result now
      → DoesAction views turned ported action held (action_state views turned ported conn desk ends) result held (action_state views turned ported now desk ends)
  beside_client {turned} {ported} {held} {desk} {ends} done =
      action_in views NoTurn NoEnd turned ported (λ none. desk) (λ none. ends) (λ before after step turn never. absurd never) (λ before after what never. absurd never) (done held)

  -- a connection is open after an action that came to a value
  pub open_after : {value : A} {conn now : C} → DoesWithClient views action conn (Ok value) now → IsOpen views now
  open_after done = (done None).fits.0

-- ---- turns, and nothing behind them

module _ {T O F D A B : Type 0} {turned : D → MarkStep → Turn → D → Type 0} {action : ActionOf (AnyEvent T O F) A} {next : A → ActionOf (AnyEvent T O F) B} {before after : Option ℕ} {desk : D} where
  pub turn_then : {now : D} {value : A} {result : Result B Refusal} {mid : Option ℕ} → DoesTurn turned action before desk (Ok value) mid now → next value mid [] result after → gone_in result ≡ None
      → DoesTurn turned (action >>= next) before desk result after now
  turn_then turn more on = record { step = turn.step; turn = turn.turn; turned_so = turn.turned_so; does = goes_on turn.does more; on = on }

  pub turn_stops : {now : D} {why : Refusal} → DoesTurn turned action before desk (Err why) after now → DoesTurn turned (action >>= next) before desk (Err why) after now
  turn_stops turn = record { step = turn.step; turn = turn.turn; turned_so = turn.turned_so; does = stops turn.does; on = turn.on }

  pub turns_then : {now : D} {value : A} {result : Result B Refusal} {mid : Option ℕ} → DoesTurns turned action before desk (Ok value) mid now → next value mid [] result after → gone_in result ≡ None
      → DoesTurns turned (action >>= next) before desk result after now
  turns_then (still does is) more on = still (goes_on does more) on
  turns_then (one turn) more on = one (turn_then turn more on)

  pub turns_stop : {now : D} {why : Refusal} → DoesTurns turned action before desk (Err why) after now → DoesTurns turned (action >>= next) before desk (Err why) after now
  turns_stop (still does on) = still (stops does) on
  turns_stop (one turn) = one (turn_stops turn)

-- ---- tickets

module _ {T O F D : Type 0} {turned : D → MarkStep → Turn → D → Type 0} {desk now : D} where
  opened_by : {step : MarkStep} {turn : Turn} {number : ℕ} → turned desk step turn now → FitsStep step turn → Gives turn (Ok number)
      → DoesTurn turned (Seats {T = T} {O = O} {F = F} step) None desk (Ok tt) (Some number) now
  opened_by {step} {number} turned_so fits ticket_opened = record { step = step; turn = Open number; turned_so = turned_so; does = turns.Seats.opened fits; on = refl }

  refused_by : {step : MarkStep} {turn : Turn} {why : Refusal} → turned desk step turn now → FitsStep step turn → Gives turn (Err why)
      → DoesTurn turned (Seats {T = T} {O = O} {F = F} step) None desk (Err why) None now
  refused_by {step} {turn} turned_so fits (ticket_refused by) = record { step = step; turn = turn; turned_so = turned_so; does = turns.Seats.interrupted fits by; on = refl }

  -- a request took the seat, or is refused
  pub ticket_taken : {step : MarkStep} {result : Result (Unit {0}) Refusal} {after : Option ℕ} → TakesTicket turned step desk result after now
      → DoesTurn turned (Seats {T = T} {O = O} {F = F} step) None desk result after now
  ticket_taken (taken wants) = opened_by wants.turned_so wants.fits wants.gives
  ticket_taken (refused wants) = refused_by wants.turned_so wants.fits wants.gives

  changed_by : {held : Option ℕ} {step : MarkStep} {turn : Turn} {result : Result (Unit {0}) Refusal} → turned desk step turn now → FitsStep step turn → Changed turn result
      → DoesTurn turned (Changes {T = T} {O = O} {F = F} step) held desk result held now
  changed_by {step} turned_so fits changed = record { step = step; turn = Done; turned_so = turned_so; does = turns.Changes.done fits; on = refl }
  changed_by {step} {turn} turned_so fits (unchanged by) = record { step = step; turn = turn; turned_so = turned_so; does = turns.Changes.interrupted fits by; on = refl }

  -- a request changed the cache, or is refused
  pub cache_changed : {held : Option ℕ} {step : MarkStep} {result : Result (Unit {0}) Refusal} → ChangesCache turned step desk result now → DoesTurn turned (Changes {T = T} {O = O} {F = F} step) held desk result held now
  cache_changed changes = changed_by changes.turned_so changes.fits changes.gives

  asked_by : {step : MarkStep} {turn : Turn} {before after : Option ℕ} {result : Result (Option (List ℕ)) Refusal} → turned desk step turn now → FitsStep step turn → Answered before turn result after
      → DoesTurn turned (Asks {T = T} {O = O} {F = F} step) before desk result after now
  asked_by {step} turned_so fits (found {grant}) = record { step = step; turn = Given grant; turned_so = turned_so; does = turns.Asks.given fits; on = refl }
  asked_by {step} turned_so fits none_found = record { step = step; turn = Empty; turned_so = turned_so; does = turns.Asks.empty fits; on = refl }
  asked_by {step} turned_so fits (prompt_opened {ticket}) = record { step = step; turn = Open ticket; turned_so = turned_so; does = turns.Asks.opened fits; on = refl }
  asked_by {step} {turn} turned_so fits (not_answered by) = record { step = step; turn = turn; turned_so = turned_so; does = turns.Asks.interrupted fits by; on = refl }

  -- a request asked the cache, or is refused
  pub cache_asked : {step : MarkStep} {before after : Option ℕ} {result : Result (Option (List ℕ)) Refusal} → AsksCache turned step before desk result after now
      → DoesTurn turned (Asks {T = T} {O = O} {F = F} step) before desk result after now
  cache_asked asks = asked_by asks.turned_so asks.fits asks.gives

-- only a question that may open a prompt is answered by a ticket
pub wants_prompt : (id : List ℕ) (mode : Mode) (way : Way) (number : ℕ) → FitsStep (Ask id mode way None) (Open number) → opens (Ask id mode way None) ≡ true
wants_prompt id mode Quiet number fits = absurd fits
wants_prompt id mode Prompt number fits = refl

-- and where such a one finds nothing, the request holds a ticket
opened_by_asking : (id : List ℕ) (mode : Mode) {turn : Turn} {before after : Option ℕ} → FitsStep (Ask id mode Prompt None) turn → Answered before turn (Ok None) after → is_some after ≡ true
opened_by_asking id mode fits none_found = absurd fits
opened_by_asking id mode fits prompt_opened = refl

pub seated_by_asking : {D : Type 0} {turned : D → MarkStep → Turn → D → Type 0} {id : List ℕ} {mode : Mode} {desk now : D} {before after : Option ℕ}
    → AsksCache turned (Ask id mode Prompt None) before desk (Ok None) after now → is_some after ≡ true
seated_by_asking {id} {mode} asks = opened_by_asking id mode asks.fits asks.gives

-- a request gave its ticket back
pub ticket_given : {T O F D : Type 0} {turned : D → MarkStep → Turn → D → Type 0} {desk now : D} {keep : Option (List ℕ)} {before : Option ℕ} → GivesTicket turned keep before desk now
    → DoesTurns turned (Closes {T = T} {O = O} {F = F} keep) before desk (Ok tt) None now
ticket_given unheld = still turns.Closes.unheld refl
ticket_given (given {ticket} turn turned_so fits) = one (record { step = Close ticket _; turn = turn; turned_so = turned_so; does = closed turn fits; on = refl })

-- a request took the seat by the pinentry-mode, or is refused
module _ {lines : Lines} {C D E A : Type 0} {views : Views lines C} {turned : D → MarkStep → Turn → D → Type 0} {ported : E → PortCall → E → Type 0} (prompt : ActionOf (EventOf lines) A)
    {conn : C} (going : IsOpen views conn) {ends : E} {desk : D} where
  pub unseated_in : {mode : PinMode} {why : Refusal} {held : Option ℕ} {now : D} → SeatsIn turned desk mode (Err why) held now
      → DoesAction views turned ported (in_mode mode prompt) None (action_state views turned ported conn desk ends) (Err why) held (action_state views turned ported conn now ends)
  unseated_in (SeatsIn.asks takes) = action_stops (action_turned going (ticket_taken takes))
  unseated_in SeatsIn.cancels = action_still going refl refuses
  unseated_in SeatsIn.errs = action_still going refl refuses
  unseated_in SeatsIn.loops = action_still going refl refuses

  pub seated_in : {mode : PinMode} {result : Result A Refusal} {held after : Option ℕ} {now : D} {last : ActionState views turned ported} → SeatsIn turned desk mode (Ok tt) held now
      → DoesAction views turned ported prompt held (action_state views turned ported conn now ends) result after last
      → DoesAction views turned ported (in_mode mode prompt) None (action_state views turned ported conn desk ends) result after last
  seated_in (SeatsIn.asks takes) rest = action_then (action_turned going (ticket_taken takes)) rest
