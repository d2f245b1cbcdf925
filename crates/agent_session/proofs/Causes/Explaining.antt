-- Actions of a request on keys each of whose refusals has its cause among the events of the request.
use Rattle.std.{specs.{List.AllByRecursion, Prelude.{⊤, ◌<◌, ◌^◌}}, proofs.Common.{◌≡◌, ℕ, Bool, true, false, List, ◌∷◌, Option, Some, None, Result, Ok, Err, refl}}
use Rattle.agent_ask.specs.Session.{PortCalls.{PortCall, Keys, Read, Dice, NotDrawn, NoMemory}, SessionEvents.{Port, cache_turn}, ClientActions.{Writes, Inquires, AsksClient}}
use Rattle.agent_ask.{specs.{Session.{Actions.{◌>>=◌, Returns, returns, Refuses, refuses, needed, or_else, unless, wanted}, TurnActions.{Asks, Seats, Changes, Peeks, Closes}}, Interrupts.Interrupts}, proofs.Within.Joins}
use Rattle.{agent_ports.specs.declared.grip.Grip.Grip, session_client.specs.declared.{code.Code.Code, client_error.ClientError.ClientError, refusal.Refusal.{Refusal, TheVariants.{Agent, Pinentry, Client}}}}
use Rattle.{assuan_server.specs.{Clients.session_lines, declared.errors.Origin.{Origin, TheVariants.{Agent as OfAgent, Pinentry as OfPinentry}}, Written.limit_line}, cache_policy.specs.declared.mode.Mode.TheVariants.Normal}
use Rattle.{cache_policy.specs.{declared.{grant.Grant.Grant, mark.MarkStep.MarkStep}, Turns.{Turn, Refused, closes, Given, Empty, Open}}, session_options.specs.declared.rules.Rules.Rules, agent_commands.specs.Events.EventWith}
use Rattle.{agent_commands.specs.declared.request.Request.Request, key_commands.{specs.{Actions.{Action, Finds, Draws}, Lines.grip_text}, proofs.EachEvent.each_append}, agent_origin.specs.declared.session_state.SessionState.SessionState}
use Rattle.agent_session.{specs.{Causes.{Has, StandIn, IsCaused, IsSaid, said, IsSent, sent, IsUnread, IsDrawn, one, turned, by_stop, GivesNone, none_given}, Completeness.{AnswersNothing, IsStatus}}, proofs.Causes.Asides.limit_status}
use Rattle.agent_session.proofs.Standing.{has_first, has_second, stand_left, stand_right}
use Rattle.agent_ports.specs.declared.keys.KeyRead.TheVariants as key_read
use Rattle.session_client.specs.declared.code.Code.TheVariants as code
use Rattle.session_client.specs.declared.client_error.Gone.TheVariants as gone
use Rattle.session_client.specs.declared.client_error.ClientError.TheVariants as client_error
use Rattle.agent_ask.proofs.Within as within
use Rattle.agent_ask.specs.Interrupts as turns
use Rattle.agent_ask.specs.Session.TurnActions as taken
use Rattle.agent_ask.specs.Session.ClientActions as client_actions
use Rattle.key_commands.specs.Actions as actions

-- whatever value
abbrev pub Anything : {A : Type 0} → A → Type 0
Anything value = ⊤

-- the client said this, or the text that it was to be sent couldn't be written
pub data ClientSays (whole : List (EventWith PortCall)) : ClientError → Type 0 where
  cut : ClientSays whole (client_error.Gone gone.WriteFault)
  client_said : {why : ClientError} → IsSaid whole why → ClientSays whole why

-- what causes a code, of this origin
module _ (whole : List (EventWith PortCall)) (Causes : Code → Origin → Type 0) where
  abbrev pub CausedRefusal : Refusal → Type 0
  CausedRefusal (Agent why) = Causes why OfAgent
  CausedRefusal (Pinentry why) = Causes why OfPinentry
  CausedRefusal (Client why) = ClientSays whole why

  -- a value that is good, or a refusal that has its cause
  abbrev pub IsExplained : {A : Type 0} → (A → Type 0) → Result A Refusal → Type 0
  IsExplained Good (Ok value) = Good value
  IsExplained Good (Err why) = CausedRefusal why

  any_value : {A : Type 0} (Good : A → Type 0) (result : Result A Refusal) → IsExplained Good result → IsExplained Anything result
  any_value Good (Ok value) good = tt
  any_value Good (Err why) caused = caused

  pub record Comes {A : Type 0} (Good : A → Type 0) (events : List (EventWith PortCall)) (result : Result A Refusal) : Type 0 where
    pub silent : AllByRecursion AnswersNothing events
    pub explained : IsExplained Good result

  -- an action each of whose outcomes is so
  abbrev pub ExplainLaw : {A : Type 0} → (A → Type 0) → Action A
  ExplainLaw Good before events result after = StandIn events whole → Comes Good events result

  abbrev pub Explains : {A : Type 0} → Action A → (A → Type 0) → Type 0
  Explains {A} action Good = (before : Option ℕ) (events : List (EventWith PortCall)) (result : Result A Refusal) (after : Option ℕ) → action before events result after → ExplainLaw Good before events result after

module _ {whole : List (EventWith PortCall)} {Causes : Code → Origin → Type 0} where
  -- an action, and then what follows on its value
  explained_join : {A B : Type 0} {First : A → Type 0} {Good : B → Type 0} → Joins (ExplainLaw whole Causes First) (λ value before events result after. First value → ExplainLaw whole Causes Good before events result after)
      (ExplainLaw whole Causes Good)
  explained_join {First} {Good} = record {
    then = λ some later {value} {result} first more stands.
        let one : Comes whole Causes First some (Ok value) = first (stand_left some later stands) in
        let two : Comes whole Causes Good later result = more one.explained (stand_right some later stands) in
        record { silent = each_append AnswersNothing some later one.silent two.silent; explained = two.explained };
    alone = λ {before} {after} {events} {why} first stands. let one : Comes whole Causes First events (Err why) = first stands in record { silent = one.silent; explained = one.explained };
  }

  pub bind : {A B : Type 0} {action : Action A} {next : A → Action B} {First : A → Type 0} {Good : B → Type 0} → Explains whole Causes action First → ((value : A) → First value → Explains whole Causes (next value) Good)
      → Explains whole Causes (action >>= next) Good
  bind first then = (within.bind explained_join (record { of = first }) (λ value. record { of = λ before events result after does good. then value good before events result after does })).of

  -- an action whatever value it comes to
  pub whatever : {A : Type 0} {action : Action A} (Good : A → Type 0) → Explains whole Causes action Good → Explains whole Causes action Anything
  whatever Good explains before events result after does stands =
      let comes : Comes whole Causes Good events result = explains before events result after does stands in
      record { silent = comes.silent; explained = any_value whole Causes Good result comes.explained }

  module _ {A : Type 0} (Good : A → Type 0) where
    pub returned : (value : A) → Good value → Explains whole Causes (Returns value) Good
    returned value good _ _ _ _ returns stands = record { silent = tt; explained = good }

    pub refused : (why : Refusal) → CausedRefusal whole Causes why → Explains whole Causes (Refuses why) Good
    refused why caused _ _ _ _ refuses stands = record { silent = tt; explained = caused }

    pub is_needed : (why : Code) (value : Option A) → (value ≡ None → Causes why OfAgent) → ((some : A) → value ≡ Some some → Good some) → Explains whole Causes (needed why value) Good
    is_needed why None caused good = refused (Agent why) (caused refl)
    is_needed why (Some value) caused good = returned value (good value refl)

    pub or_otherwise : (value : Option A) (other : Action A) → ((some : A) → value ≡ Some some → Good some) → (value ≡ None → Explains whole Causes other Good) → Explains whole Causes (or_else value other) Good
    or_otherwise None other good explains = explains refl
    or_otherwise (Some value) other good explains = returned value (good value refl)

  pub is_unless : (so : Bool) (other : Action (Unit {0})) → (so ≡ false → Explains whole Causes other Anything) → Explains whole Causes (unless so other) Anything
  is_unless true other explains = returned Anything tt tt
  is_unless false other explains = explains refl

  pub is_wanted : (why : Code) (so : Bool) → (so ≡ false → Causes why OfAgent) → Explains whole Causes (wanted why so) (λ done. so ≡ true)
  is_wanted why true caused = returned (λ done. true ≡ true) tt refl
  is_wanted why false caused = refused (λ done. false ≡ true) (Agent why) (caused refl)

  module _ (keep : Option (List ℕ)) where
    pub closes_explained : Explains whole Causes (Closes keep) Anything
    closes_explained before events result after taken.unheld stands = record { silent = tt; explained = tt }
    closes_explained before events result after (taken.closed turn can) stands = record { silent = (tt, tt); explained = tt }

module _ (rules : Rules) (kept : SessionState) (request : Request) (whole : List (EventWith PortCall)) where
  abbrev pub Caused : Code → Type 0
  Caused why = IsCaused whole rules kept request why OfAgent

  -- ---- wants of memory

  pub out_of_memory_first : {more : List (EventWith PortCall)} → StandIn (Port NoMemory ∷ more) whole → Caused code.NoMemory
  out_of_memory_first stands = one (Port NoMemory) tt (has_first stands)

  pub out_of_memory_second : {first : EventWith PortCall} {more : List (EventWith PortCall)} → StandIn (first ∷ Port NoMemory ∷ more) whole → Caused code.NoMemory
  out_of_memory_second stands = one (Port NoMemory) tt (has_second stands)

  -- ---- turns

  pub interrupts : (step : MarkStep) → closes step ≡ None → {turn : Turn} {why : Code} {more : List (EventWith PortCall)} → Interrupts turn why → StandIn (cache_turn step turn ∷ more) whole
      → Caused why
  interrupts step keeps turns.refused stands = one (cache_turn step Refused) refl (has_first stands)
  interrupts step keeps turns.stopping stands = by_stop (turned step keeps (has_first stands))
  interrupts step keeps turns.late stands = turned step keeps (has_first stands)

  -- what the cache gave, or nothing
  pub data FoundBy (step : MarkStep) : Option (List ℕ) → Type 0 where
    found_none : GivesNone whole step → FoundBy step None
    found : {grant : Grant} → Has (cache_turn step (Given grant)) whole → FoundBy step (Some grant.entry.secret)

  module _ (step : MarkStep) (keeps : closes step ≡ None) where
    pub looks : Explains whole (IsCaused whole rules kept request) (Asks step) (FoundBy step)
    looks before events result after (taken.given can) stands = record { silent = (tt, tt); explained = found (has_first stands) }
    looks before events result after (taken.empty can) stands = record { silent = (tt, tt); explained = found_none (none_given Empty tt (has_first stands)) }
    looks before events result after (taken.opened {ticket} can) stands = record { silent = (tt, tt); explained = found_none (none_given (Open ticket) tt (has_first stands)) }
    looks before events result after (taken.interrupted can why) stands = record { silent = (tt, tt); explained = interrupts step keeps why stands }

    pub seats : Explains whole (IsCaused whole rules kept request) (Seats step) Anything
    seats before events result after (taken.opened can) stands = record { silent = (tt, tt); explained = tt }
    seats before events result after (taken.interrupted can why) stands = record { silent = (tt, tt); explained = interrupts step keeps why stands }

    pub changes : Explains whole (IsCaused whole rules kept request) (Changes step) Anything
    changes before events result after (taken.done can) stands = record { silent = (tt, tt); explained = tt }
    changes before events result after (taken.interrupted can why) stands = record { silent = (tt, tt); explained = interrupts step keeps why stands }

  module _ (grip : Grip) where
    pub peeks : Explains whole (IsCaused whole rules kept request) (Peeks (grip_text grip) Normal) Anything
    peeks before events result after taken.peeked stands = record { silent = (tt, tt); explained = tt }
    peeks before events result after (taken.interrupted can why) stands = record { silent = (tt, tt); explained = interrupts _ refl why stands }

  -- ---- the client

  module _ (text : List ℕ) (status : IsStatus text) where
    pub writes : Explains whole (IsCaused whole rules kept request) (Writes text) Anything
    writes before events result after client_actions.written stands = record { silent = (status, tt); explained = tt }
    writes before events result after (client_actions.cut unsent is) stands = record { silent = (tt, tt); explained = cut }

  module _ (word : List ℕ) (limit : ℕ) where
    pub inquires : Explains whole (IsCaused whole rules kept request) (Inquires session_lines word limit) (IsSent whole word limit)
    inquires before events result after (client_actions.given is) stands = record { silent = (tt, tt); explained = sent is (has_first stands) }
    inquires before events result after (client_actions.not_given is) stands = record { silent = (tt, tt); explained = client_said (said is (has_first stands)) }

    pub asks_client : limit < 2 ^ 64 → Explains whole (IsCaused whole rules kept request) (AsksClient session_lines (limit_line limit) word limit) (IsSent whole word limit)
    asks_client small = bind (writes (limit_line limit) (limit_status limit small)) (λ told good. inquires)

  -- ---- the keys and the dice

  -- whether a read found it
  abbrev pub IsFound : Grip → Bool → Type 0
  IsFound grip true = (file : _) × Has (Port (Keys (Read grip (key_read.Found file)))) whole
  IsFound grip false = IsUnread whole grip

  module _ (grip : Grip) where
    pub finds : Explains whole (IsCaused whole rules kept request) (Finds grip) (IsFound grip)
    finds before events result after (actions.found {file}) stands = record { silent = (tt, tt); explained = (file, has_first stands) }
    finds before events result after actions.absent stands = record { silent = (tt, tt); explained = has_first stands }
    finds before events result after actions.faulted stands = record { silent = (tt, tt); explained = one _ tt (has_first stands) }
    finds before events result after actions.no_memory stands = record { silent = (tt, tt); explained = one _ tt (has_first stands) }

  module _ (count : ℕ) where
    pub draws : Explains whole (IsCaused whole rules kept request) (Draws count) (IsDrawn whole count)
    draws before events result after (actions.drawn long) stands = record { silent = (tt, tt); explained = record { long = long; has = has_first stands } }
    draws before events result after actions.faulted stands = record { silent = (tt, tt); explained = one (Port (Dice (NotDrawn count))) tt (has_first stands) }
