-- Actions of a request that are turns at the desk, each of which comes out as its step can. This is the project's own.
use Rattle.std.specs.Prelude.{ℕ, List, [], ◌∷◌, Option, Some, None, Result, Ok, Err, Bool}
use Rattle.{cache_policy.specs.{declared.{grant.Grant.Grant, mark.MarkStep.{MarkStep, TheVariants.{Close, Peek, Seat}}, mode.Mode.Mode}, Turns.{Turn, Given, Empty, Open, Done, Held, FitsStep}}, session_client.specs.declared.code.Code.Code}
use Rattle.session_client.specs.declared.refusal.Refusal.{Refusal, TheVariants.Agent}
use Rattle.{agent_ask.specs.{Interrupts.Interrupts, Session.{Actions.{ActionOf, ◌>>=◌, Refuses}, SessionEvents.{AnyEvent, cache_turn}}}, session_options.specs.declared.options.PinMode.PinMode}
use Rattle.session_client.specs.declared.code.Code.TheVariants as code
use Rattle.session_options.specs.declared.options.PinMode.TheVariants as mode

module _ {T O F : Type 0} where
  -- a turn that asks the cache: its entry's passphrase, or none; and the ticket of a prompt, where it opens one
  pub data Asks (step : MarkStep) : Option ℕ → List (AnyEvent T O F) → Result (Option (List ℕ)) Refusal → Option ℕ → Type 0 where
    given : {held : Option ℕ} {grant : Grant} → FitsStep step (Given grant) → Asks step held (cache_turn step (Given grant) ∷ []) (Ok (Some grant.entry.secret)) held
    empty : {held : Option ℕ} → FitsStep step Empty → Asks step held (cache_turn step Empty ∷ []) (Ok None) held
    opened : {ticket : ℕ} → FitsStep step (Open ticket) → Asks step None (cache_turn step (Open ticket) ∷ []) (Ok None) (Some ticket)
    interrupted : {held : Option ℕ} {turn : Turn} {code : Code} → FitsStep step turn → Interrupts turn code → Asks step held (cache_turn step turn ∷ []) (Err (Agent code)) held

  -- a turn that wants the seat
  pub data Seats (step : MarkStep) : Option ℕ → List (AnyEvent T O F) → Result (Unit {0}) Refusal → Option ℕ → Type 0 where
    opened : {ticket : ℕ} → FitsStep step (Open ticket) → Seats step None (cache_turn step (Open ticket) ∷ []) (Ok tt) (Some ticket)
    interrupted : {held : Option ℕ} {turn : Turn} {code : Code} → FitsStep step turn → Interrupts turn code → Seats step held (cache_turn step turn ∷ []) (Err (Agent code)) held

  -- a turn that changes the cache
  pub data Changes (step : MarkStep) (held : Option ℕ) : List (AnyEvent T O F) → Result (Unit {0}) Refusal → Option ℕ → Type 0 where
    done : FitsStep step Done → Changes step held (cache_turn step Done ∷ []) (Ok tt) held
    interrupted : {turn : Turn} {code : Code} → FitsStep step turn → Interrupts turn code → Changes step held (cache_turn step turn ∷ []) (Err (Agent code)) held

  -- a turn that looks whether a passphrase is cached, without using it
  pub data Peeks (id : List ℕ) (mode : Mode) (held : Option ℕ) : List (AnyEvent T O F) → Result Bool Refusal → Option ℕ → Type 0 where
    peeked : {cached : Bool} → Peeks id mode held (cache_turn (Peek id mode) (Held cached) ∷ []) (Ok cached) held
    interrupted : {turn : Turn} {code : Code} → FitsStep (Peek id mode) turn → Interrupts turn code → Peeks id mode held (cache_turn (Peek id mode) turn ∷ []) (Err (Agent code)) held

  -- A ticket that is held is given back, and this is kept. What the turn that gives it back comes to decides nothing.
  pub data Closes (keep : Option (List ℕ)) : Option ℕ → List (AnyEvent T O F) → Result (Unit {0}) Refusal → Option ℕ → Type 0 where
    unheld : Closes keep None [] (Ok tt) None
    closed : {ticket : ℕ} (turn : Turn) → FitsStep (Close ticket keep) turn → Closes keep (Some ticket) (cache_turn (Close ticket keep) turn ∷ []) (Ok tt) None

  -- a prompt by the pinentry-mode: the seat is taken first, or the request is refused
  abbrev pub in_mode : {A : Type 0} → PinMode → ActionOf (AnyEvent T O F) A → ActionOf (AnyEvent T O F) A
  in_mode mode.Ask prompt = do
    seated ← Seats (Seat None None)
    prompt
  in_mode mode.Cancel prompt = Refuses (Agent code.Cancelled)
  in_mode mode.Error prompt = Refuses (Agent code.NoPinentry)
  in_mode mode.Loopback prompt = Refuses (Agent code.NoPinentry)
