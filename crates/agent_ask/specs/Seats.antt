-- How a request comes by the ticket of a prompt, and how it asks the cache and changes it. This is the project's own.
use Rattle.std.specs.Prelude.{◌≡◌, ℕ, List, Option, Some, None, Result, Ok, Err}
use Rattle.cache_policy.specs.{Desks.AtDesk, declared.{mark.MarkStep.{MarkStep, TheVariants.{Close, Put, Clear, Flush, Seat, Stop}}, grant.Grant.Grant}, Turns.{Turn, Given, Empty, Open, Done, FitsStep}}
use Rattle.session_client.specs.declared.{code.Code.Code, refusal.Refusal.{Refusal, TheVariants.Agent}}
use Rattle.{agent_ask.specs.{Interrupts.Interrupts, Prompters.{AtPrompter, IsShut}}, session_options.specs.declared.options.PinMode.PinMode}
use Rattle.session_client.specs.declared.code.Code.TheVariants as code
use Rattle.session_options.specs.declared.options.PinMode.TheVariants as mode

-- what a turn that wants the seat gives: a ticket, or why the request is refused
pub data Gives : Turn → Result ℕ Refusal → Type 0 where
  opened : {number : ℕ} → Gives (Open number) (Ok number)
  interrupted : {turn : Turn} {code : Code} → Interrupts turn code → Gives turn (Err (Agent code))

-- the seat was wanted by one turn at a desk
pub record WantsSeat {D : Type 0} (turned : D → MarkStep → Turn → D → Type 0) (step : MarkStep) (desk : D) (result : Result ℕ Refusal) (now : D) : Type 0 where
  pub turn : Turn
  pub turned_so : turned desk step turn now
  pub fits : FitsStep step turn
  pub gives : Gives turn result

-- a request that held no ticket wanted the seat: it holds this ticket then, or is refused
pub data TakesTicket {D : Type 0} (turned : D → MarkStep → Turn → D → Type 0) (step : MarkStep) (desk : D) : Result (Unit {0}) Refusal → Option ℕ → D → Type 0 where
  taken : {number : ℕ} {now : D} → WantsSeat turned step desk (Ok number) now → TakesTicket turned step desk (Ok tt) (Some number) now
  refused : {why : Refusal} {now : D} → WantsSeat turned step desk (Err why) now → TakesTicket turned step desk (Err why) None now

-- the same by the pinentry-mode: it wanted the seat, or is refused
pub data SeatsIn {D : Type 0} (turned : D → MarkStep → Turn → D → Type 0) (desk : D) : PinMode → Result (Unit {0}) Refusal → Option ℕ → D → Type 0 where
  asks : {result : Result (Unit {0}) Refusal} {held : Option ℕ} {now : D} → TakesTicket turned (Seat None None) desk result held now → SeatsIn turned desk mode.Ask result held now
  cancels : SeatsIn turned desk mode.Cancel (Err (Agent code.Cancelled)) None desk
  errs : SeatsIn turned desk mode.Error (Err (Agent code.NoPinentry)) None desk
  loops : SeatsIn turned desk mode.Loopback (Err (Agent code.NoPinentry)) None desk

-- a request that may hold a ticket gave it back, and this is kept
pub data GivesTicket {D : Type 0} (turned : D → MarkStep → Turn → D → Type 0) (keep : Option (List ℕ)) : Option ℕ → D → D → Type 0 where
  unheld : {desk : D} → GivesTicket turned keep None desk desk
  given : {ticket : ℕ} {desk now : D} (turn : Turn) → turned desk (Close ticket keep) turn now → FitsStep (Close ticket keep) turn
      → GivesTicket turned keep (Some ticket) desk now

-- a step that changes the cache, and gives no ticket back
abbrev pub IsChange : MarkStep → Type 0
IsChange (Put id mode life secret) = Unit {0}
IsChange (Clear id mode) = Unit {0}
IsChange Flush = Unit {0}
IsChange Stop = Unit {0}
IsChange _ = ⊥

-- what a turn gives that changes the cache: that it is changed, or why the request is refused
pub data Changed : Turn → Result (Unit {0}) Refusal → Type 0 where
  changed : Changed Done (Ok tt)
  unchanged : {turn : Turn} {code : Code} → Interrupts turn code → Changed turn (Err (Agent code))

-- it was changed by one turn at a desk
pub record ChangesCache {D : Type 0} (turned : D → MarkStep → Turn → D → Type 0) (step : MarkStep) (desk : D) (result : Result (Unit {0}) Refusal) (now : D) : Type 0 where
  pub turn : Turn
  pub turned_so : turned desk step turn now
  pub fits : FitsStep step turn
  pub gives : Changed turn result

-- what a turn gives that asks the cache: its entry's passphrase, or none, and the ticket of a prompt, where it opens one; or why the request is refused
pub data Answered : Option ℕ → Turn → Result (Option (List ℕ)) Refusal → Option ℕ → Type 0 where
  found : {held : Option ℕ} {grant : Grant} → Answered held (Given grant) (Ok (Some grant.entry.secret)) held
  none_found : {held : Option ℕ} → Answered held Empty (Ok None) held
  prompt_opened : {ticket : ℕ} → Answered None (Open ticket) (Ok None) (Some ticket)
  not_answered : {held : Option ℕ} {turn : Turn} {code : Code} → Interrupts turn code → Answered held turn (Err (Agent code)) held

-- it was asked by one turn at a desk
pub record AsksCache {D : Type 0} (turned : D → MarkStep → Turn → D → Type 0) (step : MarkStep) (before : Option ℕ) (desk : D) (result : Result (Option (List ℕ)) Refusal) (after : Option ℕ) (now : D) : Type 0 where
  pub turn : Turn
  pub turned_so : turned desk step turn now
  pub fits : FitsStep step turn
  pub gives : Answered before turn result after

-- Between the actions of a request that holds this ticket: no other is out, and no prompt is open.
pub record IsReady (desk : AtDesk) (prompter : AtPrompter) (ticket : Option ℕ) : Type 0 where
  pub out : desk.out ≡ ticket
  pub shut : IsShut prompter
