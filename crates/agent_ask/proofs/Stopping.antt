-- What no question comes to.
use Rattle.std.{proofs.Common.{◌≡◌, ℕ, List, Err, sym, subst}, specs.Prelude.⊤}
use Rattle.agent_ask.specs.{Events.PromptEvent, Prompts.{Repeats, ended, pin_or_stop}, declared.prompt.{ask.Asked.Asked, prompter.Outcome.Outcome}}
use Rattle.agent_ask.specs.declared.prompt.ask.Asked.TheVariants as asked
use Rattle.agent_ask.specs.declared.prompt.prompter.Outcome.TheVariants as outcome
use Rattle.agent_ask.specs.declared.prompt.tries.Stop.TheVariants as stop

-- a passphrase, a client that didn't take note, and being out of memory
abbrev pub IsNoStop : Asked → Type 0
IsNoStop (asked.Pin pin) = ⊤
IsNoStop (asked.Heard heard) = ⊤
IsNoStop asked.NoMemory = ⊤
IsNoStop _ = ⊥

module _ (end : Asked) (no_stop : IsNoStop end) where
  pub never_stops : (what : Outcome) → pin_or_stop what ≡ Err (stop.Over end) → ⊥
  never_stops (outcome.Pin pin) is = cc is
  never_stops outcome.Cancelled is = let same : asked.Cancelled ≡ end = cc is in subst IsNoStop (sym same) no_stop
  never_stops outcome.TimedOut is = let same : asked.TimedOut ≡ end = cc is in subst IsNoStop (sym same) no_stop
  never_stops outcome.Failed is = let same : asked.NoPinentry ≡ end = cc is in subst IsNoStop (sym same) no_stop
  never_stops (outcome.Broken breach) is = let same : asked.NoPinentry ≡ end = cc is in subst IsNoStop (sym same) no_stop

  pub never_repeats : {count : ℕ} {pin : List ℕ} {events : List PromptEvent} → Repeats count pin events (Err (stop.Over end)) → ⊥
  never_repeats (ended what few is) = never_stops what is
