-- What a look at the end found, and the sums of the passes.
use Rattle.std.specs.Prelude.{◌≡◌, List, sum, map, ⊤}
use Rattle.cache_policy.specs.declared.tally.Tally.{Tally}
use Rattle.agent_lock.specs.declared.{pass.Counts.Counts, shared.Closing.{Closing, TheVariants.{Stopped, Open}}}

module _ {M G E O : Type 0} where
  abbrev pub IfStopped : Closing M G E O → (Tally → Type 0) → Type 0
  IfStopped (Stopped tally) P = P tally
  IfStopped (Open shared passes) P = ⊤

  -- the passes that came back are seen as their counts
  abbrev pub IfOpen : Closing M G E O → (List Counts → Type 0) → Type 0
  IfOpen (Stopped tally) P = ⊤
  IfOpen (Open shared passes) P = P passes.items

-- totals are the sums of the passes' counts
pub record AreSums (totals : Counts) (passes : List Counts) : Type 0 where
  pub calls : totals.calls ≡ sum (map (λ pass. pass.calls) passes)
  pub given : totals.given ≡ sum (map (λ pass. pass.given) passes)
  pub empty : totals.empty ≡ sum (map (λ pass. pass.empty) passes)
  pub opened : totals.opened ≡ sum (map (λ pass. pass.opened) passes)
