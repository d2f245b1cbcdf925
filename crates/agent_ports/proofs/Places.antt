-- The finished children, one before another.
use Rattle.std.{proofs.Common.{◌≡◌, ℕ, zero, suc, ◌-◌, Some, ◌∷◌, slice_get, ap, refl, sym, ◌∙◌, arith}, specs.{Prelude.Box, declared.alloc.Global.Global}}
use Rattle.agent_ports.specs.{declared.mem.launcher.Place.{Place, Place', None', Some', out-Place}, Mem.Launches.{latest_of, latest_first, finished_link}}

latest_of_out : (place : Place) → latest_of place ≡ finished_link (out-Place place).link ∷ latest_first (out-Place place).earlier
unfolding out-Place denote.Hole.Carrier.out
latest_of_out (Place' link None') = refl
latest_of_out (Place' link (Some' p next)) = refl

-- what stands so many places back is one place less behind the next one
pub one_back : (place : Place) (next : Box Place Global) (back : ℕ) → (out-Place place).earlier ≡ Some next → (back ≡ 0 → ⊥)
    → slice_get (latest_of place) back ≡ slice_get (latest_of next.value) (back - 1)
one_back place next zero is some = absurd (some refl)
one_back place next (suc i) is some =
    let less : suc i - 1 ≡ i = omega arith in
    ap (λ l. slice_get l (suc i)) (latest_of_out place) ∙ ap (λ e. slice_get (latest_first e) i) is ∙ ap (slice_get (latest_of next.value)) (sym less)
