-- The contacts of a connector in memory, one before another.
use Rattle.std.{proofs.Common.{◌≡◌, ℕ, zero, suc, ◌-◌, Some, ◌∷◌, slice_get, ap, refl, sym, ◌∙◌, arith}, specs.{Prelude.Box, declared.alloc.Global.Global}}
use Rattle.passphrase_talk.specs.{declared.mem_connector.MemContact.{MemContact, MemContact', None', Some', out-MemContact}, MemContacts.{latest_of, latest_first, contact_of}}

pub latest_of_out : (contact : MemContact) → latest_of contact ≡ contact_of contact ∷ latest_first (out-MemContact contact).earlier
unfolding out-MemContact denote.Hole.Carrier.out
latest_of_out (MemContact' place link reads writes None') = refl
latest_of_out (MemContact' place link reads writes (Some' p next)) = refl

-- what stands so many places back is one place less behind the next one
pub one_back : (contact : MemContact) (next : Box MemContact Global) (back : ℕ) → (out-MemContact contact).earlier ≡ Some next → (back ≡ 0 → ⊥)
    → slice_get (latest_of contact) back ≡ slice_get (latest_of next.value) (back - 1)
one_back contact next zero is some = absurd (some refl)
one_back contact next (suc i) is some =
    let less : suc i - 1 ≡ i = omega arith in
    ap (λ l. slice_get l (suc i)) (latest_of_out contact) ∙ ap (λ e. slice_get (latest_first e) i) is ∙ ap (slice_get (latest_of next.value)) (sym less)
