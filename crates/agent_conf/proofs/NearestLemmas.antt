-- What is kept of a number is the nearest on the stricter side.
use Rattle.std.{proofs.{Common.{◌≡◌, ◌≤◌, ◌<◌, ℕ, true, false, Some, None, IfSome, IfNone, ◌⊎◌, arith, inl, inr, refl, ap}, lemmas.Bool.{cases_lt, cond_both, Decides.nat_tests}}, specs.Prelude.{min, max, nat_le, ◌==◌}}
use Rattle.agent_conf.specs.{Numbers.{NoLaxer, greatest_of, is_measured, kept_in, least_of}, declared.numbers.Range.{Range, TheVariants.{Seconds, Bytes, Count, Milliseconds}}}

-- kept is what limits as much, or more
pub kept_no_laxer : (range : Range) (written : ℕ) → IfSome (kept_in range written) (λ kept. (is_measured range written ≡ true) ⊎ NoLaxer range kept written)
kept_no_laxer Seconds written =
    cond_both (nat_le 0 written) (Some (min written 2147483647)) None (λ o. IfSome o (λ kept. (false ≡ true) ⊎ (kept ≤ written))) (λ _. inr (omega arith)) (λ _. tt)
kept_no_laxer Bytes written =
    cond_both (nat_le written 255) (Some (max written 0)) None (λ o. IfSome o (λ kept. (false ≡ true) ⊎ (written ≤ kept))) (λ _. inr (omega arith)) (λ _. tt)
kept_no_laxer Milliseconds written =
    cond_both (nat_le written 99999) (Some (max written 0)) None (λ o. IfSome o (λ kept. (false ≡ true) ⊎ (written ≤ kept))) (λ _. inr (omega arith)) (λ _. tt)
kept_no_laxer Count written =
    cond_both (written == 0) (Some written) (Some (min (max written 65536) 65011712))
    (λ o. IfSome o (λ kept. ((written == 0) ≡ true) ⊎ ((written ≤ kept) ⊎ (kept ≡ 65011712))))
    (λ measured. inl measured)
    (λ _. inr (elim (cases_lt 65011712 written) [ inl above ↦ inr (omega (arith, above)) | inr within ↦ inl (omega (arith, within)) ]))

-- each other number of the range that limits as much as what is written limits as much as what is kept
pub kept_is_nearest : (range : Range) (written other : ℕ) → IfSome (kept_in range written)
    (λ kept. (is_measured range written ≡ true) ⊎ (least_of range ≤ other → other ≤ greatest_of range → NoLaxer range other written → NoLaxer range other kept))
kept_is_nearest Seconds written other =
    cond_both (nat_le 0 written) (Some (min written 2147483647)) None
    (λ o. IfSome o (λ kept. (false ≡ true) ⊎ (0 ≤ other → other ≤ 2147483647 → other ≤ written → other ≤ kept)))
    (λ _. inr (λ above within limits. omega (arith, within, limits))) (λ _. tt)
kept_is_nearest Bytes written other =
    cond_both (nat_le written 255) (Some (max written 0)) None
    (λ o. IfSome o (λ kept. (false ≡ true) ⊎ (0 ≤ other → other ≤ 255 → written ≤ other → kept ≤ other)))
    (λ _. inr (λ above within limits. omega (arith, limits))) (λ _. tt)
kept_is_nearest Milliseconds written other =
    cond_both (nat_le written 99999) (Some (max written 0)) None
    (λ o. IfSome o (λ kept. (false ≡ true) ⊎ (0 ≤ other → other ≤ 99999 → written ≤ other → kept ≤ other)))
    (λ _. inr (λ above within limits. omega (arith, limits))) (λ _. tt)
kept_is_nearest Count written other =
    cond_both (written == 0) (Some written) (Some (min (max written 65536) 65011712))
    (λ o. IfSome o (λ kept. ((written == 0) ≡ true)
    ⊎ (65536 ≤ other → other ≤ 65011712 → (written ≤ other) ⊎ (other ≡ 65011712) → (kept ≤ other) ⊎ (other ≡ 65011712))))
    (λ measured. inl measured)
    (λ _. inr (λ above within limits. elim limits [ inl more ↦ inl (omega (arith, above, more)) | inr greatest ↦ inr greatest ]))

exceeds : (a b : ℕ) → nat_le a b ≡ false → b < a
exceeds a b over = grind (arith, nat_tests)

-- where nothing is kept each number of the range is laxer
pub refused_is_laxer : (range : Range) (written other : ℕ) → IfNone (kept_in range written)
    (least_of range ≤ other → other ≤ greatest_of range → NoLaxer range other written → ⊥)
refused_is_laxer Seconds written other =
    cond_both (nat_le 0 written) (Some (min written 2147483647)) None
    (λ o. IfNone o (0 ≤ other → other ≤ 2147483647 → other ≤ written → ⊥))
    (λ _. tt) (λ over above within limits. absurd (omega (arith, exceeds 0 written over)))
refused_is_laxer Bytes written other =
    cond_both (nat_le written 255) (Some (max written 0)) None
    (λ o. IfNone o (0 ≤ other → other ≤ 255 → written ≤ other → ⊥))
    (λ _. tt) (λ over above within limits. absurd (omega (arith, exceeds written 255 over, within, limits)))
refused_is_laxer Milliseconds written other =
    cond_both (nat_le written 99999) (Some (max written 0)) None
    (λ o. IfNone o (0 ≤ other → other ≤ 99999 → written ≤ other → ⊥))
    (λ _. tt) (λ over above within limits. absurd (omega (arith, exceeds written 99999 over, within, limits)))
refused_is_laxer Count written other =
    cond_both (written == 0) (Some written) (Some (min (max written 65536) 65011712))
    (λ o. IfNone o (65536 ≤ other → other ≤ 65011712 → (written ≤ other) ⊎ (other ≡ 65011712) → ⊥))
    (λ _. tt) (λ _. tt)

-- a number of the range is kept as it is
pub kept_as_written : (range : Range) (written : ℕ) → least_of range ≤ written → written ≤ greatest_of range → kept_in range written ≡ Some written
kept_as_written Seconds written above within =
    cond_both (nat_le 0 written) (Some (min written 2147483647)) None (λ o. o ≡ Some written) (λ _. ap Some (omega (arith, within))) (λ over. absurd (omega (arith, exceeds 0 written over)))
kept_as_written Bytes written above within =
    cond_both (nat_le written 255) (Some (max written 0)) None (λ o. o ≡ Some written) (λ _. ap Some (omega (arith, within))) (λ over. absurd (omega (arith, exceeds written 255 over, within)))
kept_as_written Milliseconds written above within =
    cond_both (nat_le written 99999) (Some (max written 0)) None (λ o. o ≡ Some written) (λ _. ap Some (omega (arith, within))) (λ over. absurd (omega (arith, exceeds written 99999 over, within)))
kept_as_written Count written above within =
    cond_both (written == 0) (Some written) (Some (min (max written 65536) 65011712)) (λ o. o ≡ Some written) (λ _. refl) (λ _. ap Some (omega (arith, above, within)))
