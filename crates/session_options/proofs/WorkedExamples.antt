-- The bounds of counts and of workers: what is within them, and what is not.
use Rattle.std.proofs.{Common.{◌≡◌, ℕ, true, arith}, lemmas.Bool.Decides.nat_tests}
use Rattle.session_options.specs.Counts.{IsS2kCount, IsWorkers, is_s2k_count}

-- the test says what the count is
tested : (count : ℕ) → is_s2k_count count ≡ true → IsS2kCount count
tested count e = record { least = grind (arith, nat_tests, e); greatest = grind (arith, nat_tests, e) }

passes : (count : ℕ) → IsS2kCount count → is_s2k_count count ≡ true
passes count is = grind (arith, nat_tests, is.least, is.greatest)

no_workers : IsWorkers 0 → ⊥
no_workers is = omega (arith, is.least)

one_worker : IsWorkers 1
one_worker = record { least = omega arith; greatest = omega arith }

most_workers : IsWorkers 64
most_workers = record { least = omega arith; greatest = omega arith }

too_many_workers : IsWorkers 65 → ⊥
too_many_workers is = omega (arith, is.greatest)
