-- Numbers that are read up to a bound alone.
use Rattle.std.{proofs.Common.{◌≡◌, ◌+◌, ◌-◌, ◌*◌, ℕ, List, [], ◌∷◌, fold, arith}, specs.Prelude.min}
use Rattle.agent_conf.specs.declared.numbers.TheConstants.{MAX_NUMBER}

-- what more digits make of a number
abbrev pub with_digits : ℕ → List ℕ → ℕ
with_digits number digits = fold (λ number digit. 10 * number + (digit - 48)) number digits

one_more : (a b digit : ℕ) → min a MAX_NUMBER ≡ min b MAX_NUMBER → min (10 * a + digit) MAX_NUMBER ≡ min (10 * b + digit) MAX_NUMBER
one_more a b digit same = omega arith

-- numbers that are the same up to the bound are so behind more digits
pub same_up_to : (digits : List ℕ) (a b : ℕ) → min a MAX_NUMBER ≡ min b MAX_NUMBER → min (with_digits a digits) MAX_NUMBER ≡ min (with_digits b digits) MAX_NUMBER
same_up_to [] a b same = same
same_up_to (digit ∷ digits) a b same = same_up_to digits (10 * a + (digit - 48)) (10 * b + (digit - 48)) (one_more a b (digit - 48) same)

pub capped : (number : ℕ) → min (min number MAX_NUMBER) MAX_NUMBER ≡ min number MAX_NUMBER
capped number = omega arith
