-- The first bytes of a list that lies in two slices.
use Rattle.std.proofs.{Common.{◌≡◌, ℕ, ◌+◌, ◌-◌, ◌≤◌, List, ◌++◌, length, take, ap, sym, ◌∙◌, arith}, Math.Seq.take-append-add}

pub take_across : (front back all : List ℕ) (end : ℕ) → front ++ back ≡ all → length front ≤ end → take end all ≡ front ++ take (end - length front) back
take_across front back all end is long =
    let sum : end ≡ length front + (end - length front) = omega arith in
    ap (λ (l : List ℕ). take end l) (sym is) ∙ ap (λ (n : ℕ). take n (front ++ back)) sum ∙ take-append-add front back (end - length front)
