-- What a read from the middle of a list leaves.
use Rattle.std.proofs.{Common.{◌≡◌, ℕ, ◌+◌, ◌-◌, ◌≤◌, List, ◌++◌, length, take, drop, ap, ap₂, sym, ◌∙◌, arith}, lemmas.List.{take-append-le, length-take-le, take-append-drop, drop-drop, length-drop, take_all}}

-- what was copied, and what is left, make what was there
pub front_copied : (bytes : List ℕ) (taken n : ℕ) (part buffer : List ℕ)
    → part ≡ take n (take (length bytes - taken) (drop taken bytes)) → n ≤ length bytes - taken → drop taken bytes ≡ take n (part ++ buffer) ++ drop (taken + n) bytes
front_copied bytes taken n part buffer is within =
    let rest : List ℕ = drop taken bytes in
    let room : n ≤ length rest = omega (arith, length-drop taken bytes) in
    let whole : part ≡ take n rest = is ∙ ap (take n) (take_all _ rest (omega (arith, length-drop taken bytes))) in
    let long : length part ≡ n = ap length whole ∙ length-take-le n rest room in
    let front : take n (part ++ buffer) ≡ take n rest = take-append-le n part buffer (omega arith) ∙ take_all n part (omega arith) ∙ whole in
    sym (ap (λ x. x ++ drop (taken + n) bytes) front ∙ ap (λ x. take n rest ++ x) (sym (drop-drop n taken bytes)) ∙ take-append-drop n rest)

-- what a whole buffer was filled with, and what is left, make what was there
pub next_drawn : (bytes : List ℕ) (taken room : ℕ) (buffer : List ℕ)
    → buffer ≡ take room (take (length bytes - taken) (drop taken bytes)) → room ≤ length bytes - taken → drop taken bytes ≡ buffer ++ drop (taken + length buffer) bytes
next_drawn bytes taken room buffer is within =
    let rest : List ℕ = drop taken bytes in
    let fits : room ≤ length rest = omega (arith, length-drop taken bytes) in
    let whole : buffer ≡ take room rest = is ∙ ap (take room) (take_all _ rest (omega (arith, length-drop taken bytes))) in
    let long : length buffer ≡ room = ap length whole ∙ length-take-le room rest fits in
    sym (take-append-drop room rest) ∙ ap₂ (λ (x y : List ℕ). x ++ y) (sym whole) (drop-drop room taken bytes ∙ ap (λ k. drop (taken + k) bytes) (sym long))
