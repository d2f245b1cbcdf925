-- A buffer that is filled from its front, a read at a time.
use Rattle.std.proofs.{Common.{append_assoc, ◌≡◌, ◌≤◌, ◌+◌, ◌++◌, ◌∙◌, ℕ, List, length, take, drop, sym, ap, refl, Option, Some, None}, lemmas.List.{length-take-le, take-append-le, take-append-drop}, Math.Seq.take-append-add}
use Rattle.agent_ports.specs.Sides.{followed_by}

pub filled : (count more : ℕ) (xs ys zs : List ℕ) → count ≤ length xs → more ≤ length ys → take (count + length ys) zs ≡ take count xs ++ ys
    → take (count + more) zs ≡ take count xs ++ take more ys
filled count more xs ys zs within short is =
    let rest = drop (count + length ys) zs in
    let split : zs ≡ take count xs ++ (ys ++ rest) =
    sym (take-append-drop (count + length ys) zs) ∙ ap (λ (x : List ℕ). x ++ rest) is ∙ append_assoc (take count xs) ys rest
    in
    ap (λ (x : List ℕ). take (count + more) x) split
    ∙ ap (λ (n : ℕ). take (n + more) (take count xs ++ (ys ++ rest))) (sym (length-take-le count xs within))
    ∙ take-append-add (take count xs) (ys ++ rest) more
    ∙ ap (λ (z : List ℕ). take count xs ++ z) (take-append-le more ys rest short)

pub followed_twice : (first second : List ℕ) (rest : Option (List ℕ)) → followed_by first (followed_by second rest) ≡ followed_by (first ++ second) rest
followed_twice first second None = refl
followed_twice first second (Some rest) = ap (λ (x : List ℕ). Some x) (sym (append_assoc first second rest))
