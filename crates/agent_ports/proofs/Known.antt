-- From the bytes that calls took to what they say of the bytes before and after them.
use Rattle.std.{specs.Prelude.{◌≡◌, List, ℕ, ◌++◌, Option, Some, None, refl}, proofs.Common.{sym, subst, ap, append_assoc}}
use Rattle.agent_ports.specs.Sides.{followed_by, with_bytes, WhereKnown}

-- a fact of what stood before and after holds where it holds of the bytes taken and of what is left
pub known_by : (taken : List ℕ) (before after : Option (List ℕ)) (P : List ℕ → List ℕ → Type 0) → before ≡ followed_by taken after
    → ((left : List ℕ) → after ≡ Some left → P (taken ++ left) left) → WhereKnown before after P
known_by taken before None P split each = subst (λ b. WhereKnown b None P) (sym split) tt
known_by taken before (Some left) P split each = subst (λ b. WhereKnown b (Some left) P) (sym split) (each left refl)

-- a fact of the bytes before a call that leaves them
pub known_same : (bytes : Option (List ℕ)) (P : List ℕ → List ℕ → Type 0) → ((rest : List ℕ) → P rest rest) → WhereKnown bytes bytes P
known_same None P each = tt
known_same (Some rest) P each = each rest

-- one call after another
pub known_then : (before mid after : Option (List ℕ)) (P Q R : List ℕ → List ℕ → Type 0) → WhereKnown before mid P
    → WhereKnown mid after Q → ((rest left more : List ℕ) → P rest left → Q left more → R rest more) → WhereKnown before after R
known_then None None None P Q R first second each = tt
known_then None None (Some more) P Q R first second each = second
known_then None (Some left) after P Q R first second each = absurd first
known_then (Some rest) None after P Q R first second each = absurd first
known_then (Some rest) (Some left) None P Q R first second each = second
known_then (Some rest) (Some left) (Some more) P Q R first second each = each rest left more first second

-- what was written piece by piece was written
pub with_bytes_append : (written : Option (List ℕ)) (first second : List ℕ) → with_bytes (with_bytes written first) second ≡ with_bytes written (first ++ second)
with_bytes_append None first second = refl
with_bytes_append (Some before) first second = ap (λ (x : List ℕ). Some x) (append_assoc before first second)

-- two facts of the same bytes
pub known_both : (before after : Option (List ℕ)) (P Q : List ℕ → List ℕ → Type 0) → WhereKnown before after P → WhereKnown before after Q → WhereKnown before after (λ rest left. P rest left × Q rest left)
known_both None None P Q first second = tt
known_both None (Some left) P Q first second = first
known_both (Some rest) None P Q first second = first
known_both (Some rest) (Some left) P Q first second = (first, second)
