-- The lists of a script, kept from its end.
use Rattle.std.{specs.{Prelude.{◌≡◌, ℕ, List, [], ◌∷◌, ◌++◌, length, map, reverse, refl}, Global.Vec}, proofs.{Common.{ap, arith}, lemmas.List.{reverse-reverse, reverse-append}}}
use Rattle.agent_core.specs.{declared.foreign.Foreign.Foreign, SoloInside.lists_of}

pub lists_reversed : (script : List (Vec Foreign)) → lists_of (reverse script) ≡ map (λ list. list.items) script
lists_reversed script = ap (map (λ (list : Vec Foreign). list.items)) (reverse-reverse script)

-- the last one is the next
pub lists_popped : (front : List (Vec Foreign)) (last : Vec Foreign) → lists_of (front ++ last ∷ []) ≡ last.items ∷ lists_of front
lists_popped front last = ap (map (λ (list : Vec Foreign). list.items)) (reverse-append front (last ∷ []))

-- a list without length
pub none_left : {A : Type 0} (list : List A) (n : ℕ) → n ≡ length list → n ≡ 0 → list ≡ []
none_left [] n is none = refl
none_left (first ∷ later) n is none = absurd (omega (arith, is, none))

-- no list is left of a script that ends
pub lists_ended : (script : List (Vec Foreign)) (n : ℕ) → n ≡ length script → n ≡ 0 → lists_of script ≡ []
lists_ended script n is none = ap lists_of (none_left script n is none)
