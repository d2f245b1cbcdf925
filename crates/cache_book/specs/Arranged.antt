-- Lists in order. This is the project's own.
use Rattle.std.specs.{Prelude.{List, [], ◌∷◌, Bool, if◌then◌else◌}, List.AllByRecursion}

-- a list with an element more, before the first one that it comes before
abbrev pub placed : {A : Type 0} → (A → A → Bool) → A → List A → List A
placed before x [] = x ∷ []
placed before x (y ∷ ys) = if before x y then x ∷ y ∷ ys else y ∷ placed before x ys

-- the elements of a list in order
abbrev pub arranged : {A : Type 0} → (A → A → Bool) → List A → List A
arranged before [] = []
arranged before (x ∷ xs) = placed before x (arranged before xs)

-- the relation holds between each element and each later one
abbrev pub EachPair : {A : Type 0} → (A → A → Type 0) → List A → Type 0
EachPair R [] = Unit {0}
EachPair R (x ∷ xs) = AllByRecursion (R x) xs × EachPair R xs
