-- Two lists in pairs.
use Rattle.std.specs.Prelude.{◌≡◌, ◌+◌, List, [], ◌∷◌, ◌++◌, length, ⊤}

-- what is so of an element behind which these stand in its list: where none does it is the last, of which something else is so
abbrev pub ByPlace : {A : Type 0} → Type 0 → Type 0 → List A → Type 0
ByPlace Other Last [] = Last
ByPlace Other Last (next ∷ later) = Other

-- each pair of two lists, which are as long as each other
abbrev pub Paired : {J K : Type 0} → (J → K → Type 0) → List J → List K → Type 0
Paired fits [] [] = ⊤
Paired fits (j ∷ js) (k ∷ ks) = fits j k × Paired fits js ks
Paired fits _ _ = ⊥

-- each pair of two lists led to the pair at its place, the last one in a way of its own
abbrev pub PairedTo : {J K : Type 0} → (other last : J → K → (J × K) → Type 0) → List J → List K → List J → List K → Type 0
PairedTo other last [] [] [] [] = ⊤
PairedTo other last (j ∷ js) (k ∷ ks) (a ∷ fs) (b ∷ bs) = ByPlace (other j k (a, b)) (last j k (a, b)) js × PairedTo other last js ks fs bs
PairedTo other last _ _ _ _ = ⊥

-- the last pair was taken away
pub record HasPopped {J K : Type 0} (other last : J → K → Type 0) (js : List J) (ks : List K) (j : J) (k : K) (fs : List J) (bs : List K) : Type 0 where
  pub first_is : js ≡ fs ++ j ∷ []
  pub second_is : ks ≡ bs ++ k ∷ []
  pub shorter : length js ≡ length fs + 1
  pub as_long : length ks ≡ length bs + 1
  pub rest : Paired other fs bs
  pub fits : last j k
