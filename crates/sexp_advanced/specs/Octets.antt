-- An atom in memory holds bytes. A law over trees says so, since a tree of the definitions may hold any numbers.
use Rattle.std.specs.Prelude.{ℕ, ◌<◌, List, [], ◌∷◌}
use Rattle.sexp_canonical.specs.Tree.{Tree, Row, leaf, branch, end, item}

abbrev pub AreOctets : List ℕ → Type 0
AreOctets [] = Unit {0}
AreOctets (b ∷ more) = (b < 256) × AreOctets more

abbrev mutual
  pub IsOfOctets : Tree → Type 0
  IsOfOctets (leaf bytes) = AreOctets bytes
  IsOfOctets (branch items) = AreOfOctets items

  pub AreOfOctets : Row → Type 0
  AreOfOctets end = Unit {0}
  AreOfOctets (item t more) = IsOfOctets t × AreOfOctets more
