-- Steps of measuring: what is left of the items, and of the room.
use Rattle.std.{proofs.{Common.{◌≡◌, ℕ, ◌+◌, ◌-◌, ◌≤◌, max, List, [], ◌∷◌, length, ap, sym, ◌∙◌, arith, length-append}, lemmas.List.Concat.flat_map-cons}, specs.List.flat_map}
use Rattle.sexp_canonical.{specs.{Tree.{Tree, list_of, row}, View.{tree_of, trees}, Spelling.{spelling, depths}, declared.tree.Sexp.{Sexp, TheVariants.List as Listed}}, proofs.Trees.spelled_list}

-- how many bytes these expressions have
abbrev pub size : List Tree → ℕ
size ts = length (flat_map spelling ts)

-- the expressions have this many bytes at most, and open so many lists
abbrev pub Fit : List Tree → (levels room : ℕ) → Type 0
Fit ts levels room = (depths (row ts) ≤ levels) × (size ts ≤ room)

-- what isn't left of the room was taken by the items before the rest, which open no more lists than they may
pub record IsMeasuredTo (items rest : List Tree) (levels room left : ℕ) : Type 0 where
  pub taken : size items + left ≡ size rest + room
  pub deep : depths (row rest) ≤ depths (row items)
  pub shallow : depths (row items) ≤ max (depths (row rest)) levels

list_first : (inner others : List Tree) → size (list_of inner ∷ others) ≡ size inner + 2 + size others
list_first inner others =
    omega (
      arith,
      ap length (flat_map-cons spelling (list_of inner) others),
      length-append (spelling (list_of inner)) (flat_map spelling others),
      ap length (spelled_list inner),
      length-append (flat_map spelling inner) (41 ∷ []),
    )

pub begins_with_list : (rest : List Sexp) (first : Sexp) (others inner : List Sexp) (items : List Tree) → rest ≡ first ∷ others → first ≡ Listed items → trees inner ≡ items → trees rest ≡ list_of (trees inner) ∷ trees others
begins_with_list rest first others inner items rest-is first-is inner-is =
    ap trees rest-is ∙ ap (λ (s : Sexp). tree_of s ∷ trees others) (first-is ∙ ap Listed (sym inner-is))

-- ---- the rest begins with a list, for which there are these levels and this room

module _
    {items rest : List Tree} {levels room left : ℕ} (so_far : IsMeasuredTo items rest levels room left)
    (inner others : List Tree) (rest-is : rest ≡ list_of inner ∷ others)
    {deeper within : ℕ} (deeper-is : (1 ≤ levels) × (deeper ≡ levels - 1)) (within-is : (2 ≤ left) × (within ≡ left - 2)) where
  pub list_taken : {after : ℕ} → Fit inner deeper within × (after ≡ within - size inner) → IsMeasuredTo items others levels room after
  list_taken (fits, after-is) =
      let taken = so_far.taken in
      let deep = so_far.deep in
      let shallow = so_far.shallow in
      let parts = ap size rest-is ∙ list_first inner others in
      let depth-is = ap (λ (ts : List Tree). depths (row ts)) rest-is in
      record {
        taken = omega (arith, parts, fits.1, deeper-is.0, deeper-is.1, within-is.0, within-is.1, after-is);
        deep = omega (arith, depth-is);
        shallow = omega (arith, depth-is, fits.0, deeper-is.0, deeper-is.1);
      }

  pub list_unfit : (Fit inner deeper within → ⊥) → Fit items levels room → ⊥
  list_unfit unfit fits =
      let taken = so_far.taken in
      let deep = so_far.deep in
      let parts = ap size rest-is ∙ list_first inner others in
      let depth-is = ap (λ (ts : List Tree). depths (row ts)) rest-is in
      unfit (omega (arith, depth-is, fits.0, deeper-is.0, deeper-is.1), omega (arith, parts, fits.1, within-is.0, within-is.1))
