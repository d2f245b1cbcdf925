-- Where reading stands: the open lists, and the text up to there.
use Rattle.std.proofs.Common.{◌≡◌, ℕ, ◌+◌, ◌<◌, ◌≤◌, true, false, eqb, List, [], ◌∷◌, ◌++◌, length, get_or, take, drop, Some, refl, sym, ap, subst, ◌∙◌, inl, inr, append_assoc, arith, length-append, length-drop}
use Rattle.std.{proofs.{lemmas.{List.{map-append, append-nil, drop_all, length-map, nil_from_length, Concat.flat_map-cons}, Grind.flat_map-append, Bool.{eq-eqb, ne_eqb}}, Math.Seq.take-append_seam}, specs.{Global.Vec, Vec.vec_len}}
use Rattle.std.specs.{List.flat_map, Char.is_ascii_digit}
use Rattle.sexp_canonical.specs.{Tree.{Tree, list_of}, View.{tree_of, trees}, Spelling.{most_depth, spelling, spelling_of, depth}, Reading.{OpenLists, opening_bytes, open_depth, item_fault, IsLengthFault, IsFirstSexpFault}}
use Rattle.sexp_canonical.specs.{Adding.{lists_of, AddsItem}, Steps.{HasAtom, HasExpression}, declared.{tree.Sexp.{Sexp, TheVariants.List as Listed}, fault.SexpFault.{SexpFault, TheVariants.{BadByte, Deep, Short}}}}
use Rattle.sexp_canonical.proofs.{Depths.{deeper_more, deeper_new, deeper_outer, deeper_last, length_le_open_depth}, Trees.spelled_list, Steps.drop_at_place}

-- ---- what lists are open

opening_append : (xs ys : OpenLists) → opening_bytes (xs ++ ys) ≡ opening_bytes xs ++ opening_bytes ys
opening_append [] ys = refl
opening_append (items ∷ xs) ys =
    ap (λ (s : List ℕ). 40 ∷ (flat_map spelling items ++ s)) (opening_append xs ys) ∙ ap (λ (s : List ℕ). 40 ∷ s) (sym (append_assoc (flat_map spelling items) (opening_bytes xs) (opening_bytes ys)))

opening_last : (outer : OpenLists) (items : List Tree) → opening_bytes (outer ++ items ∷ []) ≡ opening_bytes outer ++ 40 ∷ flat_map spelling items
opening_last outer items = opening_append outer (items ∷ []) ∙ ap (λ (s : List ℕ). opening_bytes outer ++ 40 ∷ s) (append-nil (flat_map spelling items))

flat_map_last : (items : List Tree) (t : Tree) → flat_map spelling (items ++ t ∷ []) ≡ flat_map spelling items ++ spelling t
flat_map_last items t = flat_map-append spelling items (t ∷ []) ∙ ap (λ (s : List ℕ). flat_map spelling items ++ s) (flat_map-cons spelling t [] ∙ append-nil (spelling t))

opening_more : (outer : OpenLists) (items : List Tree) (t : Tree) → opening_bytes (outer ++ (items ++ t ∷ []) ∷ []) ≡ opening_bytes (outer ++ items ∷ []) ++ spelling t
opening_more outer items t =
    opening_last outer (items ++ t ∷ []) ∙ ap (λ (s : List ℕ). opening_bytes outer ++ 40 ∷ s) (flat_map_last items t)
    ∙ sym (append_assoc (opening_bytes outer) (40 ∷ flat_map spelling items) (spelling t)) ∙ ap (λ (s : List ℕ). s ++ spelling t) (sym (opening_last outer items))

-- ---- places

-- up to the place stand the open lists with their items
pub record IsOpenAt (text : List ℕ) (place : ℕ) (lists : OpenLists) : Type 0 where
  pub within : place ≤ length text
  pub shallow : open_depth lists ≤ most_depth
  pub parts : text ≡ opening_bytes lists ++ drop place text

-- up to the end stand the open lists, and this tree behind them
pub record IsFinished (text : List ℕ) (end : ℕ) (lists : OpenLists) (tree : Tree) : Type 0 where
  pub within : end ≤ length text
  pub shallow : open_depth lists ≤ most_depth
  pub fits : length lists + depth tree ≤ most_depth
  pub parts : text ≡ opening_bytes lists ++ (spelling tree ++ drop end text)

pub at_front : (text : List ℕ) → IsOpenAt text 0 []
at_front text = record { within = omega arith; shallow = omega arith; parts = refl }

place_is : (text : List ℕ) (place : ℕ) (lists : OpenLists) → IsOpenAt text place lists → length (opening_bytes lists) ≡ place
place_is text place lists at = let w = at.within in omega (arith, ap length at.parts, length-append (opening_bytes lists) (drop place text), length-drop place text)

pub list_opened : (text : List ℕ) (place : ℕ) (lists : OpenLists) → IsOpenAt text place lists → place < length text → get_or text place 0 ≡ 40 → length lists < most_depth → IsOpenAt text (place + 1) (lists ++ [] ∷ [])
list_opened text place lists at within byte room = record {
  within = omega arith;
  shallow = let s = at.shallow in omega (arith, deeper_new lists);
  parts = at.parts ∙ ap (λ (s : List ℕ). opening_bytes lists ++ s) (drop_at_place text place within ∙ ap (λ (b : ℕ). b ∷ drop (place + 1) text) byte)
      ∙ sym (append_assoc (opening_bytes lists) (40 ∷ []) (drop (place + 1) text)) ∙ ap (λ (s : List ℕ). s ++ drop (place + 1) text) (sym (opening_last lists []));
}

pub room_left : (text : List ℕ) (place : ℕ) (lists : OpenLists) → IsOpenAt text place lists → (length lists ≡ most_depth → ⊥) → length lists < most_depth
room_left text place lists at other = let s = at.shallow in omega (arith, length_le_open_depth lists)

pub atom_finished : (text : List ℕ) (place end : ℕ) (lists : OpenLists) (tree : Sexp) → IsOpenAt text place lists → HasAtom text place (tree, end) → IsFinished text end lists (tree_of tree)
atom_finished text place end lists tree at read = record {
  within = read.within;
  shallow = at.shallow;
  fits = let s = at.shallow in omega (arith, length_le_open_depth lists, read.flat);
  parts = at.parts ∙ ap (λ (s : List ℕ). opening_bytes lists ++ s) read.parts;
}

pub list_finished : (text : List ℕ) (place : ℕ) (outer : OpenLists) (items : List Tree) → IsOpenAt text place (outer ++ items ∷ []) → place < length text → get_or text place 0 ≡ 41 → IsFinished text (place + 1) outer (list_of items)
list_finished text place outer items at within byte =
    let rest = drop (place + 1) text in
    let inside : 40 ∷ flat_map spelling items ++ 41 ∷ rest ≡ spelling (list_of items) ++ rest =
    sym (append_assoc (40 ∷ flat_map spelling items) (41 ∷ []) rest) ∙ ap (λ (s : List ℕ). s ++ rest) (sym (spelled_list items)) in
    record {
      within = omega arith;
      shallow = let s = at.shallow in omega (arith, deeper_outer outer items);
      fits = let s = at.shallow in omega (arith, deeper_last outer items);
      parts = at.parts ∙ ap (λ (s : List ℕ). opening_bytes (outer ++ items ∷ []) ++ s) (drop_at_place text place within ∙ ap (λ (b : ℕ). b ∷ rest) byte)
          ∙ ap (λ (s : List ℕ). s ++ 41 ∷ rest) (opening_last outer items) ∙ append_assoc (opening_bytes outer) (40 ∷ flat_map spelling items) (41 ∷ rest)
          ∙ ap (λ (s : List ℕ). opening_bytes outer ++ s) inside;
    }

pub item_added : (text : List ℕ) (end : ℕ) (old new : List (Vec Sexp)) (tree : Sexp) → IsFinished text end (lists_of old) (tree_of tree) → AddsItem (lists_of old) (lists_of new) (tree_of tree) → IsOpenAt text end (lists_of new)
item_added text end old new tree done adds =
    let outer-len : length (lists_of old) ≡ length adds.outer + 1 = ap length adds.before ∙ length-append adds.outer (adds.items ∷ []) in
    let old-depth : open_depth (lists_of old) ≡ open_depth (adds.outer ++ adds.items ∷ []) = ap open_depth adds.before in
    let new-depth : open_depth (lists_of new) ≡ open_depth (adds.outer ++ (adds.items ++ tree_of tree ∷ []) ∷ []) = ap open_depth adds.after in
    let f = done.fits in
    let s = done.shallow in
    let written : opening_bytes (lists_of new) ≡ opening_bytes (lists_of old) ++ spelling_of tree =
    ap opening_bytes adds.after ∙ opening_more adds.outer adds.items (tree_of tree) ∙ ap (λ (ls : OpenLists). opening_bytes ls ++ spelling_of tree) (sym adds.before) in
    record {
      within = done.within;
      shallow = omega (arith, deeper_more adds.outer adds.items (tree_of tree));
      parts = done.parts ∙ sym (append_assoc (opening_bytes (lists_of old)) (spelling_of tree) (drop end text)) ∙ ap (λ (s : List ℕ). s ++ drop end text) (sym written);
    }

pub whole_read : (text : List ℕ) (end : ℕ) (old : List (Vec Sexp)) (tree whole : Sexp) → IsFinished text end (lists_of old) (tree_of tree) → (lists_of old ≡ []) × (tree_of whole ≡ tree_of tree) → HasExpression text (whole, end)
whole_read text end old tree whole done alone =
    let parts : text ≡ spelling_of tree ++ drop end text = done.parts ∙ ap (λ (ls : OpenLists). opening_bytes ls ++ (spelling_of tree ++ drop end text)) alone.0 in
    let w = done.within in
    let len : length (spelling_of tree) ≡ end = omega (arith, ap length parts, length-append (spelling_of tree) (drop end text), length-drop end text) in
    let f = done.fits in
    record {
      within = done.within;
      shallow = omega (arith, ap depth alone.1);
      spelled = ap (take end) parts ∙ ap (λ (n : ℕ). take n (spelling_of tree ++ drop end text)) (sym len) ∙ take-append_seam (spelling_of tree) (drop end text) ∙ ap spelling (sym alone.1);
    }

-- ---- faults

fault_at : (text : List ℕ) (place : ℕ) (lists : OpenLists) (fault : SexpFault) → IsOpenAt text place lists → item_fault place (length lists) (drop place text) ≡ Some fault → IsFirstSexpFault text fault
fault_at text place lists fault at e = record {
  lists = lists;
  shallow = at.shallow;
  bytes = drop place text;
  parts = at.parts;
  at = inl (ap (λ (n : ℕ). item_fault n (length lists) (drop place text)) (place_is text place lists at) ∙ e);
}

pub length_fault_at : (text : List ℕ) (place : ℕ) (lists : OpenLists) (fault : SexpFault) → IsOpenAt text place lists → IsLengthFault place (drop place text) fault → IsFirstSexpFault text fault
length_fault_at text place lists fault at length-fault = record {
  lists = lists;
  shallow = at.shallow;
  bytes = drop place text;
  parts = at.parts;
  at = inr (subst (λ (n : ℕ). IsLengthFault n (drop place text) fault) (sym (place_is text place lists at)) length-fault);
}

pub short_at : (text : List ℕ) (place : ℕ) (lists : OpenLists) → IsOpenAt text place lists → length text ≤ place → IsFirstSexpFault text Short
unfolding item_fault
short_at text place lists at past = fault_at text place lists Short at (rw (drop_all place text past) refl)

pub deep_at : (text : List ℕ) (place : ℕ) (lists : OpenLists) → IsOpenAt text place lists → place < length text → get_or text place 0 ≡ 40 → length lists ≡ most_depth → IsFirstSexpFault text (Deep place)
unfolding item_fault
deep_at text place lists at within byte full =
    let test : eqb (length lists) most_depth ≡ true = eq-eqb (length lists) most_depth full in
    fault_at text place lists (Deep place) at (rw (drop_at_place text place within, byte, test) refl)

pub bad_end_at : (text : List ℕ) (place : ℕ) (lists : OpenLists) → IsOpenAt text place lists → place < length text → get_or text place 0 ≡ 41 → lists ≡ [] → IsFirstSexpFault text (BadByte place)
unfolding item_fault
bad_end_at text place lists at within byte none =
    let count : length lists ≡ 0 = ap length none in
    fault_at text place lists (BadByte place) at (rw (drop_at_place text place within, byte, count) refl)

pub bad_byte_at : (text : List ℕ) (place : ℕ) (lists : OpenLists) → IsOpenAt text place lists → place < length text
    → is_ascii_digit (get_or text place 0) ≡ false → (get_or text place 0 ≡ 40 → ⊥) → (get_or text place 0 ≡ 41 → ⊥) → IsFirstSexpFault text (BadByte place)
unfolding item_fault
bad_byte_at text place lists at within other no_open no_close =
    let first : eqb (get_or text place 0) 40 ≡ false = ne_eqb (get_or text place 0) 40 no_open in
    let second : eqb (get_or text place 0) 41 ≡ false = ne_eqb (get_or text place 0) 41 no_close in
    fault_at text place lists (BadByte place) at (rw (drop_at_place text place within, other, first, second) refl)

-- ---- the steps of the loop

pub new_list : (old new : List (Vec Sexp)) (empty : Vec Sexp) → new ≡ old ++ empty ∷ [] → empty.items ≡ [] → lists_of new ≡ lists_of old ++ [] ∷ []
new_list old new empty new-is empty-is = ap lists_of new-is ∙ map-append (λ (v : Vec Sexp). trees v.items) old (empty ∷ []) ∙ ap (λ (items : List Sexp). lists_of old ++ trees items ∷ []) empty-is

pub list_closed : (text : List ℕ) (place : ℕ) (old outer : List (Vec Sexp)) (items : Vec Sexp) (tree : Sexp) → IsOpenAt text place (lists_of old) → place < length text → get_or text place 0 ≡ 41
    → old ≡ outer ++ items ∷ [] → tree ≡ Listed (trees items.items) → IsFinished text (place + 1) (lists_of outer) (tree_of tree)
list_closed text place old outer items tree at within byte old-is tree-is =
    let lists : lists_of old ≡ lists_of outer ++ trees items.items ∷ [] = ap lists_of old-is ∙ map-append (λ (v : Vec Sexp). trees v.items) outer (items ∷ []) in
    subst (IsFinished text (place + 1) (lists_of outer)) (sym (ap tree_of tree-is))
    (list_finished text place (lists_of outer) (trees items.items) (subst (IsOpenAt text place) lists at) within byte)

pub lists_len : (v : Vec (Vec Sexp)) → length (lists_of v.items) ≡ vec_len v
lists_len v = let h = v.ok in omega (arith, length-map v.items (λ (w : Vec Sexp). trees w.items))

pub none_open : (v : Vec (Vec Sexp)) → vec_len v ≡ 0 → lists_of v.items ≡ []
none_open v h = let o = v.ok in ap lists_of (nil_from_length v.items (omega arith))
