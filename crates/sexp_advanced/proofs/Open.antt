-- Where reading stands: the open lists, and the signs up to there.
use Rattle.std.proofs.{Common.{◌≡◌, ℕ, ◌+◌, ◌-◌, ◌<◌, ◌≤◌, List, [], ◌∷◌, ◌++◌, length, drop, Option, Some, None, refl, sym, ap, subst, ◌∙◌, inl, inr, append_assoc, arith}, lemmas.List.{append-nil, Concat.flat_map-cons}}
use Rattle.std.{proofs.lemmas.Grind.flat_map-append, specs.List.flat_map}
use Rattle.sexp_canonical.specs.{Tree.{Tree, leaf, row, list_of}, View.tree_of, Spelling.{most_depth, depth}, Reading.{OpenLists, open_depth}, Adding.AddsTree, declared.tree.Sexp.Sexp}
use Rattle.sexp_canonical.proofs.Depths.{deeper_more, deeper_new, deeper_outer, deeper_last, length_le_open_depth}
use Rattle.sexp_advanced.specs.{Bytes.{is_space_byte, without_front}, Signs.{sign, IsAt}, Reading.{signs, row_signs, opening_signs, Begins, IsExpression, IsFirstAdvFault, sign_fault, place_of}, Steps.{HasNoSign, Adds}}
use Rattle.sexp_advanced.{specs.declared.{signs.Sign.{Sign, TheVariants.{Open, Close, Atom}}, fault.AdvFault.AdvFault}, proofs.Behind.{IsBehind, IsEnd, behind_shorter, behind_drop, behind_more, without_front_end, without_front_le}}
use Rattle.sexp_advanced.proofs.OneSign.{sign_behind}

-- ---- signs one after another

pub begins_more : (text mid rest : List ℕ) (xs ys : List Sign) → Begins text xs mid → Begins mid ys rest → Begins text (xs ++ ys) rest
begins_more text mid rest [] ys h g = subst (λ (t : List ℕ). Begins t ys rest) (sym h) g
begins_more text mid rest (x ∷ xs) ys h g = (h.0, h.1, begins_more h.0 mid rest xs ys h.2 g)

begins_one : (text mid rest : List ℕ) (xs : List Sign) (s : Sign) → Begins text xs mid → IsAt (without_front is_space_byte mid) (sign s rest) → Begins text (xs ++ s ∷ []) rest
begins_one text mid rest xs s h at = begins_more text mid rest xs (s ∷ []) h (rest, at, refl)

end_more : (a b c : List ℕ) → IsEnd a b → IsBehind b c → IsEnd a c
end_more a b c (inl e) g = inr (subst (λ (s : List ℕ). IsBehind s c) (sym e) g)
end_more a b c (inr h) g = inr (behind_more a b c h g)

end_end : (a b c : List ℕ) → IsEnd a b → IsEnd b c → IsEnd a c
end_end a b c h (inl e) = subst (IsEnd a) e h
end_end a b c h (inr g) = end_more a b c h g

pub begins_end : (text : List ℕ) (xs : List Sign) (rest : List ℕ) → Begins text xs rest → IsEnd rest text
begins_end text [] rest h = inl (sym h)
begins_end text (x ∷ xs) rest h =
    end_end rest (without_front is_space_byte text) text (end_more rest h.0 (without_front is_space_byte text) (begins_end h.0 xs rest h.2) (sign_behind (without_front is_space_byte text) x h.0 h.1)) (without_front_end is_space_byte text)

pub end_shorter : (rest text : List ℕ) → IsEnd rest text → length rest ≤ length text
end_shorter rest text (inl e) = let l = ap length e in omega arith
end_shorter rest text (inr h) = omega (arith, behind_shorter rest text h)

end_drop : (rest text : List ℕ) → IsEnd rest text → drop (length text - length rest) text ≡ rest
end_drop rest text (inl e) =
    let n : length text - length rest ≡ 0 = let l = ap length e in omega arith in
    rw n (sym e)
end_drop rest text (inr h) = behind_drop rest text h

-- ---- the signs of the open lists

opening_append : (xs ys : OpenLists) → opening_signs (xs ++ ys) ≡ opening_signs xs ++ opening_signs ys
opening_append [] ys = refl
opening_append (items ∷ xs) ys =
    ap (λ (s : List Sign). Open ∷ (flat_map signs items ++ s)) (opening_append xs ys) ∙ ap (λ (s : List Sign). Open ∷ s) (sym (append_assoc (flat_map signs items) (opening_signs xs) (opening_signs ys)))

opening_last : (outer : OpenLists) (items : List Tree) → opening_signs (outer ++ items ∷ []) ≡ opening_signs outer ++ Open ∷ flat_map signs items
opening_last outer items = opening_append outer (items ∷ []) ∙ ap (λ (s : List Sign). opening_signs outer ++ Open ∷ s) (append-nil (flat_map signs items))

flat_map_last : (items : List Tree) (t : Tree) → flat_map signs (items ++ t ∷ []) ≡ flat_map signs items ++ signs t
flat_map_last items t = flat_map-append signs items (t ∷ []) ∙ ap (λ (s : List Sign). flat_map signs items ++ s) (flat_map-cons signs t [] ∙ append-nil (signs t))

opening_more : (outer : OpenLists) (items : List Tree) (t : Tree) → opening_signs (outer ++ (items ++ t ∷ []) ∷ []) ≡ opening_signs (outer ++ items ∷ []) ++ signs t
opening_more outer items t =
    opening_last outer (items ++ t ∷ []) ∙ ap (λ (s : List Sign). opening_signs outer ++ Open ∷ s) (flat_map_last items t)
    ∙ sym (append_assoc (opening_signs outer) (Open ∷ flat_map signs items) (signs t)) ∙ ap (λ (s : List Sign). s ++ signs t) (sym (opening_last outer items))

row_signs_row : (ts : List Tree) → row_signs (row ts) ≡ flat_map signs ts
row_signs_row [] = refl
row_signs_row (t ∷ ts) = ap (λ (s : List Sign). signs t ++ s) (row_signs_row ts) ∙ sym (flat_map-cons signs t ts)

closed_list : (outer : OpenLists) (items : List Tree) → opening_signs (outer ++ items ∷ []) ++ Close ∷ [] ≡ opening_signs outer ++ signs (list_of items)
closed_list outer items =
    ap (λ (s : List Sign). s ++ Close ∷ []) (opening_last outer items) ∙ append_assoc (opening_signs outer) (Open ∷ flat_map signs items) (Close ∷ [])
    ∙ ap (λ (s : List Sign). opening_signs outer ++ Open ∷ (s ++ Close ∷ [])) (sym (row_signs_row items))

length_last : (outer : OpenLists) (items : List Tree) → length (outer ++ items ∷ []) ≡ length outer + 1
length_last [] items = omega arith
length_last (o ∷ outer) items = omega (arith, length_last outer items)

-- ---- places

-- the text begins with the signs of the open lists
pub record IsOpenAt (text : List ℕ) (lists : OpenLists) (rest : List ℕ) : Type 0 where
  pub shallow : open_depth lists ≤ most_depth
  pub begins : Begins text (opening_signs lists) rest

-- and with those of a tree behind them
record IsFinished (text : List ℕ) (lists : OpenLists) (tree : Tree) (rest : List ℕ) : Type 0 where
  shallow : open_depth lists ≤ most_depth
  fits : length lists + depth tree ≤ most_depth
  begins : Begins text (opening_signs lists ++ signs tree) rest

pub at_front : (text : List ℕ) → IsOpenAt text [] text
at_front text = record { shallow = omega arith; begins = refl }

pub rest_shorter : (text : List ℕ) (lists : OpenLists) (rest : List ℕ) → IsOpenAt text lists rest → length rest ≤ length text
rest_shorter text lists rest at = end_shorter rest text (begins_end text (opening_signs lists) rest at.begins)

atom_finished : (text : List ℕ) (lists : OpenLists) (rest more bytes : List ℕ) → IsOpenAt text lists rest → IsAt (without_front is_space_byte rest) (sign (Atom bytes) more) → IsFinished text lists (leaf bytes) more
atom_finished text lists rest more bytes at here = record {
  shallow = at.shallow;
  fits = let s = at.shallow in omega (arith, length_le_open_depth lists);
  begins = begins_one text rest more (opening_signs lists) (Atom bytes) at.begins here;
}

list_finished : (text : List ℕ) (outer : OpenLists) (items : List Tree) (rest more : List ℕ) → IsOpenAt text (outer ++ items ∷ []) rest → IsAt (without_front is_space_byte rest) (sign Close more)
    → IsFinished text outer (list_of items) more
list_finished text outer items rest more at here = record {
  shallow = let s = at.shallow in omega (arith, deeper_outer outer items);
  fits = let s = at.shallow in omega (arith, deeper_last outer items);
  begins = subst (λ (xs : List Sign). Begins text xs more) (closed_list outer items) (begins_one text rest more (opening_signs (outer ++ items ∷ [])) Close at.begins here);
}

list_opened : (text : List ℕ) (lists : OpenLists) (rest more : List ℕ) → IsOpenAt text lists rest → IsAt (without_front is_space_byte rest) (sign Open more) → (length lists ≡ most_depth → ⊥) → IsOpenAt text (lists ++ [] ∷ []) more
list_opened text lists rest more at here room = record {
  shallow = let s = at.shallow in let l = length_le_open_depth lists in let less : length lists < most_depth = omega arith in omega (arith, deeper_new lists);
  begins = subst (λ (xs : List Sign). Begins text xs more) (sym (opening_last lists [])) (begins_one text rest more (opening_signs lists) Open at.begins here);
}

-- what has been read where a sign more is taken: the open lists, or the whole
abbrev pub IsTaken : (text : List ℕ) (lists : OpenLists) (more : List ℕ) → Option Sexp → Type 0
IsTaken text lists more None = IsOpenAt text lists more
IsTaken text lists more (Some whole) = IsExpression text whole (length text - length more)

tree_added : (text : List ℕ) (old new : OpenLists) (t : Tree) (more : List ℕ) (r : Option Sexp) → IsFinished text old t more → AddsTree old new t r → IsTaken text new more r
tree_added text old new t more None done adds =
    let outer = adds.outer in
    let items = adds.items in
    let lists = ap length adds.before ∙ length_last outer items in
    record {
      shallow =
          let s = done.shallow in
          let f = done.fits in
          let d = ap open_depth adds.before in
          let e = ap open_depth adds.after in
          omega (arith, deeper_more outer items t);
      begins = subst (λ (xs : List Sign). Begins text xs more)
          (ap (λ (ls : OpenLists). opening_signs ls ++ signs t) adds.before ∙ sym (opening_more outer items t) ∙ ap opening_signs (sym adds.after)) done.begins;
    }
tree_added text old new t more (Some whole) done (none, same) =
    let whole-signs : opening_signs old ++ signs t ≡ signs (tree_of whole) = ap (λ (ls : OpenLists). opening_signs ls ++ signs t) none ∙ ap signs (sym same) in
    let begins : Begins text (signs (tree_of whole)) more = subst (λ (xs : List Sign). Begins text xs more) whole-signs done.begins in
    let end = begins_end text (signs (tree_of whole)) more begins in
    let f = done.fits in
    record {
      within = omega (arith, end_shorter more text end);
      shallow = omega (arith, ap depth same);
      spelled = subst (Begins text (signs (tree_of whole))) (sym (end_drop more text end)) begins;
    }

pub sign_taken : (text : List ℕ) (old new : OpenLists) (rest more : List ℕ) (s : Sign) (r : Option Sexp) → IsOpenAt text old rest → IsAt (without_front is_space_byte rest) (sign s more) → Adds old new s r → IsTaken text new more r
sign_taken text old new rest more Open None at here (room, new-is) = subst (λ (ls : OpenLists). IsOpenAt text ls more) (sym new-is) (list_opened text old rest more at here room)
sign_taken text old new rest more Open (Some whole) at here adds = absurd adds
sign_taken text old new rest more Close r at here adds =
    let at-last : IsOpenAt text (adds.outer ++ adds.items ∷ []) rest = subst (λ (ls : OpenLists). IsOpenAt text ls rest) adds.before at in
    tree_added text adds.outer new (list_of adds.items) more r (list_finished text adds.outer adds.items rest more at-last here) adds.adds
sign_taken text old new rest more (Atom bytes) r at here adds = tree_added text old new (leaf bytes) more r (atom_finished text old rest more bytes at here) adds

-- ---- faults

pub sign_refused : (text : List ℕ) (lists : OpenLists) (rest more : List ℕ) (s : Sign) (fault : AdvFault) → IsOpenAt text lists rest → IsAt (without_front is_space_byte rest) (sign s more)
    → sign_fault (place_of text (without_front is_space_byte rest)) (length lists) s ≡ Some fault → IsFirstAdvFault text fault
sign_refused text lists rest more s fault at here is = record { lists = lists; shallow = at.shallow; rest = rest; begins = at.begins; found = sign s more; stands = here; is = is }

pub no_sign_here : (text : List ℕ) (lists : OpenLists) (rest : List ℕ) (fault : AdvFault) → IsOpenAt text lists rest
    → HasNoSign (IsAt (without_front is_space_byte rest)) (place_of text (without_front is_space_byte rest)) fault → IsFirstAdvFault text fault
no_sign_here text lists rest fault at h = record { lists = lists; shallow = at.shallow; rest = rest; begins = at.begins; found = h.found; stands = h.stands; is = h.is (length lists) }

-- ---- the steps of the loop

pub item_shorter : (text item : List ℕ) (lists : OpenLists) (rest : List ℕ) → IsOpenAt text lists rest → item ≡ without_front is_space_byte rest → length item ≤ length text
item_shorter text item lists rest at e = let l = ap length e in omega (arith, rest_shorter text lists rest at, without_front_le is_space_byte rest)

pub more_shorter : (item rest more : List ℕ) (s : Sign) → item ≡ without_front is_space_byte rest → IsAt item (sign s more) → length more < length rest
more_shorter item rest more s e here = let l = ap length e in omega (arith, behind_shorter more item (sign_behind item s more here), without_front_le is_space_byte rest)

pub taken_here : (text item : List ℕ) (old new : OpenLists) (rest more : List ℕ) (s : Sign) (r : Option Sexp) → IsOpenAt text old rest → item ≡ without_front is_space_byte rest → IsAt item (sign s more) → Adds old new s r
    → IsTaken text new more r
taken_here text item old new rest more s r at e here adds = sign_taken text old new rest more s r at (subst (λ (t : List ℕ). IsAt t (sign s more)) e here) adds
