-- A text has one answer at most: no fault where an expression is read, and no two faults.
use Rattle.std.proofs.Common.{◌≡◌, ℕ, ◌+◌, ◌*◌, ◌-◌, ◌<◌, ◌≤◌, Bool, true, false, cond, ◌||◌, eqb, ltb, List, [], ◌∷◌, ◌++◌, length, Option, Some, None, refl, sym, ap, subst, ◌∙◌, ◌⊎◌, inl, inr, append_assoc, arith, length-append}
use Rattle.std.{proofs.lemmas.{Bool.{le-ltb, ltb-true, eqb-true, ne_eqb, lt-ltb}, List.Concat.flat_map-cons}, specs.{List.flat_map, Char.is_ascii_digit}}
use Rattle.sexp_canonical.specs.{Tree.{Tree, Row, leaf, branch, end, item, row}, Spelling.{most_bytes, most_depth, numeral, spelling, spellings, depth, depths}}
use Rattle.sexp_canonical.{specs.{Reading.{OpenLists, opening_bytes, open_depth, item_fault, length_fault, IsFaultAt}, declared.fault.SexpFault.{SexpFault, TheVariants.BadLength}}, proofs.Numerals.{Ends, one_numeral}}
use Rattle.sexp_canonical.proofs.Trees.{numeral_begins, no_numeral, first_is, rest_is, leaf_then, branch_then, item_then, no_end, colon_ends, one_spelling}

abbrev fault_or_none : Option SexpFault
fault_or_none = None

abbrev some_fault : SexpFault → Option SexpFault
some_fault f = Some f

-- ---- at one item

no_fault_at_digit : (place lists_open b : ℕ) (more : List ℕ) (fault : SexpFault) → is_ascii_digit b ≡ true → item_fault place lists_open (b ∷ more) ≡ Some fault → ⊥
unfolding item_fault
no_fault_at_digit place lists_open b more fault digit e = let none : fault_or_none ≡ Some fault = (rw digit at e) in cc

no_fault_at_numeral : (place lists_open n : ℕ) (x : List ℕ) (fault : SexpFault) → item_fault place lists_open (numeral n ++ x) ≡ Some fault → ⊥
no_fault_at_numeral place lists_open n x fault e =
    let d = numeral_begins n in
    no_fault_at_digit place lists_open d.first (d.others ++ x) fault d.digit (ap (λ (s : List ℕ). item_fault place lists_open (s ++ x)) (sym d.parts) ∙ e)

no_fault_at_list : (place lists_open : ℕ) (more : List ℕ) (fault : SexpFault) → lists_open < most_depth → item_fault place lists_open (40 ∷ more) ≡ Some fault → ⊥
unfolding item_fault
no_fault_at_list place lists_open more fault room e =
    let other : eqb lists_open most_depth ≡ false = ne_eqb lists_open most_depth (λ same. omega arith) in
    let none : fault_or_none ≡ Some fault = (rw other at e) in
    cc

no_fault_at_end : (place lists_open : ℕ) (more : List ℕ) (fault : SexpFault) → 0 < lists_open → item_fault place lists_open (41 ∷ more) ≡ Some fault → ⊥
unfolding item_fault
no_fault_at_end place lists_open more fault within e =
    let inside : ltb 0 lists_open ≡ true = lt-ltb 0 lists_open within in
    let none : fault_or_none ≡ Some fault = (rw inside at e) in
    cc

no_fault_at_colon : (place n : ℕ) (x : List ℕ) (fault : SexpFault) → n ≤ length x → length_fault place n (58 ∷ x) ≡ Some fault → ⊥
unfolding length_fault
no_fault_at_colon place n x fault room e =
    let enough : ltb (length x) n ≡ false = le-ltb (length x) n room in
    let none : fault_or_none ≡ Some fault = (rw enough at e) in
    cc

-- a test that gave something held
pub held : {A : Type 0} (b : Bool) (x y : A) → cond b (Some x) None ≡ Some y → (b ≡ true) × (x ≡ y)
held true x y e = (refl, cc)
held false x y e = absurd cc

pub or_true : (a b : Bool) → (a || b) ≡ true → (a ≡ true) ⊎ (b ≡ true)
or_true true b e = inl refl
or_true false b e = inr e

-- behind a numeral where a fault stands no longer one goes on
pub fault_ends : (place n : ℕ) (x : List ℕ) (fault : SexpFault) → length_fault place n x ≡ Some fault → Ends most_bytes n x
unfolding length_fault
fault_ends place n [] fault e = tt
fault_ends place n (b ∷ more) fault e =
    λ digit.
    let test = held (eqb n 0 || ltb most_bytes (10 * n + (b - 48))) (BadLength place) fault (rw digit at e) in
    elim (or_true (eqb n 0) (ltb most_bytes (10 * n + (b - 48))) test.0) [
      | inl z ↦ inl (eqb-true n 0 z)
      | inr high ↦ inr (ltb-true most_bytes (10 * n + (b - 48)) high)
    ]

-- where the spelling of a tree within the limits stands there is no fault
no_fault_here : (t : Tree) (bytes y : List ℕ) (place lists_open : ℕ) (fault : SexpFault) → bytes ≡ spelling t ++ y → length bytes ≤ most_bytes → lists_open + depth t ≤ most_depth → IsFaultAt place lists_open bytes fault → ⊥
no_fault_here (leaf b) bytes y place lists_open fault e short shallow (inl at) =
    no_fault_at_numeral place lists_open (length b) (58 ∷ (b ++ y)) fault (ap (item_fault place lists_open) (sym (e ∙ leaf_then b y)) ∙ at)
no_fault_here (leaf b) bytes y place lists_open fault e short shallow (inr at) =
    let whole : bytes ≡ numeral (length b) ++ 58 ∷ (b ++ y) = e ∙ leaf_then b y in
    let len : length b ≤ most_bytes = omega (arith, ap length whole, length-append (numeral (length b)) (58 ∷ (b ++ y)), length-append b y) in
    let same = one_numeral most_bytes at.count (length b) at.after (58 ∷ (b ++ y)) at.within len (fault_ends place at.count at.after fault at.at) (colon_ends most_bytes (length b) (b ++ y)) (sym at.parts ∙ whole) in
    no_fault_at_colon place at.count (b ++ y) fault (omega (arith, same.0, length-append b y)) (ap (length_fault place at.count) (sym same.1) ∙ at.at)
no_fault_here (branch r) bytes y place lists_open fault e short shallow (inl at) =
    no_fault_at_list place lists_open (spellings r ++ 41 ∷ y) fault (omega arith) (ap (item_fault place lists_open) (sym (e ∙ branch_then r y)) ∙ at)
no_fault_here (branch r) bytes y place lists_open fault e short shallow (inr at) =
    no_numeral at.count 40 at.after (spellings r ++ 41 ∷ y) refl (sym at.parts ∙ e ∙ branch_then r y)

no_fault_at_close : (bytes y : List ℕ) (place lists_open : ℕ) (fault : SexpFault) → bytes ≡ 41 ∷ y → 0 < lists_open → IsFaultAt place lists_open bytes fault → ⊥
no_fault_at_close bytes y place lists_open fault e within (inl at) = no_fault_at_end place lists_open y fault within (ap (item_fault place lists_open) (sym e) ∙ at)
no_fault_at_close bytes y place lists_open fault e within (inr at) = no_numeral at.count 41 at.after y refl (sym at.parts ∙ e)

no_fault_at_open : (bytes y : List ℕ) (place lists_open : ℕ) (fault : SexpFault) → bytes ≡ 40 ∷ y → lists_open < most_depth → IsFaultAt place lists_open bytes fault → ⊥
no_fault_at_open bytes y place lists_open fault e room (inl at) = no_fault_at_list place lists_open y fault room (ap (item_fault place lists_open) (sym e) ∙ at)
no_fault_at_open bytes y place lists_open fault e room (inr at) = no_numeral at.count 40 at.after y refl (sym at.parts ∙ e)

-- at one place stands one fault
one_fault_here : (bytes : List ℕ) (place lists_open : ℕ) (f g : SexpFault) → IsFaultAt place lists_open bytes f → IsFaultAt place lists_open bytes g → f ≡ g
one_fault_here bytes place lists_open f g (inl a) (inl b) = let same : some_fault f ≡ some_fault g = sym a ∙ b in cc
one_fault_here bytes place lists_open f g (inl a) (inr b) = absurd (no_fault_at_numeral place lists_open b.count b.after f (ap (item_fault place lists_open) (sym b.parts) ∙ a))
one_fault_here bytes place lists_open f g (inr a) (inl b) = absurd (no_fault_at_numeral place lists_open a.count a.after g (ap (item_fault place lists_open) (sym a.parts) ∙ b))
one_fault_here bytes place lists_open f g (inr a) (inr b) =
    let same = one_numeral most_bytes a.count b.count a.after b.after a.within b.within (fault_ends place a.count a.after f a.at) (fault_ends place b.count b.after g b.at) (sym a.parts ∙ b.parts) in
    let again : length_fault place a.count a.after ≡ length_fault place b.count b.after = let n = same.0 in let x = same.1 in cc in
    let both : some_fault f ≡ some_fault g = sym a.at ∙ again ∙ b.at in
    cc

-- ---- under open lists

opening_then : (items : List Tree) (inner : OpenLists) (x : List ℕ) → opening_bytes (items ∷ inner) ++ x ≡ 40 ∷ (flat_map spelling items ++ (opening_bytes inner ++ x))
opening_then items inner x = ap (λ (s : List ℕ). 40 ∷ s) (append_assoc (flat_map spelling items) (opening_bytes inner) x)

items_then : (t : Tree) (ts : List Tree) (x : List ℕ) → flat_map spelling (t ∷ ts) ++ x ≡ spelling t ++ (flat_map spelling ts ++ x)
items_then t ts x = ap (λ (s : List ℕ). s ++ x) (flat_map-cons spelling t ts) ∙ append_assoc (spelling t) (flat_map spelling ts) x

-- no fault stands in these lists where a tree of at most this depth is spelled
abbrev NoFaultIn : OpenLists → List ℕ → (place lists_open : ℕ) → SexpFault → ℕ → Type 0
NoFaultIn inner bytes place lists_open fault k =
    (t : Tree) (y : List ℕ) → opening_bytes inner ++ bytes ≡ spelling t ++ y → k + depth t ≤ most_depth → ⊥

no_fault_inside : (items : List Tree) (inner : OpenLists) (bytes y : List ℕ) (place lists_open k : ℕ) (fault : SexpFault) (r : Row)
    → NoFaultIn inner bytes place lists_open fault k → flat_map spelling items ++ (opening_bytes inner ++ bytes) ≡ spellings r ++ 41 ∷ y
    → 0 < k → k + depths r ≤ most_depth → lists_open ≡ k + length inner → IsFaultAt place lists_open bytes fault → ⊥
no_fault_inside [] [] bytes y place lists_open k fault end deeper e within shallow count at = no_fault_at_close bytes y place lists_open fault e (omega arith) at
no_fault_inside [] (items ∷ inner) bytes y place lists_open k fault end deeper e within shallow count at =
    let same = first_is 40 41 (flat_map spelling items ++ (opening_bytes inner ++ bytes)) y (sym (opening_then items inner bytes) ∙ e) in omega arith
no_fault_inside [] inner bytes y place lists_open k fault (item t r) deeper e within shallow count at =
    deeper t (spellings r ++ 41 ∷ y) (e ∙ item_then t r (41 ∷ y)) (omega arith)
no_fault_inside (i ∷ items) inner bytes y place lists_open k fault end deeper e within shallow count at =
    no_end i (flat_map spelling items ++ (opening_bytes inner ++ bytes)) y (sym (items_then i items (opening_bytes inner ++ bytes)) ∙ e)
no_fault_inside (i ∷ items) inner bytes y place lists_open k fault (item t r) deeper e within shallow count at =
    let cut = one_spelling i t (flat_map spelling items ++ (opening_bytes inner ++ bytes)) (spellings r ++ 41 ∷ y) (sym (items_then i items (opening_bytes inner ++ bytes)) ∙ e ∙ item_then t r (41 ∷ y)) in
    no_fault_inside items inner bytes y place lists_open k fault r deeper cut.1 within (omega arith) count at

pub no_fault : (lists : OpenLists) (bytes : List ℕ) (place lists_open k : ℕ) (fault : SexpFault) → length (opening_bytes lists ++ bytes) ≤ most_bytes → lists_open ≡ k + length lists → IsFaultAt place lists_open bytes fault
    → NoFaultIn lists bytes place lists_open fault k
no_fault [] bytes place lists_open k fault short count at t y e shallow = no_fault_here t bytes y place lists_open fault e short (omega arith) at
no_fault (items ∷ inner) bytes place lists_open k fault short count at (leaf b) y e shallow =
    no_numeral (length b) 40 (58 ∷ (b ++ y)) (flat_map spelling items ++ (opening_bytes inner ++ bytes)) refl (sym (leaf_then b y) ∙ sym e ∙ opening_then items inner bytes)
no_fault (items ∷ inner) bytes place lists_open k fault short count at (branch r) y e shallow =
    let whole : 40 ∷ (flat_map spelling items ++ (opening_bytes inner ++ bytes)) ≡ 40 ∷ (spellings r ++ 41 ∷ y) = sym (opening_then items inner bytes) ∙ e ∙ branch_then r y in
    let inside = rest_is 40 40 (flat_map spelling items ++ (opening_bytes inner ++ bytes)) (spellings r ++ 41 ∷ y) whole in
    let len : length (opening_bytes inner ++ bytes) ≤ most_bytes = omega (arith, ap length (opening_then items inner bytes), length-append (flat_map spelling items) (opening_bytes inner ++ bytes)) in
    no_fault_inside items inner bytes y place lists_open (k + 1) fault r
    (no_fault inner bytes place lists_open (k + 1) fault len (omega arith) at)
    inside (omega arith) (omega arith) (omega arith) at

-- ---- two readings of one text

module _ (inner more : OpenLists) (bytes others : List ℕ) (k p q i j : ℕ) (f g : SexpFault) (f-at : IsFaultAt p i bytes f) (g-at : IsFaultAt q j others g) (f-count : i ≡ k + length inner) (g-count : j ≡ k + length more)
    (deeper : (place : ℕ) → p ≡ place + length (opening_bytes inner) → q ≡ place + length (opening_bytes more) → opening_bytes inner ++ bytes ≡ opening_bytes more ++ others → f ≡ g) where
  one_fault_inside : (ts us : List Tree) (place : ℕ) → flat_map spelling ts ++ (opening_bytes inner ++ bytes) ≡ flat_map spelling us ++ (opening_bytes more ++ others)
      → length (flat_map spelling ts ++ (opening_bytes inner ++ bytes)) ≤ most_bytes → k + depths (row ts) ≤ most_depth → k + depths (row us) ≤ most_depth
      → p ≡ place + length (flat_map spelling ts) + length (opening_bytes inner) → q ≡ place + length (flat_map spelling us) + length (opening_bytes more) → f ≡ g
  one_fault_inside [] [] place e short low high p-is q-is = deeper place (omega arith) (omega arith) e
  one_fault_inside [] (u ∷ us) place e short low high p-is q-is =
      absurd (no_fault inner bytes p i k f short f-count f-at u (flat_map spelling us ++ (opening_bytes more ++ others)) (e ∙ items_then u us (opening_bytes more ++ others)) (omega arith))
  one_fault_inside (t ∷ ts) [] place e short low high p-is q-is =
      absurd (no_fault more others q j k g (omega (arith, ap length e)) g-count g-at t (flat_map spelling ts ++ (opening_bytes inner ++ bytes)) (sym e ∙ items_then t ts (opening_bytes inner ++ bytes)) (omega arith))
  one_fault_inside (t ∷ ts) (u ∷ us) place e short low high p-is q-is =
      let cut = one_spelling t u (flat_map spelling ts ++ (opening_bytes inner ++ bytes)) (flat_map spelling us ++ (opening_bytes more ++ others)) (sym (items_then t ts (opening_bytes inner ++ bytes)) ∙ e ∙ items_then u us (opening_bytes more ++ others)) in
      let same-len : length (spelling t) ≡ length (spelling u) = ap (λ (v : Tree). length (spelling v)) cut.0 in
      let t-len : length (flat_map spelling (t ∷ ts)) ≡ length (spelling t) + length (flat_map spelling ts) = ap length (flat_map-cons spelling t ts) ∙ length-append (spelling t) (flat_map spelling ts) in
      let u-len : length (flat_map spelling (u ∷ us)) ≡ length (spelling u) + length (flat_map spelling us) = ap length (flat_map-cons spelling u us) ∙ length-append (spelling u) (flat_map spelling us) in
      let whole : length (flat_map spelling (t ∷ ts) ++ (opening_bytes inner ++ bytes)) ≡ length (spelling t) + length (flat_map spelling ts ++ (opening_bytes inner ++ bytes)) =
      ap length (items_then t ts (opening_bytes inner ++ bytes)) ∙ length-append (spelling t) (flat_map spelling ts ++ (opening_bytes inner ++ bytes)) in
      one_fault_inside ts us (place + length (spelling t)) cut.1 (omega arith) (omega arith) (omega arith) (omega arith) (omega arith)

pub one_fault : (ls ms : OpenLists) (bytes others : List ℕ) (place k p q i j : ℕ) (f g : SexpFault) → opening_bytes ls ++ bytes ≡ opening_bytes ms ++ others → length (opening_bytes ls ++ bytes) ≤ most_bytes
    → k + open_depth ls ≤ most_depth → k + open_depth ms ≤ most_depth → p ≡ place + length (opening_bytes ls) → q ≡ place + length (opening_bytes ms) → i ≡ k + length ls → j ≡ k + length ms
    → IsFaultAt p i bytes f → IsFaultAt q j others g → f ≡ g
one_fault [] [] bytes others place k p q i j f g e short low high p-is q-is i-is j-is f-at g-at =
    let same-place : q ≡ p = omega arith in
    let same-count : j ≡ i = omega arith in
    one_fault_here bytes p i f g f-at (subst (λ (x : ℕ × ℕ × List ℕ). IsFaultAt x.0 x.1 x.2 g) (λ n. (same-place n, same-count n, sym e n)) g-at)
one_fault [] (us ∷ ms) bytes others place k p q i j f g e short low high p-is q-is i-is j-is f-at g-at =
    absurd (no_fault_at_open bytes (flat_map spelling us ++ (opening_bytes ms ++ others)) p i f (e ∙ opening_then us ms others) (omega arith) f-at)
one_fault (ts ∷ ls) [] bytes others place k p q i j f g e short low high p-is q-is i-is j-is f-at g-at =
    absurd (no_fault_at_open others (flat_map spelling ts ++ (opening_bytes ls ++ bytes)) q j g (sym e ∙ opening_then ts ls bytes) (omega arith) g-at)
one_fault (ts ∷ ls) (us ∷ ms) bytes others place k p q i j f g e short low high p-is q-is i-is j-is f-at g-at =
    let whole : 40 ∷ (flat_map spelling ts ++ (opening_bytes ls ++ bytes)) ≡ 40 ∷ (flat_map spelling us ++ (opening_bytes ms ++ others)) = sym (opening_then ts ls bytes) ∙ e ∙ opening_then us ms others in
    let inside = rest_is 40 40 (flat_map spelling ts ++ (opening_bytes ls ++ bytes)) (flat_map spelling us ++ (opening_bytes ms ++ others)) whole in
    let len : length (flat_map spelling ts ++ (opening_bytes ls ++ bytes)) ≤ most_bytes = omega (arith, ap length (opening_then ts ls bytes)) in
    one_fault_inside ls ms bytes others (k + 1) p q i j f g f-at g-at (omega arith) (omega arith)
    (λ at p-at q-at same. one_fault ls ms bytes others at (k + 1) p q i j f g same (omega (arith, length-append (flat_map spelling ts) (opening_bytes ls ++ bytes))) (omega arith) (omega arith) p-at q-at (omega arith) (omega arith) f-at g-at)
    ts us (place + 1) inside len (omega arith) (omega arith)
    (omega (arith, length-append (flat_map spelling ts) (opening_bytes ls)))
    (omega (arith, length-append (flat_map spelling us) (opening_bytes ms)))
