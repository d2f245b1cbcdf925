-- Slots by their ids and numbers: what the order of ids says, and that each call keeps slots in order.
use Rattle.std.specs.{Prelude.{◌≡◌, ℕ, ◌<◌, ◌≤◌, ◌==◌, List, [], ◌∷◌, ◌++◌, ◌⊎◌, Bool, true, false, max, map, filter, take, drop, cond, nat_lt, refl}, Cmp.{IsTotalOrder, Lexicographic.slice_cmp}, declared.cmp.Ordering.Ordering}
use Rattle.std.{specs.{declared.cmp.Ordering.TheVariants.{Less, Equal, Greater}, Ordering.{nat_cmp, ordering_then, ordering_reverse, is_lt, is_le}, List.AllByRecursion}, proofs.Common.{ap, sym, ◌∙◌, subst, arith, zero, suc, inl, inr}}
use Rattle.std.proofs.lemmas.{Bool.Decides.nat_tests, Cmp.{ranked, by_ranked, nat_cmp_total, nat_list_cmp_total, on_total, then_total, alike_right}}
use Rattle.cache_policy.{specs.{declared.{mode.Mode.TheVariants.{Normal, User, Ssh, Nonce, Any}, entry.Entry.Entry}, Mode.covers, Entry.same_id}, proofs.Lists.all_weaker}
use Rattle.cache_book.specs.{declared.slot.Slot.Slot, Hashes.id_hash, Modes.{modes_where, has_some, not_covered}, Shelves.{IsOneOf, here, further, touch_slot, touched, hide, hidden, new_slot, AreBelow}, Arranged.placed}
use Rattle.cache_book.specs.SlotOrders.{id_cmp, is_upto, has_lower_hash, has_hash_upto, comes_before, is_older, by_number, AreById, HaveOwnNumbers, AreKept}
use Rattle.cache_book.proofs.{Kept.{all_filter, all_map, within_touched, within_hide, within_new_slot, within_filter}, Live.same_ids}
use Rattle.cache_book.proofs.Arranging.{IsOrder, all_insert, pairs_filter, pairs_map, pairs_insert, arranged_map, arranged_filter, arranged_last}

-- the order of ids
id_cmp_total : IsTotalOrder id_cmp
id_cmp_total = then_total (on_total id_hash nat_cmp_total) nat_list_cmp_total

less_or_equal : (o p : Ordering) → is_lt (ordering_then o p) ≡ true → (o ≡ Less) ⊎ (o ≡ Equal)
less_or_equal Less p h = inl refl
less_or_equal Equal p h = inr refl
less_or_equal Greater p h = cc

upto_cases : (o : Ordering) → is_le o ≡ true → (o ≡ Less) ⊎ (o ≡ Equal)
upto_cases Less h = inl refl
upto_cases Equal h = inr refl
upto_cases Greater h = cc

is_greater : (o : Ordering) → is_le o ≡ false → o ≡ Greater
is_greater Less h = cc
is_greater Equal h = cc
is_greater Greater h = refl

-- the hashes of slots in order rise
rise_of : (m n : ℕ) (o p : Ordering) → is_lt (ordering_then (ordering_then (nat_cmp m n) o) p) ≡ true → m ≤ n
rise_of m n o p h = by_ranked (m < n) (m ≡ n) (n < m) (nat_cmp m n) (ranked m n (nat_cmp m n) refl)
    (λ e lt. omega arith) (λ e same. omega arith)
    (λ e gt. let not : is_lt (ordering_then (ordering_then (nat_cmp m n) o) p) ≡ false = ap (λ (q : Ordering). is_lt (ordering_then (ordering_then q o) p)) e in cc)

hashes_rise : (a b : Slot) → comes_before a b ≡ true → id_hash a.entry.id ≤ id_hash b.entry.id
hashes_rise a b h = rise_of (id_hash a.entry.id) (id_hash b.entry.id) (slice_cmp nat_cmp a.entry.id b.entry.id) (nat_cmp a.entry.number b.entry.number) h

-- what comes before a slot whose id is no higher, or whose hash is lower or no higher, is so too
pub upto_back : (id : List ℕ) (a b : Slot) → comes_before a b ≡ true → is_upto id b ≡ true → is_upto id a ≡ true
upto_back id a b h upto =
    elim (less_or_equal (id_cmp a.entry.id b.entry.id) (nat_cmp a.entry.number b.entry.number) h) [
      | inl less ↦ elim (upto_cases (id_cmp b.entry.id id) upto) [
        | inl below ↦ ap is_le (id_cmp_total.trans a.entry.id b.entry.id id less below)
        | inr equal ↦ ap is_le (sym (alike_right id_cmp_total b.entry.id id a.entry.id equal) ∙ less)
      ]
      | inr equal ↦ ap is_le (id_cmp_total.congr a.entry.id b.entry.id id equal) ∙ upto
    ]

pub lower_back : (hash : ℕ) (a b : Slot) → comes_before a b ≡ true → has_lower_hash hash b ≡ true → has_lower_hash hash a ≡ true
lower_back hash a b h lower = let rise = hashes_rise a b h in grind (arith, nat_tests)

pub hash_upto_back : (hash : ℕ) (a b : Slot) → comes_before a b ≡ true → has_hash_upto hash b ≡ true → has_hash_upto hash a ≡ true
hash_upto_back hash a b h upto = let rise = hashes_rise a b h in grind (arith, nat_tests)

-- a slot with another hash has another id
pub hash_apart : (id : List ℕ) (hash : ℕ) (slot : Slot) → hash ≡ id_hash id → (hash == id_hash slot.entry.id) ≡ false → same_id slot.entry.id id ≡ false
hash_apart id hash slot is apart =
    elim (same_id slot.entry.id id) as (λ b. same_id slot.entry.id id ≡ b → b ≡ false) [
      | true ↦ λ e. let tie : (hash == id_hash slot.entry.id) ≡ true = tied hash (id_hash slot.entry.id) (is ∙ ap id_hash (sym (same_ids slot.entry.id id e))) in cc
      | false ↦ λ e. refl
    ] refl
  where
    tied : (m n : ℕ) → m ≡ n → (m == n) ≡ true
    tied m n e = grind (arith, nat_tests)

-- where a newer slot of an id stands
older_first : (a b : Slot) → is_upto b.entry.id a ≡ true → a.entry.number < b.entry.number → comes_before a b ≡ true
older_first a b upto older =
    elim (upto_cases (id_cmp a.entry.id b.entry.id) upto) [
      | inl less ↦ ap (λ (o : Ordering). is_lt (ordering_then o (nat_cmp a.entry.number b.entry.number))) less
      | inr equal ↦ ap (λ (o : Ordering). is_lt (ordering_then o (nat_cmp a.entry.number b.entry.number))) equal ∙ below a.entry.number b.entry.number older
    ]
  where
    below : (m n : ℕ) → m < n → is_lt (nat_cmp m n) ≡ true
    below m n h = let e : nat_lt m n ≡ true = grind (arith, nat_tests) in ap (λ b. is_lt (cond b Less (cond (m == n) Equal Greater))) e

higher_later : (a b : Slot) → is_upto b.entry.id a ≡ false → comes_before b a ≡ true
higher_later a b past =
    ap (λ (o : Ordering). is_lt (ordering_then o (nat_cmp b.entry.number a.entry.number)))
    (id_cmp_total.antisymm b.entry.id a.entry.id ∙ ap ordering_reverse (is_greater (id_cmp a.entry.id b.entry.id) past))

-- the order of numbers
pub older_order : IsOrder is_older
older_order = record {
  other = λ a b h. asymmetric a.entry.number b.entry.number h;
  through = λ a b c h k. lower a.entry.number b.entry.number c.entry.number h k;
}
  where
    asymmetric : (m n : ℕ) → nat_lt m n ≡ true → nat_lt n m ≡ false
    asymmetric m n h = grind (arith, nat_tests)

    lower : (m n k : ℕ) → nat_lt m n ≡ true → nat_lt k n ≡ false → nat_lt m k ≡ true
    lower m n k h i = grind (arith, nat_tests)

-- a change that leaves the entry of each slot
module _ (f : Slot → Slot) (same : (slot : Slot) → (f slot).entry ≡ slot.entry) where
  by_id_map : (a b : Slot) → comes_before a b ≡ true → comes_before (f a) (f b) ≡ true
  by_id_map a b h =
      ap (λ (e : Entry). is_lt (ordering_then (id_cmp e.id (f b).entry.id) (nat_cmp e.number (f b).entry.number))) (same a)
      ∙ (ap (λ (e : Entry). is_lt (ordering_then (id_cmp a.entry.id e.id) (nat_cmp a.entry.number e.number))) (same b) ∙ h)

  own_map : (a b : Slot) → (a.entry.number == b.entry.number) ≡ false → ((f a).entry.number == (f b).entry.number) ≡ false
  own_map a b h =
      ap (λ (e : Entry). e.number == (f b).entry.number) (same a) ∙ (ap (λ (e : Entry). a.entry.number == e.number) (same b) ∙ h)

  older_map : (a b : Slot) → is_older (f a) (f b) ≡ is_older a b
  older_map a b = ap (λ (e : Entry). nat_lt e.number (f b).entry.number) (same a) ∙ ap (λ (e : Entry). nat_lt a.entry.number e.number) (same b)

  pub kept_by_id : (list : List Slot) → AreById list → AreById (map f list)
  kept_by_id list h = pairs_map (λ a b. comes_before a b ≡ true) f by_id_map list h

  pub kept_own : (list : List Slot) → HaveOwnNumbers list → HaveOwnNumbers (map f list)
  kept_own list h = pairs_map (λ a b. (a.entry.number == b.entry.number) ≡ false) f own_map list h

  pub by_number_map : (list : List Slot) → by_number (map f list) ≡ map f (by_number list)
  by_number_map list = arranged_map is_older f older_map list

pub touch_entry : (number now : ℕ) (slot : Slot) → (touch_slot number now slot).entry ≡ slot.entry
touch_entry number now slot =
    elim (number == slot.entry.number) as (λ b. (cond b (record slot { last = max slot.last now }) slot).entry ≡ slot.entry) [ true ↦ refl | false ↦ refl ]

pub hide_entry : (entry : Entry) (slot : Slot) → (hide entry slot).entry ≡ slot.entry
hide_entry entry slot =
    elim (same_id entry.id slot.entry.id) as (λ b. (cond b (record slot { modes = not_covered entry.mode slot.modes }) slot).entry ≡ slot.entry) [ true ↦ refl | false ↦ refl ]

touch_serving : (number now : ℕ) (slot : Slot) → has_some slot.modes ≡ true → has_some (touch_slot number now slot).modes ≡ true
touch_serving number now slot h =
    elim (number == slot.entry.number) as (λ b. has_some (cond b (record slot { last = max slot.last now }) slot).modes ≡ true) [ true ↦ h | false ↦ h ]

all_pass : (test : Slot → Bool) (list : List Slot) → AllByRecursion (λ slot. test slot ≡ true) (filter test list)
all_pass test [] = tt
all_pass test (slot ∷ later) =
    elim (test slot) as (λ b. test slot ≡ b → AllByRecursion (λ s. test s ≡ true) (cond b (slot ∷ filter test later) (filter test later))) [
      | true ↦ λ e. (e, all_pass test later)
      | false ↦ λ e. all_pass test later
    ] refl

new_serving : (entry : Entry) → has_some (new_slot entry).modes ≡ true
new_serving entry = at entry.mode
  where
    at : (mode : _) → has_some (modes_where (covers mode)) ≡ true
    at Normal = refl
    at User = refl
    at Ssh = refl
    at Nonce = refl
    at Any = refl

-- the calls keep the slots in order
pub kept_filter : (test : Slot → Bool) (list : List Slot) → AreKept list → AreKept (filter test list)
kept_filter test list h = record {
  by_id = pairs_filter (λ a b. comes_before a b ≡ true) test list h.by_id;
  own_numbers = pairs_filter (λ a b. (a.entry.number == b.entry.number) ≡ false) test list h.own_numbers;
  serving = all_filter (λ slot. has_some slot.modes ≡ true) test list h.serving;
  within_mode = within_filter test list h.within_mode;
}

pub kept_touched : (number now : ℕ) (list : List Slot) → AreKept list → AreKept (touched number now list)
kept_touched number now list h = record {
  by_id = kept_by_id (touch_slot number now) (touch_entry number now) list h.by_id;
  own_numbers = kept_own (touch_slot number now) (touch_entry number now) list h.own_numbers;
  serving = all_map (λ slot. has_some slot.modes ≡ true) (touch_slot number now) (touch_serving number now) list h.serving;
  within_mode = within_touched number now list h.within_mode;
}

pub kept_hidden : (entry : Entry) (list : List Slot) → AreKept list → AreKept (hidden entry list)
kept_hidden entry list h = record {
  by_id = pairs_filter (λ a b. comes_before a b ≡ true) (λ slot. has_some slot.modes) (map (hide entry) list) (kept_by_id (hide entry) (hide_entry entry) list h.by_id);
  own_numbers = pairs_filter (λ a b. (a.entry.number == b.entry.number) ≡ false) (λ slot. has_some slot.modes) (map (hide entry) list)
      (kept_own (hide entry) (hide_entry entry) list h.own_numbers);
  serving = all_pass (λ slot. has_some slot.modes) (map (hide entry) list);
  within_mode = within_filter (λ slot. has_some slot.modes) (map (hide entry) list) (all_map _ (hide entry) (within_hide entry) list h.within_mode);
}

pub below_hidden : (entry : Entry) (number : ℕ) (list : List Slot) → AreBelow number list → AreBelow number (hidden entry list)
below_hidden entry number list h =
    all_filter (λ slot. slot.entry.number < number) (λ slot. has_some slot.modes) (map (hide entry) list)
    (all_map (λ slot. slot.entry.number < number) (hide entry) (λ slot k. subst (λ (e : Entry). e.number < number) (sym (hide_entry entry slot)) k) list h)

-- a new slot at the end of the stretch of its id
module _ (entry : Entry) (i : ℕ) (list : List Slot) (newest : AreBelow entry.number list) where
  pub kept_stored : AreKept list → AllByRecursion (λ slot. is_upto entry.id slot ≡ true) (take i list)
      → AllByRecursion (λ slot. is_upto entry.id slot ≡ false) (drop i list) → AreKept (take i list ++ new_slot entry ∷ drop i list)
  kept_stored h before after = record {
    by_id = pairs_insert (λ a b. comes_before a b ≡ true) i (new_slot entry) list (firsts i list newest before)
        (all_weaker (λ slot. is_upto entry.id slot ≡ false) (λ slot. comes_before (new_slot entry) slot ≡ true) (λ slot k. higher_later slot (new_slot entry) k) (drop i list) after) h.by_id;
    own_numbers = pairs_insert (λ a b. (a.entry.number == b.entry.number) ≡ false) i (new_slot entry) list (others i list newest) (others_after i list newest) h.own_numbers;
    serving = all_insert (λ slot. has_some slot.modes ≡ true) i (new_slot entry) list (new_serving entry) h.serving;
    within_mode = all_insert _ i (new_slot entry) list (within_new_slot entry) h.within_mode;
  }
    where
      firsts : (j : ℕ) (l : List Slot) → AreBelow entry.number l → AllByRecursion (λ slot. is_upto entry.id slot ≡ true) (take j l)
          → AllByRecursion (λ slot. comes_before slot (new_slot entry) ≡ true) (take j l)
      firsts zero l below upto = tt
      firsts (suc j) [] below upto = tt
      firsts (suc j) (slot ∷ later) below upto = (older_first slot (new_slot entry) upto.0 below.0, firsts j later below.1 upto.1)

      differ : (m n : ℕ) → m < n → (m == n) ≡ false
      differ m n lt = grind (arith, nat_tests)

      differ_too : (m n : ℕ) → m < n → (n == m) ≡ false
      differ_too m n lt = grind (arith, nat_tests)

      others : (j : ℕ) (l : List Slot) → AreBelow entry.number l → AllByRecursion (λ slot. (slot.entry.number == entry.number) ≡ false) (take j l)
      others zero l below = tt
      others (suc j) [] below = tt
      others (suc j) (slot ∷ later) below = (differ slot.entry.number entry.number below.0, others j later below.1)

      others_after : (j : ℕ) (l : List Slot) → AreBelow entry.number l → AllByRecursion (λ slot. (entry.number == slot.entry.number) ≡ false) (drop j l)
      others_after zero [] below = tt
      others_after zero (slot ∷ later) below = (differ_too slot.entry.number entry.number below.0, others_after zero later below.1)
      others_after (suc j) [] below = tt
      others_after (suc j) (slot ∷ later) below = others_after j later below.1

  pub by_number_stored : by_number (take i list ++ new_slot entry ∷ drop i list) ≡ by_number list ++ new_slot entry ∷ []
  by_number_stored = arranged_last is_older older_order i (new_slot entry) list
      (all_weaker (λ slot. slot.entry.number < entry.number) (λ slot. is_older slot (new_slot entry) ≡ true) (λ slot k. older slot.entry.number entry.number k) list newest)
    where
      older : (m n : ℕ) → m < n → nat_lt m n ≡ true
      older m n lt = grind (arith, nat_tests)

-- and they come to the same by number
pub by_number_filter : (test : Slot → Bool) (list : List Slot) → by_number (filter test list) ≡ filter test (by_number list)
by_number_filter test list = arranged_filter is_older older_order test list

pub by_number_touched : (number now : ℕ) (list : List Slot) → by_number (touched number now list) ≡ touched number now (by_number list)
by_number_touched number now list = by_number_map (touch_slot number now) (touch_entry number now) list

pub by_number_hidden : (entry : Entry) (list : List Slot) → by_number (hidden entry list) ≡ hidden entry (by_number list)
by_number_hidden entry list =
    by_number_filter (λ slot. has_some slot.modes) (map (hide entry) list)
    ∙ ap (filter (λ (slot : Slot). has_some slot.modes)) (by_number_map (hide entry) (hide_entry entry) list)

-- a slot is one of the list by number where it is one of the list
one_placed_here : (x : Slot) (list : List Slot) → IsOneOf x (placed is_older x list)
one_placed_here x [] = here
one_placed_here x (y ∷ ys) =
    elim (is_older x y) as (λ b. IsOneOf x (cond b (x ∷ y ∷ ys) (y ∷ placed is_older x ys))) [ true ↦ here | false ↦ further (one_placed_here x ys) ]

one_placed : (slot x : Slot) (list : List Slot) → IsOneOf slot list → IsOneOf slot (placed is_older x list)
one_placed slot x [] on = elim on [ ]
one_placed slot x (y ∷ ys) here =
    elim (is_older x y) as (λ b. IsOneOf y (cond b (x ∷ y ∷ ys) (y ∷ placed is_older x ys))) [ true ↦ further here | false ↦ here ]
one_placed slot x (y ∷ ys) (further on) =
    elim (is_older x y) as (λ b. IsOneOf slot (cond b (x ∷ y ∷ ys) (y ∷ placed is_older x ys))) [
      | true ↦ further (further on)
      | false ↦ further (one_placed slot x ys on)
    ]

pub one_by_number : (slot : Slot) (list : List Slot) → IsOneOf slot list → IsOneOf slot (by_number list)
one_by_number slot [] on = elim on [ ]
one_by_number slot (x ∷ later) here = one_placed_here x (by_number later)
one_by_number slot (x ∷ later) (further on) = one_placed slot x (by_number later) (one_by_number slot later on)
