-- What is found in a list of slots is one of them and serves the request; and where nothing is found none does.
use Rattle.std.{specs.{Prelude.{◌≡◌, ℕ, List, [], ◌∷◌, Bool, true, false, ◌&&◌, ◌↔◌, Option, Some, None, IsSome, IfSome, IfNone, find, cond, refl}, List.AllByRecursion}, proofs.Common.{sym, ◌∙◌, subst}}
use Rattle.cache_policy.specs.{declared.{mode.Mode.Mode, entry.Entry.Entry, grant.Grant.Grant}, Entry.{same_id, serves, within}, Mode.covers}
use Rattle.cache_book.specs.{declared.slot.Slot.Slot, Modes.holds, Shelves.{serves_at, IsOneOf, here, further, IsWithinMode, AreWithinMode, IsGrantFrom}}

-- a slot that is found
pub record IsFound (test : Slot → Bool) (list : List Slot) (slot : Slot) : Type 0 where
  pub on : IsOneOf slot list
  pub passes : test slot ≡ true

pub found_is : (test : Slot → Bool) (list : List Slot) → IfSome (find test list) (IsFound test list)
found_is test [] = tt
found_is test (first ∷ later) =
    elim (test first) as (λ b. test first ≡ b → IfSome (cond b (Some first) (find test later)) (IsFound test (first ∷ later))) [
      | true ↦ λ e. record { on = here; passes = e }
      | false ↦ λ e. deeper (find test later) (found_is test later)
    ] refl
  where
    deeper : (o : Option Slot) → IfSome o (IsFound test later) → IfSome o (IsFound test (first ∷ later))
    deeper None h = tt
    deeper (Some slot) h = record { on = further h.on; passes = h.passes }

pub none_found : (test : Slot → Bool) (list : List Slot) → find test list ≡ None → AllByRecursion (λ slot. test slot ≡ false) list
none_found test [] e = tt
none_found test (first ∷ later) e =
    elim (test first) as (λ b. test first ≡ b → cond b (Some first) (find test later) ≡ None → (test first ≡ false) × AllByRecursion (λ slot. test slot ≡ false) later) [
      | true ↦ λ is some. cc
      | false ↦ λ is none. (is, none_found test later none)
    ] refl e

-- the facts about what `Grant::of` makes of a slot that serves a request
pub record IsGrantOf (id id_copy : List ℕ) (mode : Mode) (now : ℕ) (slot : Slot) (copy : Entry) (r : Option Grant) : Type 0 where
  pub same_id : id_copy ≡ id
  pub same : copy ≡ slot.entry
  pub granted : IsSome r ↔ ((serves id_copy mode copy && within copy slot.last now) ≡ true)
  pub id_is : IfSome r (λ (grant : Grant). grant.id ≡ id_copy)
  pub mode_is : IfSome r (λ (grant : Grant). grant.mode ≡ mode)
  pub entry : IfSome r (λ (grant : Grant). grant.entry ≡ copy)
  pub last : IfSome r (λ (grant : Grant). grant.last ≡ slot.last)
  pub moment : IfSome r (λ (grant : Grant). grant.moment ≡ now)

pub all_at : (P : Slot → Type 0) (list : List Slot) (slot : Slot) → AllByRecursion P list → IsOneOf slot list → P slot
all_at P [] slot all on = elim on [ ]
all_at P (first ∷ later) slot all here = all.0
all_at P (first ∷ later) slot all (further on) = all_at P later slot all.1 on

pub found_slot : (id : List ℕ) (mode : Mode) (now : ℕ) (list : List Slot) (slot : Slot) → find (serves_at id mode now) list ≡ Some slot
    → IsFound (serves_at id mode now) list slot
found_slot id mode now list slot e = subst (λ (o : Option Slot). IfSome o (IsFound (serves_at id mode now) list)) e (found_is (serves_at id mode now) list)

pub granted_from : (id id_copy : List ℕ) (mode : Mode) (now : ℕ) (list : List Slot) (slot : Slot) (copy : Entry) (r : Option Grant)
    → IsFound (serves_at id mode now) list slot → IsGrantOf id id_copy mode now slot copy r
    → IfSome r (IsGrantFrom list id mode now)
granted_from id id_copy mode now list slot copy None found is = tt
granted_from id id_copy mode now list slot copy (Some grant) found is =
    record {
      slot = slot;
      on = found.on;
      serves = found.passes;
      id_is = is.id_is ∙ is.same_id;
      mode_is = is.mode_is;
      entry = is.entry ∙ is.same;
      last = is.last;
      moment_is = is.moment;
    }

both : (a b c d : Bool) → (a && b && c) ≡ true → (b ≡ true → d ≡ true) → ((a && d) && c) ≡ true
both true true true d h f = let e : d ≡ true = f refl in cc
both true true false d h f = cc
both true false c d h f = cc
both false b c d h f = cc

-- a slot that serves a request is granted for it
pub is_granted : (id id_copy : List ℕ) (mode : Mode) (now : ℕ) (list : List Slot) (slot : Slot) (copy : Entry) (r : Option Grant)
    → AreWithinMode list → IsFound (serves_at id mode now) list slot → IsGrantOf id id_copy mode now slot copy r → IsSome r
is_granted id id_copy mode now list slot copy r within_mode found is =
    is.granted.1 (subst (λ (x : Entry). (serves id_copy mode x && within x slot.last now) ≡ true) (sym is.same)
    (subst (λ (i : List ℕ). (serves i mode slot.entry && within slot.entry slot.last now) ≡ true) (sym is.same_id)
    (both (same_id slot.entry.id id) (holds slot.modes mode) (within slot.entry slot.last now) (covers slot.entry.mode mode) found.passes
    (all_at IsWithinMode list slot within_mode found.on mode))))

pub some_is_not_none : (r : Option Grant) (P : Type 0) → IsSome r → IfNone r P
some_is_not_none None P some = cc
some_is_not_none (Some grant) P some = tt

pub none_where : (r : Option Grant) (P : Type 0) → P → IfNone r P
none_where None P h = h
none_where (Some grant) P h = tt

-- the same of a list that has all of these slots, and no others
pub granted_again : (list others : List Slot) (id : List ℕ) (mode : Mode) (now : ℕ) (r : Option Grant) → ((slot : Slot) → IsOneOf slot list → IsOneOf slot others)
    → IfSome r (IsGrantFrom list id mode now) → IfSome r (IsGrantFrom others id mode now)
granted_again list others id mode now None all is = tt
granted_again list others id mode now (Some grant) all is = record {
  slot = is.slot;
  on = all is.slot is.on;
  serves = is.serves;
  id_is = is.id_is;
  mode_is = is.mode_is;
  entry = is.entry;
  last = is.last;
  moment_is = is.moment_is;
}

pub none_again : (r : Option Grant) (P Q : Type 0) → (P → Q) → IfNone r P → IfNone r Q
none_again None P Q weaker h = weaker h
none_again (Some grant) P Q weaker h = tt
