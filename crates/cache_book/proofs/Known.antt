-- An entry of a history is older than the next mark, and the only one with its number. So its slot shows whether it is live and for which
-- modes it is the newest.
use Rattle.std.{specs.{Prelude.{◌≡◌, ℕ, ◌+◌, ◌<◌, ◌≤◌, ◌==◌, List, [], ◌∷◌, Bool, true, false, ◌&&◌, Option, Some, None, IfSome, reverse, refl, if◌then◌else◌}, List.AllByRecursion, Option.option_and_then}, proofs.Common.{ap, ◌∙◌, arith}}
use Rattle.std.proofs.lemmas.Bool.Decides.{nat_tests}
use Rattle.cache_policy.specs.{declared.{mode.Mode.{Mode, TheVariants.{Normal, User, Ssh, Nonce, Any}}, life.Limits.Limits, entry.Entry.Entry}, Entry.serves, Histories.{History, next_number}, Entries.{entries, AreNumbered}}
use Rattle.cache_policy.{specs.Live.{newest, last_use, is_live}, proofs.{Lists.{all_weaker, all_reverse, all_find}, Growing.{entries_numbered, all_below}}}
use Rattle.cache_book.specs.{declared.{modes.Modes.Modes, slot.Slot.Slot}, Modes.modes_where, Slots.{has_number, still_serves, slot_with, slot_of}}

-- an entry with the number of this one is this one
abbrev pub IsSameAs : Entry → Entry → Type 0
IsSameAs entry other = (other.number == entry.number) ≡ true → other ≡ entry

pub record IsKnown (limits : Limits) (history : History) (entry : Entry) : Type 0 where
  pub older : entry.number < next_number history
  pub only : AllByRecursion (IsSameAs entry) (entries limits history)

pub all_both : {A : Type 0} (P Q : A → Type 0) (xs : List A) → AllByRecursion P xs → AllByRecursion Q xs → AllByRecursion (λ x. P x × Q x) xs
all_both P Q [] h k = tt
all_both P Q (x ∷ xs) h k = ((h.0, k.0), all_both P Q xs h.1 k.1)

all_from : (low : ℕ) (list : List Entry) (high : ℕ) → AreNumbered low list high → AllByRecursion (λ entry. low ≤ entry.number) list
all_from low [] high h = tt
all_from low (entry ∷ later) high h =
    (h.0, all_weaker (λ (x : Entry). entry.number + 1 ≤ x.number) (λ (x : Entry). low ≤ x.number) (λ x above. omega (arith, h.0, above)) later (all_from (entry.number + 1) later high h.1))

pub differ : (a b : ℕ) → a < b → (b == a) ≡ false
differ a b h = grind (arith, nat_tests)

pub differ_too : (a b : ℕ) → a < b → (a == b) ≡ false
differ_too a b h = grind (arith, nat_tests)

all_only : (low : ℕ) (list : List Entry) (high : ℕ) → AreNumbered low list high → AllByRecursion (λ entry. AllByRecursion (IsSameAs entry) list) list
all_only low [] high h = tt
all_only low (entry ∷ later) high h =
    let above : AllByRecursion (λ (x : Entry). entry.number + 1 ≤ x.number) later = all_from (entry.number + 1) later high h.1 in (
      (
        (λ e. refl),
        all_weaker (λ (x : Entry). entry.number + 1 ≤ x.number) (IsSameAs entry)
            (λ x is same. let no : (x.number == entry.number) ≡ false = differ entry.number x.number (omega (arith, is)) in cc) later above,
      ),
      all_weaker (λ (x : Entry). (entry.number + 1 ≤ x.number) × AllByRecursion (IsSameAs x) later) (λ (x : Entry). AllByRecursion (IsSameAs x) (entry ∷ later))
          (λ x is. ((λ same. let no : (entry.number == x.number) ≡ false = differ_too entry.number x.number (omega (arith, is.0)) in cc), is.1)) later
          (all_both (λ (x : Entry). entry.number + 1 ≤ x.number) (λ (x : Entry). AllByRecursion (IsSameAs x) later) later above (all_only (entry.number + 1) later high h.1)),
    )

pub all_known : (limits : Limits) (history : History) → AllByRecursion (IsKnown limits history) (entries limits history)
all_known limits history =
    all_weaker (λ (x : Entry). (x.number < next_number history) × AllByRecursion (IsSameAs x) (entries limits history)) (IsKnown limits history)
    (λ x is. record { older = is.0; only = is.1 }) (entries limits history)
    (all_both (λ (x : Entry). x.number < next_number history) (λ (x : Entry). AllByRecursion (IsSameAs x) (entries limits history)) (entries limits history)
    (all_below history.base (entries limits history) (next_number history) (entries_numbered limits history))
    (all_only history.base (entries limits history) (next_number history) (entries_numbered limits history)))

-- what holds of all entries holds of the newest for a request
pub all_newest : (P : Entry → Type 0) (limits : Limits) (history : History) (id : List ℕ) (mode : Mode)
    → AllByRecursion P (entries limits history) → IfSome (newest limits history id mode) P
all_newest P limits history id mode all =
    all_find P (serves id mode) (reverse (entries limits history)) (all_reverse P (entries limits history) all)

-- the entry is the newest of its id in a mode
abbrev pub is_newest : Limits → History → Entry → Mode → Bool
is_newest limits history entry mode = has_number entry.number (newest limits history entry.id mode)

still_serves_known : (limits : Limits) (history : History) (moment : ℕ) (entry : Entry) (mode : Mode) → IsKnown limits history entry
    → still_serves limits history moment entry mode ≡ (is_live history moment entry && is_newest limits history entry mode)
still_serves_known limits history moment entry mode known =
    at (newest limits history entry.id mode) (all_newest (IsSameAs entry) limits history entry.id mode known.only)
  where
    at : (o : Option Entry) → IfSome o (IsSameAs entry)
        → has_number entry.number (option_and_then (λ x. if is_live history moment x then Some x else None) o) ≡ (is_live history moment entry && has_number entry.number o)
    at None h = elim (is_live history moment entry) as (λ b. false ≡ (b && false)) [ true ↦ refl | false ↦ refl ]
    at (Some x) h =
        elim (x.number == entry.number) as (λ b. (x.number == entry.number) ≡ b
        → has_number entry.number (if is_live history moment x then Some x else None) ≡ (is_live history moment entry && b)) [
          | true ↦ λ e. by_live x (is_live history moment x) ∙ ap (λ b. is_live history moment x && b) e ∙ ap (λ (y : Entry). is_live history moment y && true) (h e)
          | false ↦ λ e. by_live x (is_live history moment x) ∙ ap (λ b. is_live history moment x && b) e ∙ none (is_live history moment x) (is_live history moment entry)
        ] refl
      where
        by_live : (x : Entry) (b : Bool) → has_number entry.number (if b then Some x else None) ≡ (b && (x.number == entry.number))
        by_live x true = refl
        by_live x false = refl

        none : (a b : Bool) → (a && false) ≡ (b && false)
        none true true = refl
        none true false = refl
        none false true = refl
        none false false = refl

pub modes_where_same : (f g : Mode → Bool) → ((mode : Mode) → f mode ≡ g mode) → modes_where f ≡ modes_where g
modes_where_same f g h =
    ap (λ b. record { normal = b; user = f User; ssh = f Ssh; nonce = f Nonce; any = f Any }) (h Normal)
    ∙ (ap (λ b. record { normal = g Normal; user = b; ssh = f Ssh; nonce = f Nonce; any = f Any }) (h User)
    ∙ (ap (λ b. record { normal = g Normal; user = g User; ssh = b; nonce = f Nonce; any = f Any }) (h Ssh)
    ∙ (ap (λ b. record { normal = g Normal; user = g User; ssh = g Ssh; nonce = b; any = f Any }) (h Nonce)
    ∙ ap (λ b. record { normal = g Normal; user = g User; ssh = g Ssh; nonce = g Nonce; any = b }) (h Any))))

-- the slot of an entry that is live
abbrev pub slot_where : Bool → Entry → ℕ → Modes → List Slot
slot_where is entry last modes = if is then slot_with entry last modes else []

pub slot_of_known : (limits : Limits) (history : History) (moment : ℕ) (entry : Entry) → IsKnown limits history entry
    → slot_of limits history moment entry
    ≡ slot_where (is_live history moment entry) entry (last_use history entry) (modes_where (is_newest limits history entry))
slot_of_known limits history moment entry known =
    ap (slot_with entry (last_use history entry)) (modes_where_same (still_serves limits history moment entry)
    (λ mode. is_live history moment entry && is_newest limits history entry mode) (λ mode. still_serves_known limits history moment entry mode known))
    ∙ elim (is_live history moment entry) as (λ b. slot_with entry (last_use history entry) (modes_where (λ mode. b && is_newest limits history entry mode))
    ≡ slot_where b entry (last_use history entry) (modes_where (is_newest limits history entry))) [ true ↦ refl | false ↦ refl ]
