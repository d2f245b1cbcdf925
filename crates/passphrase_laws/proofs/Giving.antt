-- A live entry is given rightly.
use mathlib.Core.List.{reverse-cons}
use Rattle.std.specs.{List.AllByRecursion, Option.option_and_then, Prelude.{◌&&◌, find, if◌then◌else◌, not, reverse}}
use Rattle.std.proofs.{Common.{◌≡◌, ℕ, Bool, true, false, List, [], ◌∷◌, ◌++◌, Option, Some, None, refl, ap, sym, subst, ◌∙◌, append_assoc}, lemmas.List.{reverse-append, reverse-reverse}}
use Rattle.cache_policy.specs.{Entries.entries, Entry.{serves, within}, Histories.History, Live.{gone, is_live, last_use, live, newest}, Return.IsGivenRightly}
use Rattle.cache_policy.specs.declared.{entry.Entry.Entry, life.Limits.Limits, mark.{Mark.Mark, MarkStep.TheVariants.Ask, Way.Way}, mode.Mode.Mode}

-- ---- what is found first

module _ {A : Type 0} where
  record IsFirst (test : A → Bool) (list : List A) (one : A) : Type 0 where
    front : List A
    back : List A
    place : list ≡ front ++ one ∷ back
    passes : test one ≡ true
    others : AllByRecursion (λ other. test other ≡ false) front

  found_by : (test : A → Bool) (head : A) (list : List A) (one : A) → (find test list ≡ Some one → IsFirst test list one) → (passes : Bool) → test head ≡ passes
      → (if passes then Some head else find test list) ≡ Some one → IsFirst test (head ∷ list) one
  found_by test head list one later true is found =
      let same : head ≡ one = cc found in
      record { front = []; back = list; place = ap (λ (a : A). a ∷ list) same; passes = ap test (sym same) ∙ is; others = tt }
  found_by test head list one later false is found =
      let rest = later found in
      record { front = head ∷ rest.front; back = rest.back; place = ap (λ (l : List A). head ∷ l) rest.place; passes = rest.passes; others = (is, rest.others) }

  found_first : (test : A → Bool) (list : List A) (one : A) → find test list ≡ Some one → IsFirst test list one
  found_first test [] one found = absurd (cc found)
  found_first test (head ∷ list) one found = found_by test head list one (found_first test list one) (test head) refl found

  -- of a list that is read from its end
  turned : (list front back : List A) (one : A) → reverse list ≡ front ++ one ∷ back → list ≡ reverse back ++ one ∷ reverse front
  turned list front back one is =
      sym (reverse-reverse list) ∙ ap reverse is ∙ reverse-append front (one ∷ back) ∙ ap (λ (l : List A). l ++ reverse front) (reverse-cons one back)
      ∙ append_assoc (reverse back) (one ∷ []) (reverse front)

  all_both : (P : A → Type 0) (front back : List A) → AllByRecursion P front → AllByRecursion P back → AllByRecursion P (front ++ back)
  all_both P [] back these those = those
  all_both P (one ∷ front) back these those = (these.0, all_both P front back these.1 those)

  all_turned : (P : A → Type 0) (list : List A) → AllByRecursion P list → AllByRecursion P (reverse list)
  all_turned P [] all = tt
  all_turned P (one ∷ list) all = subst (AllByRecursion P) (sym (reverse-cons one list)) (all_both P (reverse list) (one ∷ []) (all_turned P list all.1) (all.0, tt))

-- ---- the entry

both : (goes stays : Bool) → (not goes && stays) ≡ true → (goes ≡ false) × (stays ≡ true)
both true stays is = absurd (cc is)
both false stays is = (refl, is)

-- the live entry is the newest, and is live
record IsNewest (limits : Limits) (before : History) (id : List ℕ) (mode : Mode) (moment : ℕ) (entry : Entry) : Type 0 where
  newest_is : newest limits before id mode ≡ Some entry
  lives : is_live before moment entry ≡ true

newest_by : (before : History) (moment : ℕ) (found entry : Entry) (lives : Bool) → is_live before moment found ≡ lives → (if lives then Some found else None) ≡ Some entry
    → (found ≡ entry) × (is_live before moment entry ≡ true)
newest_by before moment found entry true is live = let same : found ≡ entry = cc live in (same, ap (is_live before moment) (sym same) ∙ is)
newest_by before moment found entry false is live = absurd (cc live)

module _ (limits : Limits) (before : History) (id : List ℕ) (mode : Mode) (moment : ℕ) (entry : Entry) where
  newest_of : (found : Option Entry) → newest limits before id mode ≡ found → option_and_then (λ (e : Entry). if is_live before moment e then Some e else None) found ≡ Some entry
      → IsNewest limits before id mode moment entry
  newest_of None is lives = absurd (cc lives)
  newest_of (Some found) is lives =
      let by = newest_by before moment found entry (is_live before moment found) refl lives in
      record { newest_is = is ∙ ap (λ (e : Entry). Some e) by.0; lives = by.1 }

-- this entry was given rightly, for this request
pub record GaveRightly (limits : Limits) (before : History) (mark : Mark) (id : List ℕ) (mode : Mode) (entry : Entry) : Type 0 where
  pub rightly : IsGivenRightly limits before mark entry.number
  pub id_is : rightly.id ≡ id
  pub mode_is : rightly.mode ≡ mode
  pub entry_is : rightly.entry ≡ entry

pub gave_rightly : (limits : Limits) (before : History) (mark : Mark) (id : List ℕ) (mode : Mode) (way : Way) (since : Option ℕ) (entry : Entry) → mark.step ≡ Ask id mode way since
    → live limits before id mode mark.moment ≡ Some entry → GaveRightly limits before mark id mode entry
gave_rightly limits before mark id mode way since entry asked lives =
    let is = newest_of limits before id mode mark.moment entry (newest limits before id mode) refl lives in
    let first = found_first (serves id mode) (reverse (entries limits before)) entry is.newest_is in
    let parts = both (gone before entry) (within entry (last_use before entry) mark.moment) is.lives in
    record {
      rightly = record {
        id = id;
        mode = mode;
        way = way;
        since = since;
        asked = asked;
        older = reverse first.back;
        entry = entry;
        newer = reverse first.front;
        place = turned (entries limits before) first.front first.back entry first.place;
        numbered = refl;
        fits = first.passes;
        none_newer = all_turned (λ (other : Entry). serves id mode other ≡ false) first.front first.others;
        not_gone = parts.0;
        in_time = parts.1;
      };
      id_is = refl;
      mode_is = refl;
      entry_is = refl;
    }
