-- Nothing comes back: from the policy's reply at a mark to the entry that it names.
use mathlib.Core.List.{reverse-cons}
use Rattle.std.specs.{Prelude.{◌≡◌, ℕ, List, [], ◌∷◌, ◌++◌, Bool, true, false, not, ◌&&◌, Option, Some, None, find, reverse, refl, if◌then◌else◌}, List.AllByRecursion, Option.option_and_then}
use Rattle.std.proofs.{Common.{ap, sym, ◌∙◌, subst, append_assoc}, lemmas.List.{append-nil, reverse-append, reverse-reverse}}
use Rattle.cache_policy.specs.declared.{mode.Mode.Mode, life.Limits.Limits, mark.{Way.{Way, TheVariants.{Quiet, Prompt}}, Mark.Mark, MarkStep.{MarkStep, TheVariants.{Ask, Seat, Close, Put, Clear, Flush, Peek, Stop}}}}
use Rattle.cache_policy.specs.{declared.{mark.MarkReply.TheVariants.Given, entry.Entry.Entry, history.Held.Held}, Entry.{serves, within}, Histories.{History, start_of, with_marks, with_mark}, Entries.entries, Seat.{seat, stopped}}
use Rattle.cache_policy.{specs.{Live.{newest, gone, last_use, is_live}, Policy.{Reply, policy, prompt_ruling, ask_ruling}, Waits.is_late, Legal.{FollowsPolicy, IsLegal}, Return.IsGivenRightly}, proofs.Lists.all_reverse}

-- a mark that stands among those that follow the policy has the policy's reply after the marks before it
follows_at : (limits : Limits) (start : History) (before later : List Mark) (mark : Mark) →
    FollowsPolicy limits start (before ++ mark ∷ later) →
    policy limits (with_marks start before) mark.step mark.moment ≡ Reply mark.reply
follows_at limits start [] later mark h =
    ap (λ (marks : List Mark). policy limits (record start { marks = marks }) mark.step mark.moment)
    (append-nil start.marks) ∙ h.0
follows_at limits start (first ∷ before) later mark h =
    ap (λ (marks : List Mark). policy limits (record start { marks = marks }) mark.step mark.moment) (sym
    (append_assoc start.marks (first ∷ []) before))
    ∙ follows_at limits (with_mark start first) before later mark h.1

-- what is found first: the list is what fails the test, itself, and a rest
pub record IsFirst {A : Type 0} (test : A → Bool) (list : List A) (x : A) : Type 0 where
  pub front : List A
  pub back : List A
  pub place : list ≡ front ++ x ∷ back
  pub passes : test x ≡ true
  pub others : AllByRecursion (λ y. test y ≡ false) front

module _ {A : Type 0} (test : A → Bool) where
  -- one more that fails, in front
  one_more : (y : A) (list : List A) (x : A) → test y ≡ false → IsFirst test list x → IsFirst test (y ∷ list) x
  one_more y list x fails h = record {
    front = y ∷ h.front;
    back = h.back;
    place = ap (λ (rest : List A). y ∷ rest) h.place;
    passes = h.passes;
    others = (fails, h.others);
  }

  found_step : (y : A) (list : List A) (x : A) → (find test list ≡ Some x → IsFirst test list x) →
      (b : Bool) → test y ≡ b → (if b then Some y else find test list) ≡ Some x → IsFirst test (y ∷ list) x
  found_step y list x rest true e h =
      let same : y ≡ x = cc in
      record {
        front = [];
        back = list;
        place = ap (λ (z : A). z ∷ list) same;
        passes = ap test (sym same)
            ∙ e;
        others = tt;
      }
  found_step y list x rest false e h = one_more y list x e (rest h)

  found_first : (list : List A) (x : A) → find test list ≡ Some x → IsFirst test list x
  found_first [] x h = cc
  found_first (y ∷ list) x h = found_step y list x (found_first list x) (test y) refl h

-- a list that is read from its end
turned : {A : Type 0} (list front back : List A) (x : A) → reverse list ≡ front ++ x ∷ back →
    list ≡ reverse back ++ x ∷ reverse front
turned list front back x h =
    sym (reverse-reverse list) ∙ (ap reverse h ∙ (reverse-append front (x ∷ back)
    ∙ (ap (λ (l : List _). l ++ reverse front) (reverse-cons x back)
    ∙ append_assoc (reverse back) (x ∷ []) (reverse front))))

-- no step that wants the prompt is given an entry
pub prompt_gives_nothing : (stops : Bool) (held : Option Held) (late : Bool) (number : ℕ) →
    prompt_ruling stops held late ≡ Reply (Given number) → ⊥
prompt_gives_nothing true held late number h = cc
prompt_gives_nothing false (Some ticket) true number h = cc
prompt_gives_nothing false (Some ticket) false number h = cc
prompt_gives_nothing false None late number h = cc

-- nor is an ask for which nothing is live
ask_gives_nothing : (way : Way) (stops : Bool) (held : Option Held) (late : Bool) (number : ℕ) →
    ask_ruling None way stops held late ≡ Reply (Given number) → ⊥
ask_gives_nothing Quiet stops held late number h = cc
ask_gives_nothing Prompt stops held late number h = prompt_gives_nothing stops held late number h

-- an entry that may be given is not gone, and is within both lifetimes
both : (a b : Bool) → (not a && b) ≡ true → (a ≡ false) × (b ≡ true)
both true b h = cc
both false b h = (refl, h)

module _ (limits : Limits) (before : History) (mark : Mark) (number : ℕ) where
  -- the newest entry, where it is live
  given : (id : List ℕ) (mode : Mode) (way : Way) (since : Option ℕ) (entry : Entry) → mark.step ≡ Ask id mode way since →
      newest limits before id mode ≡ Some entry →
      entry.number ≡ number → is_live before mark.moment entry ≡ true → IsGivenRightly limits before mark number
  given id mode way since entry asked e numbered lives =
      let first : IsFirst (serves id mode) (reverse (entries limits before)) entry = found_first (serves id mode)
      (reverse (entries limits before)) entry e in
      let parts : (gone before entry ≡ false) × (within entry (last_use before entry) mark.moment
      ≡ true) = both (gone before entry) (within entry (last_use before entry) mark.moment) lives in
      record {
        id = id;
        mode = mode;
        way = way;
        since = since;
        asked = asked;
        older = reverse first.back;
        entry = entry;
        newer = reverse first.front;
        place = turned (entries limits before) first.front first.back entry first.place;
        numbered = numbered;
        fits = first.passes;
        none_newer = all_reverse (λ other. serves id mode other ≡ false) first.front first.others;
        not_gone = parts.0;
        in_time = parts.1;
      }

  by_live : (id : List ℕ) (mode : Mode) (way : Way) (since : Option ℕ) (entry : Entry) → mark.step ≡ Ask id mode way since →
      newest limits before id mode ≡ Some entry →
      (b : Bool) → is_live before mark.moment entry ≡ b →
      ask_ruling (if b then Some entry else None) way (stopped before) (seat before) (is_late since mark.moment) ≡ Reply (Given number) →
      IsGivenRightly limits before mark number
  by_live id mode way since entry asked e true lives h = let numbered : entry.number
      ≡ number = cc in given id mode way since entry asked e numbered lives
  by_live id mode way since entry asked e false lives h = absurd (ask_gives_nothing way (stopped before)
      (seat before) (is_late since mark.moment) number h)

  by_newest : (id : List ℕ) (mode : Mode) (way : Way) (since : Option ℕ) → mark.step ≡ Ask id mode way since →
      (o : Option Entry) → newest limits before id mode ≡ o →
      ask_ruling (option_and_then (λ entry. if is_live before mark.moment entry then Some entry else None) o) way
      (stopped before) (seat before) (is_late since mark.moment) ≡ Reply (Given number) →
      IsGivenRightly limits before mark number
  by_newest id mode way since asked None e h = absurd (ask_gives_nothing way (stopped before) (seat before) (is_late since mark.moment) number h)
  by_newest id mode way since asked (Some entry) e h = by_live id mode way since entry asked e
      (is_live before mark.moment entry) refl h

  by_step : (step : MarkStep) → mark.step ≡ step → policy limits before step mark.moment ≡ Reply (Given number) →
      IsGivenRightly limits before mark number
  by_step (Ask id mode way since) e h = by_newest id mode way since e (newest limits before id mode) refl h
  by_step (Seat under since) e h = absurd (prompt_gives_nothing (stopped before) (seat before) (is_late since mark.moment) number h)
  by_step (Close ticket keep) e h = cc
  by_step (Put id mode life secret) e h = cc
  by_step (Clear id mode) e h = cc
  by_step Flush e h = cc
  by_step (Peek id mode) e h = cc
  by_step Stop e h = cc

-- in a legal history a mark that is replied Given is given rightly
pub given_rightly : (limits : Limits) (history : History) (before later : List Mark) (mark : Mark) (number : ℕ) →
    IsLegal limits history → history.marks ≡ before ++ mark ∷ later → mark.reply ≡ Given number →
    IsGivenRightly limits (record history { marks = before }) mark number
given_rightly limits history before later mark number legal place reply =
    by_step limits (record history { marks = before }) mark number mark.step refl
    (follows_at limits (start_of history) before later mark (subst (FollowsPolicy limits
    (start_of history)) place legal.replies) ∙ ap Reply reply)
