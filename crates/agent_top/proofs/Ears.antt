-- The ears of the daemon: whose they are, and how they are given back.
use Rattle.std.proofs.{Common.{◌≡◌, ◌+◌, ◌≤◌, ◌<◌, ◌⊎◌, inl, inr, ℕ, List, [], ◌∷◌, ◌++◌, Any, length, sum_by, refl, Option, None, Some, ap, sym, ◌∙◌, subst, arith, length-append}, lemmas.List.{get_or_append_left, Sums.sum_by_push}}
use Rattle.std.{proofs.{lemmas.Bool.cases_lt, Math.Seq.get_or-append_seam}, specs.{Prelude.slice_index_or, List.AllByRecursion}}
use Rattle.agent_ports.specs.Counts.{Rose, RoseBy}
use Rattle.agent_top.specs.Daemon.{AreEarsOf}

any_but_last : {X : Type 0} (P : X → Type 0) (xs : List X) (x : X) → Any P (xs ++ x ∷ []) → Any P xs ⊎ P x
any_but_last P xs x (k, y, below, at, holds) = by_place (cases_lt k (length xs)) where
  by_place : (k < length xs) ⊎ (length xs ≤ k) → Any P xs ⊎ P x
  by_place (inl within) = inl (k, y, within, sym (get_or_append_left xs (x ∷ []) y k within) ∙ at, holds)
  by_place (inr behind) =
      let here : k ≡ length xs = omega (arith, below, behind, length-append xs (x ∷ [])) in
      inr (subst P (sym at ∙ ap (λ (n : ℕ). slice_index_or (xs ++ x ∷ []) n y) here ∙ get_or-append_seam xs x [] y) holds)

-- how far the ears were given back
pub record GaveBack {X : Type 0} (faults : X → ℕ) (ears : List X) (before : ℕ) (left : List X) (now : ℕ) : Type 0 where
  pub risen : before ≤ now
  pub given : ℕ
  pub all : given + sum_by faults left ≡ sum_by faults ears
  pub heard : RoseBy given before now
  pub failed : Any (λ ear. 0 < faults ear) ears → Rose before now ⊎ Any (λ ear. 0 < faults ear) left

pub none_back : {X : Type 0} (faults : X → ℕ) (ears : List X) (listens : ℕ) → GaveBack faults ears listens ears listens
none_back faults ears listens = record { risen = omega arith; given = 0; all = omega arith; heard = omega arith; failed = λ any. inr any }

pub gave_one : {X : Type 0} (faults : X → ℕ) (ears left : List X) (ear : X) (before now then : ℕ) → GaveBack faults ears before (left ++ ear ∷ []) now
    → RoseBy (faults ear) now then → now ≤ then → GaveBack faults ears before left then
gave_one faults ears left ear before now then gave rose never = record {
  risen = omega (arith, gave.risen, never);
  given = gave.given + faults ear;
  all = omega (arith, gave.all, sum_by_push faults left ear);
  heard = omega (arith, gave.heard, rose, never);
  failed = λ any. by_rose (gave.failed any);
} where
  by_last : Any (λ e. 0 < faults e) left ⊎ (0 < faults ear) → Rose before then ⊎ Any (λ e. 0 < faults e) left
  by_last (inl some) = inr some
  by_last (inr this) = inl (omega (arith, this, rose, gave.risen))

  by_rose : Rose before now ⊎ Any (λ e. 0 < faults e) (left ++ ear ∷ []) → Rose before then ⊎ Any (λ e. 0 < faults e) left
  by_rose (inl rise) = inl (omega (arith, rise, never))
  by_rose (inr some) = by_last (any_but_last _ left ear some)

pub all_back : {X : Type 0} (faults : X → ℕ) (ears : List X) (before now : ℕ) → GaveBack faults ears before [] now → Any (λ ear. 0 < faults ear) ears → Rose before now
all_back faults ears before now gave any = by_rose (gave.failed any) where
  by_rose : Rose before now ⊎ Any (λ e. 0 < faults e) [] → Rose before now
  by_rose (inl rise) = rise
  by_rose (inr (k, y, below, at, holds)) = absurd (omega (arith, below))

pub all_heard : {X : Type 0} (faults : X → ℕ) (ears : List X) (before now : ℕ) → GaveBack faults ears before [] now → RoseBy (sum_by faults ears) before now
all_heard faults ears before now gave = omega (arith, gave.heard, gave.all)

-- one ear more, of which no call failed
pub one_more : {X : Type 0} (P : X → Type 0) (ears : List X) (ear : X) → AllByRecursion P ears → P ear → AllByRecursion P (ears ++ ear ∷ [])
one_more P [] ear all this = (this, tt)
one_more P (other ∷ ears) ear all this = (all.0, one_more P ears ear all.1 this)

-- all are the daemon's own listener's; or all but one, which is the extra listener's
pub all_at_home : {Ls X : Type 0} (hears : Ls → X → Type 0) (listener : Ls) (extra : Option Ls) (ears : List X) → extra ≡ None → AllByRecursion (hears listener) ears → AreEarsOf hears listener extra ears
all_at_home hears listener (Some given) ears is all = absurd (cc is)
all_at_home hears listener None [] is all = tt
all_at_home hears listener None (ear ∷ []) is all = (all.0, tt)
all_at_home hears listener None (ear ∷ next ∷ later) is all = (all.0, all_at_home hears listener None (next ∷ later) refl all.1)

pub last_at_extra : {Ls X : Type 0} (hears : Ls → X → Type 0) (listener : Ls) (extra : Option Ls) (given : Ls) (ears : List X) (last : X) → extra ≡ Some given → AllByRecursion (hears listener) ears → hears given last
    → AreEarsOf hears listener extra (ears ++ last ∷ [])
last_at_extra hears listener None given ears last is all this = absurd (cc is)
last_at_extra {Ls} hears listener (Some extra) given [] last is all this = (subst (λ l. hears l last) (sym (same is)) this, tt) where
  same : Some extra ≡ Some given → extra ≡ given
  same e = cc e
last_at_extra hears listener (Some extra) given (ear ∷ []) last is all this = (all.0, last_at_extra hears listener (Some extra) given [] last is tt this)
last_at_extra hears listener (Some extra) given (ear ∷ next ∷ later) last is all this = (all.0, last_at_extra hears listener (Some extra) given (next ∷ later) last is all.1 this)
