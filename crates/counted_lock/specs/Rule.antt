-- Private: the rule of the table. There is one legal run, which the third word counts. While the core is at home it stands for that run.
use lib.ListN.{get_elem?}
use mathlib.Core.Option.{some, none}
use Rattle.std.specs.Prelude.{◌≡◌, ◌≤◌, ◌<◌, ℕ, zero, suc, ◌+◌, ◌%◌, Bool, true, false, nat_eq, List, [], ◌∷◌, ◌++◌, length, Option, Some, ⊤, if◌then◌else◌}
use Rattle.{atomic_table.specs.Table.State, cache_policy.specs.declared.{mark.Mark.Mark, life.Limits.Limits}}
use Rattle.counted_lock.specs.{Claims.claim, Logs.{IsLegalLog, marks_by}, declared.board.{Cored.Cored, About.About, Claim.Claim, Doing.Doing, Stage.{Stage, TheVariants.{Idle, Waiting, Working}}}, Standing.Stands}
use mathlib.Core.Option as maybe

-- a word counts so far, and begins again
abbrev pub wrap : ℕ
wrap = 18446744073709551616

abbrev pub doing : Stage → List Claim → Doing
doing stage claims = record { stage = stage; claims = claims }

-- nothing was seen by the n passes from k on
abbrev pub blank_claims : Limits → ℕ → ℕ → List Claim
blank_claims limits k zero = []
blank_claims limits k (suc n) = claim limits k [] ∷ blank_claims limits (suc k) n

abbrev pub first_doing : About → Doing
first_doing about = doing Idle (blank_claims about.limits 0 about.passes)

-- What a pass has seen is a beginning of the run, and behind it stands no mark of its own.
pub record Fits (about : About) (log : List Mark) (c : Claim) : Type 0 where
  pub limits_is : c.limits ≡ about.limits
  pub more : List Mark
  pub whole : c.seen ++ more ≡ log
  pub foreign : marks_by c.number more ≡ []
  pub inside : c.number < about.passes

abbrev pub AllFit : About → List Mark → List Claim → Type 0
AllFit about log [] = ⊤
AllFit about log (c ∷ cs) = Fits about log c × AllFit about log cs

-- the core is at home, and stands for the run
pub record IsHome (limits : Limits) (homes : List (maybe.Option (Option Cored))) (log : List Mark) : Type 0 where
  pub core : Cored
  pub home : homes ≡ some (Some core) ∷ []
  pub limits_is : core.core.limits ≡ limits
  pub stands : Stands core log

abbrev pub IsSlot : Limits → List (maybe.Option (Option Cored)) → List Mark → ℕ → ℕ → Bool → Type 0
IsSlot limits homes log drawn served true = (homes ≡ none ∷ []) × (served < drawn)
IsSlot limits homes log drawn served false = IsHome limits homes log

-- a number that waits is drawn and not served yet, and is one place's alone
pub record WaitsAt (drawn served : ℕ) (out : Bool) (owner : ℕ → ℕ) (j : ℕ) (claims : List Claim) (n : ℕ) : Type 0 where
  pub later : served ≤ n
  pub drawn_is : n < drawn
  pub alone : owner n ≡ j
  pub home : n ≡ served → out ≡ false
  pub one : Claim
  pub claims_are : claims ≡ one ∷ []

-- the place that has the core has seen the whole run
pub record WorksAt (log : List Mark) (drawn served : ℕ) (out : Bool) (owner : ℕ → ℕ) (j : ℕ) (claims : List Claim) (n : ℕ) : Type 0 where
  pub now : n ≡ served
  pub drawn_is : n < drawn
  pub alone : owner n ≡ j
  pub taken : out ≡ true
  pub one : Claim
  pub claims_are : claims ≡ one ∷ []
  pub seen : one.seen ≡ log

abbrev pub IsAt : List Mark → ℕ → ℕ → Bool → (ℕ → ℕ) → ℕ → List Claim → Stage → Type 0
IsAt log drawn served out owner j claims Idle = ⊤
IsAt log drawn served out owner j claims (Waiting n) = WaitsAt drawn served out owner j claims n
IsAt log drawn served out owner j claims (Working n) = WorksAt log drawn served out owner j claims n

pub record Knows (about : About) (log : List Mark) (drawn served : ℕ) (out : Bool) (owner : ℕ → ℕ) (j : ℕ) (v : Doing) : Type 0 where
  pub fit : AllFit about log v.claims
  pub at : IsAt log drawn served out owner j v.claims v.stage

-- over all places
abbrev pub total : (Doing → ℕ) → List Doing → ℕ
total f [] = 0
total f (v ∷ vs) = f v + total f vs

abbrev pub going : Stage → ℕ
going Idle = 0
going (Waiting n) = 1
going (Working n) = 1

abbrev pub active : Doing → ℕ
active v = going v.stage

abbrev pub claims_of : Doing → ℕ
claims_of v = length v.claims

abbrev pub times : ℕ → List Claim → ℕ
times k [] = 0
times k (c ∷ cs) = (if nat_eq c.number k then 1 else 0) + times k cs

abbrev pub claims_by : ℕ → Doing → ℕ
claims_by k v = times k v.claims

pub record Kept (about : About) (s : State (Option Cored) Doing) : Type 0 where
  pub log : List Mark
  pub drawn : ℕ
  pub served : ℕ
  pub out : Bool
  pub owner : ℕ → ℕ
  pub few : about.passes < 4294967296
  pub words_are : s.words ≡ drawn % wrap ∷ served % wrap ∷ length log ∷ []
  pub legal : IsLegalLog about.limits log
  pub slot : IsSlot about.limits s.homes log drawn served out
  pub waits : total active s.views + served ≡ drawn
  pub claimed : total claims_of s.views ≡ about.passes
  pub apart : (k : ℕ) → total (claims_by k) s.views ≤ 1
  pub within : (k : ℕ) → about.passes ≤ k → marks_by k log ≡ []
  pub each : (j : ℕ) (v : Doing) → get_elem? s.views j ≡ some v → Knows about log drawn served out owner j v

-- What is found at the end, with the claims of all passes: there is one legal run, which the third word counts and for which the core
-- stands. It has the marks of these passes and no others. What each pass has seen is a beginning of it, with all its own marks.
pub record Closes (about : About) (claims : List Claim) (words : List ℕ) (slots : List (Option Cored)) : Type 0 where
  pub log : List Mark
  pub legal : IsLegalLog about.limits log
  pub drawn : ℕ
  pub served : ℕ
  pub counted : words ≡ drawn ∷ served ∷ length log ∷ []
  pub core : Cored
  pub home : get_elem? slots 0 ≡ some (Some core)
  pub limits_is : core.core.limits ≡ about.limits
  pub stands : Stands core log
  pub fits : AllFit about log claims
  -- each pass's claim is there once
  pub numbers : (k : ℕ) → k < about.passes → times k claims ≡ 1
  pub within : (k : ℕ) → about.passes ≤ k → marks_by k log ≡ []
