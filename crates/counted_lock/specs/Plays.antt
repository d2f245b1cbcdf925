-- Private: what each step on the table tells.
use Rattle.std.specs.Prelude.{◌≡◌, ◌≢◌, ℕ, ◌%◌, List, [], ◌∷◌, ◌++◌, length, Option, Some, None}
use Rattle.{atomic_table.specs.{Table.Step, Seated.TableId}, cache_policy.specs.declared.mark.{Mark.Mark, MarkStep.TheVariants.Stop}}
use Rattle.counted_lock.specs.{Logs.{IsLegalLog, marks_by}, declared.board.{Cored.Cored, Claim.Claim, Stage.{Stage, TheVariants.{Idle, Waiting, Working}}}, Standing.Stands, Rule.{wrap, doing}, Claims.{Sat, own}}
use Rattle.cache_policy.specs.declared.mark.MarkReply.TheVariants as answer

abbrev pub Hand : Type 0
Hand = List (ℕ × Option Cored)

-- the claim with these marks more
abbrev pub saw : Claim → List Mark → Claim
saw c more = record c { seen = c.seen ++ more }

abbrev pub number_of : Stage → ℕ
number_of Idle = 0
number_of (Waiting n) = n
number_of (Working n) = n

-- the number that the place drew
abbrev pub number : Sat → ℕ
number m = number_of m.0.stage

-- the place of one pass, which has no number; which waits for its number; which works, with this in hand
abbrev pub IsIdle : Sat → Type 0
IsIdle m = m ≡ (doing Idle (own m ∷ []), [])

abbrev pub IsWaiting : Sat → Type 0
IsWaiting m = m ≡ (doing (Waiting (number m)) (own m ∷ []), [])

abbrev pub Works : Sat → Hand → Type 0
Works m hand = m ≡ (doing (Working (number m)) (own m ∷ []), hand)

pub record Draws (m : Sat) (found : ℕ) (m' : Sat) : Type 0 where
  pub waiting : IsWaiting m'
  pub number_is : number m' % wrap ≡ found
  pub same : own m' ≡ own m

abbrev pub drew : Step (Option Cored) → Sat → ℕ → Sat → Type 0
drew st m found m' = Draws m found m'

-- The core was taken, and the whole run was seen, whose further marks are others'.
pub record Takes (m m' : Sat) : Type 0 where
  pub more : List Mark
  pub core : Cored
  pub foreign : marks_by (own m).number more ≡ []
  pub seen : own m' ≡ saw (own m) more
  pub works : Works m' ((0, Some core) ∷ [])
  pub legal : IsLegalLog (own m).limits (own m').seen
  pub limits_is : core.core.limits ≡ (own m).limits
  pub stands : Stands core (own m').seen

abbrev pub looked : Step (Option Cored) → Sat → ℕ → Sat → Type 0
looked st m found m' = (found ≡ number m % wrap → Takes m m') × (found ≢ number m % wrap → m' ≡ m)

-- A mark was added.
pub record Counts (mark : Mark) (m m' : Sat) : Type 0 where
  pub seen : own m' ≡ saw (own m) (mark ∷ [])
  pub works : Works m' m.1

abbrev pub counted : Mark → Step (Option Cored) → Sat → ℕ → Sat → Type 0
counted mark st m found m' = Counts mark m m'

pub record Gives (m m' : Sat) : Type 0 where
  pub same : own m' ≡ own m
  pub idle : IsIdle m'

abbrev pub gave : Step (Option Cored) → Sat → ℕ → Sat → Type 0
gave st m found m' = Gives m m'

-- the first claim goes to another place
abbrev pub first_claims : List Claim → List Claim
first_claims [] = []
first_claims (c ∷ cs) = c ∷ []

abbrev pub later_claims : List Claim → List Claim
later_claims [] = []
later_claims (c ∷ cs) = cs

-- a mark that stands in where none is picked
abbrev pub no_mark : Mark
no_mark = record { session = record { pass = 0; count = 0 }; step = Stop; reply = answer.Done; moment = 0 }

-- the place is one of this table, which has three words and one slot
pub record IsOfTable (table place : TableId) : Type 0 where
  pub same : place ≡ table
  pub words : table.words ≡ 3
  pub slots : table.slots ≡ 1

-- The core was taken out, and the whole run was seen, whose further marks are others'.
pub record Enters (m m' : Sat) (core : Cored) : Type 0 where
  pub more : List Mark
  pub foreign : marks_by (own m).number more ≡ []
  pub seen : own m' ≡ saw (own m) more
  pub works : Works m' ((0, None) ∷ [])
  pub legal : IsLegalLog (own m).limits (own m').seen
  pub limits_is : core.core.limits ≡ (own m).limits
  pub stands : Stands core (own m').seen

-- the place that has the claims of n passes
pub record IsPlace (n : ℕ) (m : Sat) : Type 0 where
  pub idle : m.0.stage ≡ Idle
  pub empty : m.1 ≡ []
  pub all : length m.0.claims ≡ n
