-- Nothing comes back: what a mark that was replied Given says of the entry that it names.
use Rattle.std.specs.{Prelude.{◌≡◌, ℕ, List, ◌∷◌, ◌++◌, true, false, Option}, List.AllByRecursion}
use Rattle.cache_policy.specs.{declared.{mode.Mode.Mode, life.Limits.Limits, mark.{Way.Way, Mark.Mark, MarkStep.TheVariants.Ask}, entry.Entry.Entry}, Histories.History, Entry.{serves, within}, Entries.entries, Live.{gone, last_use}}

-- the mark after this history is an ask, and the number that it was given is that of an entry which serves it, is the
-- newest that does, was not taken away, and is within both lifetimes at the mark
pub record IsGivenRightly (limits : Limits) (before : History) (mark : Mark) (number : ℕ) : Type 0 where
  pub id : List ℕ
  pub mode : Mode
  pub way : Way
  pub since : Option ℕ
  pub asked : mark.step ≡ Ask id mode way since
  pub older : List Entry
  pub entry : Entry
  pub newer : List Entry
  pub place : entries limits before ≡ older ++ entry ∷ newer
  pub numbered : entry.number ≡ number
  pub fits : serves id mode entry ≡ true
  pub none_newer : AllByRecursion (λ other. serves id mode other ≡ false) newer
  pub not_gone : gone before entry ≡ false
  pub in_time : within entry (last_use before entry) mark.moment ≡ true
