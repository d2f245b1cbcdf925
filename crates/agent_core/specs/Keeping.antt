-- Private: what a core with its run keeps.
use Rattle.std.specs.{Prelude.Option, Global.Vec}
use Rattle.cache_policy.specs.{declared.{mark.Mark.Mark, history.History.History as HistoryInMemory, tally.Tally.Tally}, Histories.run_of}
use Rattle.agent_core.specs.{Recording.Records, Cores.AtCore, Tallies.Tallied}

-- its run, the room for the marks to come, and their tally
pub record IsKnown (core : AtCore) (histories : Vec HistoryInMemory) (next : Option (Vec Mark)) (tally : Tally) : Type 0 where
  pub records : Records core histories next
  pub tally_is : Tallied core.limits (run_of histories.items) tally
