-- The links of a listener in memory, from its fields.
use Rattle.std.specs.Prelude.{ℕ, ◌+◌, ◌-◌, ◌^◌, min, Bool, true, false, List, map, vec_capacity}
use Rattle.agent_ports.specs.{declared.{listener.Next.{Next, TheVariants.{Link, Failed, Stopped}}, mem.{link.MemLink.MemLink, listener.{MemEar.MemEar, ListedLinks.ListedLinks}}}, Plans.Plan}
use Rattle.agent_ports.specs.Mem.Plans.{OpenLink, plan_of, planned_link, written_text}

-- one more, up to the last count
abbrev pub one_more : ℕ → ℕ
one_more count = min (count + 1) (2 ^ 64 - 1)

-- what an answer leaves of the ear with which it was asked for
abbrev pub heard : Next MemLink → MemEar → MemEar
heard (Link link) ear = record ear { links = one_more ear.links }
heard Failed ear = record ear { faults = one_more ear.faults }
heard Stopped ear = record ear { stops = one_more ear.stops }

-- what is left of an ear whose worker told a listener to stop: the one for restricted sessions, or the other
abbrev pub told : Bool → MemEar → MemEar
told true ear = record ear { told_extra = one_more ear.told_extra }
told false ear = record ear { told = one_more ear.told }

-- the links to come
abbrev pub coming_links : ListedLinks → List OpenLink
coming_links links = map planned_link links.coming.items

-- what each link was written whose session has ended, in the order of their ends
abbrev pub ended_texts : ListedLinks → List (List ℕ)
ended_texts links = map written_text links.ended.items

-- how many of these can be kept
abbrev pub room : ListedLinks → ℕ
room links = vec_capacity links.ended

abbrev pub is_stopped : ListedLinks → Bool
is_stopped links = links.stopped

abbrev pub listen_plan : ListedLinks → Plan
listen_plan links = plan_of links.plan 0
