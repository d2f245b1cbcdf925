-- The children of a launcher in memory, from its fields.
use Rattle.std.specs.{Prelude.{ℕ, List, [], ◌∷◌, map, drop, Option, Some, None, Box, Vec}, declared.alloc.Global.Global}
use Rattle.agent_ports.specs.{Launches.Finished, Mem.Plans.{OpenLink, plan_of, read_plan, write_plan, open_link, planned_link}, Plans.Plan, declared.mem.launcher.{MemChild.MemChild, MemLauncher.MemLauncher}}
use Rattle.agent_ports.specs.declared.mem.{launcher.Place.{Place, Place', Held-Place-earlier, None', Some', out-Place}, link.{MemLink.MemLink, PlannedLink.PlannedLink}}

-- all the bytes that each child gives
abbrev pub gives_of : List PlannedLink → List (List ℕ)
gives_of children = map (λ child. child.gives.items) children

-- the bytes of each program's name
abbrev pub programs_of : List (Vec ℕ Global) → List (List ℕ)
programs_of programs = map (λ program. program.items) programs

-- what a child had left to give, and what it was written
abbrev pub finished_link : MemLink → Finished
finished_link link = record { left = drop link.source.taken link.source.bytes.items; written = link.sink.bytes.items }

-- the finished children, the last of them first
abbrev mutual
  pub latest_of : Place → List Finished
  latest_of (Place' link earlier) = finished_link link ∷ earlier_ones earlier

  pub earlier_ones : Held-Place-earlier → List Finished
  earlier_ones None' = []
  earlier_ones (Some' p place) = latest_of place

abbrev pub latest_first : Option (Box Place Global) → List Finished
latest_first None = []
latest_first (Some place) = latest_of place.value

-- a child's link, and the plans of its two sides
abbrev pub open_child : MemChild → OpenLink
open_child child = open_link (out-Place child.place.value).link

abbrev pub child_reads : MemChild → Plan
child_reads child = read_plan (out-Place child.place.value).link

abbrev pub child_writes : MemChild → Plan
child_writes child = write_plan (out-Place child.place.value).link

-- the children to come
abbrev pub coming_children : MemLauncher → List OpenLink
coming_children launcher = map planned_link launcher.coming.items

abbrev pub launch_plan : MemLauncher → Plan
launch_plan launcher = plan_of launcher.plan 0
