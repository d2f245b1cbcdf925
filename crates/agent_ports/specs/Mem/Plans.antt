-- The plans of the forms in memory, from their fields.
use Rattle.std.specs.Prelude.{ℕ, List, [], Some, drop, max}
use Rattle.agent_ports.specs.{Sides.Side, Plans.Plan, declared.{fault_plan.FaultPlan.FaultPlan, mem.{dice.ListDice.ListDice, keys.MapKeys.MapKeys, link.{MemSource.MemSource, MemSink.MemSink, MemLink.MemLink, PlannedLink.PlannedLink}}}}
use Rattle.agent_ports.specs.declared.mem.{conf.MemConf.MemConf, trust.MemTrust.MemTrust}

-- calls of which some are to fail, with bytes of this size
abbrev pub plan_of : FaultPlan → ℕ → Plan
plan_of plan size = record { failing = plan.failing.items; calls = plan.calls; size = size }

abbrev pub source_plan : MemSource → Plan
source_plan source = plan_of source.plan source.piece

abbrev pub sink_plan : MemSink → Plan
sink_plan sink = plan_of sink.plan sink.kept

abbrev pub read_plan : MemLink → Plan
read_plan link = source_plan link.source

abbrev pub write_plan : MemLink → Plan
write_plan link = sink_plan link.sink

abbrev pub dice_plan : ListDice → Plan
dice_plan dice = plan_of dice.plan 0

abbrev pub keys_plan : MapKeys → Plan
keys_plan keys = plan_of keys.plan 0

abbrev pub trust_plan : MemTrust → Plan
trust_plan trust = plan_of trust.plan 0

abbrev pub conf_plan : MemConf → Plan
conf_plan conf = plan_of conf.plan 0

-- a link with both its sides and their plans
pub record OpenLink : Type 0 where
  pub input : Side
  pub output : Side
  pub reads : Plan
  pub writes : Plan

abbrev pub open_link : MemLink → OpenLink
open_link link = record {
  input = record { bytes = Some (drop link.source.taken link.source.bytes.items); faults = link.source.plan.faults };
  output = record { bytes = Some link.sink.bytes.items; faults = link.sink.plan.faults };
  reads = read_plan link;
  writes = write_plan link;
}

-- what a plan makes a link
abbrev pub planned_link : PlannedLink → OpenLink
planned_link planned = record {
  input = record { bytes = Some planned.gives.items; faults = 0 };
  output = record { bytes = Some []; faults = 0 };
  reads = record { failing = planned.failing_reads.items; calls = 0; size = max planned.piece 1 };
  writes = record { failing = planned.failing_writes.items; calls = 0; size = 0 };
}

-- what a link was written
abbrev pub written_text : MemLink → List ℕ
written_text link = link.sink.bytes.items
