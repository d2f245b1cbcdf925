use Rattle.std.specs.{Prelude.◌≡◌, List.AllByRecursion}
use Rattle.agent_ports.specs.Leads.{Leads}
use Rattle.agent_core.specs.{Foreigners.IsForeign, Solos.{AtSolo, seen, PlaysStep}}
use Rattle.agent_core.proofs.solo.Solo.play.Given as goal

-- what is left of the list completes the steps that were taken
abbrev pub invariant-loop-foreign : goal.invariant-loop-foreign
invariant-loop-foreign g l = record {
  steps : (after : AtSolo) → Leads PlaysStep (seen g.C.Clock.readings l.self) l.foreign-iterator.rest.items after
      → Leads PlaysStep (seen g.C.Clock.readings l.fn.self) l.fn.list.items after;
  foreign : AllByRecursion (IsForeign l.fn.self.session) l.foreign-iterator.rest.items;
  session : l.self.session ≡ l.fn.self.session;
  lent : l.self.lent ≡ l.fn.self.lent;
}
