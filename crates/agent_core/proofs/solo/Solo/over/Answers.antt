use Rattle.std.proofs.Common.{sym, subst, ap, ◌∙◌}
use Rattle.agent_core.{specs.{Foreigners.AllForeign, Known.run_seat, Seating.free, SoloInside.lists_of}, proofs.Scripts.lists_reversed}
use Rattle.agent_core.proofs.solo.Solo.over.Goals as goal

pub invariant_of-result : goal.invariant_of-result
invariant_of-result g c = record {
  seated = free (ap run_seat c.requires.fresh);
  script_is = subst (AllForeign c.args.session) (sym (ap lists_of c.reverse.ensures.items ∙ lists_reversed c.args.script.items)) c.requires.foreign;
  holder_is = tt;
}
