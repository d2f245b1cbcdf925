use Rattle.std.{specs.Prelude.{◌≡◌, Some}, proofs.Common.subst}
use Rattle.agent_core.specs.Solos.{SoloState}
use Rattle.agent_core.proofs.solo.Solo.close_holder.Goals as goal

pub returns-clause-closes : goal.returns-clause-closes
returns-clause-closes g c = record {
  holder = c.in-Some.holder;
  holder_is = subst (λ (s : SoloState _). s.holder ≡ Some c.in-Some.holder) c.self.view_is c.in-Some.is;
  plays = c.play_step.ensures.step;
}
