use Rattle.pinentry_client.proofs.WholeLemmas.{prompt_has_its_child}
use Rattle.pinentry_client.proofs.laws.a_prompt_has_its_child.Goals as goal

pub returns : goal.returns
returns g c before after calls is leads = prompt_has_its_child g.La.Launcher.launches is leads
