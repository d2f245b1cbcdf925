use Rattle.pinentry_client.proofs.Children.{their_children}
use Rattle.pinentry_client.proofs.laws.prompts_have_their_children.Goals as goal

pub returns : goal.returns
returns c before after prompts calls are leads = their_children before after are leads
