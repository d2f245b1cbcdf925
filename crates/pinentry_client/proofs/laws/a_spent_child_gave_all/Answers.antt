use Rattle.pinentry_client.proofs.Spending.{all_taken}
use Rattle.pinentry_client.proofs.laws.a_spent_child_gave_all.Goals as goal

pub returns : goal.returns
returns c calls given left written talk has = all_taken calls given left written talk has
