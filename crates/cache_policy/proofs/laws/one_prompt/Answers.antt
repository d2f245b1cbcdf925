use Rattle.cache_policy.proofs.OnePromptLemmas.{one_prompt, numbers_go_on}
use Rattle.cache_policy.proofs.laws.one_prompt.Goals as goal

pub returns-clause-alone : goal.returns-clause-alone
returns-clause-alone c = one_prompt

pub returns-clause-numbers : goal.returns-clause-numbers
returns-clause-numbers c = numbers_go_on
