use Rattle.cache_policy.proofs.GrowingRuns.{start_run_with_mark, joined_run_with_mark, last_run_with_mark, legal_run_with_mark, spent_all, legal_turned_over}
use Rattle.cache_policy.proofs.laws.a_run_goes_on.Goals as goal

pub returns-clause-start : goal.returns-clause-start
returns-clause-start c = start_run_with_mark

pub returns-clause-marks : goal.returns-clause-marks
returns-clause-marks c = joined_run_with_mark

pub returns-clause-legal : goal.returns-clause-legal
returns-clause-legal c = legal_run_with_mark

pub returns-clause-last : goal.returns-clause-last
returns-clause-last c = last_run_with_mark

pub returns-clause-spent : goal.returns-clause-spent
returns-clause-spent c = spent_all

pub returns-clause-turned_over : goal.returns-clause-turned_over
returns-clause-turned_over c = legal_turned_over
