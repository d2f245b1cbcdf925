use Rattle.cache_policy.proofs.BareLemmas.{seat_bare, stopped_bare, entries_bare, live_bare, last_use_bare, policy_bare, legal_bare}
use Rattle.cache_policy.proofs.laws.no_secret_is_read.Goals as goal

pub returns-clause-seat : goal.returns-clause-seat
returns-clause-seat c = seat_bare

pub returns-clause-stopped : goal.returns-clause-stopped
returns-clause-stopped c = stopped_bare

pub returns-clause-entries : goal.returns-clause-entries
returns-clause-entries c = entries_bare

pub returns-clause-policy : goal.returns-clause-policy
returns-clause-policy c = policy_bare

pub returns-clause-legal : goal.returns-clause-legal
returns-clause-legal c = legal_bare

pub returns-clause-live : goal.returns-clause-live
returns-clause-live c = live_bare

pub returns-clause-last_use : goal.returns-clause-last_use
returns-clause-last_use c = last_use_bare
